-- The reads are those of the buckets that are read over the tape.
use Rattle.std.proofs.Common.{sym, subst}
use Rattle.tk_words.specs.Words.{drawn}
use Rattle.tk_privacy.specs.Steps.{AreLastReads}
use Rattle.tk_hostile.specs.Given.{sums_at}
use Rattle.tk_hostile.specs.Wrong.{wrong_pair, wrong_normal}
use Rattle.tk_hostile.proofs.changed_tape.Run.normal.Goals as goal

pub returns : goal.returns
unfolding wrong_normal
returns c =
    let S = c.args.script.now in
    let H = c.args.self.now.history.now in
    let tape = c.args.tape.now in
    let pairs = wrong_pair S (drawn tape) H c.args.hidden (sums_at c.args.self.now.replies.now) in
    c.normal.ensures H pairs
    (subst (AreLastReads S.shape H pairs tape) (sym c.as_slice-2.ensures.value)
    c.in_ok-reads.ensures.reads)
