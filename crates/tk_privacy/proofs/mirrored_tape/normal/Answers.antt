-- The reads are those of the buckets that are read over the tape.
use Rattle.std.proofs.Common.{sym, subst}
use Rattle.tk_words.specs.Words.{drawn}
use Rattle.tk_privacy.specs.Privacy.{pairs_read, normal}
use Rattle.tk_privacy.specs.Steps.{AreLastReads}
use Rattle.tk_privacy.proofs.mirrored_tape.normal.Goals as goal

pub returns : goal.returns
unfolding normal
returns c =
    let S = c.args.script.now in
    let H = c.args.history.now in
    let tape = c.args.tape.now in
    let pairs = pairs_read S (drawn tape) H in
    c.normal.ensures H pairs
    (subst (AreLastReads S.shape H pairs tape) (sym c.as_slice-2.ensures.value)
    c.in_ok-reads.ensures.reads)
