-- They are those of the last server over the tape.
use Rattle.std.proofs.Common.{◌≡◌, ◌∙◌, ℕ, ap, subst}
use Rattle.tk_words.specs.Words.{WordBook, drawn}
use Rattle.tk_privacy.specs.Privacy.{Pairs}
use Rattle.tk_privacy.specs.Reads.{all_reads}
use Rattle.tk_privacy.proofs.Offers.{reads-counted, are-last_reads}
use Rattle.tk_hostile.specs.Given.{sums_at}
use Rattle.tk_hostile.specs.Walks.{pair_in}
use Rattle.tk_hostile.proofs.changed_tape.Run.reads.Goals as goal

pub returns : goal.returns
returns c =
    let S = c.args.script.now in
    let H = c.args.self.now.history.now in
    let u = c.args.tape.now in
    let sides = c.args.sides in
    let pairs : WordBook → Pairs = λ b. pair_in S b H sides (sums_at c.args.self.now.replies.now) in
    let reads = c.in_ok-fold.fold.reads.items in
    let are : reads ≡ all_reads S.shape (drawn u) H (pairs (drawn u)) S.shape.servers =
    subst (λ (b : WordBook). reads ≡ all_reads S.shape b H (pairs b) sides.seen)
    c.in_ok-draws.ensures.book c.in_ok-fold.ensures.reads
    ∙ ap (λ (j : ℕ). all_reads S.shape (drawn u) H (pairs (drawn u)) j) c.requires.last
    in
    record {
      counted = reads-counted S.shape (drawn u) H (pairs (drawn u)) S.shape.servers reads are;
      reads = are-last_reads S.shape H (pairs (drawn u)) u reads are;
    }
