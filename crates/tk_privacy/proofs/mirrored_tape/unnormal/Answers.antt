-- What is regained is a tape of the shape, and its reads are changed.
use Rattle.std.proofs.Common.{◌≡◌, ◌∙◌, ℕ, List, ap, sym, subst, length}
use Rattle.std.specs.Prelude.{IfOk}
use Rattle.tk_words.specs.Words.{drawn}
use Rattle.tk_privacy.specs.Privacy.{pairs_read, with_reads_for, unnormal}
use Rattle.tk_privacy.specs.Steps.{AreLastReads}
use Rattle.tk_privacy.proofs.Changes.{regained-IsTape}
use Rattle.tk_privacy.proofs.mirrored_tape.unnormal.Goals as goal

pub last_reads-requires-clause-whole : goal.last_reads-requires-clause-whole
last_reads-requires-clause-whole c =
    ap length (c.as_slice-2.ensures.value ∙ c.in_ok-regained.ensures)
    ∙ (regained-IsTape c.args.script.now c.args.tape.now c.requires.whole).whole

pub with_reads_changed-requires-clause-whole : goal.with_reads_changed-requires-clause-whole
with_reads_changed-requires-clause-whole c =
    ap length (c.as_slice-3.ensures.value ∙ c.in_ok-regained.ensures)
    ∙ (regained-IsTape c.args.script.now c.args.tape.now c.requires.whole).whole

pub returns : goal.returns
unfolding unnormal
returns c =
    let S = c.args.script.now in
    let H = c.args.history.now in
    let h = c.args.hidden in
    let tape = c.as_slice-3.result.now in
    let regained_is = c.as_slice-3.ensures.value ∙ c.in_ok-regained.ensures in
    let are : AreLastReads S.shape H (pairs_read S (drawn tape) H) tape c.as_slice-4.result.now =
    subst (AreLastReads S.shape H (pairs_read S (drawn tape) H) tape) (sym c.as_slice-4.ensures.value)
    (subst (λ (u : List ℕ). AreLastReads S.shape H (pairs_read S (drawn u) H) u c.in_ok-reads.reads.items)
    (c.as_slice-2.ensures.value ∙ sym c.as_slice-3.ensures.value) c.in_ok-reads.ensures.reads)
    in
    subst (λ (u : List ℕ). IfOk c.with_reads_changed.result (λ v. v.items
    ≡ with_reads_for S.shape h (pairs_read S (drawn u) H) u))
    regained_is (c.with_reads_changed.ensures H (pairs_read S (drawn tape) H) are)
