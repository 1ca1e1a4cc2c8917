-- What is regained is a tape of the shape, and its reads are changed.
use Rattle.std.proofs.Common.{◌≡◌, ◌∙◌, ℕ, List, ap, sym, subst, length}
use Rattle.std.specs.Prelude.{IfOk}
use Rattle.tk_shape.specs.Lengths.{tape_len}
use Rattle.tk_privacy.specs.Privacy.{with_reads_for}
use Rattle.tk_privacy.specs.Steps.{AreLastReads}
use Rattle.tk_privacy.proofs.Offers.{regained-IsTape}
use Rattle.tk_hostile.specs.Given.{sums_at}
use Rattle.tk_hostile.specs.Wrong.{pair_regained, wrong_unnormal}
use Rattle.tk_hostile.proofs.MirroringLaws.{AreLastAsked, reads-regained}
use Rattle.tk_hostile.proofs.changed_tape.Run.unnormal.Goals as goal

pub reads-requires-clause-whole : goal.reads-requires-clause-whole
reads-requires-clause-whole c =
    ap length (c.as_slice-2.ensures.value ∙ c.in_ok-regained.ensures)
    ∙ (regained-IsTape c.args.script.now c.args.tape.now c.requires.whole).whole

pub with_reads_changed-requires-clause-whole : goal.with_reads_changed-requires-clause-whole
with_reads_changed-requires-clause-whole c =
    ap length (c.as_slice-3.ensures.value ∙ c.in_ok-regained.ensures)
    ∙ (regained-IsTape c.args.script.now c.args.tape.now c.requires.whole).whole

pub returns : goal.returns
unfolding wrong_unnormal
returns c =
    let S = c.args.script.now in
    let H = c.args.self.now.history.now in
    let h = c.args.hidden in
    let F = sums_at c.args.self.now.replies.now in
    let u = c.as_slice-3.result.now in
    let there = c.as_slice-3.ensures.value ∙ c.in_ok-regained.ensures in
    let whole : length u ≡ tape_len S.shape =
    ap length there ∙ (regained-IsTape S c.args.tape.now c.requires.whole).whole
    in
    let pairs = pair_regained S H h F u in
    let reads = c.in_ok-reads.reads.items in
    let are : AreLastReads S.shape H pairs u c.as_slice-4.result.now =
    subst (AreLastReads S.shape H pairs u) (sym c.as_slice-4.ensures.value)
    (reads-regained S H h c.requires.high F u whole reads
    (subst (λ (x : List ℕ). AreLastAsked S H h F x reads)
    (c.as_slice-2.ensures.value ∙ sym c.as_slice-3.ensures.value) c.in_ok-reads.ensures.reads))
    in
    subst (λ (r : List ℕ). IfOk c.with_reads_changed.result (λ v. v.items
    ≡ with_reads_for S.shape h (pair_regained S H h F r) r))
    there (c.with_reads_changed.ensures H pairs are)
