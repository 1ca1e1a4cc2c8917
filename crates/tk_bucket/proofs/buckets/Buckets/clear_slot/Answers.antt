use Rattle.std.proofs.Common.{◌≡◌, ℕ, List, ap, arith, ◌∙◌}
use Rattle.tk_bucket.specs.Table.{Slot, with_slot}
use Rattle.tk_bucket.specs.Paging.{Stored}
use Rattle.tk_bucket.proofs.OneSlot.{zeros_of_block}
use Rattle.tk_bucket.proofs.buckets.Buckets.clear_slot.Goals as goal

pub returns-clause-contents : goal.returns-clause-contents
returns-clause-contents c =
    let old = c.args.self.now.contents in
    let same : c.self.inside.cut.page.block ≡ old.block =
    ap (λ (v : Stored). v.contents.block) c.self.view_is in
    let zeros = zeros_of_block old.block c.self.inside.cut.page.block same
    (omega (arith, same, c.self.inside.cut.page.in_range.block_high)) in
    c.fill.ensures.contents
    ∙ ap (λ (xs : List ℕ).
    let s : Slot = record { position = 0; first = 0; second = 0; block = xs } in
    record old { table = with_slot old.table (c.args.bucket, c.args.slot) s }) zeros
