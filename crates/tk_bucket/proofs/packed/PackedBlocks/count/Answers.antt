use Rattle.std.proofs.Common.{◌*◌, length, map, ap, sym, ◌∙◌}
use Rattle.std.specs.Arc.{arc_value}
use Rattle.std.proofs.lemmas.List.{length-map}
use Rattle.tk_bucket.specs.Bytes.{BlockList}
use Rattle.tk_bucket.proofs.PageBlocks.{block_count}
use Rattle.tk_bucket.proofs.packed.PackedBlocks.count.Goals as goal

pub returns : goal.returns
returns c =
    let inside = c.self.inside in
    let xs = map arc_value inside.pages.items in
    ap (λ n. n * inside.cut.page.buckets) (c.len.ensures ∙ inside.pages.ok.0 ∙ sym (length-map inside.pages.items arc_value))
    ∙ sym (block_count inside.cut.page xs c.self.invariant.each)
    ∙ ap (λ (v : BlockList). length v.blocks) c.self.view_is
