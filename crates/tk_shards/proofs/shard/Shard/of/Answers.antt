use Rattle.std.proofs.Common.{◌<◌, ◌-◌, ◌∙◌, ap, sym, subst}
use Rattle.tk_kernel.specs.Pieces.{AllSized}
use Rattle.tk_shards.specs.Ranged.{range_in}
use Rattle.tk_shards.proofs.Packed.{filled, AllSized-ranged}
use Rattle.tk_shards.proofs.shard.Shard.of.Goals as goal

pub invariant_of-result : goal.invariant_of-result
invariant_of-result g c =
    let told = c.width-width.ensures in
    let B = g.B.Blocks in
    let blocks = B.blocks c.args.blocks.now in
    let width = c.width-width.result in
    let some : 0 < width = subst (λ n. 0 < n) (sym told.width) told.some in
    let each : AllSized width blocks = subst (λ n. AllSized n blocks) (sym told.width) told.each in
    (filled width c.args.from c.args.end _ _ blocks _ _ _ _ some each c.requires.order c.requires.within
    c.requires.small c.in_ok-bytes.ensures.items c.in_ok-bytes.bytes.ok.0 c.in_ok-resize.ensures.items
    c.in_ok-add_blocks.ensures c.add_blocks.new.bytes.ok.0 c.in_ok-resize-2.ensures.items).packed

pub returns : goal.returns
returns g c =
    let told = c.width-width.ensures in
    let B = g.B.Blocks in
    let blocks = B.blocks c.args.blocks.now in
    let width = c.width-width.result in
    let some : 0 < width = subst (λ n. 0 < n) (sym told.width) told.some in
    let each : AllSized width blocks = subst (λ n. AllSized n blocks) (sym told.width) told.each in
    let made = filled width c.args.from c.args.end _ _ blocks _ _ _ _ some each c.requires.order c.requires.within
    c.requires.small c.in_ok-bytes.ensures.items c.in_ok-bytes.bytes.ok.0 c.in_ok-resize.ensures.items
    c.in_ok-add_blocks.ensures c.add_blocks.new.bytes.ok.0 c.in_ok-resize-2.ensures.items in
    record {
      blocks = made.same ∙ ap (λ w. range_in w c.args.from c.args.end blocks) told.width;
      sized = AllSized-ranged width c.args.from (c.args.end - c.args.from) c.resize-2.new.self.items made.packed;
    }
