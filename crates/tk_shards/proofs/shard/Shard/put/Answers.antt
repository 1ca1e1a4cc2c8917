use Rattle.std.proofs.Common.{◌≡◌, ◌+◌, ◌*◌, ◌%◌, ◌<◌, ◌≤◌, List, ℕ, ◌++◌, length, take, drop, ap, sym, subst}
use Rattle.std.proofs.Common.{◌∙◌, arith}
use Rattle.std.proofs.lemmas.List.{with_items_is}
use Rattle.tk_shards.specs.Ranged.{Ranged}
use Rattle.tk_shards.specs.Packing.{ranged, IsPacked}
use Rattle.tk_shards.proofs.Packed.{fits, replaced}
use Rattle.tk_shards.proofs.shard.Shard.put.Goals as goal

pub write_block-requires : goal.write_block-requires
write_block-requires c =
    let s = c.self.inside in
    let low : c.args.i < s.count =
    omega (arith, ap (λ (r : Ranged). length r.blocks) c.self.view_is, c.requires.within, c.self.invariant.counted) in
    let next : s.first % 8 + (c.args.i + 1) ≡ s.first % 8 + c.args.i + 1 = omega arith in
    let room : (s.first % 8 + (c.args.i + 1)) * s.width ≤ length s.bytes.items =
    fits s.width s.first s.count s.bytes.items c.self.invariant (c.args.i + 1) (omega arith) in
    let long : length c.args.block.now ≡ s.width =
    c.requires.width ∙ sym (ap (λ (r : Ranged). r.width) c.self.view_is) in
    rw (c.as_mut_slice.ensures.value, long) (subst (λ n. n * s.width ≤ length s.bytes.items) next room)

pub invariant_of-self : goal.invariant_of-self
invariant_of-self c =
    let s = c.self.inside in
    let new = c.write_block.new.bytes in
    let b = c.args.block.now in
    let at = s.first % 8 + c.args.i in
    let low : c.args.i < s.count =
    omega (arith, ap (λ (r : Ranged). length r.blocks) c.self.view_is, c.requires.within, c.self.invariant.counted) in
    let long : length b ≡ s.width = c.requires.width ∙ sym (ap (λ (r : Ranged). r.width) c.self.view_is) in
    let same : length new ≡ s.bytes.len =
    c.write_block.ensures.len ∙ ap length c.as_mut_slice.ensures.value ∙ sym s.bytes.ok.0 in
    let written : new ≡ take (at * length b) s.bytes.items
    ++ (b ++ drop (length b) (drop (at * length b) s.bytes.items)) =
    c.write_block.ensures.block
    ∙ ap (λ (bs : List ℕ). take (at * length b) bs
    ++ (b ++ drop (length b) (drop (at * length b) bs))) c.as_mut_slice.ensures.value in
    subst (IsPacked s.width s.first s.count) (sym (with_items_is s.bytes new same))
    (replaced s.width s.first s.count c.args.i s.bytes.items new b c.self.invariant low long written).packed

pub returns : goal.returns
returns c =
    let s = c.self.inside in
    let new = c.write_block.new.bytes in
    let b = c.args.block.now in
    let at = s.first % 8 + c.args.i in
    let low : c.args.i < s.count =
    omega (arith, ap (λ (r : Ranged). length r.blocks) c.self.view_is, c.requires.within, c.self.invariant.counted) in
    let long : length b ≡ s.width = c.requires.width ∙ sym (ap (λ (r : Ranged). r.width) c.self.view_is) in
    let same : length new ≡ s.bytes.len =
    c.write_block.ensures.len ∙ ap length c.as_mut_slice.ensures.value ∙ sym s.bytes.ok.0 in
    let written : new ≡ take (at * length b) s.bytes.items
    ++ (b ++ drop (length b) (drop (at * length b) s.bytes.items)) =
    c.write_block.ensures.block
    ∙ ap (λ (bs : List ℕ). take (at * length b) bs
    ++ (b ++ drop (length b) (drop (at * length b) bs))) c.as_mut_slice.ensures.value in
    rw (← c.self.view_is)
    (ap (ranged s.width s.first s.count) (with_items_is s.bytes new same)
    ∙ (replaced s.width s.first s.count c.args.i s.bytes.items new b c.self.invariant low long written).same)
