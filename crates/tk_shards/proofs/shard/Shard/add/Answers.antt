-- The bytes of the range are added as blocks.
use Rattle.std.proofs.Common.{◌+◌, ◌*◌, ◌/◌, ◌≤◌, List, ℕ, length, ap, sym, ◌∙◌, subst}
use Rattle.std.specs.Prelude.{slice_index_or}
use Rattle.tk_kernel.specs.Xor.{xor_bytes, xor_all}
use Rattle.tk_kernel.specs.Pieces.{all_pieces}
use Rattle.tk_kernel.specs.Chosen.{chosen_from}
use Rattle.tk_shards.specs.Ranged.{Ranged, part_of}
use Rattle.tk_shards.proofs.Adding.{whole-blocks, eights-blocks, reach-blocks, chosen-blocks}
use Rattle.tk_shards.proofs.shard.Shard.add.Goals as goal

pub xor_choose_each-requires-clause-some : goal.xor_choose_each-requires-clause-some
xor_choose_each-requires-clause-some c = c.self.invariant.some

pub xor_choose_each-requires-clause-sized : goal.xor_choose_each-requires-clause-sized
xor_choose_each-requires-clause-sized c k d low =
    c.requires.sized k d low ∙ sym (ap (λ (r : Ranged). r.width) c.self.view_is)

pub xor_choose_each-requires-clause-whole : goal.xor_choose_each-requires-clause-whole
xor_choose_each-requires-clause-whole c =
    let s = c.self.inside in
    rw c.as_slice.ensures.value
    (whole-blocks s.width s.first s.count s.bytes.items c.self.invariant)

pub xor_choose_each-requires-clause-eights : goal.xor_choose_each-requires-clause-eights
xor_choose_each-requires-clause-eights c =
    let s = c.self.inside in
    rw c.as_slice.ensures.value
    (eights-blocks s.width s.first s.count s.bytes.items c.self.invariant)

pub xor_choose_each-requires-clause-vectors : goal.xor_choose_each-requires-clause-vectors
xor_choose_each-requires-clause-vectors c k d low =
    let s = c.self.inside in
    let row = slice_index_or c.args.rows.now k d in
    let reach = c.requires.reach k d low in
    rw c.as_slice.ensures.value
    (reach-blocks s.width s.first s.count s.bytes.items c.self.invariant row.len
    (subst (λ (r : Ranged). r.first + length r.blocks ≤ 8 * row.len) (sym c.self.view_is) reach))

pub returns-clause-each : goal.returns-clause-each
returns-clause-each c k d e low =
    let s = c.self.inside in
    let sum = (slice_index_or c.args.sums.now k d).items in
    let row = (slice_index_or c.args.rows.now k e).items in
    c.xor_choose_each.ensures.each k d e low
    ∙ ap (λ (bs : List ℕ). xor_bytes sum (xor_all s.width (chosen_from (8 * (s.first / 8)) (all_pieces s.width bs) row)))
    c.as_slice.ensures.value
    ∙ ap (xor_bytes sum) (chosen-blocks s.width s.first s.count s.bytes.items c.self.invariant row)
    ∙ ap (λ (r : Ranged). xor_bytes sum (part_of r row)) c.self.view_is
