-- The table of the latest writes: which are retained, and where they lie.
use Rattle.std.specs.Prelude.{ℕ, ◌+◌, ◌==◌, Bool, not, cond, List, [], ◌∷◌, ◌++◌, map, filter, Option, Some, None}
use Rattle.std.specs.List.{list_any}
use Rattle.tk_shape.specs.declared.shape.Shape.{Shape}
use Rattle.tk_frames.specs.Order.{Record}
pub use Rattle.tk_frames.specs.Slots.{Slot, slot_bytes}
use Rattle.tk_bloom.specs.Windows.{window as last_of}
use Rattle.tk_place.specs.Place.{fit, Others, Spot, Reached, lowest_empty, search_end}
pub use Rattle.tk_bucket.specs.Table.{SlotTable, bucket_at, slot_at, with_slot, is_empty}
use Rattle.tk_bucket.specs.Table.{empty_slot as empty_slot_of, empty_table as empty_table_of}
pub use Rattle.tk_bucket.specs.Bytes.{blocks_of}

-- the last retained writes, or all where there are fewer
abbrev pub window : {X : Type 0} → Shape → List X → List X
window shape R = last_of shape.retained R

abbrev pub pair_in : Record → ℕ × ℕ
pair_in r = (r.write.first, r.write.second)

-- whether a position is that of one of the records
abbrev pub has_position : List Record → ℕ → Bool
has_position R position = list_any (λ r. position == r.position) R

-- all these records have a placement
abbrev pub fit_together : Shape → List Record → Bool
fit_together shape R = fit shape.buckets shape.depth (map pair_in R)

-- ---- what is retained

-- the records that are still in the window when w comes after R
abbrev pub unexpired : Shape → List Record → Record → List Record → List Record
unexpired shape R w K = filter (λ r. has_position (window shape (R ++ w ∷ [])) r.position) K

-- what is retained when w comes after R, of which K is retained
unfoldable pub retained_with : Shape → List Record → List Record → Record → List Record
retained_with shape R K w =
    let kept = unexpired shape R w K in
    cond (fit_together shape (kept ++ w ∷ [])) (kept ++ w ∷ []) kept

unfoldable pub retained_on : Shape → List Record → List Record → List Record → List Record
retained_on shape R K [] = K
retained_on shape R K (w ∷ ws) = retained_on shape (R ++ w ∷ []) (retained_with shape R K w) ws

-- The records that the table holds after these writes: a new one goes in wherever a placement of
-- all exists, and nothing leaves but by its age.
abbrev pub retained : Shape → List Record → List Record
retained shape R = retained_on shape [] [] R

-- w finds no place when it comes after R
abbrev pub is_displaced : Shape → List Record → Record → Bool
is_displaced shape R w = not (fit_together shape (unexpired shape R w (retained shape R) ++ w ∷ []))

-- ---- where it lies

abbrev pub empty_slot : Shape → Slot
empty_slot shape = empty_slot_of shape.block

abbrev pub slot_of : Record → Slot
slot_of r =
    record {
      position = r.position;
      first = r.write.first;
      second = r.write.second;
      block = r.write.block;
    }

abbrev pub empty_table : Shape → SlotTable
empty_table shape = empty_table_of shape.buckets shape.depth shape.block

-- the other bucket of the entry that a slot of bucket b has, if it has one
abbrev pub other_in : ℕ → Slot → Option ℕ
other_in b s = cond (is_empty s) None (Some (cond (s.first == b) s.second s.first))

-- what the search sees of these buckets, the first of which is bucket b
abbrev pub others_from : ℕ → SlotTable → Others
others_from b [] = []
others_from b (slots ∷ T) = map (other_in b) slots ∷ others_from (b + 1) T

-- the entry of each slot goes to the slot before it, and s to the last one that is free
abbrev pub shifted : SlotTable → Spot → List Spot → Slot → SlotTable
shifted T free [] s = with_slot T free s
shifted T free (at ∷ ats) s = shifted (with_slot T free (slot_at T at)) at ats s

-- the table with s in it, where the search ends in p, of which slot i is empty
abbrev pub moved_up : SlotTable → Slot → Reached → Option ℕ → SlotTable
moved_up T s p None = T
moved_up T s p (Some i) = shifted T (p.bucket, i) p.through s

abbrev pub placed_at : SlotTable → Slot → Option Reached → SlotTable
placed_at T s None = T
placed_at T s (Some p) = moved_up T s p (lowest_empty (others_from 0 T) p.bucket)

-- the table with s in it, where the search has an end
abbrev pub placed_in : SlotTable → Slot → SlotTable
placed_in T s = placed_at T s (search_end (others_from 0 T) (s.first, s.second))

-- the table without what has left the window W
abbrev pub without_expired : Shape → List Record → SlotTable → SlotTable
without_expired shape W T = map (map (λ s. cond (has_position W s.position) s (empty_slot shape))) T

-- the table when w comes after R, for which it was T
unfoldable pub layout_with : Shape → List Record → SlotTable → Record → SlotTable
layout_with shape R T w =
    placed_in (without_expired shape (window shape (R ++ w ∷ [])) T) (slot_of w)

unfoldable pub layout_on : Shape → List Record → SlotTable → List Record → SlotTable
layout_on shape R T [] = T
layout_on shape R T (w ∷ ws) = layout_on shape (R ++ w ∷ []) (layout_with shape R T w) ws

-- the table after these writes
abbrev pub layout : Shape → List Record → SlotTable
layout shape R = layout_on shape [] (empty_table shape) R
