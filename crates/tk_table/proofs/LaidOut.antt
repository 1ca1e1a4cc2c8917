-- A table that holds records has each of them in one slot, and nothing else.
use Rattle.std.proofs.Common.{◌≡◌, ℕ, ◌+◌, inl, inr, refl, sym, ◌∙◌, arith, List, [], ◌∷◌, true}
use Rattle.std.proofs.Common.{false, cond, map, filter}
use Rattle.std.specs.List.{sum_by}
use Rattle.std.proofs.lemmas.List.Sums.{sum_by-cons, sum_by-append}
use Rattle.std.proofs.lemmas.List.Folds.{fold-map}
use Rattle.std.specs.Prelude.{not}
use Rattle.std.proofs.lemmas.List.Elements.{All-weaker}
use Rattle.tk_shape.specs.declared.shape.Shape.{Shape}
use Rattle.tk_frames.specs.Order.{Record}
use Rattle.tk_table.specs.Table.{Slot, SlotTable, bucket_at, is_empty, retained, layout, slot_of}
use Rattle.tk_table.specs.Laws.{entries_in, IsSlotOf, IsLaidOut, LayoutHolds}
use Rattle.tk_table.proofs.Counting.{CountAlike, permuted}
use Rattle.tk_table.proofs.Buckets.{total}
use Rattle.tk_table.proofs.Seen.{IsHome}
use Rattle.tk_table.proofs.PairWeights.{entry_weight}
use Rattle.tk_table.proofs.Holds.{Holds}
use Rattle.tk_table.proofs.Layouts.{layout-holds}
use Rattle.tk_table.proofs.SameSlots.{same_slot, same_slot-own, same_slot-sound}

entries-weigh_one : (weight : Slot → ℕ) (slots : List Slot) →
    sum_by weight (filter (λ s. not (is_empty s)) slots) ≡ sum_by (entry_weight weight) slots
entries-weigh_one weight [] = refl
entries-weigh_one weight (s ∷ slots) =
    let all = sum_by-cons (entry_weight weight) s slots in
    let rest = entries-weigh_one weight slots in
    let kept = sum_by-cons weight s (filter (λ s. not (is_empty s)) slots) in
    elim (is_empty s) as (λ z. sum_by (entry_weight weight) (s ∷ slots) ≡ cond z 0
    (weight s) + sum_by (entry_weight weight) slots →
    sum_by weight (cond (not z) (s ∷ filter (λ s. not (is_empty s)) slots)
    (filter (λ s. not (is_empty s)) slots)) ≡ sum_by (entry_weight weight) (s ∷ slots)) [
      | true ↦ λ all. omega (arith, all, rest)
      | false ↦ λ all. omega (arith, all, rest, kept)
    ] all

entries-weigh : (weight : Slot → ℕ) (T : SlotTable) →
    sum_by weight (entries_in T) ≡ total (entry_weight weight) T
entries-weigh weight [] = refl
entries-weigh weight (slots ∷ T) =
    let split = sum_by-append weight (filter (λ s. not (is_empty s)) slots) (entries_in T) in
    let one = entries-weigh_one weight slots in
    let rest = entries-weigh weight T in
    let all = sum_by-cons (λ ss. sum_by (entry_weight weight) ss) slots T in
    omega (arith, split, one, rest, all)

slot_of_its_bucket : (shape : Shape) (b : ℕ) (s : Slot) → IsHome shape b s → IsSlotOf shape b s
slot_of_its_bucket shape b s (inl e) = inl e
slot_of_its_bucket shape b s (inr entry) = inr (entry.position, entry.own)

pub laid_out : (shape : Shape) (T : SlotTable) (K : List Record) → Holds shape T K →
    IsLaidOut shape K T
laid_out shape T K h =
    record {
      wide = h.sized.wide;
      deep = h.sized.deep;
      entries = permuted same_slot same_slot-sound same_slot-own (map slot_of K)
          (entries_in T) alike;
      own = λ b. All-weaker (IsHome shape b) (IsSlotOf shape b) (slot_of_its_bucket shape b)
          (bucket_at T b) (h.home b);
    }
  where
    alike : CountAlike (map slot_of K) (entries_in T)
    alike weight = fold-map (λ (n : ℕ) (s : Slot). n + weight s) slot_of 0 K
        ∙ sym (h.entries weight) ∙ sym (entries-weigh weight T)

-- the table has just the retained records
pub layout-laid_out : LayoutHolds
layout-laid_out shape R ordered =
    laid_out shape (layout shape R) (retained shape R) (layout-holds shape R ordered)
