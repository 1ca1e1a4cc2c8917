-- A table that holds records, when a new one comes.
use Rattle.std.proofs.Common.{◌≡◌, ℕ, ◌⊎◌, inl, inr, refl, ap, sym, ◌∙◌, subst, arith, true≢false}
use Rattle.std.proofs.Common.{List, [], ◌∷◌, ◌++◌, true, false, cond, ◌≤◌, ◌↔◌}
use Rattle.std.specs.Prelude.{Option, Some, None, is_some}
use Rattle.std.proofs.lemmas.List.Sums.{sum_by_push}
use Rattle.std.proofs.lemmas.Bool.{ne_eqb, true_from_ne_false}
use Rattle.tk_shape.specs.declared.shape.Shape.{Shape}
use Rattle.tk_frames.specs.Order.{Record}
use Rattle.tk_place.specs.Place.{Reached, lowest_empty, search_end}
use Rattle.tk_table.specs.Table.{SlotTable, slot_at, empty_slot, others_from, shifted, moved_up}
use Rattle.tk_table.specs.Table.{window, unexpired, fit_together, retained_with, layout_with}
use Rattle.tk_table.specs.Table.{slot_of, placed_at, placed_in, without_expired}
use Rattle.tk_table.specs.Ordered.{HasBuckets}
use Rattle.tk_place.proofs.Offers.{path_to_end}
use Rattle.tk_table.proofs.Seen.{IsEntryIn, lowest_empty-free}
use Rattle.tk_table.proofs.Shifting.{IsFilled, shifted-filled}
use Rattle.tk_table.proofs.SearchExact.{ends_in_room}
use Rattle.tk_table.proofs.PairWeights.{entry_weight, EntriesWeigh}
use Rattle.tk_table.proofs.Searching.{search-exact}
use Rattle.tk_table.proofs.Holds.{Holds, expired-holds}

-- a position of its own, and buckets of the table
pub record IsNew (shape : Shape) (w : Record) : Type 0 where
  pub position : 1 ≤ w.position
  pub buckets : HasBuckets shape w

-- its slot may lie in either of its buckets
new-entry : (shape : Shape) (w : Record) → IsNew shape w → (b : ℕ) →
    (b ≡ w.write.first) ⊎ (b ≡ w.write.second) → IsEntryIn shape.buckets b (slot_of w)
new-entry shape w new b (inl e) =
    record {
      position = new.position;
      first = new.buckets.first;
      second = new.buckets.second;
      own = inl (sym e);
    }
new-entry shape w new b (inr e) =
    record {
      position = new.position;
      first = new.buckets.first;
      second = new.buckets.second;
      own = inr (sym e);
    }

filled-holds : (shape : Shape) (T : SlotTable) (K : List Record) (w : Record) (b i : ℕ)
    (T' : SlotTable) →
    Holds shape T K → IsNew shape w → slot_at T (b, i) ≡ empty_slot shape →
    IsFilled shape T (b, i) (slot_of w) T' → Holds shape T' (K ++ w ∷ [])
filled-holds shape T K w b i T' h new free filled =
    record { sized = filled.sized; home = filled.home; entries = weigh }
  where
    weigh : EntriesWeigh T' (K ++ w ∷ [])
    weigh weight =
        let moved = filled.weighs (entry_weight weight) in
        let nothing : entry_weight weight (slot_at T (b, i)) ≡ 0 =
        ap (entry_weight weight) free in
        let one : entry_weight weight (slot_of w) ≡ weight (slot_of w) =
        ap (λ z. cond z 0 (weight (slot_of w)))
        (ne_eqb w.position 0 (λ e. let low = new.position in omega (arith, low, e))) in
        let before = h.entries weight in
        let after = sum_by_push (λ r. weight (slot_of r)) K w in
        omega (arith, moved, nothing, one, before, after)

moved_up-holds : (shape : Shape) (T : SlotTable) (K : List Record) (w : Record) (p : Reached) →
    Holds shape T K → IsNew shape w →
    search_end (others_from 0 T) (w.write.first, w.write.second) ≡ Some p → (o : Option ℕ) →
    lowest_empty (others_from 0 T) p.bucket ≡ o →
    Holds shape (moved_up T (slot_of w) p o) (K ++ w ∷ [])
moved_up-holds shape T K w p h new ended None empty =
    absurd (let some = ends_in_room (others_from 0 T) (w.write.first, w.write.second) p ended in
    true≢false (sym some ∙ ap is_some empty))
moved_up-holds shape T K w p h new ended (Some i) empty =
    let free = lowest_empty-free shape T p.bucket i h.home empty in
    let path = path_to_end (others_from 0 T) (w.write.first, w.write.second) p ended in
    filled-holds shape T K w p.bucket i
    (shifted T (p.bucket, i) p.through (slot_of w)) h new free.1
    (shifted-filled shape T (p.bucket, i) p.through (slot_of w) h.sized h.home free.0
    (new-entry shape w new) path)

-- the new record is in the table where all fit together; else the table stays
placed_in-holds : (shape : Shape) (T : SlotTable) (K : List Record)
    (w : Record) →
    Holds shape T K → IsNew shape w →
    Holds shape (placed_in T (slot_of w))
    (cond (fit_together shape (K ++ w ∷ [])) (K ++ w ∷ []) K)
placed_in-holds shape T K w h new =
    by_end (search_end (others_from 0 T) (w.write.first, w.write.second)) refl
  where
    means : (search_end (others_from 0 T) (w.write.first, w.write.second) ≡ None) ↔
        (fit_together shape (K ++ w ∷ []) ≡ false)
    means = search-exact shape T K w h.sized h.home h.entries new.buckets.first
        new.buckets.second

    by_end : (o : Option Reached) →
        search_end (others_from 0 T) (w.write.first, w.write.second) ≡ o →
        Holds shape (placed_at T (slot_of w)
        (search_end (others_from 0 T) (w.write.first, w.write.second)))
        (cond (fit_together shape (K ++ w ∷ [])) (K ++ w ∷ []) K)
    by_end None e =
        subst (λ o. Holds shape (placed_at T (slot_of w) o)
        (cond (fit_together shape (K ++ w ∷ [])) (K ++ w ∷ []) K)) (sym e)
        (subst (λ b. Holds shape T (cond b (K ++ w ∷ []) K)) (sym (means.0 e)) h)
    by_end (Some p) e =
        let fits : fit_together shape (K ++ w ∷ []) ≡ true =
        true_from_ne_false (fit_together shape (K ++ w ∷ []))
        (λ no_fit. let none = sym (means.1 no_fit) ∙ e in absurd (cc none)) in
        subst (λ o. Holds shape (placed_at T (slot_of w) o)
        (cond (fit_together shape (K ++ w ∷ [])) (K ++ w ∷ []) K)) (sym e)
        (subst (λ b. Holds shape (placed_at T (slot_of w) (Some p)) (cond b (K ++ w ∷ []) K))
        (sym fits)
        (moved_up-holds shape T K w p h new e (lowest_empty (others_from 0 T) p.bucket) refl))

pub layout_with-holds : (shape : Shape) (R : List Record) (T : SlotTable)
    (K : List Record) (w : Record) →
    Holds shape T K → IsNew shape w →
    Holds shape (layout_with shape R T w) (retained_with shape R K w)
unfolding layout_with retained_with
layout_with-holds shape R T K w h new =
    placed_in-holds shape (without_expired shape (window shape (R ++ w ∷ [])) T)
    (unexpired shape R w K) w
    (expired-holds shape (window shape (R ++ w ∷ [])) T K h) new
