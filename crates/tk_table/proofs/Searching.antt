-- A search finds a place for a record exactly where it fits with those in the table.
use Rattle.std.proofs.Common.{◌≡◌, ℕ, ◌+◌, inl, inr, ap, sym, ◌∙◌, subst, arith, List, [], ◌∷◌}
use Rattle.std.proofs.Common.{◌++◌, length, true, false, cond, ◌<◌, map, ◌↔◌}
use Rattle.std.specs.Prelude.{◌==◌, Some, None}
use Rattle.std.proofs.lemmas.List.Sums.{sum_by-cons, sum_by_push}
use Rattle.std.specs.List.{All}
use Rattle.std.proofs.lemmas.List.{length-map}
use Rattle.std.proofs.lemmas.List.Folds.{fold-map}
use Rattle.std.proofs.lemmas.List.Elements.{All-map, All-weaker}
use Rattle.tk_shape.specs.declared.shape.Shape.{Shape}
use Rattle.tk_frames.specs.Order.{Record}
use Rattle.tk_place.specs.Place.{search_end, fit}
use Rattle.tk_table.specs.Table.{Slot, SlotTable, bucket_at, is_empty, other_in, others_from, fit_together, pair_in}
use Rattle.tk_table.proofs.Fitting.{PairAlike, placeable-alike}
use Rattle.tk_table.proofs.Buckets.{IsSized, EachSlot}
use Rattle.tk_table.proofs.Seen.{IsHome, length-others, others-each}
use Rattle.tk_place.specs.Pairs.{pairs_from, pairs_with}
use Rattle.tk_place.specs.Table.{IsBelow, IsTable}
use Rattle.tk_table.proofs.SearchExact.{search-is_exact}
use Rattle.tk_table.proofs.PairWeights.{EntriesWeigh, pairs_from-weigh}

other-below : (shape : Shape) (b : ℕ) (s : Slot) → IsHome shape b s →
    IsBelow shape.buckets (other_in b s)
other-below shape b s (inl e) = subst (λ s. IsBelow shape.buckets (other_in b s)) (sym e) tt
other-below shape b s (inr entry) =
    elim (is_empty s) as (λ z. IsBelow shape.buckets
    (cond z None (Some (cond (s.first == b) s.second s.first)))) [
      | true ↦ tt
      | false ↦ elim (s.first == b) as
          (λ t. cond t s.second s.first < shape.buckets) [
            | true ↦ entry.second
            | false ↦ entry.first
          ]
    ]

pub searchable : (shape : Shape) (T : SlotTable) → IsSized shape.buckets shape.depth T →
    EachSlot (IsHome shape) T → IsTable shape.depth (others_from 0 T)
searchable shape T sized home =
    let long : length (others_from 0 T) ≡ shape.buckets = length-others 0 T ∙ sized.wide in
    record {
      some = (let low = shape.in_range.depth_low in omega (arith, low));
      sized = others-each (λ slots. length slots ≡ shape.depth) T
          (λ b low. length-map (bucket_at T b) (other_in b)
          ∙ sized.deep b (omega (arith, low, sized.wide)));
      named = others-each (λ slots. All (IsBelow (length (others_from 0 T))) slots) T (λ b low.
          subst (λ n. All (IsBelow n) (map (other_in b) (bucket_at T b))) (sym long)
          (All-map (IsBelow shape.buckets) (other_in b) (bucket_at T b)
          (All-weaker (IsHome shape b) (λ s. IsBelow shape.buckets (other_in b s))
          (other-below shape b) (bucket_at T b) (home b))));
    }

-- a placement of what the search sees is one of the records
same-fit : (shape : Shape) (T : SlotTable) (K : List Record) (w : Record) →
    EachSlot (IsHome shape) T → EntriesWeigh T K →
    fit shape.buckets shape.depth (pairs_with (others_from 0 T)
    (w.write.first, w.write.second)) ≡ fit_together shape (K ++ w ∷ [])
same-fit shape T K w home entries =
    placeable-alike shape.depth (pairs_with (others_from 0 T) (pair_in w))
    (map pair_in (K ++ w ∷ [])) alike _
  where
    alike : PairAlike (pairs_with (others_from 0 T) (pair_in w)) (map pair_in (K ++ w ∷ []))
    alike weight blind =
        let new = sum_by-cons weight (pair_in w) (pairs_from 0 (others_from 0 T)) in
        let seen = pairs_from-weigh shape weight blind 0 T
        (λ b. subst (λ n. All (IsHome shape n) (bucket_at T b)) (omega arith) (home b)) in
        let same = entries (λ s. weight (s.first, s.second)) in
        let mapped = fold-map (λ (n : ℕ) (p : ℕ × ℕ). n + weight p) pair_in 0 (K ++ w ∷ []) in
        let last = sum_by_push (λ r. weight (pair_in r)) K w in
        omega (arith, new, seen, same, mapped, last)

-- The search of a table has no end exactly where the records and the new one have no placement.
pub search-exact : (shape : Shape) (T : SlotTable) (K : List Record)
    (w : Record) →
    IsSized shape.buckets shape.depth T → EachSlot (IsHome shape) T → EntriesWeigh T K →
    w.write.first < shape.buckets → w.write.second < shape.buckets →
    (search_end (others_from 0 T) (w.write.first, w.write.second) ≡ None) ↔
    (fit_together shape (K ++ w ∷ []) ≡ false)
search-exact shape T K w sized home entries first second =
    let long : length (others_from 0 T) ≡ shape.buckets = length-others 0 T ∙ sized.wide in
    let e = search-is_exact shape.depth (others_from 0 T) (w.write.first, w.write.second)
    (searchable shape T sized home) (omega (arith, long, first))
    (omega (arith, long, second)) in
    let same : fit (length (others_from 0 T)) shape.depth
    (pairs_with (others_from 0 T) (w.write.first, w.write.second)) ≡ fit_together shape
    (K ++ w ∷ []) =
    ap (λ n. fit n shape.depth (pairs_with (others_from 0 T) (w.write.first, w.write.second)))
    long ∙ same-fit shape T K w home entries in
    (λ none. sym same ∙ e.0 none, λ no_fit. e.1 (same ∙ no_fit))
