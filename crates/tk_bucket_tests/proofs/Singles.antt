-- A table of buckets with one slot each.
use Rattle.std.proofs.Common.{zero, suc, drop, take, subst, sym, is_none, position}
use Rattle.std.proofs.Common.{◌≡◌, ℕ, ◌<◌, List, [], ◌∷◌, length, true, false, cond, nat_lt, map, get_or, refl, arith, ltb-true, Option, Some, None, All}
use Rattle.std.proofs.lemmas.List.{length-map}
use Rattle.std.proofs.lemmas.List.Elements.{All-nil, All-cons, All-map}
use Rattle.tk_place.specs.Place.{slots_of, lowest_empty}
use Rattle.tk_place.specs.Table.{IsBelow, IsTable}

abbrev pub single : ℕ → List (Option ℕ)
single other = cond (nat_lt other 8) (Some other) None ∷ []

pub table_of_singles : (xs : List ℕ) → length xs ≡ 8 → IsTable 1 (map single xs)
table_of_singles xs long =
    record {
      some = omega arith;
      sized = All-map (λ slots. length slots ≡ 1) single xs (λ k d l. refl);
      named = All-map (All (IsBelow (length (map single xs)))) single xs (λ k d l. below (get_or xs k d));
    }
  where
    below : (x : ℕ) → All (IsBelow (length (map single xs))) (single x)
    below x =
        All-cons (IsBelow (length (map single xs))) (cond (nat_lt x 8) (Some x) None) []
        (elim (nat_lt x 8) as (λ s. nat_lt x 8 ≡ s → IsBelow (length (map single xs)) (cond s (Some x) None))
        [ true ↦ λ e. let small : x < 8 = ltb-true x 8 e in omega (arith, length-map xs single) | false ↦ λ e. tt ] refl)
        (All-nil (IsBelow (length (map single xs))))

-- the slot of a full bucket
pub row_of_single : (xs : List ℕ) (b n : ℕ) → b < length xs → n ≡ 1 → lowest_empty (map single xs) b ≡ None →
    slots_of (map single xs) b ≡ map (λ o. Some o) (take n (drop b xs))
row_of_single [] b n within one full = absurd (omega (arith, within))
row_of_single (x ∷ xs) zero n within one full =
    subst (λ n. single x ≡ map (λ o. Some o) (take n (x ∷ xs))) (sym one)
    (elim (nat_lt x 8) as (λ s. position is_none (cond s (Some x) None ∷ []) ≡ None →
    Path (List (Option ℕ)) (cond s (Some x) None ∷ []) (Some x ∷ [])) [
      | true ↦ λ _. refl
      | false ↦ λ h. absurd cc
    ] full)
row_of_single (x ∷ xs) (suc b) n within one full = row_of_single xs b n (omega (arith, within)) one full
