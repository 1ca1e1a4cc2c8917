-- As many entries as a bucket has slots can all lie in the first bucket of their pairs.
use Rattle.std.proofs.Common.{◌≡◌, refl, ap, arith, inl, ℕ, suc, ◌+◌, ◌≤◌, ◌==◌, List, [], ◌∷◌, ◌++◌, length, map, not}
use Rattle.std.proofs.lemmas.List.Sums.{count_by-le-length}
use Rattle.tk_place.specs.Pairs.{AreOwn, HasPlacement, FitsByPlacements}
use Rattle.tk_frames.specs.Order.{Record}
use Rattle.tk_table.specs.Table.{pair_in, retained, unexpired}
use Rattle.tk_table.specs.Places.{FewFindPlaces}

abbrev firsts : List (ℕ × ℕ) → List ℕ
firsts pairs = map (λ p. p.0) pairs

firsts-own : (pairs : List (ℕ × ℕ)) → AreOwn pairs (firsts pairs)
firsts-own [] = tt
firsts-own (p ∷ ps) = (inl refl, firsts-own ps)

length-firsts : (pairs : List (ℕ × ℕ)) → length (firsts pairs) ≡ length pairs
length-firsts [] = refl
length-firsts (p ∷ ps) = ap suc (length-firsts ps)

few-placed : (buckets depth : ℕ) (pairs : List (ℕ × ℕ)) → length pairs ≤ depth →
    HasPlacement buckets depth pairs
few-placed buckets depth pairs few =
    let own = firsts-own pairs in (
      firsts pairs,
      record {
        own = own;
        within = λ b low.
            let most = count_by-le-length (λ c. c == b) (firsts pairs) in
            let long = length-firsts pairs in
            omega (arith, most, long, few);
      },
    )

length-pairs : (K : List Record) (w : Record) → length (map pair_in (K ++ w ∷ [])) ≡ length K + 1
length-pairs [] w = refl
length-pairs (r ∷ K) w = let later = length-pairs K w in omega (arith, later)

pub few-find_places : FitsByPlacements → FewFindPlaces
few-find_places by_placements shape R w few =
    let kept = unexpired shape R w (retained shape R) in
    let pairs = map pair_in (kept ++ w ∷ []) in
    let long = length-pairs kept w in
    let placed = few-placed shape.buckets shape.depth pairs (omega (arith, few, long)) in
    ap not ((by_placements shape.buckets shape.depth pairs).1 placed)
