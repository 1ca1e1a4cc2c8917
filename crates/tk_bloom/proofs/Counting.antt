-- Counts of positions, as they come and go.
use Rattle.std.proofs.Common.{◌≡◌, ℕ, suc, ◌+◌, ◌-◌, ◌<◌, ◌≤◌, ◌^◌, ◌==◌, List, [], ◌∷◌, ◌++◌, length, get_or, set, cond, inl, inr, ◌∙◌, eq-eqb, arith, length-set}
use Rattle.std.proofs.lemmas.List.{get_or_read}
use Rattle.std.proofs.lemmas.List.Sums.{sum_by_push, sum_by-cons, count_by-le-length}
use Rattle.std.proofs.lemmas.Bool.{cases_eq, ne_eqb}
use Rattle.std.proofs.lemmas.Grind.{common_steps}
use Rattle.tk_bloom.specs.Counts.{AreCounts, count_of}

-- one more at the end
pub count_of-push : (positions : List ℕ) (h g : ℕ)
    → count_of (positions ++ h ∷ []) g ≡ count_of positions g + cond (g == h) 1 0
count_of-push positions h g = sum_by_push (λ k. cond (g == k) 1 0) positions h

-- one more at the front
pub count_of-cons : (h g : ℕ) (positions : List ℕ)
    → count_of (h ∷ positions) g ≡ cond (g == h) 1 0 + count_of positions g
count_of-cons h g positions = sum_by-cons (λ k. cond (g == k) 1 0) h positions

module _ (counts positions : List ℕ) (room h old : ℕ) (below : h < length counts)
    (read : old ≡ get_or counts h old) where
  -- where there is room, one more can be counted
  pub one_more_countable : AreCounts counts positions room
      → length positions < room → old + 1 < 2 ^ 32
  one_more_countable are fits =
      let first : old ≡ count_of positions h =
      get_or_read counts h old below read 0 ∙ are.counted h below in
      let most = count_by-le-length (λ k. h == k) positions in
      let small = are.countable in
      omega arith

  -- a position that comes is counted up
  pub counts_up : AreCounts counts positions room
      → AreCounts (set counts h (old + 1)) (positions ++ h ∷ []) room
  counts_up are = record {
    below = λ k d within. grind (arith, common_steps, are.below k d);
    counted = λ g within. elim (cases_eq g h) [
      | inl same ↦
          let e = eq-eqb g h same in
          grind (arith, common_steps, count_of-push positions h g, are.counted h below)
      | inr other ↦
          let e = ne_eqb g h other in
          grind (arith, common_steps, count_of-push positions h g, are.counted g)
    ];
    countable = are.countable;
  }

module _ (counts positions : List ℕ) (room h old : ℕ) (read : old ≡ get_or counts h old) where
  -- a position that occurs is counted
  pub some_counted : AreCounts counts (h ∷ positions) room → 1 ≤ old
  some_counted are =
      let below : h < length counts = are.below 0 0 (omega arith) in
      let first : old ≡ count_of (h ∷ positions) h =
      get_or_read counts h old below read 0 ∙ are.counted h below in
      let e = eq-eqb h h (λ _. h) in
      grind (arith, count_of-cons h h positions)

  -- a position that goes is counted down
  pub counts_down : AreCounts counts (h ∷ positions) room
      → AreCounts (set counts h (old - 1)) positions room
  counts_down are =
      let below : h < length counts = are.below 0 0 (omega arith) in record {
        below = λ k d within. rw length-set (are.below (suc k) d (omega arith));
        counted = λ g within. elim (cases_eq g h) [
          | inl same ↦
              let e = eq-eqb g h same in
              grind (arith, common_steps, count_of-cons h g positions, are.counted h below)
          | inr other ↦
              let e = ne_eqb g h other in
              grind (arith, common_steps, count_of-cons h g positions, are.counted g)
        ];
        countable = are.countable;
      }
