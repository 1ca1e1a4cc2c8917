-- A window of positions, as one of pushes.
use Rattle.std.proofs.Common.{◌≡◌, ℕ, suc, ◌+◌, ◌-◌, ◌*◌, ◌/◌, ◌%◌, ◌<◌, ◌≤◌, List, [], ◌∷◌, ◌++◌, length, get_or, take, drop, All, sym, ap, ◌∙◌, mul_comm, add-zero, arith, length-append, length-drop}
use Rattle.std.proofs.Math.Nat.{mul-sub, mul-le-mul_right, div-le_of_le-mul}
use Rattle.std.proofs.lemmas.Nat.{div-add-mod', div-mul-add, mod-mul-add}
use Rattle.std.proofs.lemmas.List.{drop-append-le}
use Rattle.std.proofs.lemmas.Grind.{common_steps}
use Rattle.tk_kernel.specs.Pieces.{pieces}
use Rattle.tk_kernel.proofs.Offers.{get_or-pieces, AllSized-all_pieces}
use Rattle.tk_bloom.specs.Windows.{window, pushes_in, HoldsPushes, IsSized}
use Rattle.tk_bloom.specs.Counts.{Counted}
use Rattle.tk_bloom.specs.Filters.{positions_of}
use Rattle.tk_bloom.proofs.Cutting.{length-pieces, drop-pieces, pieces-append, positions_of-pieces}

-- whole pushes are their count times their size
pub count_times : (n hits : ℕ) → n % hits ≡ 0 → n ≡ n / hits * hits
count_times n hits e = let split = div-add-mod' n hits in omega arith

-- so many times a size, divided by it
pub times-div : (count hits : ℕ) → 1 ≤ hits → count * hits / hits ≡ count
times-div count hits some = rw (← add-zero (count * hits)) (div-mul-add count hits 0 (omega arith))

pub times-mod : (count hits : ℕ) → 1 ≤ hits → count * hits % hits ≡ 0
times-mod count hits some = rw (← add-zero (count * hits)) (mod-mul-add count hits 0 (omega arith))

sub-mul : (m n k : ℕ) → m * k - n * k ≡ (m - n) * k
sub-mul m n k = rw (mul_comm m k, mul_comm n k, mul_comm (m - n) k) (sym (mul-sub k m n))

module _ (hits retained count : ℕ) (positions more : List ℕ) (some_hits : 1 ≤ hits)
    (some_retained : 1 ≤ retained)
    (whole : length positions ≡ count * hits) (one : length more ≡ hits) where
  -- the positions of the last pushes, where one more is to come
  window-positions :
      window ((retained - 1) * hits) positions ≡ drop ((count - (retained - 1)) * hits) positions
  window-positions = ap (λ k. drop k positions) (rw whole (sub-mul count (retained - 1) hits))

  length-kept :
      length (window ((retained - 1) * hits) positions) ≡ (count - (count - (retained - 1))) * hits
  length-kept =
      rw window-positions
      (length-drop _ positions ∙ rw whole (sub-mul count (count - (retained - 1)) hits))

  -- with the pushes that are left and one more
  pub length-window-append :
      length (window ((retained - 1) * hits) positions ++ more)
      ≡ suc (count - (count - (retained - 1))) * hits
  length-window-append = length-append _ more ∙ (let kept = length-kept in omega arith)

  -- they are the last of the pushes with one more
  pub pushes_in-window :
      pushes_in hits (window ((retained - 1) * hits) positions ++ more)
      ≡ window retained (pushes_in hits positions ++ more ∷ [])
  pushes_in-window =
      let gone = count - (retained - 1) in
      let some : gone ≤ count = omega arith in
      let there = length-pieces hits count positions in
      let kept : length (drop (gone * hits) positions) ≡ (count - gone) * hits =
      rw window-positions at length-kept in
      let all = length-append (pieces hits count positions) (more ∷ []) in
      let pushes = pieces hits count positions in
      let as_window : window retained (pushes ++ more ∷ []) ≡ drop gone pushes ++ more ∷ [] =
      ap (λ k. drop k (pushes ++ more ∷ [])) (omega arith)
      ∙ drop-append-le gone pushes (more ∷ []) (omega arith) in
      let counted : length positions / hits ≡ count = rw whole (times-div count hits some_hits) in
      let kept_positions = window ((retained - 1) * hits) positions in
      let counted_kept : length (kept_positions ++ more) / hits ≡ suc (count - gone) =
      rw length-window-append (times-div (suc (count - gone)) hits some_hits) in
      ap (λ n. pieces hits n (kept_positions ++ more)) counted_kept
      ∙ ap (λ ps. pieces hits (suc (count - gone)) (ps ++ more)) window-positions
      ∙ pieces-append hits (count - gone) (drop (gone * hits) positions) more kept one
      ∙ ap (λ ps. ps ++ more ∷ []) (sym (drop-pieces hits gone count positions some))
      ∙ sym as_window
      ∙ ap (λ n. window retained (pieces hits n positions ++ more ∷ [])) (sym counted)

-- the tally of the kept positions with one more push
pub whole_after_push : (hits retained bits room : ℕ) (positions more : List ℕ)
    → HoldsPushes hits retained (record { bits = bits; room = room; positions = positions })
    → length more ≡ hits → All (λ h. h < bits) more
    → let kept = window ((retained - 1) * hits) positions in
    HoldsPushes hits retained (record { bits = bits; room = room; positions = kept ++ more })
whole_after_push hits retained bits room positions more are one below =
    let count = length positions / hits in
    let times = count_times (length positions) hits are.whole in
    let some_retained = are.some_retained in
    let long =
    length-window-append hits retained count positions more are.some_hits some_retained times one in
    let less : suc (count - (count - (retained - 1))) ≤ retained = omega arith in
    record {
      some_hits = are.some_hits;
      most_hits = are.most_hits;
      some_retained = some_retained;
      most_retained = are.most_retained;
      room_for_all = are.room_for_all;
      within = rw (long, mul_comm hits retained) (mul-le-mul_right hits less);
      whole = rw long (times-mod _ hits are.some_hits);
      in_range = grind (arith, common_steps, are.in_range);
    }

module _ (hits retained : ℕ) (tally : Counted) (are : HoldsPushes hits retained tally) where
  -- the positions of the pushes are those that are counted
  pub positions_of-pushes_in : positions_of (pushes_in hits tally.positions) ≡ tally.positions
  positions_of-pushes_in = positions_of-pieces hits _ tally.positions (count_times _ hits are.whole)

  -- how many pushes there are
  pub length-pushes_in :
      length (pushes_in hits tally.positions) * hits ≡ length tally.positions
  length-pushes_in =
      ap (λ n. n * hits) (length-pieces hits (length tally.positions / hits) tally.positions)
      ∙ sym (count_times _ hits are.whole)

  -- they are as many as are retained at most, and of one size
  pub sized_pushes : IsSized (record {
    bits = tally.bits;
    hits = hits;
    retained = retained;
    pushes = pushes_in hits tally.positions;
  })
  sized_pushes =
      record {
        some_hits = are.some_hits;
        most_hits = are.most_hits;
        few = omega (arith, length-pieces hits (length tally.positions / hits) tally.positions, div-le_of_le-mul hits are.within);
        most_retained = are.most_retained;
        each = AllSized-all_pieces hits tally.positions;
      }

  -- a push ends with the positions at the latest
  pub push_within : (i : ℕ) → i < length (pushes_in hits tally.positions)
      → i * hits + hits ≤ length tally.positions
  push_within i low =
      let all = length-pushes_in in
      let less : suc i ≤ length (pushes_in hits tally.positions) = omega arith in
      let more = mul-le-mul_right hits less in
      omega arith

  -- each push is a part of the positions
  pub push_at : (i : ℕ) (d : List ℕ) → i < length (pushes_in hits tally.positions)
      → take hits (drop (i * hits) tally.positions) ≡ get_or (pushes_in hits tally.positions) i d
  push_at i d low =
      let count = length tally.positions / hits in
      let long = length-pieces hits count tally.positions in
      sym (get_or-pieces hits count i tally.positions d (omega arith))
