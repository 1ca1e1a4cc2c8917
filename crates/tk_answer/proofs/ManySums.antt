-- The sums of many vectors, made a tile of blocks at a time.
use Rattle.std.proofs.Common.{◌≡◌, ℕ, suc, ◌+◌, ◌*◌, ◌/◌, ◌%◌, ◌<◌, ◌≤◌, List, [], ◌∷◌, length, map, replicate, slice_index_or, Vec, Global, refl, ap, ap₂, sym, ◌∙◌, subst, arith}
use Rattle.std.proofs.Math.ListN.{get_or-map}
use Rattle.std.proofs.lemmas.List.{length-map}
use Rattle.std.specs.List.{All}
use Rattle.tk_kernel.specs.Xor.{xor_bytes, xor_all}
use Rattle.tk_kernel.specs.Pieces.{all_pieces, AllSized}
use Rattle.tk_kernel.specs.Chosen.{chosen_from, chosen_sum}
use Rattle.tk_answer.specs.Runs.{IsRun}
use Rattle.tk_answer.specs.Summing.{IsSumming, AreSumming}
use Rattle.tk_answer.proofs.Runs.{nothing_done, run_added, all_done}

-- each sum is as wide as the blocks
pub sums_sized : (width : ℕ) (blocks : List (List ℕ)) (vectors sums : List (Vec ℕ Global)) (done : ℕ) →
    AreSumming width blocks vectors done sums → All (λ v. v.len ≡ width) sums
sums_sized width blocks vectors sums done summing k d h = (slice_index_or sums k d).ok.0 ∙ (summing.each k d d h).long

-- the vectors reach over the tile
pub vectors_reach : (total done tile : ℕ) (vectors : List (Vec ℕ Global)) → All (λ v. 8 * v.len ≡ total) vectors →
    done % 8 ≡ 0 → tile % 8 ≡ 0 → done + tile ≤ total → All (λ v. done / 8 + tile / 8 ≤ v.len) vectors
vectors_reach total done tile vectors h at eights fits k d less =
    let long : 8 * (slice_index_or vectors k d).len ≡ total = h k d less in
    omega arith

one_by_one : (f : List ℕ → List ℕ) (sums vectors : List (Vec ℕ Global)) → length sums ≡ length vectors →
    ((k : ℕ) (d e : Vec ℕ Global) → k < length sums → (slice_index_or sums k d).items ≡ f (slice_index_or vectors k e).items) →
    map (λ sum. sum.items) sums ≡ map f (map (λ v. v.items) vectors)
one_by_one f [] [] e h = refl
one_by_one f [] (v ∷ vs) e h = absurd (omega arith)
one_by_one f (s ∷ ss) [] e h = absurd (omega arith)
one_by_one f (s ∷ ss) (v ∷ vs) e h =
    ap₂ (λ x xs. x ∷ xs) (h 0 s v (omega arith)) (one_by_one f ss vs (omega arith) (λ k d g less. h (suc k) d g (omega arith)))

-- rows are as long as the vectors whose bytes they have
pub rows_reach : (n : ℕ) (rows : List (Vec ℕ Global)) (vectors : List (List ℕ)) → map (λ row. row.items) rows ≡ vectors →
    All (λ v. 8 * length v ≡ n) vectors → All (λ row. 8 * row.len ≡ n) rows
rows_reach n rows vectors same h k d less =
    let row = slice_index_or rows k d in
    let all : All (λ v. 8 * length v ≡ n) (map (λ row. row.items) rows) = subst (All (λ v. 8 * length v ≡ n)) (sym same) h in
    let here : 8 * length row.items ≡ n =
    subst (λ v. 8 * length v ≡ n) (get_or-map (λ row. row.items) rows k d) (all k d.items (omega (arith, length-map rows (λ row. row.items)))) in
    ap (λ m. 8 * m) row.ok.0 ∙ here

-- where there is a row, the blocks are whole eights
pub eights_of_rows : (n : ℕ) (rows : List (Vec ℕ Global)) → 0 < length rows → All (λ row. 8 * row.len ≡ n) rows → n % 8 ≡ 0
eights_of_rows n [] some h = absurd (omega arith)
eights_of_rows n (row ∷ rows) some h = let first : 8 * row.len ≡ n = h 0 row (omega arith) in omega arith

module _ (width : ℕ) (blocks : List (List ℕ)) (vectors : List (Vec ℕ Global)) (some : 0 < width) (each : AllSized width blocks) where
  -- a tile added to each
  pub tile_added : (done n : ℕ) (tile : List ℕ) (sums new : List (Vec ℕ Global)) → AreSumming width blocks vectors done sums →
      IsRun blocks done tile → length tile / width ≡ n → done % 8 ≡ 0 → length new ≡ length sums →
      ((k : ℕ) (d e : Vec ℕ Global) → k < length sums → (slice_index_or new k d).items
      ≡ xor_bytes (slice_index_or sums k d).items (xor_all width (chosen_from (8 * (done / 8)) (all_pieces width tile) (slice_index_or vectors k e).items))) →
      AreSumming width blocks vectors (done + n) new
  tile_added done n tile sums new summing run is at count added =
      let from : 8 * (done / 8) ≡ done = omega arith in
      record {
        count = count ∙ summing.count;
        each = λ k d e h.
            let here : k < length sums = omega (arith, count) in
            let vector = (slice_index_or vectors k e).items in
            let sum = (slice_index_or sums k d).items in
            let now : (slice_index_or new k d).items ≡ xor_bytes sum (xor_all width (chosen_from done (all_pieces width tile) vector)) =
            added k d e here ∙ ap (λ f. xor_bytes sum (xor_all width (chosen_from f (all_pieces width tile) vector))) from in
            subst (IsSumming width blocks vector (done + n)) (sym now)
            (subst (λ m. IsSumming width blocks vector (done + m) (xor_bytes sum (xor_all width (chosen_from done (all_pieces width tile) vector)))) is
            (run_added width blocks some each vector done tile sum run (summing.each k d e here)));
      }

  -- no tile added
  pub begun : (sums : List (Vec ℕ Global)) → length sums ≡ length vectors → All (λ sum. sum.items ≡ replicate width 0) sums →
      AreSumming width blocks vectors 0 sums
  begun sums count zeros =
      record {
        count = count;
        each = λ k d e h.
            subst (IsSumming width blocks (slice_index_or vectors k e).items 0) (sym (zeros k d h))
            (nothing_done width blocks some each (slice_index_or vectors k e).items);
      }

  -- all tiles added
  pub all_summed : (done : ℕ) (sums : List (Vec ℕ Global)) → length blocks ≤ done → AreSumming width blocks vectors done sums →
      map (λ sum. sum.items) sums ≡ map (chosen_sum width blocks) (map (λ v. v.items) vectors)
  all_summed done sums last summing =
      one_by_one (chosen_sum width blocks) sums vectors summing.count
      (λ k d e h. all_done width blocks some each (slice_index_or vectors k e).items done (slice_index_or sums k d).items last (summing.each k d e h))
