-- Sums over ranges, to which one range after the other is added.
use Rattle.std.proofs.Common.{◌≡◌, ℕ, ◌+◌, ◌*◌, ◌<◌, ◌≤◌, List, [], ◌∷◌, ◌++◌, length, map, take, replicate}
use Rattle.std.proofs.Common.{refl, suc, add-one, ap, ap₂, sym, ◌∙◌, subst, arith}
use Rattle.std.specs.Prelude.{slice_index_or, Vec}
use Rattle.std.specs.Global.{Global}
use Rattle.std.specs.List.{All}
use Rattle.std.proofs.lemmas.List.{take_all, length-map, get_or-map}
use Rattle.std.proofs.Math.Seq.{take-suc}
use Rattle.tk_kernel.specs.Xor.{xor_bytes}
use Rattle.tk_shards.specs.Ranged.{Ranged, part_of, Reaches}
use Rattle.tk_shards.specs.Parts.{IsAsked, sum_in}
use Rattle.tk_shards.specs.Shards.{IsOfWidth}
use Rattle.tk_shards.proofs.Totals.{length-sum_in, sum_in-none, sum_in-more}

-- a row of the range's vectors is long enough for it
pub reach-row : (r : Ranged) (rows : List (Vec ℕ Global)) (k : ℕ) (d : Vec ℕ Global) →
    All (Reaches r) (map (λ (row : Vec ℕ Global). row.items) rows) → k < length rows →
    r.first + length r.blocks ≤ 8 * (slice_index_or rows k d).len
reach-row r rows k d reach low =
    let row = slice_index_or rows k d in
    let here : r.first + length r.blocks ≤ 8 * length row.items =
    subst (Reaches r) (get_or-map (λ (x : Vec ℕ Global). x.items) rows k d [] low)
    (reach k [] (omega (arith, low, length-map rows (λ (x : Vec ℕ Global). x.items))))
    in
    omega (arith, here, row.ok.0)

-- each is the sum over these ranges that the row of its place chooses
pub record AreSums (width : ℕ) (rs : List Ranged) (rows sums : List (Vec ℕ Global)) : Type 0 where
  pub counted : length sums ≡ length rows
  pub each : (k : ℕ) (d e : Vec ℕ Global) → k < length sums →
      (slice_index_or sums k d).items ≡ sum_in width rs (slice_index_or rows k e).items

-- ranges that are asked for are of one width
pub wide-asked : (width : ℕ) (vectors : List (List ℕ)) (rs : List Ranged) →
    All (IsAsked width vectors) rs → All (IsOfWidth width) rs
wide-asked width vectors rs asked k d low =
    let is = asked k d low in record { wide = is.wide; sized = is.sized }

module _ (width : ℕ) (rows : List (Vec ℕ Global)) where
  pub sums-none : (sums : List (Vec ℕ Global)) → length sums ≡ length rows →
      All (λ sum. sum.items ≡ replicate width 0) sums → AreSums width [] rows sums
  sums-none sums counted zeros =
      record {
        counted = counted;
        each = λ k d e low.
            zeros k d low ∙ sym (sum_in-none width (slice_index_or rows k e).items);
      }

  -- each has the width of the ranges
  pub sums-wide : (rs : List Ranged) (sums : List (Vec ℕ Global)) → All (IsOfWidth width) rs →
      AreSums width rs rows sums → (k : ℕ) (d : Vec ℕ Global) → k < length sums →
      length (slice_index_or sums k d).items ≡ width
  sums-wide rs sums wide are k d low =
      ap length (are.each k d d low) ∙ length-sum_in width rs (slice_index_or rows k d).items wide

  -- one range more
  pub sums-next : (rs : List Ranged) (i : ℕ) (r : Ranged) (old new : List (Vec ℕ Global)) →
      i < length rs → r ≡ slice_index_or rs i r → IsOfWidth width r → length new ≡ length old →
      ((k : ℕ) (d e : Vec ℕ Global) → k < length old →
      (slice_index_or new k d).items
      ≡ xor_bytes (slice_index_or old k d).items (part_of r (slice_index_or rows k e).items)) →
      AreSums width (take i rs) rows old → AreSums width (take (i + 1) rs) rows new
  sums-next rs i r old new low at wide counted added are =
      let more : take i rs ++ r ∷ [] ≡ take (i + 1) rs =
      ap (λ (q : Ranged). take i rs ++ q ∷ []) at ∙ sym (take-suc rs i r low)
      ∙ ap (λ n. take n rs) (sym (add-one i))
      in
      record {
        counted = counted ∙ are.counted;
        each = λ k d e inside.
            let here : k < length old = omega (arith, inside, counted) in
            let row = (slice_index_or rows k e).items in
            added k d e here
            ∙ ap (λ (xs : List ℕ). xor_bytes xs (part_of r row)) (are.each k d e here)
            ∙ sym (sum_in-more width (take i rs) r row wide)
            ∙ ap (λ (qs : List Ranged). sum_in width qs row) more;
      }

-- place by place the lists are one
same-by : (width : ℕ) (rs : List Ranged) (rows sums : List (Vec ℕ Global)) → AreSums width rs rows sums →
    map (λ sum. sum.items) sums ≡ map (sum_in width rs) (map (λ row. row.items) rows)
same-by width rs [] [] are = refl
same-by width rs (row ∷ rows) [] are = absurd (let all = are.counted in omega arith)
same-by width rs [] (sum ∷ sums) are = absurd (let all = are.counted in omega arith)
same-by width rs (row ∷ rows) (sum ∷ sums) are =
    ap₂ (λ (x : List ℕ) (xs : List (List ℕ)). x ∷ xs) (are.each 0 sum row (omega arith))
    (same-by width rs rows sums
    record {
      counted = let all = are.counted in omega arith;
      each = λ k d e low. are.each (suc k) d e (omega (arith, low));
    })

-- and at the end they are those over all
pub sums-all : (width : ℕ) (rs : List Ranged) (i : ℕ) (rows sums : List (Vec ℕ Global)) →
    length rs ≤ i → AreSums width (take i rs) rows sums →
    map (λ sum. sum.items) sums ≡ map (sum_in width rs) (map (λ row. row.items) rows)
sums-all width rs i rows sums past are =
    same-by width rs rows sums
    (subst (λ (qs : List Ranged). AreSums width qs rows sums) (take_all i rs past) are)
