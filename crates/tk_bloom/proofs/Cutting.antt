-- Positions cut into pushes.
use Rattle.std.proofs.Common.{◌≡◌, ℕ, zero, suc, ◌+◌, ◌-◌, ◌*◌, ◌<◌, ◌≤◌, List, [], ◌∷◌, ◌++◌, length, take, drop, refl, sym, ap, ◌∙◌, arith, length-append, length-drop}
use Rattle.std.proofs.lemmas.List.{drop-drop, drop-append-le, take-append-le, take_all, nil_from_length, take-append-drop}
use Rattle.tk_kernel.specs.Pieces.{pieces}
use Rattle.tk_bloom.specs.Windows.{window}
use Rattle.tk_bloom.specs.Filters.{positions_of}

-- one item fewer in front leaves the same last ones
pub window-drop : (n : ℕ) (xs : List ℕ) → n < length xs → window n (drop 1 xs) ≡ window n xs
window-drop n xs more =
    drop-drop (length (drop 1 xs) - n) 1 xs
    ∙ ap (λ k. drop k xs) (let long = length-drop 1 xs in omega arith)

-- a window that goes on is the window of all
pub window-append : {X : Type 0} (n : ℕ) (xs ys : List X)
    → window n (window n xs ++ ys) ≡ window n (xs ++ ys)
window-append n xs ys =
    let gone = length xs - n in
    let some : gone ≤ length xs = omega arith in
    let long = length-append (drop gone xs) ys in
    let left = length-drop gone xs in
    let all = length-append xs ys in
    ap (λ zs. drop (length (drop gone xs ++ ys) - n) zs) (sym (drop-append-le gone xs ys some))
    ∙ drop-drop (length (drop gone xs ++ ys) - n) gone (xs ++ ys)
    ∙ ap (λ k. drop k (xs ++ ys)) (omega arith)

module _ (hits : ℕ) where
  -- so many pieces
  pub length-pieces : (count : ℕ) (positions : List ℕ)
      → length (pieces hits count positions) ≡ count
  length-pieces zero positions = refl
  length-pieces (suc count) positions = ap suc (length-pieces count (drop hits positions))

  -- the pieces after the first ones
  pub drop-pieces : (i count : ℕ) (positions : List ℕ) → i ≤ count
      → drop i (pieces hits count positions) ≡ pieces hits (count - i) (drop (i * hits) positions)
  drop-pieces zero count positions h =
      let all : count - 0 ≡ count = omega arith in
      let none : 0 * hits ≡ 0 = omega arith in
      rw (all, none)
  drop-pieces (suc i) zero positions h = absurd (omega arith)
  drop-pieces (suc i) (suc count) positions h =
      let left : suc count - suc i ≡ count - i = omega arith in
      let more : suc i * hits ≡ hits + i * hits = omega arith in
      rw (left, more, ← drop-drop (i * hits) hits positions)
      (drop-pieces i count (drop hits positions) (omega arith))

  -- one more piece at the end
  pub pieces-append : (count : ℕ) (positions more : List ℕ)
      → length positions ≡ count * hits → length more ≡ hits
      → pieces hits (suc count) (positions ++ more) ≡ pieces hits count positions ++ more ∷ []
  pieces-append zero positions more e one =
      let none : positions ≡ [] = nil_from_length positions (omega arith) in
      rw (none, take_all hits more (omega arith))
  pieces-append (suc count) positions more e one =
      let within : hits ≤ length positions = omega arith in
      let rest : length (drop hits positions) ≡ count * hits =
      omega (arith, length-drop hits positions) in
      rw (take-append-le hits positions more within, drop-append-le hits positions more within)
      (ap (λ ps. take hits positions ∷ ps)
      (pieces-append count (drop hits positions) more rest one))

  -- the pieces joined
  pub positions_of-pieces : (count : ℕ) (positions : List ℕ) → length positions ≡ count * hits
      → positions_of (pieces hits count positions) ≡ positions
  positions_of-pieces zero positions e = sym (nil_from_length positions (omega arith))
  positions_of-pieces (suc count) positions e =
      let rest : length (drop hits positions) ≡ count * hits =
      omega (arith, length-drop hits positions) in
      ap (λ ps. take hits positions ++ ps) (positions_of-pieces count (drop hits positions) rest)
      ∙ take-append-drop hits positions
