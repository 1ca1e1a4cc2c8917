-- What the bytes of cells are made of.
use Rattle.std.proofs.Common.{◌≡◌, ℕ, zero, suc, ◌+◌, ◌*◌, ◌≤◌, List, ◌++◌, length, take, drop, ap, ap₂, sym, ◌∙◌, arith, length-drop, zero-mul, suc-mul}
use Rattle.std.specs.List.{flat_map}
use Rattle.std.proofs.lemmas.List.{take-take, drop-take, take-append-drop, take_all}
use Rattle.tk_kernel.specs.Pieces.{pieces}

-- the first a + b bytes are the first a and the b after them
take_two : (a b : ℕ) (xs : List ℕ) → take (a + b) xs ≡ take a xs ++ take b (drop a xs)
take_two a b xs =
    sym (take-append-drop a (take (a + b) xs))
    ∙ ap₂ (λ (ys zs : List ℕ). ys ++ zs) (take-take a (a + b) xs (omega arith)) (drop-take a b xs)

-- the pieces of bytes, joined
pub join-pieces : (size count : ℕ) (bytes : List ℕ) → count * size ≤ length bytes → flat_map (λ v. v) (pieces size count bytes) ≡ take (count * size) bytes
join-pieces size zero bytes h = ap (λ k. take k bytes) (sym (zero-mul size))
join-pieces size (suc count) bytes h =
    let more : suc count * size ≡ size + count * size = omega (arith, suc-mul count size) in
    ap (λ (xs : List ℕ). take size bytes ++ xs) (join-pieces size count (drop size bytes) (omega (arith, length-drop size bytes)))
    ∙ sym (take_two size (count * size) bytes) ∙ ap (λ k. take k bytes) (sym more)

-- the vectors of the first bucket, and then of the second
pub join-vectors : (size count : ℕ) (bytes : List ℕ) → length bytes ≡ 2 * count * size →
    bytes ≡ flat_map (λ v. v) (pieces size count bytes) ++ flat_map (λ v. v) (pieces size count (drop (count * size) bytes))
join-vectors size count bytes h =
    let rest : length (drop (count * size) bytes) ≡ count * size = omega (arith, length-drop (count * size) bytes) in
    sym (take-append-drop (count * size) bytes)
    ∙ ap₂ (λ (xs ys : List ℕ). xs ++ ys) (sym (join-pieces size count bytes (omega arith)))
    (sym (take_all (count * size) (drop (count * size) bytes) (omega arith)) ∙ sym (join-pieces size count (drop (count * size) bytes) (omega arith)))
