-- The parts of a handle, joined and cut again.
use Rattle.std.proofs.Common.{◌≡◌, ℕ, zero, suc, ◌+◌, ◌<◌, List, [], ◌∷◌, ◌++◌, get_or, lit<, length, take, drop, refl, ap, ap₂, sym, ◌∙◌, arith, append_assoc, append-nil, length-append, length-drop, drop-drop}
use Rattle.std.proofs.Math.Seq.{take-append_seam, drop-append-add}
use Rattle.std.proofs.lemmas.List.{drop_all, take-append-drop}

-- a part written over the bytes from a place on
abbrev pub with_part : ℕ → List ℕ → List ℕ → List ℕ
with_part at part bytes = take at bytes ++ part ++ drop (at + length part) bytes

with_part-next : (front part rest : List ℕ) → with_part (length front) part (front ++ rest) ≡ (front ++ part) ++ drop (length part) rest
with_part-next front part rest =
    ap₂ (λ xs ys. (xs ++ part) ++ ys) (take-append_seam front rest) (drop-append-add front rest (length part))

-- the same, where the length of what stands in front is known
next : (at : ℕ) (bytes now front part rest : List ℕ) → length front ≡ at → bytes ≡ front ++ rest → now ≡ with_part at part bytes →
    now ≡ (front ++ part) ++ drop (length part) rest
next at bytes now front part rest e is w =
    w ∙ ap (with_part at part) is ∙ ap (λ n. with_part n part (front ++ rest)) (sym e) ∙ with_part-next front part rest

pub four_parts : (zs a b c d p q r s : List ℕ) → length zs ≡ 104 → length p ≡ 8 → length q ≡ 32 → length r ≡ 32 → length s ≡ 32 →
    a ≡ with_part 0 p zs → b ≡ with_part 8 q a → c ≡ with_part 40 r b → d ≡ with_part 72 s c → d ≡ p ++ q ++ r ++ s
four_parts zs a b c d p q r s long lp lq lr ls ea eb ec ed =
    let ia = next 0 zs a [] p zs refl refl ea in
    let ib = next 8 a b p q (drop (length p) zs) lp ia eb in
    let ic = next 40 b c (p ++ q) r (drop (length q) (drop (length p) zs)) (omega (arith, length-append p q)) ib ec in
    let id = next 72 c d (p ++ q ++ r) s (drop (length r) (drop (length q) (drop (length p) zs)))
    (omega (arith, length-append p q, length-append (p ++ q) r)) ic ed in
    let none = drop_all (length s) (drop (length r) (drop (length q) (drop (length p) zs)))
    (simp (length-drop) (omega arith)) in
    id ∙ ap (λ xs. (p ++ q ++ r ++ s) ++ xs) none ∙ append-nil (p ++ q ++ r ++ s)

rejoined : (front : List ℕ) (n : ℕ) (xs : List ℕ) → front ++ take n xs ++ drop n xs ≡ front ++ xs
rejoined front n xs = append_assoc front (take n xs) (drop n xs) ∙ ap (λ (ys : List ℕ). front ++ ys) (take-append-drop n xs)

-- a list of four parts is its parts joined
pub four_pieces : (xs : List ℕ) → take 8 xs ++ take 32 (drop 8 xs) ++ take 32 (drop 40 xs) ++ drop 72 xs ≡ xs
four_pieces xs =
    ap₂ (λ ys zs. take 8 xs ++ take 32 (drop 8 xs) ++ take 32 ys ++ zs) (sym (drop-drop 32 8 xs)) (sym (drop-drop 32 40 xs) ∙ ap (drop 32) (sym (drop-drop 32 8 xs)))
    ∙ rejoined (take 8 xs ++ take 32 (drop 8 xs)) 32 (drop 32 (drop 8 xs))
    ∙ rejoined (take 8 xs) 32 (drop 8 xs)
    ∙ take-append-drop 8 xs

-- what stands in front of a list of bytes are bytes
pub bytes_in_front : (n : ℕ) (xs : List ℕ) → ((i : ℕ) → get_or xs i 0 < 256) → (i : ℕ) → get_or (take n xs) i 0 < 256
bytes_in_front zero xs h i = lit< tt
bytes_in_front (suc n) [] h i = lit< tt
bytes_in_front (suc n) (x ∷ xs) h zero = h 0
bytes_in_front (suc n) (x ∷ xs) h (suc i) = bytes_in_front n xs (λ k. h (suc k)) i
