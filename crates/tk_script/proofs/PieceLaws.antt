-- The pieces of a tape, and what is kept and counted of them.
use Rattle.std.proofs.Common.{◌≡◌, ℕ, zero, suc, ◌+◌, ◌-◌, ◌<◌, ◌≤◌, ◌^◌, ◌⊎◌, inl, inr, List, [], ◌∷◌, ◌++◌, length, take, drop, get_or, min, replicate, codes, decimal, Ok, refl, ap, sym, ◌∙◌, arith, append-nil}
use Rattle.std.specs.List.{flat_map}
use Rattle.std.proofs.lemmas.List.{take_all, take-append-le, length-append, length-take-le}
use Rattle.std.proofs.Math.Seq.{take-append-add}
use Rattle.std.proofs.lemmas.Grind.{flat_map-append}
use Rattle.std.proofs.lemmas.Bool.{cases_lt}
use Rattle.hex.specs.Hex.{decode_of}
use Rattle.hex.proofs.HexLemmas.{decode_of-ok}
use Rattle.tk_script.specs.Grammar.{SpellsPiece}
use Rattle.tk_script.proofs.ListLaws.{same_first}

-- ---- one piece

pub apart : (a b : ℕ) (x y : List ℕ) → a < b → a ∷ x ≡ b ∷ y → ⊥
apart a b x y less e = omega (arith, less, same_first a b x y e)

-- the line that ends a tape is no piece
pub end_is_no_piece : (bytes : List ℕ) → SpellsPiece (codes "end") bytes → ⊥
end_is_no_piece bytes (inl h) = apart 101 120 (110 ∷ 100 ∷ []) (32 ∷ h.0.0) (omega arith) h.0.1
end_is_no_piece bytes (inr h) = apart 101 102 (110 ∷ 100 ∷ [])
    (105 ∷ 108 ∷ 108 ∷ 32 ∷ (h.1 ++ 0x20 ∷ decimal h.2)) (omega arith) h.3

-- ---- the two digits of a byte

two : (digits : List ℕ) (text rest : List ℕ) → length digits ≡ 2 → text ≡ digits ++ rest →
    (get_or text 0 0 ∷ get_or text 1 0 ∷ [] ≡ digits) × (drop 2 text ≡ rest)
two [] text rest long e = absurd (omega (arith, long))
two (d ∷ []) text rest long e = absurd (omega (arith, long))
two (d ∷ f ∷ []) text rest long e = (ap (λ t. get_or t 0 0 ∷ get_or t 1 0 ∷ []) e, ap (drop 2) e)
two (d ∷ f ∷ g ∷ digits) text rest long e = absurd (omega (arith, long))

pub two_long : (digits : List ℕ) (b : ℕ) → decode_of digits ≡ Ok (b ∷ []) → length digits ≡ 2
two_long digits b decoded = (decode_of-ok digits (b ∷ []) decoded).2

pub two_digits : (digits : List ℕ) (b : ℕ) (text rest : List ℕ) → decode_of digits ≡ Ok (b ∷ []) →
    text ≡ digits ++ rest →
    (get_or text 0 0 ∷ get_or text 1 0 ∷ [] ≡ digits) × (drop 2 text ≡ rest)
two_digits digits b text rest decoded e = two digits text rest (two_long digits b decoded) e

pub two_at_least : (digits : List ℕ) (b : ℕ) (text rest : List ℕ) → decode_of digits ≡ Ok (b ∷ []) →
    text ≡ digits ++ rest → 2 ≤ length text
two_at_least digits b text rest decoded e =
    omega (arith, ap length e, length-append digits rest, two_long digits b decoded)

pub two_in_front : (text : List ℕ) → 2 ≤ length text →
    text ≡ (get_or text 0 0 ∷ get_or text 1 0 ∷ []) ++ drop 2 text
two_in_front [] long = absurd (omega (arith, long))
two_in_front (a ∷ []) long = absurd (omega (arith, long))
two_in_front (a ∷ b ∷ text) long = refl

-- ---- pieces joined

abbrev pub joined : List (List ℕ) → List ℕ
joined = flat_map (λ p. p)

keep_short : (want : ℕ) (all bytes : List ℕ) → length all ≤ want →
    take want all ++ take (want - length (take want all)) bytes ≡ take want (all ++ bytes)
keep_short want all bytes short =
    let whole = take_all want all short in
    let room : length all + (want - length all) ≡ want = omega (arith, short) in
    ap (λ t. t ++ take (want - length t) bytes) whole
    ∙ sym (take-append-add all bytes (want - length all))
    ∙ ap (λ n. take n (all ++ bytes)) room

keep_long : (want : ℕ) (all bytes : List ℕ) → want < length all →
    take want all ++ take (want - length (take want all)) bytes ≡ take want (all ++ bytes)
keep_long want all bytes long =
    let size = length-take-le want all (omega (arith, long)) in
    let none : want - length (take want all) ≡ 0 = omega (arith, size) in
    ap (λ n. take want all ++ take n bytes) none ∙ ap (λ t. take want all ++ t) (nothing bytes)
    ∙ append-nil (take want all)
    ∙ sym (take-append-le want all bytes (omega (arith, long)))
  where
    nothing : (xs : List ℕ) → take 0 xs ≡ []
    nothing [] = refl
    nothing (x ∷ xs) = refl

keep_by : (want : ℕ) (all bytes : List ℕ) → (length all ≤ want) ⊎ (want < length all) →
    take want all ++ take (want - length (take want all)) bytes ≡ take want (all ++ bytes)
keep_by want all bytes (inl short) = keep_short want all bytes short
keep_by want all bytes (inr long) = keep_long want all bytes long

le_or_lt : (a b : ℕ) → (a ≤ b) ⊎ (b < a)
le_or_lt a b = swap (cases_lt b a)
  where
    swap : (b < a) ⊎ (a ≤ b) → (a ≤ b) ⊎ (b < a)
    swap (inl h) = inr h
    swap (inr h) = inl h

-- more bytes after those that are kept
pub kept-more : (want : ℕ) (all bytes : List ℕ) →
    take want all ++ take (want - length (take want all)) bytes ≡ take want (all ++ bytes)
kept-more want all bytes = keep_by want all bytes (le_or_lt (length all) want)

pub joined-push : (parts : List (List ℕ)) (bytes : List ℕ) →
    joined (parts ++ bytes ∷ []) ≡ joined parts ++ bytes
joined-push parts bytes = flat_map-append (λ p. p) parts (bytes ∷ [])
    ∙ ap (λ t. joined parts ++ t) (append-nil bytes)

pub replicate-push : (n b : ℕ) → replicate n b ++ b ∷ [] ≡ replicate (n + 1) b
replicate-push zero b = refl
replicate-push (suc n) b = ap (λ t. b ∷ t) (replicate-push n b) ∙ ap (λ k. replicate k b) more
  where
    more : suc (n + 1) ≡ suc n + 1
    more = omega arith

-- more bytes after those that are kept and counted
pub kept_more : (want : ℕ) (parts : List (List ℕ)) (bytes kept new : List ℕ) →
    kept ≡ take want (joined parts) → new ≡ kept ++ take (want - length kept) bytes →
    new ≡ take want (joined (parts ++ bytes ∷ []))
kept_more want parts bytes kept new is keeps =
    keeps ∙ ap (λ k. k ++ take (want - length k) bytes) is ∙ kept-more want (joined parts) bytes
    ∙ ap (take want) (sym (joined-push parts bytes))

pub got_more : (parts : List (List ℕ)) (bytes : List ℕ) (got new : ℕ) →
    got ≡ min (length (joined parts)) (2 ^ 64 - 1) →
    new ≡ min (got + length bytes) (2 ^ 64 - 1) →
    new ≡ min (length (joined (parts ++ bytes ∷ []))) (2 ^ 64 - 1)
got_more parts bytes got new counted counts =
    omega (
      arith,
      counts,
      counted,
      length-append (joined parts) bytes,
      ap length (joined-push parts bytes),
    )
