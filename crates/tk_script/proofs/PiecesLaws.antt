-- The pieces of a tape as they are printed.
use Rattle.std.proofs.Common.{◌≡◌, ℕ, zero, suc, ◌<◌, ◌≤◌, List, [], ◌∷◌, ◌++◌, length, map, take, drop, codes, refl, ap, sym, ◌∙◌, arith, append_assoc}
use Rattle.std.specs.List.{AllByRecursion, flat_map}
use Rattle.std.proofs.lemmas.List.{length-take, length-drop, take-append-drop}
use Rattle.hex.specs.Hex.{IsBytes}
use Rattle.tk_script.specs.Printing.{text_of, bytes_line, piece_line, pieces, pieces_upto, lines_of_pieces}
use Rattle.tk_script.proofs.TextOfLaws.{text_of-append}

-- no more pieces than bytes
enough : (n m size : ℕ) (bytes : List ℕ) → 0 < size → length bytes ≤ n → length bytes ≤ m →
    pieces_upto n size bytes ≡ pieces_upto m size bytes
enough zero zero size bytes some p q = refl
enough zero (suc m) size [] some p q = refl
enough zero (suc m) size (b ∷ bytes) some p q = absurd (omega (arith, p))
enough (suc n) zero size [] some p q = refl
enough (suc n) zero size (b ∷ bytes) some p q = absurd (omega (arith, q))
enough (suc n) (suc m) size [] some p q = refl
enough (suc n) (suc m) size (b ∷ bytes) some p q =
    let long = length-drop size (b ∷ bytes) in
    ap (λ t. take size (b ∷ bytes) ∷ t)
    (enough n m size (drop size (b ∷ bytes)) some (omega (arith, long, p, some))
    (omega (arith, long, q, some)))

-- the first piece, and the pieces of the rest
pub pieces-step : (size : ℕ) (bytes : List ℕ) → 0 < size → 0 < length bytes →
    pieces size bytes ≡ take size bytes ∷ pieces size (drop size bytes)
pieces-step size [] some long = absurd (omega (arith, long))
pieces-step size (b ∷ bytes) some long =
    let left = length-drop size (b ∷ bytes) in
    ap (λ t. take size (b ∷ bytes) ∷ t)
    (enough (length bytes) (length (drop size (b ∷ bytes))) size (drop size (b ∷ bytes)) some
    (omega (arith, left, some)) (omega arith))

-- the line of the first piece, in front of what is left
pub pieces-next : (rest front behind before : List ℕ) {new whole : List ℕ} → 0 < length rest →
    front ≡ take 32 rest → behind ≡ drop 32 rest →
    before ++ text_of (lines_of_pieces rest) ≡ whole →
    new ≡ before ++ text_of (bytes_line (codes "x") front ∷ []) →
    new ++ text_of (lines_of_pieces behind) ≡ whole
pieces-next rest front behind before long front_is behind_is so_far new_is =
    let line = piece_line front in
    let lines = lines_of_pieces behind in
    let all : line ∷ lines ≡ lines_of_pieces rest =
    ap (λ p. piece_line p ∷ lines) front_is
    ∙ ap (λ t. piece_line (take 32 rest) ∷ lines_of_pieces t) behind_is
    ∙ ap (λ ps. map piece_line ps) (sym (pieces-step 32 rest (omega arith) long))
    in
    ap (λ t. t ++ text_of lines) new_is
    ∙ append_assoc before (text_of (line ∷ [])) (text_of lines)
    ∙ ap (λ t. before ++ t) (sym (text_of-append (line ∷ []) lines))
    ∙ ap (λ ls. before ++ text_of ls) all
    ∙ so_far

-- ---- what pieces are

pub record IsPiece (bytes : List ℕ) : Type 0 where
  pub low : 1 ≤ length bytes
  pub high : length bytes ≤ 2048
  pub are : IsBytes bytes

pub IsBytes-take : (n : ℕ) (xs : List ℕ) → IsBytes xs → IsBytes (take n xs)
IsBytes-take zero xs are i = omega arith
IsBytes-take (suc n) [] are i = omega arith
IsBytes-take (suc n) (x ∷ xs) are zero = are zero
IsBytes-take (suc n) (x ∷ xs) are (suc i) = IsBytes-take n xs (λ k. are (suc k)) i

IsBytes-drop : (n : ℕ) (xs : List ℕ) → IsBytes xs → IsBytes (drop n xs)
IsBytes-drop zero xs are i = are i
IsBytes-drop (suc n) [] are i = omega arith
IsBytes-drop (suc n) (x ∷ xs) are i = IsBytes-drop n xs (λ k. are (suc k)) i

are_pieces_upto : (n size : ℕ) (bytes : List ℕ) → 0 < size → size ≤ 2048 → IsBytes bytes →
    AllByRecursion IsPiece (pieces_upto n size bytes)
are_pieces_upto zero size bytes some few are = tt
are_pieces_upto (suc n) size [] some few are = tt
are_pieces_upto (suc n) size (b ∷ bytes) some few are =
    let long = length-take size (b ∷ bytes) in (
      record {
        low = omega (arith, long, some);
        high = omega (arith, long, few);
        are = IsBytes-take size (b ∷ bytes) are;
      },
      are_pieces_upto n size (drop size (b ∷ bytes)) some few (IsBytes-drop size (b ∷ bytes) are),
    )

pub are_pieces : (bytes : List ℕ) → IsBytes bytes → AllByRecursion IsPiece (pieces 32 bytes)
are_pieces bytes are =
    are_pieces_upto (length bytes) 32 bytes (omega arith) (omega arith) are

joined_upto : (n size : ℕ) (bytes : List ℕ) → 0 < size → length bytes ≤ n →
    bytes ≡ flat_map (λ p. p) (pieces_upto n size bytes)
joined_upto zero size [] some long = refl
joined_upto zero size (b ∷ bytes) some long = absurd (omega (arith, long))
joined_upto (suc n) size [] some long = refl
joined_upto (suc n) size (b ∷ bytes) some long =
    let left = length-drop size (b ∷ bytes) in
    sym (take-append-drop size (b ∷ bytes))
    ∙ ap (λ t. take size (b ∷ bytes) ++ t)
    (joined_upto n size (drop size (b ∷ bytes)) some (omega (arith, left, long, some)))

-- the pieces are the bytes
pub pieces-joined : (bytes : List ℕ) → bytes ≡ flat_map (λ p. p) (pieces 32 bytes)
pieces-joined bytes = joined_upto (length bytes) 32 bytes (omega arith) (omega arith)
