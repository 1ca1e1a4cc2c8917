-- Numbers in big-endian bytes: what is read is what was written, and what was written is read again.
use Rattle.std.proofs.Common.{◌≡◌, ℕ, zero, suc, ◌+◌, ◌*◌, ◌^◌, ◌<◌, ◌≤◌, List, [], ◌∷◌, ◌++◌, length, get_or, take, drop, refl, sym, ap, ◌∙◌, arith, inl, inr}
use Rattle.std.specs.List.{flat_map, AllByRecursion}
use Rattle.std.proofs.lemmas.Bool.{cases_lt}
use Rattle.std.proofs.lemmas.List.{take-append-drop, drop-drop, length-take, length-drop, get_or-drop, get_or-take, get_or_past}
use Rattle.std.proofs.lemmas.Nat.{be_bytes_4, be_bytes_8, from_be_bytes-to_be_bytes_4}
use Rattle.tk_frames.specs.Spelling.{be32, be64}
use Rattle.tk_frames.specs.Fields.{number_at, long_at, numbers}

abbrev pub IsBytes : List ℕ → Type 0
IsBytes bytes = (i : ℕ) → get_or bytes i 0 < 256

pub IsBytes-drop : (n : ℕ) (bytes : List ℕ) → IsBytes bytes → IsBytes (drop n bytes)
IsBytes-drop n bytes h i = rw get_or-drop (h (n + i))

pub IsBytes-take : (n : ℕ) (bytes : List ℕ) → IsBytes bytes → IsBytes (take n bytes)
IsBytes-take n bytes h i =
    elim (cases_lt i n) [
      | inl lt ↦ rw (get_or-take n bytes i 0 lt) (h i)
      | inr le ↦ rw (get_or_past (take n bytes) i 0 (omega (arith, length-take n bytes))) (omega arith)
    ]

-- ---- one number

pub number-join : (place next : ℕ) (bytes : List ℕ) → IsBytes bytes → next ≡ place + 4 → next ≤ length bytes →
    be32 (number_at place bytes) ++ drop next bytes ≡ drop place bytes
number-join place next bytes fits e le =
    let rest = drop place bytes in
    let long : 4 ≤ length rest = omega (arith, length-drop place bytes) in
    let front : be32 (number_at place bytes) ≡ take 4 rest =
    be_bytes_4 (take 4 rest) _ (omega (arith, length-take 4 rest)) (IsBytes-take 4 rest (IsBytes-drop place bytes fits)) refl in
    let back : drop next bytes ≡ drop 4 rest = ap (λ n. drop n bytes) e ∙ sym (drop-drop 4 place bytes) in
    ap (λ xs. xs ++ drop next bytes) front ∙ ap (λ xs. take 4 rest ++ xs) back ∙ take-append-drop 4 rest

pub long-join : (place next : ℕ) (bytes : List ℕ) → IsBytes bytes → next ≡ place + 8 → next ≤ length bytes →
    be64 (long_at place bytes) ++ drop next bytes ≡ drop place bytes
long-join place next bytes fits e le =
    let rest = drop place bytes in
    let long : 8 ≤ length rest = omega (arith, length-drop place bytes) in
    let front : be64 (long_at place bytes) ≡ take 8 rest =
    be_bytes_8 (take 8 rest) _ (omega (arith, length-take 8 rest)) (IsBytes-take 8 rest (IsBytes-drop place bytes fits)) refl in
    let back : drop next bytes ≡ drop 8 rest = ap (λ n. drop n bytes) e ∙ sym (drop-drop 8 place bytes) in
    ap (λ xs. xs ++ drop next bytes) front ∙ ap (λ xs. take 8 rest ++ xs) back ∙ take-append-drop 8 rest

-- ---- so many numbers

pub length-numbers : (count : ℕ) (bytes : List ℕ) → length (numbers count bytes) ≡ count
unfolding numbers
length-numbers zero bytes = refl
length-numbers (suc count) bytes = ap suc (length-numbers count (drop 4 bytes))

pub numbers-join : (count : ℕ) (bytes : List ℕ) → IsBytes bytes → 4 * count ≤ length bytes →
    flat_map be32 (numbers count bytes) ++ drop (4 * count) bytes ≡ bytes
unfolding numbers
numbers-join zero bytes fits le = refl
numbers-join (suc count) bytes fits le =
    let rest = drop 4 bytes in
    let four : 4 ≤ length bytes = omega arith in
    let long : 4 * count ≤ length rest = omega (arith, length-drop 4 bytes) in
    let others = numbers-join count rest (IsBytes-drop 4 bytes fits) long in
    let back : drop (4 * suc count) bytes ≡ drop (4 * count) rest = ap (λ n. drop n bytes) (omega arith) ∙ sym (drop-drop (4 * count) 4 bytes) in
    ap (λ xs. flat_map be32 (numbers (suc count) bytes) ++ xs) back
    ∙ ap (λ xs. be32 (number_at 0 bytes) ++ xs) others
    ∙ number-join 0 4 bytes fits refl four

pub length-be32s : (ns : List ℕ) → length (flat_map be32 ns) ≡ 4 * length ns
length-be32s [] = refl
length-be32s (n ∷ ns) = let h = length-be32s ns in omega (arith, h)

pub numbers-again : (ns rest : List ℕ) → AllByRecursion (λ n. n < 2 ^ 32) ns → numbers (length ns) (flat_map be32 ns ++ rest) ≡ ns
unfolding numbers
numbers-again [] rest fits = refl
numbers-again (n ∷ ns) rest fits =
    rw (from_be_bytes-to_be_bytes_4 n fits.0, numbers-again ns rest fits.1) refl
