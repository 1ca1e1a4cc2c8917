-- Pieces of bytes, each made into bytes of one other size.
use Rattle.std.proofs.Common.{◌≡◌, ℕ, zero, suc, ◌+◌, ◌*◌, ◌<◌, ◌≤◌, List, [], ◌++◌, length, take, drop, ap, sym, ◌∙◌, arith, length-append, length-drop}
use Rattle.std.specs.List.{flat_map}
use Rattle.std.proofs.lemmas.List.{take_at, drop_at, drop-drop, length-take-le, drop_all}
use Rattle.std.proofs.Math.Seq.{take-nil}
use Rattle.tk_kernel.specs.Pieces.{pieces}
use Rattle.tk_words.specs.Pieces.{piece}

-- what is made of bytes of size s has size t
abbrev pub Resizes : ℕ → ℕ → (List ℕ → List ℕ) → Type 0
Resizes s t f = (v : List ℕ) → length v ≡ s → length (f v) ≡ t

pub length-flat : (f : List ℕ → List ℕ) (s t n : ℕ) (bytes : List ℕ) → Resizes s t f → n * s ≤ length bytes →
    length (flat_map f (pieces s n bytes)) ≡ n * t
length-flat f s t zero bytes each long = omega arith
length-flat f s t (suc n) bytes each long =
    let more : suc n * s ≡ s + n * s = omega arith in
    let first : length (f (take s bytes)) ≡ t = each (take s bytes) (length-take-le s bytes (omega (arith, long))) in
    let others = length-flat f s t n (drop s bytes) each (omega (arith, long, length-drop s bytes)) in
    length-append (f (take s bytes)) (flat_map f (pieces s n (drop s bytes)))
    ∙ omega (arith, first, others)

-- piece number i of what is made is made of piece number i
pub piece-flat : (f : List ℕ → List ℕ) (s t n i : ℕ) (bytes : List ℕ) → Resizes s t f → n * s ≤ length bytes → i < n →
    piece t i (flat_map f (pieces s n bytes)) ≡ f (piece s i bytes)
piece-flat f s t zero i bytes each long low = absurd (omega (arith, low))
piece-flat f s t (suc n) zero bytes each long low =
    let others = flat_map f (pieces s n (drop s bytes)) in
    let none : 0 * t ≡ 0 = omega arith in
    let start : 0 * s ≡ 0 = omega arith in
    let first : length (f (take s bytes)) ≡ t = each (take s bytes) (length-take-le s bytes (omega (arith, long))) in
    ap (λ k. take t (drop k (f (take s bytes) ++ others))) none
    ∙ take_at (f (take s bytes)) others t first
    ∙ ap (λ k. f (take s (drop k bytes))) (sym start)
piece-flat f s t (suc n) (suc i) bytes each long low =
    let others = flat_map f (pieces s n (drop s bytes)) in
    let first : length (f (take s bytes)) ≡ t = each (take s bytes) (length-take-le s bytes (omega (arith, long))) in
    let further : suc i * t ≡ t + i * t = omega arith in
    let behind : suc i * s ≡ s + i * s = omega arith in
    ap (λ k. take t (drop k (f (take s bytes) ++ others))) further
    ∙ ap (take t) (sym (drop-drop (i * t) t (f (take s bytes) ++ others)))
    ∙ ap (λ (xs : List ℕ). take t (drop (i * t) xs)) (drop_at (f (take s bytes)) others t first)
    ∙ piece-flat f s t n i (drop s bytes) each (omega (arith, long, length-drop s bytes)) (omega (arith, low))
    ∙ ap (λ (xs : List ℕ). f (take s xs)) (drop-drop (i * s) s bytes)
    ∙ ap (λ k. f (take s (drop k bytes))) (sym behind)

-- behind the last piece there is nothing
pub piece-behind : (size i : ℕ) (bytes : List ℕ) → length bytes ≤ i * size → piece size i bytes ≡ []
piece-behind size i bytes short = ap (take size) (drop_all (i * size) bytes short) ∙ take-nil size
