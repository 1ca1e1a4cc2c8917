-- Lists of bytes, and what is made of them: bytes.
use Rattle.std.proofs.Common.{ℕ, zero, suc, ◌/◌, ◌%◌, ◌^◌, ◌<◌, List, [], ◌∷◌, ◌++◌, length}
use Rattle.std.proofs.Common.{take, drop, replicate, refl, sym, subst, arith, inl, inr}
use Rattle.std.specs.Prelude.{flat_map, slice_index_or, bit_xor}
use Rattle.std.specs.List.{All, concat}
use Rattle.std.proofs.Math.Pow.{pow-lt}
use Rattle.std.proofs.lemmas.Bool.{cases_lt}
use Rattle.std.proofs.lemmas.Nat.{xor_lt}
use Rattle.std.proofs.lemmas.List.{get_or_past, take_at, drop_at}
use Rattle.std.proofs.lemmas.List.Elements.{All-nil, All-cons, All-head, All-tail, All-append}
use Rattle.std.proofs.lemmas.List.Elements.{All-take, All-drop, All-set, All-replicate}
use Rattle.tk_kernel.specs.Xor.{xor_bytes, xor_all}
use Rattle.tk_kernel.specs.Pieces.{pieces}
use Rattle.tk_bits.specs.Shares.{unit_vector, last_share}

abbrev pub AreBytes : List ℕ → Type 0
AreBytes xs = All (λ x. x < 256) xs

abbrev pub AllBytes : List (List ℕ) → Type 0
AllBytes xss = All AreBytes xss

-- ---- lists of bytes

pub no_bytes : AreBytes []
no_bytes = All-nil (λ x. x < 256)

pub byte-cons : (x : ℕ) (xs : List ℕ) → x < 256 → AreBytes xs → AreBytes (x ∷ xs)
byte-cons = All-cons (λ x. x < 256)

pub bytes-append : (xs ys : List ℕ) → AreBytes xs → AreBytes ys → AreBytes (xs ++ ys)
bytes-append = All-append (λ x. x < 256)

pub bytes-take : (n : ℕ) (xs : List ℕ) → AreBytes xs → AreBytes (take n xs)
bytes-take = All-take (λ x. x < 256)

pub bytes-drop : (n : ℕ) (xs : List ℕ) → AreBytes xs → AreBytes (drop n xs)
bytes-drop = All-drop (λ x. x < 256)

-- both parts of bytes are bytes
pub bytes-front : (xs ys : List ℕ) → AreBytes (xs ++ ys) → AreBytes xs
bytes-front xs ys are =
    subst AreBytes (take_at xs ys (length xs) refl) (bytes-take (length xs) (xs ++ ys) are)

pub bytes-rest : (xs ys : List ℕ) → AreBytes (xs ++ ys) → AreBytes ys
bytes-rest xs ys are =
    subst AreBytes (drop_at xs ys (length xs) refl) (bytes-drop (length xs) (xs ++ ys) are)

pub bytes-zeros : (n : ℕ) → AreBytes (replicate n 0)
bytes-zeros n = All-replicate (λ x. x < 256) n 0 (omega arith)

pub bytes-flat_map : {X : Type 0} (f : X → List ℕ) → ((x : X) → AreBytes (f x)) → (xs : List X) →
    AreBytes (flat_map f xs)
bytes-flat_map f each [] = no_bytes
bytes-flat_map f each (x ∷ xs) =
    bytes-append (f x) (flat_map f xs) (each x) (bytes-flat_map f each xs)

pub bytes-concat : (xss : List (List ℕ)) → AllBytes xss → AreBytes (concat xss)
bytes-concat [] all = no_bytes
bytes-concat (xs ∷ xss) all =
    bytes-append xs (concat xss) (All-head AreBytes xs xss all)
    (bytes-concat xss (All-tail AreBytes xs xss all))

pub bytes-pieces : (size count : ℕ) (xs : List ℕ) → AreBytes xs → AllBytes (pieces size count xs)
bytes-pieces size zero xs are = All-nil AreBytes
bytes-pieces size (suc count) xs are =
    All-cons AreBytes (take size xs) (pieces size count (drop size xs)) (bytes-take size xs are)
    (bytes-pieces size count (drop size xs) (bytes-drop size xs are))

-- one of some lists, or the empty one
pub bytes-at : (xss : List (List ℕ)) (k : ℕ) → AllBytes xss → AreBytes (slice_index_or xss k [])
bytes-at xss k all = elim (cases_lt k (length xss)) [
  | inl within ↦ all k [] within
  | inr past ↦
      subst AreBytes (sym (get_or_past xss k [] past)) no_bytes
]

-- ---- sums

pub bytes-xor : (xs ys : List ℕ) → AreBytes xs → AreBytes ys → AreBytes (xor_bytes xs ys)
bytes-xor [] ys are these = no_bytes
bytes-xor (x ∷ xs) [] are these = no_bytes
bytes-xor (x ∷ xs) (y ∷ ys) are these =
    byte-cons (bit_xor x y) (xor_bytes xs ys)
    (xor_lt 8 x y (All-head (λ x. x < 256) x xs are) (All-head (λ x. x < 256) y ys these))
    (bytes-xor xs ys (All-tail (λ x. x < 256) x xs are) (All-tail (λ x. x < 256) y ys these))

pub bytes-xor_all : (size : ℕ) (vs : List (List ℕ)) → AllBytes vs → AreBytes (xor_all size vs)
bytes-xor_all size [] all = bytes-zeros size
bytes-xor_all size (v ∷ vs) all =
    bytes-xor v (xor_all size vs) (All-head AreBytes v vs all)
    (bytes-xor_all size vs (All-tail AreBytes v vs all))

pub bytes-unit_vector : (size i : ℕ) → AreBytes (unit_vector size i)
bytes-unit_vector size i =
    All-set (λ x. x < 256) (replicate size 0) (i / 8) (2 ^ (i % 8))
    (pow-lt {i = i % 8} {j = 8} (omega arith)) (bytes-zeros size)

pub bytes-last_share : (size i : ℕ) (vs : List (List ℕ)) → AllBytes vs →
    AreBytes (last_share size i vs)
bytes-last_share size i vs all =
    bytes-xor (unit_vector size i) (xor_all size vs) (bytes-unit_vector size i)
    (bytes-xor_all size vs all)
