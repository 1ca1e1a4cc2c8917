-- A sum of blocks, some neighbouring bytes of all of them at a time.
use Rattle.std.proofs.Common.{◌≡◌, ℕ, zero, suc, ◌+◌, ◌-◌, ◌*◌, ◌≤◌, List, [], ◌∷◌, ◌++◌, length, take, drop, replicate, bit_xor, refl, ap, ap₂, sym, ◌∙◌, arith, take-add, append_assoc}
use Rattle.std.specs.List.{All}
use Rattle.std.specs.Simd.Lanes.{zip2, chunk, put_chunk}
use Rattle.std.proofs.lemmas.List.{length-drop, length-take-le, drop-drop, drop-take, take-take, take_at, drop_at, take_all, drop_all, append-nil, take-replicate, drop-replicate}
use Rattle.std.proofs.lemmas.List.Elements.{All-head, All-tail}
use Rattle.std.proofs.lemmas.Simd.{put_chunk_is, length-chunk, length-zip2}
use Rattle.tk_kernel.specs.Xor.{xor_bytes, xor_all}
use Rattle.tk_kernel.specs.Pieces.{AllSized}
use Rattle.tk_kernel.specs.Listed.{listed, sum_of_lanes}
use Rattle.tk_kernel.specs.Stripes.{xor_front}
use Rattle.tk_kernel.proofs.Sums.{xor_bytes_assoc, xor_bytes-zeros, length-xor_bytes, length-xor_all}

pub zip2_is : (xs ys : List ℕ) → zip2 bit_xor xs ys ≡ xor_bytes xs ys
zip2_is [] ys = refl
zip2_is (x ∷ xs) [] = refl
zip2_is (x ∷ xs) (y ∷ ys) = ap (λ zs. bit_xor x y ∷ zs) (zip2_is xs ys)

xor_bytes-nil : (xs : List ℕ) → xor_bytes xs [] ≡ []
xor_bytes-nil [] = refl
xor_bytes-nil (x ∷ xs) = refl

drop-xor_bytes : (n : ℕ) (xs ys : List ℕ) → drop n (xor_bytes xs ys) ≡ xor_bytes (drop n xs) (drop n ys)
drop-xor_bytes zero xs ys = refl
drop-xor_bytes (suc n) [] ys = refl
drop-xor_bytes (suc n) (x ∷ xs) [] = sym (xor_bytes-nil (drop n xs))
drop-xor_bytes (suc n) (x ∷ xs) (y ∷ ys) = drop-xor_bytes n xs ys

take-xor_bytes : (n : ℕ) (xs ys : List ℕ) → take n (xor_bytes xs ys) ≡ xor_bytes (take n xs) (take n ys)
take-xor_bytes zero xs ys = refl
take-xor_bytes (suc n) [] ys = refl
take-xor_bytes (suc n) (x ∷ xs) [] = refl
take-xor_bytes (suc n) (x ∷ xs) (y ∷ ys) = ap (λ zs. bit_xor x y ∷ zs) (take-xor_bytes n xs ys)

pub chunk-xor_bytes : (i n : ℕ) (xs ys : List ℕ) → chunk i n (xor_bytes xs ys) ≡ xor_bytes (chunk i n xs) (chunk i n ys)
chunk-xor_bytes i n xs ys = ap (take n) (drop-xor_bytes i xs ys) ∙ take-xor_bytes n (drop i xs) (drop i ys)

pub chunk-zeros : (i n size : ℕ) → i + n ≤ size → chunk {A = ℕ} i n (replicate size 0) ≡ replicate n 0
chunk-zeros i n size h = ap (take n) (drop-replicate i size 0) ∙ take-replicate n (size - i) 0 (omega arith)

pub chunk-block : (p size i n : ℕ) (blocks : List ℕ) → i + n ≤ size → chunk i n (take size (drop (p * size) blocks)) ≡ chunk (p * size + i) n blocks
chunk-block p size i n blocks h =
    let all : i + (size - i) ≡ size = omega arith in
    ap (λ m. take n (drop i (take m (drop (p * size) blocks)))) (sym all)
    ∙ ap (take n) (drop-take i (size - i) (drop (p * size) blocks))
    ∙ take-take n (size - i) (drop i (drop (p * size) blocks)) (omega arith)
    ∙ ap (take n) (drop-drop i (p * size) blocks)

-- each block lies within the blocks
abbrev pub AllIn : ℕ → List ℕ → List ℕ → Type 0
AllIn size blocks places = All (λ p. (p + 1) * size ≤ length blocks) places

pub AllSized-listed : (size : ℕ) (blocks places : List ℕ) → AllIn size blocks places → AllSized size (listed size blocks places)
AllSized-listed size blocks [] h = tt
AllSized-listed size blocks (p ∷ ps) h =
    let fits : (p + 1) * size ≤ length blocks = All-head (λ p. (p + 1) * size ≤ length blocks) p ps h in (
      length-take-le size (drop (p * size) blocks) (omega (arith, length-drop (p * size) blocks)),
      AllSized-listed size blocks ps (All-tail (λ p. (p + 1) * size ≤ length blocks) p ps h),
    )

lanes_are : (n size i : ℕ) (blocks : List ℕ) → i + n ≤ size → (places sum : List ℕ) → AllIn size blocks places → length sum ≡ n →
    sum_of_lanes n size i blocks sum places ≡ xor_bytes sum (chunk i n (xor_all size (listed size blocks places)))
lanes_are n size i blocks h [] sum each e =
    sym (ap (xor_bytes sum) (chunk-zeros i n size h) ∙ ap (λ m. xor_bytes sum (replicate m 0)) (sym e) ∙ xor_bytes-zeros sum)
lanes_are n size i blocks h (p ∷ ps) sum each e =
    let fits : (p + 1) * size ≤ length blocks = All-head (λ p. (p + 1) * size ≤ length blocks) p ps each in
    let part = chunk (p * size + i) n blocks in
    let block = take size (drop (p * size) blocks) in
    let others = xor_all size (listed size blocks ps) in
    let long : length part ≡ n = length-chunk (p * size + i) n blocks (omega arith) in
    lanes_are n size i blocks h ps (zip2 bit_xor sum part) (All-tail (λ p. (p + 1) * size ≤ length blocks) p ps each) (length-zip2 bit_xor sum part (e ∙ sym long) ∙ e)
    ∙ ap (λ zs. xor_bytes zs (chunk i n others)) (zip2_is sum part)
    ∙ xor_bytes_assoc sum part (chunk i n others)
    ∙ ap (λ zs. xor_bytes sum (xor_bytes zs (chunk i n others))) (sym (chunk-block p size i n blocks h))
    ∙ ap (xor_bytes sum) (sym (chunk-xor_bytes i n block others))

pub xor_front-none : (xs ys : List ℕ) → xor_front 0 xs ys ≡ xs
unfolding xor_front
xor_front-none xs ys = refl

pub xor_front_all : (xs ys : List ℕ) → length xs ≡ length ys → xor_front (length xs) xs ys ≡ xor_bytes xs ys
unfolding xor_front
xor_front_all xs ys e =
    ap₂ (λ us vs. us ++ vs) (take_all (length xs) (xor_bytes xs ys) (omega (arith, length-xor_bytes xs ys e))) (drop_all (length xs) xs (omega arith))
    ∙ append-nil (xor_bytes xs ys)

pub front_more : (i n : ℕ) (start total dst : List ℕ) → length start ≡ length total → i + n ≤ length start → length dst ≡ length start → dst ≡ xor_front i start total →
    put_chunk i dst (xor_bytes (chunk i n dst) (chunk i n total)) ≡ xor_front (i + n) start total
unfolding xor_front
front_more i n start total dst e h long front =
    let all = xor_bytes start total in
    let size : length all ≡ length start = length-xor_bytes start total e in
    let first : length (take i all) ≡ i = length-take-le i all (omega arith) in
    let before : take i dst ≡ take i all = ap (take i) front ∙ take_at (take i all) (drop i start) i first in
    let behind : drop i dst ≡ drop i start = ap (drop i) front ∙ drop_at (take i all) (drop i start) i first in
    let lanes : xor_bytes (chunk i n dst) (chunk i n total) ≡ chunk i n all =
    ap (λ zs. xor_bytes (take n zs) (chunk i n total)) behind ∙ sym (chunk-xor_bytes i n start total) in
    let count : length (chunk i n all) ≡ n = length-chunk i n all (omega arith) in
    ap (put_chunk i dst) lanes
    ∙ put_chunk_is i dst (chunk i n all) (omega arith)
    ∙ ap₂ (λ us vs. us ++ (chunk i n all ++ drop (length (chunk i n all)) vs)) before behind
    ∙ ap (λ m. take i all ++ (chunk i n all ++ drop m (drop i start))) count
    ∙ ap (λ zs. take i all ++ (chunk i n all ++ zs)) (drop-drop n i start)
    ∙ sym (append_assoc (take i all) (chunk i n all) (drop (i + n) start))
    ∙ ap (λ zs. zs ++ drop (i + n) start) (sym (take-add i n all))

-- the sum of the blocks at the places
abbrev pub total : ℕ → List ℕ → List ℕ → List ℕ
total size blocks places = xor_all size (listed size blocks places)

module _ (blocks places start : List ℕ) (each : AllIn (length start) blocks places) where
  long_total : length (total (length start) blocks places) ≡ length start
  long_total = length-xor_all (length start) (listed (length start) blocks places) (AllSized-listed (length start) blocks places each)

  pub stripe_added : (n i : ℕ) (dst : List ℕ) → length dst ≡ length start → i + n ≤ length start →
      dst ≡ xor_front i start (total (length start) blocks places) →
      put_chunk i dst (sum_of_lanes n (length dst) i blocks (chunk i n dst) places) ≡ xor_front (i + n) start (total (length start) blocks places)
  stripe_added n i dst long h front =
      ap (λ m. put_chunk i dst (sum_of_lanes n m i blocks (chunk i n dst) places)) long
      ∙ ap (put_chunk i dst) (lanes_are n (length start) i blocks h places (chunk i n dst) each (length-chunk i n dst (omega arith)))
      ∙ front_more i n start (total (length start) blocks places) dst (sym long_total) h long front

  pub stripes_added : (i : ℕ) (dst : List ℕ) → i ≡ length start → dst ≡ xor_front i start (total (length start) blocks places) →
      dst ≡ xor_bytes start (total (length start) blocks places)
  stripes_added i dst e front =
      front ∙ ap (λ m. xor_front m start (total (length start) blocks places)) e ∙ xor_front_all start (total (length start) blocks places) (sym long_total)

-- one block alone
pub one_listed : (size : ℕ) (bytes : List ℕ) → length bytes ≡ size → total size bytes (0 ∷ []) ≡ bytes
one_listed size bytes e =
    let none : 0 * size ≡ 0 = omega arith in
    ap (λ n. xor_bytes (take size (drop n bytes)) (replicate size 0)) none
    ∙ ap₂ (λ us n. xor_bytes us (replicate n 0)) (take_all size bytes (omega arith)) (sym e)
    ∙ xor_bytes-zeros bytes
