-- Halves XORed with others: which are taken off again, and what all of them join to.
use Rattle.std.proofs.Common.{◌≡◌, ℕ, zero, suc, List, [], ◌∷◌, length, map, replicate, ap, ap₂, sym, ◌∙◌}
use Rattle.std.specs.List.{AllByRecursion}
use Rattle.tk_kernel.specs.Xor.{xor_bytes}
use Rattle.tk_kernel.proofs.Offers.{xor_bytes_assoc, xor_bytes_comm, xor_bytes_twice}
use Rattle.tk_kernel.proofs.Offers.{zeros-xor_bytes, length-xor_bytes, length-zeros}
use Rattle.tk_relay.specs.Halves.{Halves, HasHalves, mixed, joined}
use Rattle.tk_relay.specs.Replies.{zero_halves}

-- ---- bytes

-- a mask taken off again
mask-off : (x mask : List ℕ) → length mask ≡ length x → xor_bytes (xor_bytes x mask) mask ≡ x
mask-off x mask e =
    xor_bytes_comm (xor_bytes x mask) mask ∙ ap (xor_bytes mask) (xor_bytes_comm x mask)
    ∙ xor_bytes_twice mask x e

-- what is taken off a mask and what is put to it in its place show the same
mask-moved : (n : ℕ) (u v d p : List ℕ) → length u ≡ n → length v ≡ n → length p ≡ n →
    xor_bytes (xor_bytes u d) p ≡ xor_bytes (xor_bytes v d) (xor_bytes (xor_bytes p u) v)
mask-moved n u v d p ul vl pl =
    let pu = xor_bytes p u in
    let long : length v ≡ length pu = vl ∙ sym (length-xor_bytes p u (pl ∙ sym ul) ∙ pl) in
    ap (λ x. xor_bytes x p) (xor_bytes_comm u d)
    ∙ xor_bytes_assoc d u p
    ∙ ap (xor_bytes d) (xor_bytes_comm u p ∙ sym (xor_bytes_twice v pu long))
    ∙ sym (xor_bytes_assoc d v (xor_bytes v pu))
    ∙ ap₂ xor_bytes (xor_bytes_comm d v) (xor_bytes_comm v pu)

-- moved back it is the mask again
mask-back : (n : ℕ) (u v p : List ℕ) → length u ≡ n → length v ≡ n → length p ≡ n →
    xor_bytes (xor_bytes (xor_bytes (xor_bytes p u) v) v) u ≡ p
mask-back n u v p ul vl pl =
    let pu = xor_bytes p u in
    let long : length v ≡ length pu = vl ∙ sym (length-xor_bytes p u (pl ∙ sym ul) ∙ pl) in
    ap (λ x. xor_bytes x u) (mask-off pu v long) ∙ mask-off p u (ul ∙ sym pl)

-- ---- halves

pub mixed-sized : (n : ℕ) (x y : Halves) → HasHalves n x → HasHalves n y → HasHalves n (mixed x y)
mixed-sized n x y xl yl =
    record {
      first = length-xor_bytes x.first y.first (xl.first ∙ sym yl.first) ∙ xl.first;
      second = length-xor_bytes x.second y.second (xl.second ∙ sym yl.second) ∙ xl.second;
    }

pub mixed-assoc : (x y z : Halves) → mixed (mixed x y) z ≡ mixed x (mixed y z)
mixed-assoc x y z = λ i. record {
  first = xor_bytes_assoc x.first y.first z.first i;
  second = xor_bytes_assoc x.second y.second z.second i;
}

pub mixed-comm : (x y : Halves) → mixed x y ≡ mixed y x
mixed-comm x y = λ i. record {
  first = xor_bytes_comm x.first y.first i;
  second = xor_bytes_comm x.second y.second i;
}

-- what was put on is taken off
pub mixed-off : (n : ℕ) (x y : Halves) → HasHalves n x → HasHalves n y → mixed (mixed x y) y ≡ x
mixed-off n x y xl yl = λ i. record {
  first = mask-off x.first y.first (yl.first ∙ sym xl.first) i;
  second = mask-off x.second y.second (yl.second ∙ sym xl.second) i;
}

-- what is taken off a mask and what is put to it in its place show the same, in either half
pub halves-moved : (n : ℕ) (u v d p : Halves) → HasHalves n u → HasHalves n v → HasHalves n p →
    mixed (mixed u d) p ≡ mixed (mixed v d) (mixed (mixed p u) v)
halves-moved n u v d p ul vl pl = λ i. record {
  first = mask-moved n u.first v.first d.first p.first ul.first vl.first pl.first i;
  second = mask-moved n u.second v.second d.second p.second ul.second vl.second pl.second i;
}

pub halves-back : (n : ℕ) (u v p : Halves) → HasHalves n u → HasHalves n v → HasHalves n p →
    mixed (mixed (mixed (mixed p u) v) v) u ≡ p
halves-back n u v p ul vl pl = λ i. record {
  first = mask-back n u.first v.first p.first ul.first vl.first pl.first i;
  second = mask-back n u.second v.second p.second ul.second vl.second pl.second i;
}

-- ---- zeros

pub zeros-sized : (n : ℕ) → HasHalves n (zero_halves n)
zeros-sized n = record { first = length-zeros n; second = length-zeros n }

-- zeros on the left change nothing
pub zeros-mixed : (n : ℕ) (x : Halves) → HasHalves n x → mixed (zero_halves n) x ≡ x
zeros-mixed n x sized = λ i. record {
  first = zeros-xor_bytes n x.first sized.first i;
  second = zeros-xor_bytes n x.second sized.second i;
}

-- ---- halves joined

pub joined-sized : (n : ℕ) (xs : List Halves) → AllByRecursion (HasHalves n) xs →
    HasHalves n (joined n xs)
joined-sized n [] all = zeros-sized n
joined-sized n (x ∷ xs) all = mixed-sized n x (joined n xs) all.0 (joined-sized n xs all.1)

-- zeros join to zeros
pub joined-zeros : (n k : ℕ) → joined n (replicate k (zero_halves n)) ≡ zero_halves n
joined-zeros n zero = λ i. zero_halves n
joined-zeros n (suc k) =
    ap (mixed (zero_halves n)) (joined-zeros n k)
    ∙ zeros-mixed n (zero_halves n) (zeros-sized n)

swap : (a b c d : Halves) → mixed (mixed a b) (mixed c d) ≡ mixed (mixed a c) (mixed b d)
swap a b c d =
    mixed-assoc a b (mixed c d)
    ∙ ap (mixed a) (sym (mixed-assoc b c d) ∙ ap (λ (x : Halves). mixed x d) (mixed-comm b c)
    ∙ mixed-assoc c b d)
    ∙ sym (mixed-assoc a c (mixed b d))

-- of halves mixed two by two
pub joined-mixed : (n : ℕ) (s t : ℕ → Halves) (js : List ℕ) →
    joined n (map (λ j. mixed (s j) (t j)) js) ≡ mixed (joined n (map s js)) (joined n (map t js))
joined-mixed n s t [] = sym (zeros-mixed n (zero_halves n) (zeros-sized n))
joined-mixed n s t (j ∷ js) =
    ap (mixed (mixed (s j) (t j))) (joined-mixed n s t js)
    ∙ swap (s j) (t j) (joined n (map s js)) (joined n (map t js))
