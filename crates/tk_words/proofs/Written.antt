-- Parts that are written one after the other, each made of a piece of bytes.
use Rattle.std.proofs.Common.{◌≡◌, ℕ, suc, ◌+◌, ◌-◌, ◌*◌, ◌<◌, ◌≤◌, List, ◌++◌, length, map, take, drop, ap, ap₂, sym, ◌∙◌, arith, append_assoc, append-nil, length-append}
use Rattle.std.specs.List.{flat_map}
use Rattle.std.proofs.Math.Nat.{mul-le-mul_right}
use Rattle.std.proofs.lemmas.List.{take_at, length-take-le}
use Rattle.std.proofs.lemmas.List.Folds.{flat_map-map}
use Rattle.std.proofs.lemmas.Grind.{flat_map-append}
use Rattle.tk_kernel.specs.Pieces.{pieces}
use Rattle.tk_kernel.proofs.Offers.{pieces-add}

-- one part more is written; what is made of the pieces that are left is still to come
pub part_written : (f : List ℕ → List ℕ) (size s i count : ℕ) (old new part rest all : List ℕ) →
    i < count → length old ≡ count * size →
    new ≡ take (i * size) old ++ part ++ drop (i * size + length part) old →
    part ≡ f (take s rest) → length part ≡ size →
    take (i * size) old ++ flat_map f (pieces s (count - i) rest) ≡ all →
    take ((i + 1) * size) new ++ flat_map f (pieces s (count - (i + 1)) (drop s rest)) ≡ all
part_written f size s i count old new part rest all low room is made long so_far =
    let before = take (i * size) old in
    let behind = drop (i * size + length part) old in
    let k = count - (i + 1) in
    let more : count - i ≡ suc k = omega (arith, low) in
    let within : (i + 1) * size ≤ count * size = mul-le-mul_right size (omega (arith, low)) in
    let before_long : length before ≡ i * size = length-take-le (i * size) old (omega (arith, room, within)) in
    let both : length (before ++ part) ≡ (i + 1) * size =
    omega (arith, length-append before part, before_long, long)
    in
    let others = flat_map f (pieces s k (drop s rest)) in
    let written : take ((i + 1) * size) new ≡ before ++ part =
    ap (take ((i + 1) * size)) is ∙ take_at (before ++ part) behind ((i + 1) * size) both
    in
    ap (λ (xs : List ℕ). xs ++ others) written
    ∙ append_assoc before part others
    ∙ ap (λ (xs : List ℕ). before ++ (xs ++ others)) made
    ∙ ap (λ n. before ++ flat_map f (pieces s n rest)) (sym more)
    ∙ so_far

-- one part more is appended; what is made of the pieces that are left is still to come
pub part_appended : (f : List ℕ → List ℕ) (s i count : ℕ) (old new part rest all : List ℕ) → i < count →
    new ≡ old ++ part → part ≡ f (take s rest) →
    old ++ flat_map f (pieces s (count - i) rest) ≡ all →
    new ++ flat_map f (pieces s (count - (i + 1)) (drop s rest)) ≡ all
part_appended f s i count old new part rest all low is made so_far =
    let k = count - (i + 1) in
    let more : count - i ≡ suc k = omega (arith, low) in
    let others = flat_map f (pieces s k (drop s rest)) in
    ap (λ (xs : List ℕ). xs ++ others) is
    ∙ append_assoc old part others
    ∙ ap (λ (xs : List ℕ). old ++ (xs ++ others)) made
    ∙ ap (λ n. old ++ flat_map f (pieces s n rest)) (sym more)
    ∙ so_far

-- the pieces that are left, after one of them
pub pieces_left : (s i count n m : ℕ) → i < count → n ≡ (count - i) * s → m + s ≡ n → m ≡ (count - (i + 1)) * s
pieces_left s i count n m low all less =
    let more : count - i ≡ suc (count - (i + 1)) = omega (arith, low) in
    let split : suc (count - (i + 1)) * s ≡ s + (count - (i + 1)) * s = omega arith in
    let long : n ≡ s + (count - (i + 1)) * s = all ∙ ap (λ k. k * s) more ∙ split in
    omega (arith, less, long)

-- one of the pieces that are left is whole
pub one_left : (s i count n : ℕ) → i < count → n ≡ (count - i) * s → s ≤ n
one_left s i count n low all =
    let more : count - i ≡ suc (count - (i + 1)) = omega (arith, low) in
    let split : suc (count - (i + 1)) * s ≡ s + (count - (i + 1)) * s = omega arith in
    let long : n ≡ s + (count - (i + 1)) * s = all ∙ ap (λ k. k * s) more ∙ split in
    omega (arith, long)

-- when none are left, all is appended
pub all_appended : (f : List ℕ → List ℕ) (s i count : ℕ) (now rest all : List ℕ) → count ≤ i →
    now ++ flat_map f (pieces s (count - i) rest) ≡ all → now ≡ all
all_appended f s i count now rest all over so_far =
    let none : count - i ≡ 0 = omega (arith, over) in
    sym (append-nil now) ∙ ap (λ n. now ++ flat_map f (pieces s n rest)) (sym none) ∙ so_far

-- all pieces are those of either half
pub twice : (f : List ℕ → List ℕ) (s each : ℕ) (bytes : List ℕ) →
    flat_map f (pieces s (2 * each) bytes)
    ≡ flat_map (λ v. v) (map f (pieces s each bytes))
    ++ flat_map (λ v. v) (map f (pieces s each (drop (each * s) bytes)))
twice f s each bytes =
    let front = pieces s each bytes in
    let back = pieces s each (drop (each * s) bytes) in
    let both : 2 * each ≡ each + each = omega arith in
    ap (λ n. flat_map f (pieces s n bytes)) both
    ∙ ap (flat_map f) (pieces-add s each each bytes)
    ∙ flat_map-append f front back
    ∙ ap₂ (λ (xs ys : List ℕ). xs ++ ys) (sym (flat_map-map (λ v. v) f front)) (sym (flat_map-map (λ v. v) f back))
