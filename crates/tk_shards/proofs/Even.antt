-- Cuts of about one distance.
use Rattle.std.proofs.Common.{◌≡◌, ℕ, zero, suc, ◌+◌, ◌-◌, ◌*◌, ◌/◌, ◌<◌, ◌≤◌, cond, ◌||◌, List, [], ◌∷◌, ◌++◌}
use Rattle.std.proofs.Common.{map, length, refl, sym, ap, ◌∙◌, arith, le-ltb, append_assoc, append-nil}
use Rattle.std.specs.Prelude.{Some, None, nat_lt}
use Rattle.std.specs.List.{range_with_len}
use Rattle.std.proofs.Math.Nat.{div-mul-le_self, div-le_of_le-mul, mul-le-mul_right}
use Rattle.std.proofs.lemmas.Nat.{le-div}
use Rattle.std.proofs.lemmas.List.{length-append}
use Rattle.tk_shards.specs.Division.{first_cut}

-- where range s begins
abbrev pub cut_at : ℕ → ℕ → ℕ → ℕ
cut_at buckets shards s = s * buckets / shards

pub cut_within : (buckets shards s : ℕ) → s ≤ shards → cut_at buckets shards s ≤ buckets
cut_within buckets shards s few =
    let more = mul-le-mul_right buckets few in
    div-le_of_le-mul shards more

cut_order : (buckets shards s t : ℕ) → 1 ≤ shards → s ≤ t → cut_at buckets shards s ≤ cut_at buckets shards t
cut_order buckets shards s t some order =
    let more = mul-le-mul_right buckets order in
    let less = div-mul-le_self (s * buckets) shards in
    le-div (s * buckets / shards) (t * buckets) shards some (omega (arith, more, less))

-- they divide the buckets
pub even_from : (buckets shards n before a count : ℕ) → 1 ≤ shards → a + count ≤ shards →
    before ≤ cut_at buckets shards a →
    first_cut n before buckets (map (cut_at buckets shards) (range_with_len a count)) ≡ None
even_from buckets shards n before a zero some few order = refl
even_from buckets shards n before a (suc count) some few order =
    let c = cut_at buckets shards a in
    let rest = map (cut_at buckets shards) (range_with_len (a + 1) count) in
    let next = cut_order buckets shards a (a + 1) some (omega arith) in
    ap (λ t. cond (t || nat_lt buckets c) (Some n) (first_cut (n + 1) c buckets rest)) (le-ltb c before order)
    ∙ ap (λ t. cond t (Some n) (first_cut (n + 1) c buckets rest))
    (le-ltb buckets c (cut_within buckets shards a (omega arith)))
    ∙ even_from buckets shards (n + 1) c (a + 1) count some (omega arith) next

-- the cuts so far, and behind them the others, are all
pub record AreEven (buckets shards s : ℕ) (cuts : List ℕ) : Type 0 where
  pub counted : length cuts + 1 ≡ s
  pub all : cuts ++ map (cut_at buckets shards) (range_with_len s (shards - s))
      ≡ map (cut_at buckets shards) (range_with_len 1 (shards - 1))

pub even_more : (buckets shards s : ℕ) (cuts : List ℕ) (c : ℕ) → s < shards → c ≡ cut_at buckets shards s →
    AreEven buckets shards s cuts → AreEven buckets shards (s + 1) (cuts ++ c ∷ [])
even_more buckets shards s cuts c low is even =
    let left = shards - (s + 1) in
    let one : shards - s ≡ suc left = omega arith in
    let others = map (cut_at buckets shards) (range_with_len (s + 1) left) in
    record {
      counted = let long = length-append cuts (c ∷ []) in omega (arith, long, even.counted);
      all = append_assoc cuts (c ∷ []) others
          ∙ ap (λ x. cuts ++ x ∷ others) is
          ∙ ap (λ n. cuts ++ map (cut_at buckets shards) (range_with_len s n)) (sym one)
          ∙ even.all;
    }

pub even_all : (buckets shards s : ℕ) (cuts : List ℕ) → shards ≤ s → AreEven buckets shards s cuts →
    cuts ≡ map (cut_at buckets shards) (range_with_len 1 (shards - 1))
even_all buckets shards s cuts high even =
    let none : shards - s ≡ 0 = omega arith in
    sym (append-nil cuts)
    ∙ ap (λ n. cuts ++ map (cut_at buckets shards) (range_with_len s n)) (sym none) ∙ even.all

pub even_divides : (buckets shards : ℕ) → 1 ≤ shards →
    first_cut 0 0 buckets (map (cut_at buckets shards) (range_with_len 1 (shards - 1))) ≡ None
even_divides buckets shards some = even_from buckets shards 0 0 1 (shards - 1) some (omega arith) (omega arith)
