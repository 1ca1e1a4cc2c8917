-- What the checks of the numbers in front tell.
use Rattle.std.proofs.Common.{◌≡◌, ℕ, ◌+◌, ◌-◌, ◌≤◌, true, List, [], ◌∷◌, ◌++◌, map, length, refl, sym, ap₂, arith}
use Rattle.std.specs.Prelude.{◌==◌, nat_le, not, None, slice_index}
use Rattle.std.proofs.Math.Nat.{min-le_left}
use Rattle.std.proofs.lemmas.Bool.{eqb-true, not-true, not-false}
use Rattle.tk_shape.specs.declared.shape.Shape.{Shape}
use Rattle.tk_shape.specs.declared.field.Field.{Field}
use Rattle.tk_shape.specs.declared.differs.Differs.{Differs}
use Rattle.tk_shape.specs.Numbers.{format_and_numbers}
use Rattle.tk_shape.specs.Differences.{fields, side_by_side, are_apart}
use Rattle.tk_checkpoint.specs.declared.error.RestoreError.TheVariants as refusal
use Rattle.tk_checkpoint.specs.Saved.{head_len, table_len}
use Rattle.tk_checkpoint.specs.Reading.{numbers_in, applied_in, last_in, count_in}
use Rattle.tk_checkpoint.specs.Sound.{check, first_refusal, head_checks, start_checks, shape_checks, number_checks}
use Rattle.tk_checkpoint.specs.Sound.{is_magic, is_last, most_applied, count_due, length_due}
use Rattle.tk_checkpoint.proofs.Checking.{none-both, none-first}

-- the numbers in front pass their checks
pub record StandsHead (shape : Shape) (bytes : List ℕ) : Type 0 where
  pub magic : is_magic bytes ≡ true
  pub version : slice_index bytes 4 ≡ 1
  pub numbers : numbers_in bytes ≡ format_and_numbers shape
  pub count : count_in bytes ≡ count_due shape (applied_in bytes) (last_in bytes)
  pub long : length bytes ≡ length_due shape (count_in bytes)

-- numbers that nowhere differ are the same
same_numbers : (fs : List Field) (ns ms : List ℕ) → length ns ≡ length fs → length ms ≡ length fs →
    first_refusal (map (λ d. check (refusal.Shape d) (not (are_apart d))) (side_by_side fs ns ms)) ≡ None → ns ≡ ms
same_numbers [] [] [] one other none = refl
same_numbers [] (n ∷ ns) ms one other none = absurd (omega (arith, one))
same_numbers [] [] (m ∷ ms) one other none = absurd (omega (arith, other))
same_numbers (f ∷ fs) [] ms one other none = absurd (omega (arith, one))
same_numbers (f ∷ fs) (n ∷ ns) [] one other none = absurd (omega (arith, other))
same_numbers (f ∷ fs) (n ∷ ns) (m ∷ ms) one other none =
    let d : Differs = record { field = f; a = n; b = m } in
    let p = none-first (check (refusal.Shape d) (not (are_apart d)))
    (map (λ e. check (refusal.Shape e) (not (are_apart e))) (side_by_side fs ns ms)) none in
    ap₂ (λ x xs. x ∷ xs) (eqb-true n m (not-false (n == m) (not-true (not (n == m)) p.0)))
    (same_numbers fs ns ms (omega (arith, one)) (omega (arith, other)) p.1)

pub stands_head : (shape : Shape) (bytes : List ℕ) → first_refusal (head_checks shape bytes) ≡ None → StandsHead shape bytes
stands_head shape bytes none =
    let start = start_checks shape bytes in
    let same = shape_checks shape bytes in
    let counts = number_checks shape (applied_in bytes) (last_in bytes) (count_in bytes) (length bytes) in
    let p = none-both (start ++ same) counts none in
    let q = none-both start same p.0 in
    let magic = check refusal.Magic (is_magic bytes) in
    let version = check (refusal.Version (slice_index bytes 4)) (slice_index bytes 4 == 1) in
    let due = count_due shape (applied_in bytes) (last_in bytes) in
    let last = check (refusal.Last (last_in bytes)) (is_last shape (applied_in bytes) (last_in bytes)) in
    let count = check (refusal.Count due (count_in bytes)) (count_in bytes == due) in
    let long = check (refusal.Length (length_due shape (count_in bytes)) (length bytes))
    (length bytes == length_due shape (count_in bytes)) in
    let a = none-first (check (refusal.Length (head_len + table_len shape) (length bytes))
    (nat_le (head_len + table_len shape) (length bytes))) (magic ∷ version ∷ []) q.0 in
    let b = none-first magic (version ∷ []) a.1 in
    let c = none-first version [] b.1 in
    let e = none-first (check (refusal.Applied (applied_in bytes)) (nat_le (applied_in bytes) (most_applied shape)))
    (last ∷ count ∷ long ∷ []) p.1 in
    let f = none-first last (count ∷ long ∷ []) e.1 in
    let g = none-first count (long ∷ []) f.1 in
    let h = none-first long [] g.1 in
    record {
      magic = b.0;
      version = eqb-true (slice_index bytes 4) 1 c.0;
      numbers = sym (same_numbers fields (format_and_numbers shape) (numbers_in bytes) refl refl q.1);
      count = eqb-true (count_in bytes) due g.0;
      long = eqb-true (length bytes) (length_due shape (count_in bytes)) h.0;
    }

-- so many writes are retained
pub few : (shape : Shape) (bytes : List ℕ) → StandsHead shape bytes → count_in bytes ≤ shape.retained
few shape bytes stands = omega (arith, stands.count, min-le_left shape.retained (applied_in bytes - last_in bytes))

-- ---- the three parts of the checks
