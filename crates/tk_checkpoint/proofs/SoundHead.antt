-- The numbers in front of the checkpoint of entries are sound.
use Rattle.std.proofs.Common.{◌≡◌, ℕ, ◌+◌, ◌-◌, ◌^◌, ◌≤◌, ◌<◌, true, not, cond, List, [], ◌∷◌, ◌++◌, length, map, refl, ap, ap₂, ◌∙◌, arith, inl, inr}
use Rattle.std.specs.Prelude.{◌==◌, nat_le, if◌then◌else◌, Some, None}
use Rattle.std.specs.Int.{w32, to_be_bytes, from_be_bytes}
use Rattle.std.proofs.lemmas.Bool.{le-leb, eq-eqb, ne_eqb, cases_eq}
use Rattle.std.proofs.lemmas.List.{length-drop}
use Rattle.std.proofs.lemmas.Nat.{from_be_bytes-to_be_bytes_4}
use Rattle.tk_shape.specs.declared.shape.Shape.{Shape}
use Rattle.tk_shape.specs.declared.field.Field.{Field}
use Rattle.tk_shape.specs.Numbers.{format_and_numbers}
use Rattle.tk_shape.specs.Differences.{fields, side_by_side, are_apart}
use Rattle.tk_frames.specs.declared.entry.Placed.{Placed}
use Rattle.tk_frames.specs.Order.{records}
use Rattle.tk_frames.specs.InOrder.{IsOrder, mark_count}
use Rattle.tk_frames.proofs.Offers.{marks-most, marks-mark, length-writes_and_marks}
use Rattle.tk_table.specs.Table.{window}
use Rattle.tk_replica.specs.Restoring.{EndsWithMark}
use Rattle.tk_checkpoint.specs.declared.error.RestoreError.TheVariants as refusal
use Rattle.tk_checkpoint.specs.Saved.{saved, spelling, head_len, table_len}
use Rattle.tk_checkpoint.specs.Reading.{numbers_in, applied_in, last_in, count_in}
use Rattle.tk_checkpoint.specs.Sound.{check, first_refusal, start_checks, shape_checks, number_checks, head_checks, most_applied, is_last, count_due, length_due}
use Rattle.tk_checkpoint.proofs.Passing.{passed-append, passed-all, all-three}
use Rattle.tk_checkpoint.proofs.Ranges.{order-length}
use Rattle.tk_checkpoint.proofs.ReadBack.{applied-back, last-back, count-back, length-saved}

-- ---- the numbers of the shape

again : (n : ℕ) → n < 2 ^ 32 → (xs ys : List ℕ) → xs ≡ ys →
    from_be_bytes w32 (to_be_bytes w32 n) ∷ xs ≡ n ∷ ys
again n small xs ys rest = ap₂ (λ (m : ℕ) ms. m ∷ ms) (from_be_bytes-to_be_bytes_4 n small) rest

numbers-back : (shape : Shape) (E : List Placed) → numbers_in (saved shape E) ≡ format_and_numbers shape
unfolding spelling
numbers-back shape E =
    let kept = shape.in_range in
    again shape.format (omega (arith, kept.format_high)) _ _
    (again shape.servers (omega (arith, kept.servers_high)) _ _
    (again shape.buckets (omega (arith, kept.buckets_high)) _ _
    (again shape.depth (omega (arith, kept.depth_high)) _ _
    (again shape.retained (omega (arith, kept.retained_high, kept.table)) _ _
    (again shape.block (omega (arith, kept.block_high)) _ _
    (again shape.filter_bits (omega (arith, kept.filter_high)) _ _
    (again shape.hits (omega (arith, kept.hits_high)) _ _
    (again shape.ahead (omega (arith, kept.ahead_high)) _ _
    (again shape.clients (omega (arith, kept.clients_high)) _ _
    (again shape.phases (omega (arith, kept.phases_high)) _ _
    (again shape.ticks (omega (arith, kept.ticks_high)) _ _
    (again shape.logs (omega (arith, kept.logs_high)) [] [] refl))))))))))))

-- no number differs from itself
same-passed : (fs : List Field) (ns : List ℕ) →
    first_refusal (map (λ d. check (refusal.Shape d) (not (are_apart d))) (side_by_side fs ns ns)) ≡ None
same-passed [] ns = refl
same-passed (f ∷ fs) [] = refl
same-passed (f ∷ fs) (n ∷ ns) =
    ap (λ b. cond (not (not b))
    (first_refusal (map (λ d. check (refusal.Shape d) (not (are_apart d))) (side_by_side fs ns ns)))
    (Some (refusal.Shape (record { field = f; a = n; b = n }))))
    (eq-eqb n n refl)
    ∙ same-passed fs ns

shape-passed : (shape : Shape) (E : List Placed) → first_refusal (shape_checks shape (saved shape E)) ≡ None
shape-passed shape E =
    ap (λ ns. first_refusal (map (λ d. check (refusal.Shape d) (not (are_apart d)))
    (side_by_side fields (format_and_numbers shape) ns))) (numbers-back shape E)
    ∙ same-passed fields (format_and_numbers shape)

-- ---- the other numbers

-- there is a mark just where there are entries
both-none : (applied last : ℕ) → last ≤ applied → (last ≡ 0 → applied ≡ 0) →
    (if last == 0 then applied == 0 else not (applied == 0)) ≡ true
both-none applied last most none = elim (cases_eq last 0) [
  | inl zero_last ↦
      ap (λ b. if b then applied == 0 else not (applied == 0)) (eq-eqb last 0 zero_last)
      ∙ eq-eqb applied 0 (none zero_last)
  | inr some ↦
      ap (λ b. if b then applied == 0 else not (applied == 0)) (ne_eqb last 0 some)
      ∙ ap not (ne_eqb applied 0 (λ zero_applied. some (omega (arith, zero_applied, most))))
]

is_last-passed : (shape : Shape) (applied last : ℕ) → last ≤ shape.phases → last ≤ applied →
    (last ≡ 0 → applied ≡ 0) → is_last shape applied last ≡ true
is_last-passed shape applied last few most none =
    all-three (nat_le last shape.phases) (nat_le last applied) _
    (le-leb last shape.phases few) (le-leb last applied most) (both-none applied last most none)

numbers-passed : (shape : Shape) (applied last count got : ℕ) → applied ≤ most_applied shape →
    is_last shape applied last ≡ true → count ≡ count_due shape applied last → got ≡ length_due shape count →
    first_refusal (number_checks shape applied last count got) ≡ None
numbers-passed shape applied last count got few marks kept long =
    passed-all (number_checks shape applied last count got) (
      le-leb applied (most_applied shape) few,
      (marks, (eq-eqb count (count_due shape applied last) kept, (eq-eqb got (length_due shape count) long, tt))),
    )

-- ---- of entries

no-marks : (E : List Placed) → EndsWithMark E → mark_count E ≡ 0 → length E ≡ 0
no-marks E (inl none) zero_marks = ap length none
no-marks E (inr m) zero_marks =
    absurd (
    let one = marks-mark m.front m.last m.number m.mark in
    let same = ap mark_count m.split in
    omega (arith, one, same, zero_marks)
    )

-- how many writes the window has
length-window : (shape : Shape) (E : List Placed) →
    length (window shape (records E)) ≡ count_due shape (length E) (mark_count E)
length-window shape E =
    let R = records E in
    let left = length-drop (length R - shape.retained) R in
    let both = length-writes_and_marks E in
    omega (arith, left, both)

module _ (shape : Shape) (E : List Placed) (order : IsOrder shape E) (ends : EndsWithMark E) where
  start-passed : first_refusal (start_checks shape (saved shape E)) ≡ None
  unfolding spelling
  start-passed =
      let long = length-saved shape E order in
      passed-all (start_checks shape (saved shape E))
      (le-leb (head_len + table_len shape) (length (saved shape E)) (omega (arith, long)), (refl, (refl, tt)))

  counts-passed : first_refusal (number_checks shape (applied_in (saved shape E)) (last_in (saved shape E))
      (count_in (saved shape E)) (length (saved shape E))) ≡ None
  counts-passed =
      let bytes = saved shape E in
      let count = length (window shape (records E)) in
      ap₂ (λ a l. first_refusal (number_checks shape a l (count_in bytes) (length bytes)))
      (applied-back shape E order) (last-back shape E order)
      ∙ ap (λ n. first_refusal (number_checks shape (length E) (mark_count E) n (length bytes)))
      (count-back shape E order)
      ∙ numbers-passed shape (length E) (mark_count E) count (length bytes)
      (order-length shape E order)
      (is_last-passed shape (length E) (mark_count E) (marks-most shape E order)
      (let both = length-writes_and_marks E in omega (arith, both)) (no-marks E ends))
      (length-window shape E)
      (length-saved shape E order)

  pub head-passed : first_refusal (head_checks shape (saved shape E)) ≡ None
  head-passed =
      let bytes = saved shape E in
      passed-append (start_checks shape bytes ++ shape_checks shape bytes)
      (number_checks shape (applied_in bytes) (last_in bytes) (count_in bytes) (length bytes))
      (passed-append (start_checks shape bytes) (shape_checks shape bytes) start-passed (shape-passed shape E))
      counts-passed
