-- The slots of a table, one by one.
use Rattle.std.proofs.Common.{◌≡◌, ℕ, zero, suc, ◌+◌, ◌*◌, ◌/◌, ◌%◌, ◌<◌, ◌≤◌, inl, inr, Bool, true, false, cond}
use Rattle.std.proofs.Common.{List, [], ◌∷◌, ◌++◌, map, length, get_or, take, drop, replicate, refl, sym, ap, ap₂, ◌∙◌, subst, arith, eq-eqb}
use Rattle.std.specs.Prelude.{◌==◌, ◌||◌, ◌&&◌, nat_lt, not, Some, None}
use Rattle.std.specs.List.{list_any, list_all, range_with_len}
use Rattle.std.proofs.lemmas.Bool.{cases_lt, cond-true, cond-false, ltb-true, eqb-true, and_parts, or_cases, not-true, false≢true}
use Rattle.std.proofs.lemmas.List.{take_more, get_or-take, length-drop, length-take-le, drop-drop}
use Rattle.std.proofs.lemmas.List.Folds.{list_any_at}
use Rattle.std.proofs.lemmas.Nat.{row_fits}
use Rattle.tk_shape.specs.declared.shape.Shape.{Shape}
use Rattle.tk_shape.specs.Lengths.{slot_len, width}
use Rattle.tk_frames.specs.Lists.{IsIn}
use Rattle.tk_frames.specs.Slots.{slot_from}
use Rattle.tk_table.specs.Table.{Slot, empty_slot}
use Rattle.tk_table.specs.Restoring.{AreAscending, AreSound, IsNewEntry, slots_spelled, slot_number}
use Rattle.tk_table.proofs.Offers.{length-slots_spelled, slot_spelled}
use Rattle.tk_checkpoint.specs.declared.error.RestoreError.TheVariants as refusal
use Rattle.tk_checkpoint.specs.Sound.{Check, check, first_refusal, is_zeros, lies_in, has_slot, is_new_entry, is_sound_slot, slot_checks_of}
use Rattle.tk_checkpoint.specs.Finding.{flags}
use Rattle.tk_checkpoint.proofs.Passing.{passed-range}

-- ---- a check for each number

first_failed_from : (f : ℕ → Check) (a count n : ℕ) → a ≤ n → n < a + count →
    ((m : ℕ) → a ≤ m → m < n → (f m).passed ≡ true) → (f n).passed ≡ false →
    first_refusal (map f (range_with_len a count)) ≡ Some (f n).refusal
first_failed_from f a zero n low high each failed = absurd (omega arith)
first_failed_from f a (suc count) n low high each failed =
    elim (cases_lt a n) [
      | inl before ↦
          cond-true (f a).passed _ _ (each a (omega arith) before)
          ∙ first_failed_from f (a + 1) count n (omega (arith, before)) (omega (arith, high))
          (λ m up down. each m (omega (arith, up)) down) failed
      | inr behind ↦
          let here : n ≡ a = omega (arith, low, behind) in
          let fails : (f a).passed ≡ false = subst (λ k. (f k).passed ≡ false) here failed in
          cond-false (f a).passed _ _ fails ∙ ap (λ k. Some (f k).refusal) (sym here)
    ]

each_passed_from : (f : ℕ → Check) (a count : ℕ) → first_refusal (map f (range_with_len a count)) ≡ None →
    (n : ℕ) → a ≤ n → n < a + count → (f n).passed ≡ true
each_passed_from f a zero none n low high = absurd (omega arith)
each_passed_from f a (suc count) none n low high =
    let both : ((f a).passed ≡ true) × (first_refusal (map f (range_with_len (a + 1) count)) ≡ None) =
    elim (f a).passed as (λ ok. cond ok (first_refusal (map f (range_with_len (a + 1) count))) (Some (f a).refusal) ≡ None →
    (ok ≡ true) × (first_refusal (map f (range_with_len (a + 1) count)) ≡ None))
    [ true ↦ λ rest. (refl, rest) | false ↦ λ some. absurd cc ] none in
    elim (cases_lt a n) [
      | inl before ↦ each_passed_from f (a + 1) count both.1 n (omega (arith, before)) (omega (arith, high))
      | inr behind ↦
          let here : a ≡ n = omega (arith, low, behind) in
          subst (λ k. (f k).passed ≡ true) here both.0
    ]

-- ---- the slots so far

-- The slots so far are sound, and `found` tells which positions they have; `rest` has the others.
pub record AreChecked (shape : Shape) (positions table : List ℕ) (n : ℕ) (found : List Bool) (rest : List ℕ) : Type 0 where
  pub left : rest ≡ drop (n * slot_len shape) table
  pub flagged : found ≡ flags positions (take n (slots_spelled shape table))
  pub passed : (m : ℕ) → m < n → is_sound_slot shape positions (slots_spelled shape table) m ≡ true

module _ (shape : Shape) (positions table : List ℕ) where
  pub none_checked : (found : List Bool) → found ≡ flags positions [] →
      AreChecked shape positions table 0 found table
  none_checked found fresh =
      let none : 0 * slot_len shape ≡ 0 = omega arith in
      record {
        left = ap (λ k. drop k table) (sym none);
        flagged = fresh;
        passed = λ m low. absurd (omega arith);
      }

  module _ (n : ℕ) (found : List Bool) (rest slot : List ℕ) (low : n < shape.buckets * shape.depth)
      (so_far : AreChecked shape positions table n found rest) (front : slot ≡ take (slot_len shape) rest) where
    pub this_slot : slot_number (slots_spelled shape table) n ≡ slot_from slot
    this_slot =
        slot_spelled shape table n low
        ∙ ap (λ ys. slot_from (take (slot_len shape) ys)) (sym so_far.left) ∙ ap slot_from (sym front)

    pub this_sound : (b : ℕ) (result : Bool) → b ≡ n / shape.depth →
        result ≡ (is_zeros (slot_from slot)
        || is_new_entry shape positions (take n (slots_spelled shape table)) b (slot_from slot)) →
        is_sound_slot shape positions (slots_spelled shape table) n ≡ result
    this_sound b result is told =
        let slots = slots_spelled shape table in
        ap (λ (s : Slot). is_zeros s || is_new_entry shape positions (take n slots) (n / shape.depth) s) this_slot
        ∙ ap (λ c. is_zeros (slot_from slot) || is_new_entry shape positions (take n slots) c (slot_from slot)) (sym is)
        ∙ sym told

    pub one_more_checked : (next : List Bool) (behind : List ℕ) → behind ≡ drop (slot_len shape) rest →
        next ≡ flags positions (take n (slots_spelled shape table) ++ slot_from slot ∷ []) →
        is_sound_slot shape positions (slots_spelled shape table) n ≡ true →
        AreChecked shape positions table (n + 1) next behind
    one_more_checked next behind back noted sound =
        let slots = slots_spelled shape table in
        let len = slot_len shape in
        let more : n * len + len ≡ (n + 1) * len = omega arith in
        let long = length-slots_spelled shape table in
        let grown : take (n + 1) slots ≡ take n slots ++ slot_from slot ∷ [] =
        take_more slots n _ (omega (arith, long, low)) ∙ ap (λ (s : Slot). take n slots ++ s ∷ []) this_slot in
        record {
          left = back ∙ ap (drop len) so_far.left ∙ drop-drop len (n * len) table ∙ ap (λ k. drop k table) more;
          flagged = noted ∙ ap (flags positions) (sym grown);
          passed = λ m before. elim (cases_lt m n) [
            | inl earlier ↦ so_far.passed m earlier
            | inr here ↦
                let at : n ≡ m = omega (arith, before, here) in
                subst (λ k. is_sound_slot shape positions slots k ≡ true) at sound
          ];
        }

    pub first_unsound : is_sound_slot shape positions (slots_spelled shape table) n ≡ false →
        first_refusal (slot_checks_of shape positions (slots_spelled shape table))
        ≡ Some (refusal.Slot (n / shape.depth) (n % shape.depth))
    first_unsound unsound =
        first_failed_from
        (λ k. check (refusal.Slot (k / shape.depth) (k % shape.depth)) (is_sound_slot shape positions (slots_spelled shape table) k))
        0 (shape.buckets * shape.depth) n (omega arith) (omega (arith, low)) (λ m up down. so_far.passed m down) unsound

  pub all_checked : (n : ℕ) (found : List Bool) (rest : List ℕ) → shape.buckets * shape.depth ≤ n →
      AreChecked shape positions table n found rest →
      first_refusal (slot_checks_of shape positions (slots_spelled shape table)) ≡ None
  all_checked n found rest high so_far =
      passed-range
      (λ k. check (refusal.Slot (k / shape.depth) (k % shape.depth)) (is_sound_slot shape positions (slots_spelled shape table) k))
      0 (shape.buckets * shape.depth) (λ m up down. so_far.passed m (omega (arith, down, high)))

-- ---- what the checks tell

zeros : (bytes : List ℕ) → list_all (λ b. b == 0) bytes ≡ true → bytes ≡ replicate (length bytes) 0
zeros [] e = refl
zeros (b ∷ bs) e =
    let p = and_parts (b == 0) (list_all (λ x. x == 0) bs) e in
    ap₂ (λ x xs. x ∷ xs) (eqb-true b 0 p.0) (zeros bs p.1)

is_in : (ps : List ℕ) (x : ℕ) → list_any (λ p. p == x) ps ≡ true → IsIn ps x
is_in [] x e = absurd cc
is_in (p ∷ ps) x e =
    elim (or_cases (p == x) (list_any (λ q. q == x) ps) e) [
      | inl here ↦ inl (eqb-true p x here)
      | inr there ↦ inr (is_in ps x there)
    ]

above_low : (p : ℕ) (ps : List ℕ) (x : ℕ) → AreAscending p ps → IsIn ps x → p ≤ x
above_low p [] x up there = absurd there
above_low p (q ∷ qs) x up (inl here) = omega (arith, up.0, here)
above_low p (q ∷ qs) x up (inr there) = omega (arith, up.0, above_low (q + 1) qs x up.1 there)

module _ (shape : Shape) (positions table : List ℕ) (ascending : AreAscending 1 positions)
    (whole : length table ≡ shape.buckets * width shape) where
  abbrev slots : List Slot
  slots = slots_spelled shape table

  -- a slot's block has the shape's length
  block_length : (n : ℕ) → n < shape.buckets * shape.depth →
      length (slot_number (slots_spelled shape table) n).block ≡ shape.block
  block_length n low =
      let len = slot_len shape in
      let ends = row_fits n len (shape.buckets * shape.depth) len low (omega arith) in
      let rest = drop (n * len) table in
      let room : len ≤ length rest = omega (arith, ends, whole, length-drop (n * len) table) in
      ap (λ (s : Slot). length s.block) (slot_spelled shape table n low)
      ∙ length-drop 16 (take len rest) ∙ omega (arith, length-take-le len rest room)

  slot_made : ℕ → ℕ → ℕ → List ℕ → Slot
  slot_made position first second block =
      record { position = position; first = first; second = second; block = block }

  when_zeros : (s : Slot) → length s.block ≡ shape.block → is_zeros s ≡ true → s ≡ empty_slot shape
  unfolding slot_made
  when_zeros s long e =
      let p = and_parts (s.position == 0 && s.first == 0 && s.second == 0) (list_all (λ b. b == 0) s.block) e in
      let q = and_parts (s.position == 0 && s.first == 0) (s.second == 0) p.0 in
      let r = and_parts (s.position == 0) (s.first == 0) q.0 in
      ap (λ n. slot_made n s.first s.second s.block) (eqb-true s.position 0 r.0)
      ∙ ap₂ (λ a b. slot_made 0 a b s.block) (eqb-true s.first 0 r.1) (eqb-true s.second 0 q.1)
      ∙ ap (slot_made 0 0 0) (zeros s.block p.1 ∙ ap (λ k. replicate k 0) long)

  when_new : (n : ℕ) → n < shape.buckets * shape.depth →
      is_new_entry shape positions (take n (slots_spelled shape table)) (n / shape.depth) (slot_number (slots_spelled shape table) n) ≡ true →
      IsNewEntry shape positions (slots_spelled shape table) n
  when_new n low e =
      let s = slot_number slots n in
      let p = and_parts (lies_in shape (n / shape.depth) s && list_any (λ x. x == s.position) positions)
      (not (has_slot (take n slots) s.position)) e in
      let q = and_parts (lies_in shape (n / shape.depth) s) (list_any (λ x. x == s.position) positions) p.0 in
      let a = and_parts (nat_lt s.first shape.buckets && nat_lt s.second shape.buckets)
      (s.first == n / shape.depth || s.second == n / shape.depth) q.0 in
      let b = and_parts (nat_lt s.first shape.buckets) (nat_lt s.second shape.buckets) a.0 in
      let named = is_in positions s.position q.1 in
      let unfound = not-true (has_slot (take n slots) s.position) p.1 in
      let long = length-slots_spelled shape table in
      record {
        entry = record {
          position = above_low 1 positions s.position ascending named;
          first = ltb-true s.first shape.buckets b.0;
          second = ltb-true s.second shape.buckets b.1;
          own = elim (or_cases (s.first == n / shape.depth) (s.second == n / shape.depth) a.1) [
            | inl first ↦ inl (eqb-true s.first (n / shape.depth) first)
            | inr second ↦ inr (eqb-true s.second (n / shape.depth) second)
          ];
        };
        named = named;
        alone = λ m before is.
            let d = slot_number [] 0 in
            let inside : m < length (take n slots) = omega (arith, before, low, long, length-take-le n slots (omega (arith, low, long))) in
            let here : get_or (take n slots) m d ≡ slot_number slots m = get_or-take n slots m d before in
            let found = list_any_at (λ (e : Slot). e.position == s.position) (take n slots) m d inside
            (ap (λ (e : Slot). e.position == s.position) here ∙ eq-eqb (slot_number slots m).position s.position is) in
            absurd (false≢true (sym unfound ∙ found));
      }

  pub are_sound : first_refusal (slot_checks_of shape positions (slots_spelled shape table)) ≡ None →
      AreSound shape positions (slots_spelled shape table)
  are_sound none n low =
      let long = length-slots_spelled shape table in
      let within : n < shape.buckets * shape.depth = omega (arith, low, long) in
      let passed = each_passed_from
      (λ k. check (refusal.Slot (k / shape.depth) (k % shape.depth)) (is_sound_slot shape positions slots k))
      0 (shape.buckets * shape.depth) none n (omega arith) (omega (arith, within)) in
      elim (or_cases (is_zeros (slot_number slots n))
      (is_new_entry shape positions (take n slots) (n / shape.depth) (slot_number slots n)) passed) [
        | inl empty ↦ inl (when_zeros (slot_number slots n) (block_length n within) empty)
        | inr new ↦ inr (when_new n within new)
      ]

-- a slot of zeros has position 0
pub zero_position : (s : Slot) → is_zeros s ≡ true → s.position ≡ 0
zero_position s e =
    let p = and_parts (s.position == 0 && s.first == 0 && s.second == 0) (list_all (λ b. b == 0) s.block) e in
    let q = and_parts (s.position == 0 && s.first == 0) (s.second == 0) p.0 in
    eqb-true s.position 0 (and_parts (s.position == 0) (s.first == 0) q.0).0
