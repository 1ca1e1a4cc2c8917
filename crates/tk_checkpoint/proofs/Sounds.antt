-- What sound bytes have.
use Rattle.std.proofs.Common.{◌≡◌, ℕ, zero, suc, ◌+◌, ◌*◌, ◌<◌, ◌≤◌, true, List, [], ◌∷◌, ◌++◌, length, drop}
use Rattle.std.proofs.Common.{sym, ap, ap₂, ◌∙◌, arith, length-append}
use Rattle.std.specs.Prelude.{◌&&◌, nat_lt, Some, None}
use Rattle.std.specs.List.{AllByRecursion, list_all}
use Rattle.std.proofs.lemmas.Bool.{ltb-true, and_parts}
use Rattle.std.proofs.lemmas.List.{length-drop}
use Rattle.tk_shape.specs.declared.shape.Shape.{Shape}
use Rattle.tk_frames.specs.Fields.{long_at, numbers}
use Rattle.tk_frames.proofs.Offers.{length-numbers}
use Rattle.tk_table.specs.Restoring.{AreAscending, AreSound}
use Rattle.tk_checkpoint.specs.declared.error.RestoreError.{RestoreError}
use Rattle.tk_checkpoint.specs.declared.error.RestoreError.TheVariants as refusal
use Rattle.tk_checkpoint.specs.Saved.{head_len, entry_len, table_len}
use Rattle.tk_checkpoint.specs.Reading.{applied_in, count_in, window_part, table_part, positions_from, hits_from}
use Rattle.tk_checkpoint.specs.Reading.{positions_in, hits_in, slots_in}
use Rattle.tk_checkpoint.specs.Sound.{check, first_refusal, is_sound_write, window_checks_from, head_checks}
use Rattle.tk_checkpoint.specs.Sound.{window_checks, slot_checks, restore_checks, IsSound}
use Rattle.tk_checkpoint.proofs.Checking.{none-first, none-both, refusal-front, refusal-after}
use Rattle.tk_checkpoint.proofs.Heads.{StandsHead, stands_head}
use Rattle.tk_checkpoint.proofs.SlotChecks.{are_sound}

-- ---- the window

each_below : (limit : ℕ) (ns : List ℕ) → list_all (λ h. nat_lt h limit) ns ≡ true → AllByRecursion (λ h. h < limit) ns
each_below limit [] e = tt
each_below limit (n ∷ ns) e =
    let p = and_parts (nat_lt n limit) (list_all (λ h. nat_lt h limit) ns) e in
    (ltb-true n limit p.0, each_below limit ns p.1)

each_append : (P : ℕ → Type 0) (ms ns : List ℕ) → AllByRecursion P ms → AllByRecursion P ns → AllByRecursion P (ms ++ ns)
each_append P [] ns a b = b
each_append P (m ∷ ms) ns a b = (a.0, each_append P ms ns a.1 b)

-- what a window has whose writes pass their checks, behind a position
record IsSoundWindow (shape : Shape) (applied before count : ℕ) (bytes : List ℕ) : Type 0 where
  ascending : AreAscending (before + 1) (positions_from shape.hits count bytes)
  low : AllByRecursion (λ p. p < applied) (positions_from shape.hits count bytes)
  hits : AllByRecursion (λ h. h < shape.filter_bits) (hits_from shape.hits count bytes)

window_sound : (shape : Shape) (applied before at count : ℕ) (bytes : List ℕ) →
    first_refusal (window_checks_from shape applied before at count bytes) ≡ None →
    IsSoundWindow shape applied before count bytes
unfolding positions_from hits_from window_checks_from
window_sound shape applied before at zero bytes none = record { ascending = tt; low = tt; hits = tt }
window_sound shape applied before at (suc count) bytes none =
    let here = long_at 0 bytes in
    let rest = drop (entry_len shape) bytes in
    let hits = numbers shape.hits (drop 8 bytes) in
    let p = none-first (check (refusal.Window at) (is_sound_write shape applied before bytes))
    (window_checks_from shape applied here (at + 1) count rest) none in
    let q = and_parts (nat_lt before here && nat_lt here applied) (list_all (λ h. nat_lt h shape.filter_bits) hits) p.0 in
    let r = and_parts (nat_lt before here) (nat_lt here applied) q.0 in
    let more = window_sound shape applied here (at + 1) count rest p.1 in
    record {
      ascending = (omega (arith, ltb-true before here r.0), more.ascending);
      low = (ltb-true here applied r.1, more.low);
      hits = each_append (λ h. h < shape.filter_bits) hits (hits_from shape.hits count rest)
          (each_below shape.filter_bits hits q.1) more.hits;
    }

pub length-hits : (hits count : ℕ) (bytes : List ℕ) → length (hits_from hits count bytes) ≡ count * hits
unfolding hits_from
length-hits hits zero bytes = omega arith
length-hits hits (suc count) bytes =
    let rest = drop (8 + 4 * hits) bytes in
    length-append (numbers hits (drop 8 bytes)) (hits_from hits count rest)
    ∙ omega (arith, length-numbers hits (drop 8 bytes), length-hits hits count rest)

-- ---- the parts

module _ (shape : Shape) (bytes : List ℕ) (head : StandsHead shape bytes) where
  -- the bytes have room for the window, and behind it the table
  pub room_for_window : count_in bytes * entry_len shape ≤ length (window_part bytes)
  room_for_window = omega (arith, head.long, length-drop head_len bytes)

  pub whole_table : length (table_part shape bytes) ≡ table_len shape
  whole_table =
      omega (
        arith,
        head.long,
        length-drop head_len bytes,
        length-drop (count_in bytes * entry_len shape) (window_part bytes),
      )

pub record IsSoundIn (shape : Shape) (bytes : List ℕ) : Type 0 where
  pub head : StandsHead shape bytes
  pub ascending : AreAscending 1 (positions_in shape bytes)
  pub low : AllByRecursion (λ p. p < applied_in bytes) (positions_in shape bytes)
  pub hits : AllByRecursion (λ h. h < shape.filter_bits) (hits_in shape bytes)
  pub slots : AreSound shape (positions_in shape bytes) (slots_in shape bytes)

pub ascending_in : (shape : Shape) (bytes : List ℕ) → first_refusal (window_checks shape bytes) ≡ None →
    AreAscending 1 (positions_in shape bytes)
ascending_in shape bytes none =
    (window_sound shape (applied_in bytes) 0 0 (count_in bytes) (window_part bytes) none).ascending

pub sound_in : (shape : Shape) (bytes : List ℕ) → IsSound shape bytes → IsSoundIn shape bytes
sound_in shape bytes sound =
    let p = none-both (head_checks shape bytes ++ window_checks shape bytes) (slot_checks shape bytes) sound in
    let q = none-both (head_checks shape bytes) (window_checks shape bytes) p.0 in
    let head = stands_head shape bytes q.0 in
    let window = window_sound shape (applied_in bytes) 0 0 (count_in bytes) (window_part bytes) q.1 in
    record {
      head = head;
      ascending = window.ascending;
      low = window.low;
      hits = window.hits;
      slots = are_sound shape (positions_in shape bytes) (table_part shape bytes) window.ascending
          (whole_table shape bytes head) p.1;
    }

-- the positions below what was applied
pub latest_low : (applied : ℕ) (ps : List ℕ) → AllByRecursion (λ p. p < applied) ps → AllByRecursion (λ p. p ≤ applied) ps
latest_low applied [] low = tt
latest_low applied (p ∷ ps) low = let here = low.0 in (omega (arith, here), latest_low applied ps low.1)

-- ---- which check fails first

module _ (shape : Shape) (bytes : List ℕ) (r : RestoreError) where
  pub fails_in_head : Some r ≡ first_refusal (head_checks shape bytes) → Some r ≡ first_refusal (restore_checks shape bytes)
  fails_in_head e =
      sym (refusal-front (head_checks shape bytes ++ window_checks shape bytes) (slot_checks shape bytes) r
      (sym (refusal-front (head_checks shape bytes) (window_checks shape bytes) r e)))

  pub fails_in_window : None ≡ first_refusal (head_checks shape bytes) → Some r ≡ first_refusal (window_checks shape bytes) →
      Some r ≡ first_refusal (restore_checks shape bytes)
  fails_in_window passed e =
      sym (refusal-front (head_checks shape bytes ++ window_checks shape bytes) (slot_checks shape bytes) r
      (e ∙ sym (refusal-after (head_checks shape bytes) (window_checks shape bytes) passed)))

pub left_to_slots : (shape : Shape) (bytes : List ℕ) → None ≡ first_refusal (head_checks shape bytes) →
    None ≡ first_refusal (window_checks shape bytes) →
    first_refusal (slot_checks shape bytes) ≡ first_refusal (restore_checks shape bytes)
left_to_slots shape bytes head window =
    sym (refusal-after (head_checks shape bytes ++ window_checks shape bytes) (slot_checks shape bytes)
    (window ∙ sym (refusal-after (head_checks shape bytes) (window_checks shape bytes) head)))

-- ---- the parts as the code has them

module _ (shape : Shape) (bytes rest table : List ℕ) (applied count len : ℕ) (started : applied ≡ applied_in bytes)
    (counted : count ≡ count_in bytes) (behind : rest ≡ drop head_len bytes) where
  pub positions_are : positions_from shape.hits count rest ≡ positions_in shape bytes
  positions_are = ap₂ (λ n ys. positions_from shape.hits n ys) counted behind

  pub hits_are : hits_from shape.hits count rest ≡ hits_in shape bytes
  hits_are = ap₂ (λ n ys. hits_from shape.hits n ys) counted behind

  pub checks_are : first_refusal (window_checks_from shape applied 0 0 count rest) ≡ first_refusal (window_checks shape bytes)
  checks_are =
      ap₂ (λ a n. first_refusal (window_checks_from shape a 0 0 n rest)) started counted
      ∙ ap (λ ys. first_refusal (window_checks_from shape (applied_in bytes) 0 0 (count_in bytes) ys)) behind

  pub table_is : len ≡ entry_len shape → table ≡ drop (count * len) rest → table ≡ table_part shape bytes
  table_is sized last =
      last ∙ ap₂ (λ n k. drop (n * k) rest) counted sized
      ∙ ap (drop (count_in bytes * entry_len shape)) behind

  pub window_fits : StandsHead shape bytes → count * entry_len shape ≤ length rest
  window_fits head =
      let n = ap (λ k. k * entry_len shape) counted in
      let long = ap length behind in
      omega (arith, room_for_window shape bytes head, n, long)
