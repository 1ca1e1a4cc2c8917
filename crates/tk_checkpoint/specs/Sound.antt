-- What is checked of the bytes of a checkpoint, in its order, and the first check that they fail.
use Rattle.std.specs.Prelude.{◌≡◌, ℕ, zero, suc, ◌+◌, ◌-◌, ◌*◌, ◌/◌, ◌%◌, nat_lt, nat_le, ◌==◌, ◌||◌, ◌&&◌, not, min, Bool, List, [], ◌∷◌, ◌++◌, length, map, take, drop, slice_index, Option, Some, None, if◌then◌else◌}
use Rattle.std.specs.List.{list_all, list_any, range_with_len}
use Rattle.tk_shape.specs.declared.shape.Shape.{Shape}
use Rattle.tk_shape.specs.Numbers.{format_and_numbers}
use Rattle.tk_shape.specs.Differences.{fields, side_by_side, are_apart}
use Rattle.tk_shape.specs.Lengths.{turn_count}
use Rattle.tk_frames.specs.Fields.{long_at, numbers}
use Rattle.tk_table.specs.Table.{Slot}
use Rattle.tk_table.specs.Restoring.{slot_number}
use Rattle.tk_checkpoint.specs.declared.error.RestoreError.{RestoreError}
use Rattle.tk_checkpoint.specs.declared.error.RestoreError.TheVariants as refusal
use Rattle.tk_checkpoint.specs.Saved.{head_len, entry_len, table_len}
use Rattle.tk_checkpoint.specs.Reading.{numbers_in, applied_in, last_in, count_in, window_part, positions_in, slots_in}

-- a check: the refusal of bytes that fail it, and whether they pass
pub record Check : Type 0 where
  pub refusal : RestoreError
  pub passed : Bool

abbrev pub check : RestoreError → Bool → Check
check e ok = record { refusal = e; passed = ok }

-- the first that isn't passed
abbrev pub first_refusal : List Check → Option RestoreError
first_refusal [] = None
first_refusal (c ∷ cs) = if c.passed then first_refusal cs else Some c.refusal

-- ---- the numbers in front

abbrev pub is_magic : List ℕ → Bool
is_magic bytes =
    slice_index bytes 0 == 84 && slice_index bytes 1 == 65
    && slice_index bytes 2 == 76 && slice_index bytes 3 == 75

-- the format and the twelve numbers each
abbrev pub shape_checks : Shape → List ℕ → List Check
shape_checks shape bytes =
    map (λ d. check (refusal.Shape d) (not (are_apart d)))
    (side_by_side fields (format_and_numbers shape) (numbers_in bytes))

-- the entries of a whole run
abbrev pub most_applied : Shape → ℕ
most_applied shape = shape.clients * turn_count shape + shape.phases

abbrev pub is_last : Shape → ℕ → ℕ → Bool
is_last shape applied last =
    nat_le last shape.phases && nat_le last applied
    && (if last == 0 then applied == 0 else not (applied == 0))

-- the writes of the window behind so many entries, so many of them marks
abbrev pub count_due : Shape → ℕ → ℕ → ℕ
count_due shape applied last = min shape.retained (applied - last)

abbrev pub length_due : Shape → ℕ → ℕ
length_due shape count = head_len + count * entry_len shape + table_len shape

-- these numbers, in so many bytes
abbrev pub number_checks : Shape → ℕ → ℕ → ℕ → ℕ → List Check
number_checks shape applied last count got =
    check (refusal.Applied applied) (nat_le applied (most_applied shape))
    ∷ check (refusal.Last last) (is_last shape applied last)
    ∷ check (refusal.Count (count_due shape applied last) count) (count == count_due shape applied last)
    ∷ check (refusal.Length (length_due shape count) got) (got == length_due shape count)
    ∷ []

-- what stands before the shape's format and numbers
abbrev pub start_checks : Shape → List ℕ → List Check
start_checks shape bytes =
    check (refusal.Length (head_len + table_len shape) (length bytes))
    (nat_le (head_len + table_len shape) (length bytes))
    ∷ check refusal.Magic (is_magic bytes)
    ∷ check (refusal.Version (slice_index bytes 4)) (slice_index bytes 4 == 1)
    ∷ []

abbrev pub head_checks : Shape → List ℕ → List Check
head_checks shape bytes =
    start_checks shape bytes ++ shape_checks shape bytes
    ++ number_checks shape (applied_in bytes) (last_in bytes) (count_in bytes) (length bytes)

-- ---- the window

-- A write of the window: its position is above the one before it and below what was applied, and
-- its hits are below the bits of the filter.
abbrev pub is_sound_write : Shape → ℕ → ℕ → List ℕ → Bool
is_sound_write shape applied before bytes =
    nat_lt before (long_at 0 bytes) && nat_lt (long_at 0 bytes) applied
    && list_all (λ h. nat_lt h shape.filter_bits) (numbers shape.hits (drop 8 bytes))

-- so many writes, from number i on
unfoldable pub window_checks_from : Shape → ℕ → ℕ → ℕ → ℕ → List ℕ → List Check
window_checks_from shape applied before i zero bytes = []
window_checks_from shape applied before i (suc count) bytes =
    check (refusal.Window i) (is_sound_write shape applied before bytes)
    ∷ window_checks_from shape applied (long_at 0 bytes) (i + 1) count (drop (entry_len shape) bytes)

abbrev pub window_checks : Shape → List ℕ → List Check
window_checks shape bytes =
    window_checks_from shape (applied_in bytes) 0 0 (count_in bytes) (window_part bytes)

-- ---- the table

abbrev pub is_zeros : Slot → Bool
is_zeros s =
    s.position == 0 && s.first == 0 && s.second == 0 && list_all (λ b. b == 0) s.block

-- two buckets of the shape, of which b is one
abbrev pub lies_in : Shape → ℕ → Slot → Bool
lies_in shape b s =
    nat_lt s.first shape.buckets && nat_lt s.second shape.buckets
    && (s.first == b || s.second == b)

-- one of these slots has this position
abbrev pub has_slot : List Slot → ℕ → Bool
has_slot slots position = list_any (λ s. s.position == position) slots

-- an entry of bucket b, with one of the positions, which none of the slots before it has
abbrev pub is_new_entry : Shape → List ℕ → List Slot → ℕ → Slot → Bool
is_new_entry shape positions earlier b s =
    lies_in shape b s && list_any (λ p. p == s.position) positions
    && not (has_slot earlier s.position)

-- slot n of these
abbrev pub is_sound_slot : Shape → List ℕ → List Slot → ℕ → Bool
is_sound_slot shape positions slots n =
    is_zeros (slot_number slots n)
    || is_new_entry shape positions (take n slots) (n / shape.depth) (slot_number slots n)

-- of all slots of a table
abbrev pub slot_checks_of : Shape → List ℕ → List Slot → List Check
slot_checks_of shape positions slots =
    map (λ n. check (refusal.Slot (n / shape.depth) (n % shape.depth)) (is_sound_slot shape positions slots n))
    (range_with_len 0 (shape.buckets * shape.depth))

abbrev pub slot_checks : Shape → List ℕ → List Check
slot_checks shape bytes = slot_checks_of shape (positions_in shape bytes) (slots_in shape bytes)

-- ---- all checks

abbrev pub restore_checks : Shape → List ℕ → List Check
restore_checks shape bytes =
    head_checks shape bytes ++ window_checks shape bytes ++ slot_checks shape bytes

-- the bytes pass all of them
abbrev pub IsSound : Shape → List ℕ → Type 0
IsSound shape bytes = first_refusal (restore_checks shape bytes) ≡ None

-- Bytes that aren't sound are refused for the first check that they fail; only sound ones are refused
-- for want of memory.
abbrev pub IsRefusal : Option RestoreError → RestoreError → Type 0
IsRefusal None e = e ≡ refusal.Memory
IsRefusal (Some r) e = e ≡ r
