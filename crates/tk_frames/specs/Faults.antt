-- What a decoder checks, in its order, and the first check that bytes fail.
use Rattle.std.specs.Prelude.{◌≡◌, ℕ, ◌+◌, ◌*◌, nat_lt, nat_le, ◌==◌, ◌||◌, Bool, List, [], ◌∷◌, ◌++◌, length, map, drop, slice_index, Option, Some, None, Result, MatchResult, if◌then◌else◌, true, false}
use Rattle.tk_shape.specs.declared.shape.Shape.{Shape}
use Rattle.tk_shape.specs.Lengths.{turn_count, write_len, record_len, read_len, seed_read_len, reply_len}
use Rattle.tk_shape.specs.Limits.{is_between}
use Rattle.tk_frames.specs.declared.fault.Name.{Name}
use Rattle.tk_frames.specs.declared.fault.Name.TheVariants as name
use Rattle.tk_frames.specs.declared.fault.FrameError.{FrameError}
use Rattle.tk_frames.specs.declared.fault.FrameError.TheVariants as fault
use Rattle.tk_frames.specs.Fields.{number_at, long_at, numbers}

-- a check: the fault of bytes that fail it, and whether they pass
pub record Check : Type 0 where
  pub fault : FrameError
  pub passed : Bool

-- the first that isn't passed
abbrev pub first_fault : List Check → Option FrameError
first_fault [] = None
first_fault (c ∷ cs) = if c.passed then first_fault cs else Some c.fault

abbrev pub check_on : Name → ℕ → Bool → Check
check_on field n ok = record { fault = fault.Field field n; passed = ok }

-- ---- what stands before the fields

abbrev pub length_check : ℕ → List ℕ → Check
length_check want bytes = record { fault = fault.Length want (length bytes); passed = length bytes == want }

abbrev pub kind_check : ℕ → List ℕ → Check
kind_check kind bytes = record { fault = fault.Kind (slice_index bytes 0); passed = slice_index bytes 0 == kind }

abbrev pub version_check : List ℕ → Check
version_check bytes = record { fault = fault.Version (slice_index bytes 1); passed = slice_index bytes 1 == 1 }

abbrev pub head_checks : ℕ → ℕ → List ℕ → List Check
head_checks want kind bytes = length_check want bytes ∷ kind_check kind bytes ∷ version_check bytes ∷ []

-- ---- fields

abbrev pub client_check : Shape → ℕ → Check
client_check shape n = check_on name.Client n (nat_lt n shape.clients)

abbrev pub turn_check : Shape → ℕ → Check
turn_check shape n = check_on name.Turn n (nat_lt n (turn_count shape))

abbrev pub hit_check : Shape → ℕ → Check
hit_check shape n = check_on name.Hit n (nat_lt n shape.filter_bits)

-- the fields of a write
abbrev pub write_field_checks : Shape → List ℕ → List Check
write_field_checks shape fields =
    client_check shape (number_at 0 fields)
    ∷ turn_check shape (number_at 4 fields)
    ∷ check_on name.First (number_at 8 fields) (nat_lt (number_at 8 fields) shape.buckets)
    ∷ check_on name.Second (number_at 12 fields) (nat_lt (number_at 12 fields) shape.buckets)
    ∷ map (hit_check shape) (numbers shape.hits (drop 16 fields))

-- whom a read or a reply is of
abbrev pub asker_checks : Shape → List ℕ → List Check
asker_checks shape bytes =
    client_check shape (number_at 2 bytes)
    ∷ turn_check shape (number_at 6 bytes)
    ∷ check_on name.Epoch (number_at 10 bytes) (nat_le (number_at 10 bytes) shape.phases)
    ∷ []

abbrev pub position_check : Shape → List ℕ → Check
position_check shape bytes =
    check_on name.Position (long_at 2 bytes) (is_between 1 (shape.clients * turn_count shape + shape.phases) (long_at 2 bytes))

-- ---- frames

abbrev pub write_checks : Shape → List ℕ → List Check
write_checks shape bytes = head_checks (write_len shape) 1 bytes ++ write_field_checks shape (drop 2 bytes)

-- a frame of a kind and a length that names whom it is of
abbrev pub asked_checks : Shape → ℕ → ℕ → List ℕ → List Check
asked_checks shape want kind bytes = head_checks want kind bytes ++ asker_checks shape bytes

-- the length of a read of a kind
abbrev pub read_len_of : Shape → ℕ → ℕ
read_len_of shape kind =
    if kind == 6 then seed_read_len shape false
    else if kind == 7 then seed_read_len shape true
    else read_len shape

-- a read of a kind
abbrev pub read_checks_of : Shape → ℕ → List ℕ → List Check
read_checks_of shape kind bytes = asked_checks shape (read_len_of shape kind) kind bytes

-- a read of any kind: the kind comes first, since reads differ in length
abbrev pub any_read_checks : Shape → List ℕ → List Check
any_read_checks shape bytes =
    let kind = slice_index bytes 0 in
    record { fault = fault.Length (read_len shape) (length bytes); passed = nat_le 2 (length bytes) }
    ∷ record { fault = fault.Kind kind; passed = kind == 2 || kind == 6 || kind == 7 }
    ∷ read_checks_of shape kind bytes

-- in format 1 there is one kind of read
abbrev pub read_checks : Shape → List ℕ → List Check
read_checks shape bytes =
    if shape.format == 2 then any_read_checks shape bytes else read_checks_of shape 2 bytes

abbrev pub reply_checks : Shape → List ℕ → List Check
reply_checks shape bytes = asked_checks shape (reply_len shape) 3 bytes

abbrev pub mark_checks : Shape → List ℕ → List Check
mark_checks shape bytes =
    head_checks 14 4 bytes
    ++ position_check shape bytes
    ∷ check_on name.Epoch (number_at 10 bytes) (is_between 1 shape.phases (number_at 10 bytes))
    ∷ []

abbrev pub record_checks : Shape → List ℕ → List Check
record_checks shape bytes =
    head_checks (record_len shape) 5 bytes ++ position_check shape bytes ∷ write_field_checks shape (drop 10 bytes)

-- an entry with its position: the kind comes first, since a mark and a record differ in length
abbrev pub placed_checks : Shape → List ℕ → List Check
placed_checks shape bytes =
    record { fault = fault.Length (record_len shape) (length bytes); passed = nat_le 2 (length bytes) }
    ∷ record { fault = fault.Kind (slice_index bytes 0); passed = slice_index bytes 0 == 4 || slice_index bytes 0 == 5 }
    ∷ (if slice_index bytes 0 == 4 then mark_checks shape bytes else record_checks shape bytes)

-- ---- what a decoder answers

-- Bytes with a fault are refused for their first one; only bytes without one are refused because memory ran out.
abbrev pub IsRefusal : Option FrameError → FrameError → Type 0
IsRefusal None e = e ≡ fault.Memory
IsRefusal (Some f) e = e ≡ f

-- the value, or that memory ran out
abbrev pub GivesUnlessMemory : {V : Type 0} → Result V FrameError → V → Type 0
GivesUnlessMemory result v = MatchResult result (λ x. x ≡ v) (λ e. e ≡ fault.Memory)
