-- A frame that isn't refused is its client's next write or read.
use Rattle.std.proofs.Common.{◌≡◌, ℕ, refl, sym, ◌∙◌, true, false, Bool, cond, List, [], ◌∷◌, drop, map}
use Rattle.std.proofs.Common.{Option, Some, None}
use Rattle.std.specs.Prelude.{◌==◌}
use Rattle.std.specs.List.{AllByRecursion}
use Rattle.tk_shape.specs.declared.shape.Shape.{Shape}
use Rattle.tk_frames.specs.declared.fault.FrameError.{FrameError}
use Rattle.tk_frames.specs.declared.fault.FrameError.TheVariants as fault
use Rattle.tk_frames.specs.Faults.{Check, first_fault, hit_check, write_checks, any_read_checks}
use Rattle.tk_frames.specs.Faults.{read_checks_of, read_checks}
use Rattle.tk_frames.specs.Fields.{numbers, write_in, read_in}
use Rattle.tk_frames.proofs.Offers.{IsBytes, write_found, read_found}
use Rattle.tk_serve.specs.declared.due.Due.{Due}
use Rattle.tk_serve.specs.declared.refusal.Refusal.{Refusal}
use Rattle.tk_serve.specs.Seats.{IsWriteOf, IsReadDue}
use Rattle.tk_serve.specs.Refusals.{of_fault, after_fault, write_misplaced, read_misplaced, write_refusal, read_refusal}
use Rattle.tk_serve.proofs.CheckLaws.{after-none, write-taken, read-taken}

-- a fault of bytes, and no want of memory
abbrev IsOfBytes : FrameError → Type 0
IsOfBytes (fault.Length want got) = Unit {0}
IsOfBytes (fault.Kind got) = Unit {0}
IsOfBytes (fault.Version got) = Unit {0}
IsOfBytes (fault.Field name got) = Unit {0}
IsOfBytes fault.Memory = ⊥

abbrev AreOfBytes : List Check → Type 0
AreOfBytes checks = AllByRecursion (λ (c : Check). IsOfBytes c.fault) checks

caused : (f : FrameError) → IsOfBytes f → of_fault f ≡ None → ⊥
caused (fault.Length want got) of none = absurd (cc (none))
caused (fault.Kind got) of none = absurd (cc (none))
caused (fault.Version got) of none = absurd (cc (none))
caused (fault.Field name got) of none = absurd (cc (none))
caused fault.Memory of none = of

one-passed : (b : Bool) (f : FrameError) (rest : Option FrameError) (behind : Option Refusal) → IsOfBytes f →
    (after_fault rest behind ≡ None → rest ≡ None) → after_fault (cond b rest (Some f)) behind ≡ None →
    cond b rest (Some f) ≡ None
one-passed true f rest behind of later none = later none
one-passed false f rest behind of later none = absurd (caused f of none)

-- where there is no cause to refuse no check fails
all-passed : (checks : List Check) (behind : Option Refusal) → AreOfBytes checks →
    after_fault (first_fault checks) behind ≡ None → first_fault checks ≡ None
all-passed [] behind of none = refl
all-passed (c ∷ cs) behind of none =
    one-passed c.passed c.fault (first_fault cs) behind of.0 (all-passed cs behind of.1) none

hits-of : (shape : Shape) (ns : List ℕ) → AreOfBytes (map (hit_check shape) ns)
hits-of shape [] = tt
hits-of shape (n ∷ ns) = (tt, hits-of shape ns)

write-of : (shape : Shape) (bytes : List ℕ) → AreOfBytes (write_checks shape bytes)
write-of shape bytes =
    (tt, (tt, (tt, (tt, (tt, (tt, (tt, hits-of shape (numbers shape.hits (drop 16 (drop 2 bytes))))))))))

read-of_either : (two : Bool) (shape : Shape) (bytes : List ℕ) →
    AreOfBytes (cond two (any_read_checks shape bytes) (read_checks_of shape 2 bytes))
read-of_either true shape bytes = (tt, (tt, (tt, (tt, (tt, (tt, (tt, (tt, tt))))))))
read-of_either false shape bytes = (tt, (tt, (tt, (tt, (tt, (tt, tt))))))

read-of : (shape : Shape) (bytes : List ℕ) → AreOfBytes (read_checks shape bytes)
read-of shape bytes = read-of_either (shape.format == 2) shape bytes

pub passed-write : (shape : Shape) (due : Due) (bytes : List ℕ) → IsBytes bytes →
    write_refusal shape due bytes ≡ None → IsWriteOf shape due.client due.write (write_in shape (drop 2 bytes))
unfolding write_refusal
passed-write shape due bytes fits none =
    let w = write_in shape (drop 2 bytes) in
    let behind = write_misplaced due w in
    let checks = write_checks shape bytes in
    let passed = all-passed checks behind (write-of shape bytes) none in
    let placed : behind ≡ None = sym (after-none (first_fault checks) behind passed) ∙ none in
    (write-taken shape due bytes w (write_found shape bytes fits passed) (sym placed)).is_next

pub passed-read : (shape : Shape) (due : Due) (bytes : List ℕ) → IsBytes bytes →
    read_refusal shape due bytes ≡ None → IsReadDue shape due.client due.read (read_in shape bytes)
unfolding read_refusal
passed-read shape due bytes fits none =
    let r = read_in shape bytes in
    let behind = read_misplaced shape due r in
    let checks = read_checks shape bytes in
    let passed = all-passed checks behind (read-of shape bytes) none in
    let placed : behind ≡ None = sym (after-none (first_fault checks) behind passed) ∙ none in
    (read-taken shape due bytes r (read_found shape bytes fits passed) (sym placed)).is_next
