-- Entries with their positions: what is read is spelled so and in range where no check fails, and what is in range is read from its spelling.
use Rattle.std.proofs.Common.{◌≡◌, ℕ, ◌+◌, ◌*◌, true, false, ◌||◌, List, [], ◌∷◌, ◌++◌, length, drop, get_or, Some, None, refl, sym, ap, subst, ◌∙◌, arith, eqb, cond, leb}
use Rattle.std.proofs.lemmas.Bool.{le-leb, cond-false}
use Rattle.std.proofs.lemmas.List.{length-drop, nil_from_length}
use Rattle.std.proofs.lemmas.Option.{none-some}
use Rattle.std.proofs.lemmas.Nat.{from_be_bytes-to_be_bytes_4, from_be_bytes-to_be_bytes_8}
use Rattle.tk_shape.specs.declared.shape.Shape.{Shape}
use Rattle.tk_shape.specs.Lengths.{turn_count, record_len}
use Rattle.tk_shape.specs.Limits.{is_between}
use Rattle.tk_shape.proofs.Offers.{between-parts, between-from}
use Rattle.tk_frames.specs.declared.write_frame.WriteFrame.{WriteFrame}
use Rattle.tk_frames.specs.declared.entry.Placed.{Placed}
use Rattle.tk_frames.specs.declared.entry.Entry.{Entry}
use Rattle.tk_frames.specs.declared.entry.Entry.TheVariants.{Write, Mark}
use Rattle.tk_frames.specs.declared.fault.Name.TheVariants as name
use Rattle.tk_frames.specs.declared.fault.FrameError.{FrameError}
use Rattle.tk_frames.specs.declared.fault.FrameError.TheVariants as fault
use Rattle.tk_frames.specs.Spelling.{be32, be64, write_fields, placed_frame, entry_frame}
use Rattle.tk_frames.specs.Ranges.{IsWrite, IsEntry, IsPlaced}
use Rattle.tk_frames.specs.Fields.{number_at, long_at, write_in, placed_mark_in, placed_record_in, placed_in}
use Rattle.tk_frames.specs.Faults.{Check, first_fault, check_on, position_check, write_field_checks, mark_checks, record_checks, placed_checks}
use Rattle.tk_frames.proofs.BigEndian.{IsBytes, IsBytes-drop, number-join, long-join}
use Rattle.tk_frames.proofs.Bounds.{last_position_small}
use Rattle.tk_frames.proofs.Checking.{none-first, none-both}
use Rattle.tk_frames.proofs.Heads.{head-join, head_stands, head_passes}
use Rattle.tk_frames.proofs.WriteFields.{length-write_fields, fields-join, fields-again, fields_in_range, fields_pass}

abbrev mark_of : ℕ → ℕ → Placed
mark_of position e = record { position = position; entry = Mark e }

abbrev record_of : ℕ → WriteFrame → Placed
record_of position w = record { position = position; entry = Write w }

-- ---- marks

mark-again : (shape : Shape) (position e : ℕ) → IsPlaced shape (mark_of position e) → placed_mark_in (placed_frame (mark_of position e)) ≡ mark_of position e
mark-again shape position e fits =
    let at_position = from_be_bytes-to_be_bytes_8 position (omega (arith, fits.position_high, last_position_small shape)) in
    let at_epoch = from_be_bytes-to_be_bytes_4 e (omega (arith, fits.entry.1, shape.in_range.phases_high)) in
    λ i. record { position = at_position i; entry = Mark (at_epoch i) }

mark_passes : (shape : Shape) (position e : ℕ) → IsPlaced shape (mark_of position e) → first_fault (mark_checks shape (placed_frame (mark_of position e))) ≡ None
mark_passes shape position e fits =
    let bytes = placed_frame (mark_of position e) in
    let again : IsPlaced shape (placed_mark_in bytes) = subst (IsPlaced shape) (sym (mark-again shape position e fits)) fits in
    let on_epoch = check_on name.Epoch (number_at 10 bytes) _ in
    head_passes 14 4 bytes (position_check shape bytes ∷ on_epoch ∷ []) (record { long = refl; first = refl; second = refl })
    (none-both (position_check shape bytes) (on_epoch ∷ []) (between-from _ _ _ again.position_low again.position_high)
    (none-both on_epoch [] (between-from _ _ _ again.entry.0 again.entry.1) refl))

pub mark_found : (shape : Shape) (bytes : List ℕ) → IsBytes bytes → first_fault (mark_checks shape bytes) ≡ None →
    IsPlaced shape (placed_mark_in bytes) × (bytes ≡ placed_frame (placed_mark_in bytes))
mark_found shape bytes fits e =
    let on_epoch = check_on name.Epoch (number_at 10 bytes) (is_between 1 shape.phases (number_at 10 bytes)) in
    let head = head_stands 14 4 bytes (position_check shape bytes ∷ on_epoch ∷ []) e in
    let long = head.0.long in
    let position = none-first (position_check shape bytes) (on_epoch ∷ []) head.1 in
    let epoch = none-first on_epoch [] position.1 in
    let placed = between-parts 1 (shape.clients * turn_count shape + shape.phases) (long_at 2 bytes) position.0 in
    let at2 = long-join 2 10 bytes fits refl (omega arith) in
    let at10 = number-join 10 14 bytes fits refl (omega arith) in
    let nothing : drop 14 bytes ≡ [] = nil_from_length _ (omega (arith, length-drop 14 bytes)) in
    let spelled : be64 (long_at 2 bytes) ++ be32 (number_at 10 bytes) ≡ drop 2 bytes =
    ap (λ rest. be64 (long_at 2 bytes) ++ (be32 (number_at 10 bytes) ++ rest)) (sym nothing)
    ∙ ap (λ rest. be64 (long_at 2 bytes) ++ rest) at10
    ∙ at2 in (
      record { position_low = placed.0; position_high = placed.1; entry = between-parts _ _ _ epoch.0 },
      head-join 4 bytes (omega arith) head.0.first head.0.second ∙ ap (λ xs. 4 ∷ 1 ∷ xs) (sym spelled),
    )

-- ---- records

record-again : (shape : Shape) (position : ℕ) (w : WriteFrame) → IsPlaced shape (record_of position w) →
    placed_record_in shape (placed_frame (record_of position w)) ≡ record_of position w
record-again shape position w fits =
    let at_position = from_be_bytes-to_be_bytes_8 position (omega (arith, fits.position_high, last_position_small shape)) in
    let write = fields-again shape w fits.entry in
    λ i. record { position = at_position i; entry = Write (write i) }

pub length-record_frame : (shape : Shape) (position : ℕ) (w : WriteFrame) → IsWrite shape w → length (entry_frame position (Write w)) ≡ record_len shape
length-record_frame shape position w fits = omega (arith, length-write_fields w, fits.hits_counted, fits.block_len)

record_passes : (shape : Shape) (position : ℕ) (w : WriteFrame) → IsPlaced shape (record_of position w) →
    first_fault (record_checks shape (placed_frame (record_of position w))) ≡ None
record_passes shape position w fits =
    let bytes = placed_frame (record_of position w) in
    let again : IsPlaced shape (placed_record_in shape bytes) = subst (IsPlaced shape) (sym (record-again shape position w fits)) fits in
    head_passes (record_len shape) 5 bytes (position_check shape bytes ∷ write_field_checks shape (write_fields w))
    (record { long = length-record_frame shape position w fits.entry; first = refl; second = refl })
    (none-both (position_check shape bytes) (write_field_checks shape (write_fields w)) (between-from _ _ _ again.position_low again.position_high)
    (fields_pass shape (write_fields w) again.entry))

pub record_found : (shape : Shape) (bytes : List ℕ) → IsBytes bytes → first_fault (record_checks shape bytes) ≡ None →
    IsPlaced shape (placed_record_in shape bytes) × (bytes ≡ placed_frame (placed_record_in shape bytes))
record_found shape bytes fits e =
    let fields = drop 10 bytes in
    let head = head_stands (record_len shape) 5 bytes (position_check shape bytes ∷ write_field_checks shape fields) e in
    let long = head.0.long in
    let position = none-first (position_check shape bytes) (write_field_checks shape fields) head.1 in
    let placed = between-parts 1 (shape.clients * turn_count shape + shape.phases) (long_at 2 bytes) position.0 in
    let at2 = long-join 2 10 bytes fits refl (omega arith) in
    let write = fields-join shape fields (IsBytes-drop 10 bytes fits) (omega (arith, length-drop 10 bytes)) in
    let spelled : be64 (long_at 2 bytes) ++ write_fields (write_in shape fields) ≡ drop 2 bytes =
    ap (λ rest. be64 (long_at 2 bytes) ++ rest) write ∙ at2 in (
      record {
        position_low = placed.0;
        position_high = placed.1;
        entry = fields_in_range shape fields (omega (arith, length-drop 10 bytes)) position.1;
      },
      head-join 5 bytes (omega arith) head.0.first head.0.second ∙ ap (λ xs. 5 ∷ 1 ∷ xs) (sym spelled),
    )

-- ---- either

again_at : (shape : Shape) (position : ℕ) (entry : Entry) → IsPlaced shape (record { position = position; entry = entry }) →
    placed_in shape (entry_frame position entry) ≡ record { position = position; entry = entry }
again_at shape position (Mark e) fits = mark-again shape position e fits
again_at shape position (Write w) fits = record-again shape position w fits

pub placed-again : (shape : Shape) (p : Placed) → IsPlaced shape p → placed_in shape (placed_frame p) ≡ p
placed-again shape p fits = again_at shape p.position p.entry fits

abbrev on_length : Shape → List ℕ → Check
on_length shape bytes = record { fault = fault.Length (record_len shape) (length bytes); passed = leb 2 (length bytes) }

abbrev on_kind : List ℕ → Check
on_kind bytes = record { fault = fault.Kind (get_or bytes 0 0); passed = eqb (get_or bytes 0 0) 4 || eqb (get_or bytes 0 0) 5 }

abbrev behind : Shape → List ℕ → List Check
behind shape bytes = cond (eqb (get_or bytes 0 0) 4) (mark_checks shape bytes) (record_checks shape bytes)

passes_at : (shape : Shape) (position : ℕ) (entry : Entry) → IsPlaced shape (record { position = position; entry = entry }) →
    first_fault (placed_checks shape (entry_frame position entry)) ≡ None
passes_at shape position (Mark e) fits = mark_passes shape position e fits
passes_at shape position (Write w) fits =
    let bytes = placed_frame (record_of position w) in
    none-both (on_length shape bytes) (on_kind bytes ∷ record_checks shape bytes) (le-leb 2 (length bytes) (omega arith)) (record_passes shape position w fits)

pub placed_passes : (shape : Shape) (p : Placed) → IsPlaced shape p → first_fault (placed_checks shape (placed_frame p)) ≡ None
placed_passes shape p fits = passes_at shape p.position p.entry fits

pub placed_found : (shape : Shape) (bytes : List ℕ) → IsBytes bytes → first_fault (placed_checks shape bytes) ≡ None →
    IsPlaced shape (placed_in shape bytes) × (bytes ≡ placed_frame (placed_in shape bytes))
placed_found shape bytes fits e =
    let kind = none-first (on_length shape bytes) (on_kind bytes ∷ behind shape bytes) e in
    let others = none-first (on_kind bytes) (behind shape bytes) kind.1 in
    elim (eqb (get_or bytes 0 0) 4) as
    (λ b. first_fault (cond b (mark_checks shape bytes) (record_checks shape bytes)) ≡ None →
    IsPlaced shape (cond b (placed_mark_in bytes) (placed_record_in shape bytes)) × (bytes ≡ placed_frame (cond b (placed_mark_in bytes) (placed_record_in shape bytes))))
    [ true ↦ λ none. mark_found shape bytes fits none | false ↦ λ none. record_found shape bytes fits none ] others.1

-- one that begins another has its length
same_len_at : (shape : Shape) (p q : ℕ) (a b : Entry) (rest : List ℕ) → IsEntry shape a → IsEntry shape b → entry_frame q b ≡ entry_frame p a ++ rest →
    length (entry_frame p a) ≡ length (entry_frame q b)
same_len_at shape p q (Mark d) (Mark e) rest fits_a fits_b same = refl
same_len_at shape p q (Mark d) (Write w) rest fits_a fits_b same = absurd cc
same_len_at shape p q (Write v) (Mark e) rest fits_a fits_b same = absurd cc
same_len_at shape p q (Write v) (Write w) rest fits_a fits_b same = length-record_frame shape p v fits_a ∙ sym (length-record_frame shape q w fits_b)

pub same_len : (shape : Shape) (a b : Placed) (rest : List ℕ) → IsPlaced shape a → IsPlaced shape b → placed_frame b ≡ placed_frame a ++ rest →
    length (placed_frame a) ≡ length (placed_frame b)
same_len shape a b rest fits_a fits_b same = same_len_at shape a.position b.position a.entry b.entry rest fits_a.entry fits_b.entry same

-- what begins with a 5 is no mark
not_a_mark : (bytes : List ℕ) → get_or bytes 0 0 ≡ 5 → eqb (get_or bytes 0 0) 4 ≡ false
not_a_mark bytes five = ap (λ kind. eqb kind 4) five

pub record-is : (shape : Shape) (bytes : List ℕ) (p : Placed) → get_or bytes 0 0 ≡ 5 → IsPlaced shape p → bytes ≡ placed_frame p → placed_record_in shape bytes ≡ p
record-is shape bytes p five fits e =
    sym (cond-false _ (placed_mark_in bytes) (placed_record_in shape bytes) (not_a_mark bytes five)) ∙ ap (placed_in shape) e ∙ placed-again shape p fits

pub record_never_refused : (shape : Shape) (bytes : List ℕ) (p : Placed) (f : FrameError) → get_or bytes 0 0 ≡ 5 → IsPlaced shape p → bytes ≡ placed_frame p →
    Some f ≡ first_fault (record_checks shape bytes) → ⊥
record_never_refused shape bytes p f five fits e failed =
    let passes : first_fault (placed_checks shape bytes) ≡ None = ap (λ xs. first_fault (placed_checks shape xs)) e ∙ placed_passes shape p fits in
    let kind = none-first (on_length shape bytes) (on_kind bytes ∷ behind shape bytes) passes in
    let others = none-first (on_kind bytes) (behind shape bytes) kind.1 in
    let same : behind shape bytes ≡ record_checks shape bytes = cond-false _ (mark_checks shape bytes) (record_checks shape bytes) (not_a_mark bytes five) in
    none-some f (sym (failed ∙ sym (ap first_fault same) ∙ others.1))
