-- A bucket's slots are read from its bytes again.
use Rattle.std.proofs.Common.{◌≡◌, refl, ap, sym, ◌∙◌, arith, List, [], ◌∷◌, ◌++◌, length, map, ◌*◌, drop}
use Rattle.std.specs.Prelude.{flat_map}
use Rattle.std.specs.List.{AllByRecursion}
use Rattle.std.proofs.lemmas.List.{length-append, take_at, drop_at}
use Rattle.std.proofs.lemmas.Nat.{from_be_bytes-to_be_bytes_4, from_be_bytes-to_be_bytes_8}
use Rattle.tk_shape.specs.declared.shape.Shape.{Shape}
use Rattle.tk_shape.specs.Lengths.{slot_len}
use Rattle.tk_table.specs.Table.{Slot, slot_bytes}
use Rattle.tk_kernel.specs.Pieces.{pieces}
use Rattle.tk_frames.specs.Slots.{slot_from}
use Rattle.tk_table.specs.Laws.{IsSpellable, SlotsReadBack}

slot-again : (shape : Shape) (s : Slot) → IsSpellable shape s → slot_from (slot_bytes s) ≡ s
slot-again shape s fits =
    ap (λ n. record (slot_from (slot_bytes s)) { position = n })
    (from_be_bytes-to_be_bytes_8 s.position fits.position)
    ∙ ap (λ n. record s { first = n; second = (slot_from (slot_bytes s)).second })
    (from_be_bytes-to_be_bytes_4 s.first fits.first)
    ∙ ap (λ n. record s { second = n }) (from_be_bytes-to_be_bytes_4 s.second fits.second)

length-slot : (shape : Shape) (s : Slot) → IsSpellable shape s →
    length (slot_bytes s) ≡ slot_len shape
length-slot shape s fits = let block = fits.block in omega (arith, block)

slots-again : (shape : Shape) (slots : List Slot) → AllByRecursion (IsSpellable shape) slots →
    map slot_from (pieces (slot_len shape) (length slots) (flat_map slot_bytes slots)) ≡ slots
slots-again shape [] fits = refl
slots-again shape (s ∷ slots) fits =
    let size = slot_len shape in
    let rest = flat_map slot_bytes slots in
    let long = length-slot shape s fits.0 in
    ap (λ bytes. slot_from bytes ∷ map slot_from
    (pieces size (length slots) (drop size (slot_bytes s ++ rest))))
    (take_at (slot_bytes s) rest size long)
    ∙ ap (λ bytes. slot_from (slot_bytes s) ∷ map slot_from (pieces size (length slots) bytes))
    (drop_at (slot_bytes s) rest size long)
    ∙ ap (λ t. t ∷ map slot_from (pieces size (length slots) rest)) (slot-again shape s fits.0)
    ∙ ap (λ ss. s ∷ ss) (slots-again shape slots fits.1)

length-slots : (shape : Shape) (slots : List Slot) → AllByRecursion (IsSpellable shape) slots →
    length (flat_map slot_bytes slots) ≡ length slots * slot_len shape
length-slots shape [] fits = omega arith
length-slots shape (s ∷ slots) fits =
    let both = length-append (slot_bytes s) (flat_map slot_bytes slots) in
    let one = length-slot shape s fits.0 in
    let rest = length-slots shape slots fits.1 in
    omega (arith, both, one, rest)

pub slots-read_back : SlotsReadBack
slots-read_back shape slots full fits =
    let counted = ap (λ n. map slot_from (pieces (slot_len shape) n (flat_map slot_bytes slots)))
    (sym full) in
    record {
      long = length-slots shape slots fits ∙ ap (λ n. n * slot_len shape) full;
      again = counted ∙ slots-again shape slots fits;
    }
