-- How many marks stand among entries.
use Rattle.std.proofs.Common.{◌≡◌, ℕ, suc, ◌+◌, refl, ap, sym, ◌∙◌, arith, List, [], ◌∷◌, ◌++◌, length, cond}
use Rattle.std.specs.List.{cons_option}
use Rattle.std.proofs.lemmas.List.Sums.{sum_by-cons, sum_by-append}
use Rattle.tk_frames.specs.declared.write_frame.WriteFrame.{WriteFrame}
use Rattle.tk_frames.specs.declared.entry.Placed.{Placed}
use Rattle.tk_frames.specs.declared.entry.Entry.{Entry}
use Rattle.tk_frames.specs.declared.entry.Entry.TheVariants.{Write, Mark}
use Rattle.tk_frames.specs.Order.{Record, record_at, records, is_mark, is_mark_entry}
use Rattle.tk_frames.specs.InOrder.{mark_count, number_after}

pub marks-cons : (p : Placed) (E : List Placed) →
    mark_count (p ∷ E) ≡ cond (is_mark_entry p) 1 0 + mark_count E
marks-cons p E = sum_by-cons (λ q. cond (is_mark_entry q) 1 0) p E

pub marks-append : (E F : List Placed) → mark_count (E ++ F) ≡ mark_count E + mark_count F
marks-append E F = sum_by-append (λ q. cond (is_mark_entry q) 1 0) E F

pub marks-push : (E : List Placed) (p : Placed) →
    mark_count (E ++ p ∷ []) ≡ mark_count E + cond (is_mark_entry p) 1 0
marks-push E p = omega (arith, marks-append E (p ∷ []), marks-cons p [])

pub marks-write : (E : List Placed) (p : Placed) (w : WriteFrame) → p.entry ≡ Write w →
    mark_count (E ++ p ∷ []) ≡ mark_count E
marks-write E p w at =
    omega (arith, marks-push E p, ap {B = ℕ} (λ (x : Entry). cond (is_mark x) 1 0) at)

pub marks-mark : (E : List Placed) (p : Placed) (e : ℕ) → p.entry ≡ Mark e →
    mark_count (E ++ p ∷ []) ≡ mark_count E + 1
marks-mark E p e at =
    omega (arith, marks-push E p, ap {B = ℕ} (λ (x : Entry). cond (is_mark x) 1 0) at)

-- the number due after an entry, and as many more
pub number-next : (due n : ℕ) (x : Entry) →
    number_after due x + n ≡ due + (cond (is_mark x) 1 0 + n)
number-next due n (Write w) = omega arith
number-next due n (Mark e) = omega arith

pub due-next : (due : ℕ) (p : Placed) (E : List Placed) →
    number_after due p.entry + mark_count E ≡ due + mark_count (p ∷ E)
due-next due p E =
    number-next due (mark_count E) p.entry ∙ ap (λ n. due + n) (sym (marks-cons p E))

write_or_mark : (at : ℕ) (x : Entry) (R : List Record) →
    length (cons_option (record_at at x) R) + cond (is_mark x) 1 0 ≡ suc (length R)
write_or_mark at (Write w) R = omega arith
write_or_mark at (Mark e) R = omega arith

-- each entry is a write or a mark
pub length-writes_and_marks : (E : List Placed) → length E ≡ length (records E) + mark_count E
length-writes_and_marks [] = refl
length-writes_and_marks (p ∷ E) =
    let here = write_or_mark p.position p.entry (records E) in
    let rest = length-writes_and_marks E in
    omega (arith, here, rest, marks-cons p E)
