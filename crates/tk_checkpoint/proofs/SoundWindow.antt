-- The window in the checkpoint of entries is sound.
use Rattle.std.proofs.Common.{◌≡◌, ℕ, zero, suc, ◌+◌, ◌-◌, ◌<◌, true, ◌&&◌, List, [], ◌∷◌, ◌++◌, length, drop, refl, sym, ap, ap₂, ◌∙◌, subst, arith, inl, inr, append_assoc}
use Rattle.std.specs.Prelude.{nat_lt, None}
use Rattle.std.specs.List.{AllByRecursion, list_all, cons_option, flat_map}
use Rattle.std.proofs.lemmas.Bool.{lt-ltb}
use Rattle.std.proofs.lemmas.List.{length-append}
use Rattle.std.proofs.lemmas.Nat.{from_be_bytes-to_be_bytes_8}
use Rattle.tk_shape.specs.declared.shape.Shape.{Shape}
use Rattle.tk_frames.specs.declared.entry.Placed.{Placed}
use Rattle.tk_frames.specs.declared.entry.Entry.{Entry}
use Rattle.tk_frames.specs.declared.entry.Entry.TheVariants.{Write, Mark}
use Rattle.tk_frames.specs.Order.{Record, records, record_at}
use Rattle.tk_frames.specs.InOrder.{IsOrder, IsOrderFrom, number_after}
use Rattle.tk_frames.specs.Spelling.{be32, be64}
use Rattle.tk_frames.specs.Fields.{long_at, numbers}
use Rattle.tk_frames.proofs.Offers.{order-front, records-mark}
use Rattle.tk_table.specs.Ordered.{AscendFrom}
use Rattle.tk_table.specs.Table.{window, layout}
use Rattle.tk_table.proofs.Offers.{ascend-lower, order-writes}
use Rattle.tk_replica.specs.Restoring.{EndsWithMark}
use Rattle.tk_checkpoint.specs.declared.error.RestoreError.TheVariants as refusal
use Rattle.tk_checkpoint.specs.Saved.{saved, entry_len, table_bytes}
use Rattle.tk_checkpoint.specs.Reading.{window_part}
use Rattle.tk_checkpoint.specs.Sound.{check, first_refusal, is_sound_write, window_checks_from, window_checks}
use Rattle.tk_checkpoint.proofs.Passing.{passed-cons, all-three}
use Rattle.tk_checkpoint.proofs.Ranges.{IsFitting, order-fitting, fitting-drop}
use Rattle.tk_checkpoint.proofs.ReadBack.{writes_bytes, behind-write, hits-front, applied-back, count-back, window-back}

-- ---- writes

below-bits : (bits : ℕ) (hits : List ℕ) → AllByRecursion (λ h. h < bits) hits →
    list_all (λ h. nat_lt h bits) hits ≡ true
below-bits bits [] below = refl
below-bits bits (h ∷ hits) below =
    ap (λ b. b && list_all (λ k. nat_lt k bits) hits) (lt-ltb h bits below.0) ∙ below-bits bits hits below.1

abbrev AreBelow : ℕ → List Record → Type 0
AreBelow applied R = AllByRecursion (λ (r : Record). r.position < applied) R

-- writes in order and below what was applied are sound, whatever stands behind them
writes-passed : (shape : Shape) (applied before i : ℕ) (R : List Record) (tail : List ℕ) →
    AllByRecursion (IsFitting shape) R → AscendFrom (before + 1) R → AreBelow applied R →
    first_refusal (window_checks_from shape applied before i (length R) (writes_bytes R ++ tail)) ≡ None
unfolding window_checks_from
writes-passed shape applied before i [] tail fits ascend below = refl
writes-passed shape applied before i (r ∷ R) tail fits ascend below =
    let front = be64 r.position ++ flat_map be32 r.write.hits in
    let rest = writes_bytes R ++ tail in
    let position : long_at 0 (front ++ rest) ≡ r.position = from_be_bytes-to_be_bytes_8 r.position (fits.0).position in
    let hits : numbers shape.hits (drop 8 (front ++ rest)) ≡ r.write.hits =
    ap (λ bytes. numbers shape.hits (drop 8 bytes)) (append_assoc (be64 r.position) (flat_map be32 r.write.hits) rest)
    ∙ hits-front shape r rest fits.0 in
    let sound : is_sound_write shape applied before (front ++ rest) ≡ true =
    all-three (nat_lt before (long_at 0 (front ++ rest))) (nat_lt (long_at 0 (front ++ rest)) applied)
    (list_all (λ h. nat_lt h shape.filter_bits) (numbers shape.hits (drop 8 (front ++ rest))))
    (ap (nat_lt before) position ∙ lt-ltb before r.position (omega (arith, ascend.0)))
    (ap (λ p. nat_lt p applied) position ∙ lt-ltb r.position applied below.0)
    (ap (list_all (λ h. nat_lt h shape.filter_bits)) hits
    ∙ below-bits shape.filter_bits r.write.hits (fits.0).write.hits) in
    ap (λ bytes. first_refusal (window_checks_from shape applied before i (suc (length R)) bytes))
    (append_assoc front (writes_bytes R) tail)
    ∙ passed-cons (check (refusal.Window i) (is_sound_write shape applied before (front ++ rest)))
    (window_checks_from shape applied (long_at 0 (front ++ rest)) (i + 1) (length R) (drop (entry_len shape) (front ++ rest)))
    sound
    (ap₂ (λ p bytes. first_refusal (window_checks_from shape applied p (i + 1) (length R) bytes))
    position (behind-write shape r rest fits.0)
    ∙ writes-passed shape applied r.position (i + 1) R tail fits.1 ascend.1 below.1)

-- ---- the writes of entries

ascend-drop : (n p : ℕ) (R : List Record) → AscendFrom p R → AscendFrom p (drop n R)
ascend-drop zero p R h = h
ascend-drop (suc n) p [] h = tt
ascend-drop (suc n) p (r ∷ R) h =
    let low = h.0 in
    ascend-lower p (r.position + 1) (drop n R) (omega (arith, low)) (ascend-drop n (r.position + 1) R h.1)

below-drop : (n applied : ℕ) (R : List Record) → AreBelow applied R → AreBelow applied (drop n R)
below-drop zero applied R h = h
below-drop (suc n) applied [] h = tt
below-drop (suc n) applied (r ∷ R) h = below-drop n applied R h.1

below-entry : (applied at : ℕ) (x : Entry) (R : List Record) → at < applied → AreBelow applied R →
    AreBelow applied (cons_option (record_at at x) R)
below-entry applied at (Write w) R low h = (low, h)
below-entry applied at (Mark e) R low h = h

from-below : (shape : Shape) (place due : ℕ) (E : List Placed) → IsOrderFrom shape place due E →
    AreBelow (place + length E) (records E)
from-below shape place due [] order = tt
from-below shape place due (p ∷ E) order =
    let at = (order.0).at in
    let next : place + 1 + length E ≡ place + suc (length E) = omega arith in
    below-entry (place + suc (length E)) p.position p.entry (records E) (omega (arith, at))
    (subst (λ n. AreBelow n (records E)) next (from-below shape (place + 1) (number_after due p.entry) E order.1))

-- where a mark stands at the end all writes stand below the number of entries
order-below : (shape : Shape) (E : List Placed) → IsOrder shape E → EndsWithMark E →
    AreBelow (length E) (records E)
order-below shape E order (inl none) = subst (λ F. AreBelow (length F) (records F)) (sym none) tt
order-below shape E order (inr m) =
    let whole : IsOrder shape (m.front ++ m.last ∷ []) = subst (IsOrder shape) m.split order in
    let long : 1 + length m.front ≡ length (m.front ++ m.last ∷ []) =
    omega (arith, length-append m.front (m.last ∷ [])) in
    subst (λ F. AreBelow (length F) (records F)) (sym m.split)
    (subst (λ n. AreBelow n (records (m.front ++ m.last ∷ []))) long
    (subst (AreBelow (1 + length m.front)) (sym (records-mark m.front m.last m.number m.mark))
    (from-below shape 1 1 m.front (order-front shape m.front (m.last ∷ []) whole))))

pub window-passed : (shape : Shape) (E : List Placed) → IsOrder shape E → EndsWithMark E →
    first_refusal (window_checks shape (saved shape E)) ≡ None
window-passed shape E order ends =
    let R = records E in
    let gone = length R - shape.retained in
    let bytes = saved shape E in
    ap₂ (λ a n. first_refusal (window_checks_from shape a 0 0 n (window_part bytes)))
    (applied-back shape E order) (count-back shape E order)
    ∙ ap (λ part. first_refusal (window_checks_from shape (length E) 0 0 (length (window shape R)) part))
    (window-back shape E order)
    ∙ writes-passed shape (length E) 0 0 (window shape R) (table_bytes (layout shape R))
    (fitting-drop shape gone R (order-fitting shape E order))
    (ascend-drop gone 1 R (order-writes shape E order).ascend)
    (below-drop gone (length E) R (order-below shape E order ends))
