-- The records of entries: where they stand, and that a front of them is in order too.
use Rattle.std.proofs.Common.{◌≡◌, sym, subst, arith, ℕ, ◌+◌, List, [], ◌∷◌, ◌++◌}
use Rattle.std.specs.List.{cons_option}
use Rattle.tk_shape.specs.declared.shape.Shape.{Shape}
use Rattle.tk_frames.specs.declared.entry.Placed.{Placed}
use Rattle.tk_frames.specs.declared.entry.Entry.{Entry}
use Rattle.tk_frames.specs.declared.entry.Entry.TheVariants.{Write, Mark}
use Rattle.tk_frames.specs.Order.{Record, record_at, records}
use Rattle.tk_table.specs.Ordered.{AscendFrom, HasBuckets, AreOrdered}
use Rattle.tk_table.proofs.Offers.{ascend-lower}
use Rattle.tk_report.proofs.EachLaws.{each-front}

-- positions count from a number on
abbrev pub ArePlacedFrom : ℕ → List Placed → Type 0
ArePlacedFrom p [] = Unit {0}
ArePlacedFrom p (x ∷ xs) = (x.position ≡ p) × ArePlacedFrom (p + 1) xs

pub ascend-entry : (p position : ℕ) (e : Entry) (R : List Record) → position ≡ p →
    AscendFrom (p + 1) R → AscendFrom p (cons_option (record_at position e) R)
ascend-entry p position (Write w) R here later =
    (omega (arith, here), subst (λ (n : ℕ). AscendFrom (n + 1) R) (sym here) later)
ascend-entry p position (Mark e) R here later = ascend-lower p (p + 1) R (omega arith) later

pub records-ascend : (p : ℕ) (E : List Placed) → ArePlacedFrom p E → AscendFrom p (records E)
records-ascend p [] are = tt
records-ascend p (x ∷ E) are =
    ascend-entry p x.position x.entry (records E) are.0 (records-ascend (p + 1) E are.1)

-- ---- records in order

ascend-of_front : (p : ℕ) (R later : List Record) → AscendFrom p (R ++ later) → AscendFrom p R
ascend-of_front p [] later h = tt
ascend-of_front p (r ∷ R) later h = (h.0, ascend-of_front (r.position + 1) R later h.1)

pub ordered-front : (shape : Shape) (R later : List Record) → AreOrdered shape (R ++ later) →
    AreOrdered shape R
ordered-front shape R later h =
    record {
      ascend = ascend-of_front 1 R later h.ascend;
      within = each-front (HasBuckets shape) R later h.within;
    }
