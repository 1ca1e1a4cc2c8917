-- The writes of entries.
use Rattle.std.proofs.Common.{◌≡◌, ℕ, ap, ◌∙◌, List, [], ◌∷◌, ◌++◌, append-nil}
use Rattle.std.specs.List.{cons_option}
use Rattle.std.proofs.lemmas.List.Elements.{filter_map-append}
use Rattle.tk_frames.specs.declared.write_frame.WriteFrame.{WriteFrame}
use Rattle.tk_frames.specs.declared.entry.Placed.{Placed}
use Rattle.tk_frames.specs.declared.entry.Entry.{Entry}
use Rattle.tk_frames.specs.declared.entry.Entry.TheVariants.{Write, Mark}
use Rattle.tk_frames.specs.Order.{Record, record_at, record_in, records}

pub records-append : (E F : List Placed) → records (E ++ F) ≡ records E ++ records F
records-append E F = filter_map-append record_in E F

-- the record of a write at the place of an entry
abbrev pub record_of : Placed → WriteFrame → Record
record_of p w = record { position = p.position; write = w }

pub records-write : (E : List Placed) (p : Placed) (w : WriteFrame) → p.entry ≡ Write w →
    records (E ++ p ∷ []) ≡ records E ++ record_of p w ∷ []
records-write E p w at =
    records-append E (p ∷ [])
    ∙ ap (λ (x : Entry). records E ++ cons_option (record_at p.position x) []) at

pub records-mark : (E : List Placed) (p : Placed) (e : ℕ) → p.entry ≡ Mark e →
    records (E ++ p ∷ []) ≡ records E
records-mark E p e at =
    records-append E (p ∷ [])
    ∙ ap (λ (x : Entry). records E ++ cons_option (record_at p.position x) []) at
    ∙ append-nil (records E)
