-- The write that a pass ordered stands where it was due.
use Rattle.std.proofs.Common.{◌≡◌, ℕ, ◌+◌, List, [], ◌∷◌, ◌++◌, length, ap, sym, ◌∙◌, arith, length-append, append-nil}
use Rattle.tk_shape.specs.declared.shape.Shape.{Shape}
use Rattle.tk_frames.specs.declared.entry.Entry.TheVariants.{Write}
use Rattle.tk_frames.specs.declared.write_frame.WriteFrame.{WriteFrame}
use Rattle.tk_frames.specs.Laws.{IsOneSpelling}
use Rattle.tk_frames.specs.Ranges.{IsWrite}
use Rattle.tk_frames.specs.Spelling.{write_frame}
use Rattle.tk_order.specs.Legality.{placed}
use Rattle.tk_cluster.specs.Passes.{Passing, own, WroteBytes}

pub ordered-there : (shape : Shape) (write : WriteFrame) (bytes : List ℕ) (position : ℕ) (a b : Passing) →
    IsOneSpelling (IsWrite shape) write_frame → IsWrite shape write → bytes ≡ write_frame write →
    WroteBytes shape bytes a b → position ≡ length b.seen →
    own b ≡ own a ++ record { position = position; entry = Write write } ∷ []
ordered-there shape write bytes position a b one in_range spelled did at =
    let w = did.write in
    let same : write ≡ w =
    (one write w [] in_range did.spells.in_range
    (sym did.spells.spelled ∙ spelled ∙ sym (append-nil (write_frame write)))).0
    in
    let entries = did.wrote.before in
    let long : length b.seen ≡ length entries + 1 =
    ap length did.wrote.after ∙ length-append entries (placed entries (Write w) ∷ [])
    in
    let place : length entries + 1 ≡ position = omega (arith, long, at) in
    did.wrote.own
    ∙ (λ i. own a ++ record { position = place i; entry = Write (sym same i) } ∷ [])
