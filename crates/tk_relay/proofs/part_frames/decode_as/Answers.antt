-- Bytes without a fault spell the part that is read from them, and a part is read from its spelling.
use Rattle.std.proofs.Common.{◌≡◌, ◌∙◌, ap, sym, subst, arith}
use Rattle.tk_relay.specs.declared.part.Part.{Part}
use Rattle.tk_relay.specs.Parts.{IsPart, frame_as, part_in}
use Rattle.tk_relay.proofs.PartLaws.{part_found, part-again}
use Rattle.tk_relay.proofs.part_frames.decode_as.Goals as goal

pub returns-clause-found : goal.returns-clause-found
returns-clause-found c =
    let shape = c.args.shape.now in
    let bytes = c.args.bytes.now in
    let is = rw c.split_at.ensures.back at c.in_ok-part_of.ensures in
    subst (λ (p : Part). IsPart shape c.args.size p × (bytes ≡ frame_as c.args.kind p)) (sym is)
    (part_found shape c.args.size c.args.kind bytes (λ i. omega (arith, c.type_inv.bytes i))
    (sym c.in_ok-check_asked.ensures))

pub returns-clause-only : goal.returns-clause-only
returns-clause-only c = λ p fits e.
    let is = rw c.split_at.ensures.back at c.in_ok-part_of.ensures in
    is ∙ ap (part_in c.args.size) e ∙ part-again c.args.shape.now c.args.size c.args.kind p fits
