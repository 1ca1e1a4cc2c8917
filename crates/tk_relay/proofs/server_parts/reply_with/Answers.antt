-- Sums keep their sizes under a mask.
use Rattle.std.proofs.Common.{◌∙◌, length, ap, sym, subst}
use Rattle.tk_shape.specs.Lengths.{width}
use Rattle.tk_relay.specs.declared.part.Part.{Part}
use Rattle.tk_relay.specs.Halves.{Halves, HasHalves}
use Rattle.tk_relay.specs.Parts.{halves_of}
use Rattle.tk_relay.proofs.Mixing.{mixed-sized}
use Rattle.tk_relay.proofs.server_parts.reply_with.Goals as goal
use Rattle.tk_relay.proofs.server_parts.reply_with.Goals.{then-server-gt1, else-server-gt1}

pub returns-clause-sized : goal.returns-clause-sized
returns-clause-sized c =
    let n = width c.args.pads.now.shape in
    let sums : Halves =
    record { first = c.in_ok-from_slice.field-0.items; second = c.in_ok-from_slice-2.field-0.items }
    in
    let sized : HasHalves n sums = record {
      first = ap length c.in_ok-from_slice.ensures.items ∙ c.requires.first_len;
      second = ap length c.in_ok-from_slice-2.ensures.items ∙ c.requires.second_len;
    }
    in
    let masked_sized : HasHalves n c.if-server-gt1.sums = elim c.if-server-gt1.branch [
      | then-server-gt1 w ↦
          let pad : Halves = record { first = w.reply.result.0.now; second = w.reply.result.1.now } in
          let pad_sized : HasHalves n pad = record {
            first = ap length w.reply.ensures.first ∙ w.reply.ensures.sized.first;
            second = ap length w.reply.ensures.second ∙ w.reply.ensures.sized.second;
          }
          in
          subst (HasHalves n) (sym (w.sums-is ∙ w.mix.ensures)) (mixed-sized n sums pad sized pad_sized)
      | else-server-gt1 w ↦ subst (HasHalves n) (sym w.sums-is) sized
    ]
    in
    subst (λ (p : Part). HasHalves n (halves_of p)) (sym c.into_part.ensures) masked_sized
