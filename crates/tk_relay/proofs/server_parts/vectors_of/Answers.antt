-- Vectors keep their sizes under a mask.
use Rattle.std.proofs.Common.{◌∙◌, length, ap, sym, subst}
use Rattle.tk_shape.specs.Lengths.{vector_len}
use Rattle.tk_relay.specs.Halves.{Halves, HasHalves}
use Rattle.tk_relay.proofs.Mixing.{mixed-sized}
use Rattle.tk_relay.proofs.server_parts.vectors_of.Goals as goal
use Rattle.tk_relay.proofs.server_parts.vectors_of.Goals.{then-server-gt1, else-server-gt1}

pub returns-clause-sized : goal.returns-clause-sized
returns-clause-sized c =
    let n = vector_len c.args.pads.now.shape in
    let sized : HasHalves n c.in_ok-vectors.vectors =
    subst (HasHalves n) (sym c.in_ok-vectors.ensures) c.requires.sized
    in
    elim c.if-server-gt1.branch [
      | then-server-gt1 w ↦
          let pad : Halves = record { first = w.request.result.0.now; second = w.request.result.1.now } in
          let pad_sized : HasHalves n pad = record {
            first = ap length w.request.ensures.first ∙ w.request.ensures.sized.first;
            second = ap length w.request.ensures.second ∙ w.request.ensures.sized.second;
          }
          in
          subst (HasHalves n) (sym (w.vectors-is ∙ w.mix.ensures))
          (mixed-sized n c.in_ok-vectors.vectors pad sized pad_sized)
      | else-server-gt1 w ↦ subst (HasHalves n) (sym w.vectors-is) sized
    ]
