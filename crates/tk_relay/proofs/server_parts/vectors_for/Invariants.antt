-- The vectors of the parts so far.
use Rattle.std.proofs.Common.{◌≡◌, map, take}
use Rattle.std.specs.List.{zip}
use Rattle.tk_shape.specs.declared.shape.Shape.{Shape}
use Rattle.tk_shape.specs.Lengths.{vector_len}
use Rattle.tk_kernel.specs.Pieces.{AllSized}
use Rattle.tk_relay.specs.Serving.{AreAskedParts, first_asked, second_asked}
use Rattle.tk_relay.proofs.server_parts.vectors_for.Given as goal

abbrev pub invariant-loop-i : goal.invariant-loop-i
invariant-loop-i l =
    record {
      firsts_sized : (shape : Shape) → AreAskedParts shape l.server l.pads l.parts →
          AllSized (vector_len shape) l.vectors.items;
      seconds_sized : (shape : Shape) → AreAskedParts shape l.server l.pads l.parts →
          AllSized (vector_len shape) l.others.items;
      firsts : l.vectors.items ≡ map (first_asked l.server) (take l.i (zip l.pads l.parts));
      seconds : l.others.items ≡ map (second_asked l.server) (take l.i (zip l.pads l.parts));
    }
