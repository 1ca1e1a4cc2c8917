-- The replies to the parts so far.
use Rattle.std.proofs.Common.{◌≡◌, ℕ, List, map, take}
use Rattle.std.specs.List.{zip, AllByRecursion}
use Rattle.tk_shape.specs.declared.shape.Shape.{Shape}
use Rattle.tk_shape.specs.Lengths.{width}
use Rattle.tk_relay.specs.Halves.{HasHalves}
use Rattle.tk_relay.specs.Parts.{halves_of}
use Rattle.tk_relay.specs.Serving.{AreAskedParts, AreChosenSums, reply_to_asked}
use Rattle.tk_relay.proofs.server_parts.replies_with.Given as goal

abbrev pub invariant-loop-i : goal.invariant-loop-i
invariant-loop-i l =
    record {
      sized : (shape : Shape) → AreAskedParts shape l.server l.pads l.parts →
          AllByRecursion (λ p. HasHalves (width shape) (halves_of p)) l.replies.items;
      served : (shape : Shape) (blocks : List (List ℕ)) → AreAskedParts shape l.server l.pads l.parts →
          AreChosenSums shape blocks l.server (zip l.pads l.parts) l.first l.second →
          l.replies.items ≡ map (reply_to_asked shape blocks l.server) (take l.i (zip l.pads l.parts));
    }
