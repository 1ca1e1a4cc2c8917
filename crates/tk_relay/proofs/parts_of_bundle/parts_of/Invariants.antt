-- The parts so far, and those in the bytes that are left.
use Rattle.std.proofs.Common.{◌≡◌, ◌-◌, ◌*◌, ◌++◌, length, map}
use Rattle.tk_shape.specs.Lengths.{vector_len}
use Rattle.tk_frames.specs.Fields.{number_at}
use Rattle.tk_relay.specs.Pads.{halves_list}
use Rattle.tk_relay.specs.Parts.{part_with}
use Rattle.tk_relay.specs.Bundles.{parts_in}
use Rattle.tk_relay.proofs.parts_of_bundle.parts_of.Given as goal

abbrev pub invariant-loop : goal.invariant-loop
invariant-loop l =
    record {
      len : length l.rest ≡ (l.shape.servers - l.counter) * (2 * vector_len l.shape);
      parts : l.parts.items
          ++ map (part_with (number_at 2 l.bytes) (number_at 6 l.bytes) (number_at 10 l.bytes))
          (halves_list (vector_len l.shape) (l.shape.servers - l.counter) l.rest)
          ≡ parts_in l.shape l.bytes;
    }
