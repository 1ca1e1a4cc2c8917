-- What a client sends of a read splits into parts of it.
use Rattle.std.proofs.Common.{◌≡◌, sym, subst, refl, arith, ℕ, ◌+◌, ◌-◌, ◌<◌, ◌≤◌, List}
use Rattle.std.specs.List.{AllByRecursion}
use Rattle.std.proofs.lemmas.List.Elements.{All-from_recursion}
use Rattle.std.proofs.lemmas.List.FromFn.{length-map-range_with_len, get_or-map-range_with_len}
use Rattle.tk_shape.specs.declared.shape.Shape.{Shape}
use Rattle.tk_shape.specs.Lengths.{vector_len}
use Rattle.tk_frames.specs.declared.read_frame.ReadFrame.{ReadFrame}
use Rattle.tk_frames.specs.Ranges.{IsRead}
use Rattle.tk_relay.specs.declared.part.Part.{Part}
use Rattle.tk_relay.specs.Bundles.{AreOneRead, AreParts, IsAlong, IsOfOne, frame_of, part_for, parts_for, vectors_of}
use Rattle.tk_relay.specs.Pads.{ArePads, PadLists}
use Rattle.tk_relay.specs.Parts.{IsPart, blank_part, first_part}
use Rattle.tk_report.proofs.Offers.{each-made}
use Rattle.tk_report.specs.Exchange.{blank_read}
use Rattle.tk_relay.proofs.Masks.{masked-sized}

module _ (shape : Shape) (pads : PadLists) (frames : List ReadFrame) (are : ArePads shape pads)
    (one : AreOneRead shape frames) (reads : AllByRecursion (IsRead shape) frames) where
  along-at : (j : ℕ) → 1 ≤ j → j < 1 + shape.servers →
      IsAlong shape (frame_of frames 1) (frame_of frames j)
  along-at j low high =
      let counted = one.counted in
      All-from_recursion (IsAlong shape (frame_of frames 1)) frames one.along (j - 1) blank_read
      (omega (arith, counted, low, high))

  part-in_range : (j : ℕ) → 1 ≤ j → j < 1 + shape.servers →
      IsPart shape (vector_len shape) (part_for pads frames j)
  part-in_range j low high =
      let counted = one.counted in
      let is = All-from_recursion (IsRead shape) frames reads (j - 1) blank_read
      (omega (arith, counted, low, high))
      in
      record {
        client = is.client;
        turn = is.turn;
        epoch = is.epoch;
        halves =
            masked-sized shape (vector_len shape) pads.requests are.requests_counted
            are.requests_sized j (vectors_of (frame_of frames j)) (omega (arith, high))
            (along-at j low high).vectors;
      }

  first-part : first_part (parts_for shape pads frames) ≡ part_for pads frames 1
  first-part =
      let several = shape.in_range.servers_low in
      get_or-map-range_with_len (part_for pads frames) 1 shape.servers 0 1 blank_part
      (omega (arith, several)) refl

  of-one : (j : ℕ) → 1 ≤ j → j < 1 + shape.servers →
      IsOfOne (first_part (parts_for shape pads frames)) (part_for pads frames j)
  of-one j low high =
      let along = along-at j low high in
      subst (λ (p : Part). IsOfOne p (part_for pads frames j)) (sym first-part)
      (record { client = along.client; turn = along.turn; epoch = along.epoch })

  pub parts-are : AreParts shape (parts_for shape pads frames)
  parts-are =
      record {
        counted = length-map-range_with_len (part_for pads frames) 1 shape.servers;
        in_range =
            each-made (IsPart shape (vector_len shape)) (part_for pads frames) 1 shape.servers
            part-in_range;
        of_one =
            each-made (IsOfOne (first_part (parts_for shape pads frames))) (part_for pads frames) 1
            shape.servers of-one;
      }
