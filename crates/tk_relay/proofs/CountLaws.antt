-- What server 1 sees of a read, by counting pads.
use Rattle.std.proofs.Common.{◌≡◌, ℕ, List, [], ap, sym, ◌∙◌}
use Rattle.std.specs.Prelude.{flat_map, slice_index_or}
use Rattle.tk_shape.specs.declared.shape.Shape.{Shape}
use Rattle.tk_shape.specs.Lengths.{vector_len}
use Rattle.tk_bits.specs.Shares.{unit_vector}
use Rattle.tk_counts.specs.Counts.{IsListBelow, IsUndoneBy}
use Rattle.tk_counts.proofs.Offers.{AreBytes, bytes-append, bytes-front, bytes-rest, bytes-at, bytes-unit_vector}
use Rattle.tk_counts.proofs.Offers.{shown-as_often}
use Rattle.tk_relay.specs.Halves.{Halves, halves_bytes}
use Rattle.tk_relay.specs.Pads.{PadLists, pads_in, pads_len}
use Rattle.tk_relay.specs.Sights.{AreBuckets, units_of, blocks_at, moved_last, moved_pads, frames_for, sight}
use Rattle.tk_relay.specs.Counts.{pads_bytes, AreBytePads, AreByteBlocks, AsManyPads}
use Rattle.tk_relay.proofs.PadBytes.{pads_are_cut, pads_are_spelled, bytes-moved}
use Rattle.tk_relay.proofs.Sights.{same_sight, moved_back, moved_stay}

module _ (shape : Shape) (blocks : List (List ℕ)) (old new : ℕ × ℕ)
    (whole : AreByteBlocks shape blocks) (from : AreBuckets shape old) (to : AreBuckets shape new)
  where
    bytes-units : (pair : ℕ × ℕ) → AreBytes (halves_bytes (units_of shape pair))
    bytes-units pair =
        let size = vector_len shape in
        bytes-append (unit_vector size pair.0) (unit_vector size pair.1)
        (bytes-unit_vector size pair.0) (bytes-unit_vector size pair.1)

    bytes-blocks : (pair : ℕ × ℕ) → AreBytes (halves_bytes (blocks_at blocks pair))
    bytes-blocks pair =
        bytes-append (slice_index_or blocks pair.0 []) (slice_index_or blocks pair.1 [])
        (bytes-at blocks pair.0 whole.bytes) (bytes-at blocks pair.1 whole.bytes)

    -- moved pads of bytes are such pads
    byte-pads : (pads : PadLists) → AreBytePads shape pads →
        AreBytePads shape (moved_pads shape blocks old new pads)
    unfolding moved_pads
    byte-pads pads is =
        let asked : List ℕ = flat_map halves_bytes pads.requests in
        let replied : List ℕ = flat_map halves_bytes pads.replies in
        let requests : List Halves = moved_last shape (units_of shape old) (units_of shape new) pads.requests in
        let replies : List Halves =
        moved_last shape (blocks_at blocks old) (blocks_at blocks new) pads.replies
        in
        record {
          are = moved_stay shape blocks pads old new whole.are is.are from to;
          bytes = bytes-append (flat_map halves_bytes requests) (flat_map halves_bytes replies)
              (bytes-moved shape (units_of shape old) (units_of shape new) pads.requests
              (bytes-units old) (bytes-units new) (bytes-front asked replied is.bytes))
              (bytes-moved shape (blocks_at blocks old) (blocks_at blocks new) pads.replies
              (bytes-blocks old) (bytes-blocks new) (bytes-rest asked replied is.bytes));
        }

-- the bytes of the moved pads that are cut from bytes
abbrev moved_bytes : Shape → List (List ℕ) → ℕ × ℕ → ℕ × ℕ → List ℕ → List ℕ
moved_bytes shape blocks old new bytes =
    pads_bytes (moved_pads shape blocks old new (pads_in shape bytes))

module _ (shape : Shape) (blocks : List (List ℕ)) (old new : ℕ × ℕ)
    (whole : AreByteBlocks shape blocks) (from : AreBuckets shape old) (to : AreBuckets shape new)
  where
    moved-spelled : (bytes : List ℕ) → IsListBelow 256 (pads_len shape) bytes →
        let moved = moved_pads shape blocks old new (pads_in shape bytes) in
        IsListBelow 256 (pads_len shape) (pads_bytes moved) × (pads_in shape (pads_bytes moved) ≡ moved)
    moved-spelled bytes is =
        pads_are_spelled shape (moved_pads shape blocks old new (pads_in shape bytes))
        (byte-pads shape blocks old new whole from to (pads_in shape bytes) (pads_are_cut shape bytes is).0)

    -- moved back they are the bytes again
    moved-undone : IsUndoneBy 256 (pads_len shape) (moved_bytes shape blocks old new)
        (moved_bytes shape blocks new old)
    moved-undone =
        record {
          stays = λ bytes is. (moved-spelled bytes is).0;
          back = λ bytes is.
              let cut = pads_are_cut shape bytes is in
              ap (λ (pads : PadLists). pads_bytes (moved_pads shape blocks new old pads))
              (moved-spelled bytes is).1
              ∙ ap pads_bytes
              (moved_back shape blocks (pads_in shape bytes) old new whole.are cut.0.are from to)
              ∙ cut.1;
        }

pub as_many_pads : AsManyPads
as_many_pads shape blocks r one other test whole vectors from to =
    shown-as_often 256 (pads_len shape) (moved_bytes shape blocks one other)
    (moved_bytes shape blocks other one) (moved-undone shape blocks one other whole from to)
    (moved-undone shape blocks other one whole to from)
    (λ bytes. sight shape blocks (pads_in shape bytes) (frames_for shape r one))
    (λ bytes. sight shape blocks (pads_in shape bytes) (frames_for shape r other))
    (λ bytes is.
    same_sight shape blocks (pads_in shape bytes) r one other whole.are (pads_are_cut shape bytes is).0.are
    vectors from to
    ∙ ap (λ (pads : PadLists). sight shape blocks pads (frames_for shape r other))
    (sym (moved-spelled shape blocks one other whole from to bytes is).1))
    test
