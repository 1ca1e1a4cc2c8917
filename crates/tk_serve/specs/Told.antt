-- What a server told a client so far. It only grows at its end, and doesn't depend on how the frames of different
-- clients are mixed.
use Rattle.std.specs.Prelude.{ℕ, ◌+◌, ◌*◌, nat_le, ◌&&◌, cond, List, [], ◌∷◌, ◌++◌, length, take, drop, map, flat_map}
use Rattle.std.specs.List.{range_with_len}
use Rattle.tk_shape.specs.declared.shape.Shape.{Shape}
use Rattle.tk_schedule.specs.Schedule.{is_closing, phase_of}
use Rattle.tk_frames.specs.declared.read_frame.ReadFrame.{ReadFrame}
use Rattle.tk_frames.specs.declared.entry.Placed.{Placed}
use Rattle.tk_frames.specs.Spelling.{reply_frame}
use Rattle.tk_frames.specs.Order.{before}
use Rattle.tk_replica.specs.Epochs.{filter_of}
use Rattle.tk_replica.specs.Replies.{reply_for}
use Rattle.tk_packets.specs.declared.epoch_frame.EpochFrame.{EpochFrame}
use Rattle.tk_packets.specs.Frames.{epoch_frame, marks_len}
use Rattle.tk_packets.specs.Marks.{mark_bytes}
use Rattle.tk_packets.specs.Packets.{PacketView, packet}
use Rattle.tk_serve.specs.Seats.{Seat, seat_of, placed, placed_to, newest}

-- an epoch, with the filter of the writes before its mark
abbrev pub epoch_told : Shape → List Placed → ℕ → EpochFrame
epoch_told shape E e =
    record { epoch = e; marks = mark_bytes (marks_len shape) (filter_of shape (before E e)) }

unfoldable pub epoch_bytes : Shape → List Placed → ℕ → List ℕ
epoch_bytes shape E e = epoch_frame (epoch_told shape E e)

unfoldable pub reply_told : Shape → List Placed → ReadFrame → List ℕ
reply_told shape E r = reply_frame (reply_for shape E r)

-- after a turn that closes its phase the epoch of that phase, if epoch n, the newest, isn't before it
abbrev pub closing_told : Shape → List Placed → ℕ → ℕ → List (List ℕ)
closing_told shape E n g =
    let phase = phase_of shape g in
    cond (is_closing shape g && nat_le phase n) (epoch_bytes shape E phase ∷ []) []

-- what a read is told
abbrev pub told_of : Shape → List Placed → ℕ → ReadFrame → List (List ℕ)
told_of shape E n r = reply_told shape E r ∷ closing_told shape E n r.turn

-- how many turns read over an epoch that isn't after epoch n
abbrev pub turns_read : Shape → ℕ → ℕ
turns_read shape n = (n + 1) * shape.ticks

-- what epoch n brings to a client with these reads: itself, if the client has read the phase before it, and the replies
-- to the reads over it that came already
abbrev pub brought : Shape → List Placed → ℕ → List ReadFrame → List (List ℕ)
brought shape E n reads =
    cond (nat_le (n * shape.ticks) (length reads)) (epoch_bytes shape E n ∷ []) []
    ++ map (reply_told shape E) (take shape.ticks (drop (n * shape.ticks) reads))

-- what the reads of a client are told, those whose epoch is there
unfoldable pub told_in : Shape → List Placed → ℕ → List ReadFrame → List (List ℕ)
told_in shape E n reads = flat_map (told_of shape E n) (take (turns_read shape n) reads)

abbrev pub told : Shape → List Seat → ℕ → List (List ℕ)
told shape seats c =
    told_in shape (placed shape seats) (newest shape seats) (seat_of seats c).reads

-- what it brings to client c, in packets
abbrev pub packets_brought : Shape → List Seat → List Placed → ℕ → ℕ → List PacketView
packets_brought shape seats E n c =
    map (packet (c + 1)) (brought shape E n (seat_of seats c).reads)

-- what epoch n brings to all clients, by number, where g turns are in the order
abbrev pub all_brought : Shape → List Seat → ℕ → ℕ → List PacketView
all_brought shape seats g n =
    flat_map (packets_brought shape seats (placed_to shape seats g) n) (range_with_len 0 shape.clients)
