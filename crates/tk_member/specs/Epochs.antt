-- What servers told of epochs: for each server, of each epoch that it told, the bytes of the marks of
-- its filter, epoch 1 first.
use Rattle.std.specs.Prelude.{ℕ, ◌+◌, ◌-◌, min, nat_lt, ◌==◌, Bool, true, ◌&&◌, cond}
use Rattle.std.specs.Prelude.{List, [], ◌∷◌, ◌++◌, length, map, drop, replicate, slice_get}
use Rattle.std.specs.Prelude.{slice_index, slice_index_or, slice_set, Option, Some, None, Result, Ok, Err}
use Rattle.std.specs.List.{range_with_len}
use Rattle.std.specs.Str.{bytes_eq}
use Rattle.tk_shape.specs.declared.shape.Shape.{Shape}
use Rattle.tk_kernel.specs.Chosen.{has_bit}
use Rattle.tk_frames.specs.Fields.{number_at}
use Rattle.tk_frames.specs.Lists.{first_some}
use Rattle.tk_packets.specs.Frames.{marks_len}
use Rattle.tk_member.specs.declared.fault.Fault.{Fault}
use Rattle.tk_member.specs.declared.fault.Fault.TheVariants.{Peer, Differ}

-- the bytes of an epoch's marks, a bit for each filter position, and those of each epoch that a
-- server told
abbrev pub Marks : Type 0
Marks = List ℕ

abbrev pub ToldMarks : Type 0
ToldMarks = List Marks

-- the least of these, and at most the first
abbrev pub least_of : ℕ → List ℕ → ℕ
least_of top [] = top
least_of top (n ∷ ns) = min n (least_of top ns)

-- how many epochs a server told
abbrev pub epochs_in : ToldMarks → ℕ
epochs_in telling = length telling

-- the last epoch that all servers told
abbrev pub known : Shape → List ToldMarks → ℕ
known shape told = least_of shape.phases (map epochs_in told)

-- what a server told, by its number
abbrev pub told_by : List ToldMarks → ℕ → ToldMarks
told_by told j = slice_index_or told (j - 1) []

-- in epoch 0 nothing is marked
abbrev pub no_marks : Shape → Marks
no_marks shape = replicate (marks_len shape) 0

-- the marks of an epoch that is known, as server 1 told them
abbrev pub marks_at : Shape → List ToldMarks → ℕ → Marks
marks_at shape told e = slice_index_or (no_marks shape ∷ told_by told 1) e []

-- for each filter position whether it is marked
abbrev pub filter_of : Shape → Marks → List Bool
filter_of shape marks = map (has_bit marks) (range_with_len 0 shape.filter_bits)

-- ---- one more

-- the frame of an epoch's marks: kind 0b and version 1, the epoch, and the marks
abbrev pub is_epoch_frame : Shape → ℕ → List ℕ → Bool
is_epoch_frame shape e frame =
    length frame == 6 + marks_len shape && slice_index frame 1 == 1 && number_at 2 frame == e

-- what a server told of the epoch behind so many others, if it told that
abbrev pub told_behind : ℕ → ToldMarks → Option Marks
told_behind n telling = slice_get telling n

-- the marks are those that a server told, if one did
abbrev pub agrees : Option Marks → Marks → Bool
agrees None marks = true
agrees (Some others) marks = bytes_eq others marks

-- Server j tells one epoch more, the next one. It has to be the frame of that epoch, with the same
-- marks as any other server told of it.
abbrev pub with_epoch : Shape → List ToldMarks → ℕ → List ℕ → Result (List ToldMarks) Fault
with_epoch shape told j frame =
    let before = told_by told j in
    let n = length before in
    let marks = drop 6 frame in
    cond (nat_lt n shape.phases && is_epoch_frame shape (n + 1) frame)
    (cond (agrees (first_some (told_behind n) told) marks)
    (Ok (slice_set told (j - 1) (before ++ marks ∷ []))) (Err Differ))
    (Err Peer)
