-- The reads so far.
use Rattle.std.proofs.Common.{◌≡◌, List, map, take}
use Rattle.std.specs.List.{AllByRecursion}
use Rattle.tk_frames.specs.declared.read_frame.ReadFrame.{ReadFrame as Frame}
use Rattle.tk_frames.specs.Ranges.{IsRead}
use Rattle.tk_frames.specs.Spelling.{read_frame}
use Rattle.tk_relay.proofs.asked_reads.read_all.Given as goal

abbrev pub invariant-loop-bytes : goal.invariant-loop-bytes
invariant-loop-bytes l =
    (reads : List Frame) → AllByRecursion (IsRead l.shape) reads →
    l.spelled ≡ map read_frame reads → l.frames.items ≡ take l.bytes-index reads
