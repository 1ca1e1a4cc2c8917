-- One more byte of the marks.
use Rattle.std.proofs.Common.{rules, zero-add}
use Rattle.std.proofs.lemmas.List.FromFn.{map-range_with_len_more}
use Rattle.tk_packets.specs.Marks.{mark_byte, mark_bytes}
use Rattle.tk_packets.proofs.marks.marks_of.Goals as goal

pub bytes-init : goal.bytes-init
unfolding mark_bytes
bytes-init c = search rules

pub bytes-preserved : goal.bytes-preserved
unfolding mark_bytes
bytes-preserved c =
    let more = map-range_with_len_more (mark_byte c.args.filter.now) 0 c.bytes.i c.bytes.i (zero-add c.bytes.i) in
    let pushed = c.in_ok-push.ensures.items in
    let byte = c.mark_byte.ensures in
    let before = c.bytes.invariant in
    cc
