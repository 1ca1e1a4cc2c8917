use Rattle.std.proofs.Common.{◌∙◌, ◌*◌, ◌/◌, ap, sym, arith, drop, take, length, replicate, true, false, refl}
use Rattle.std.proofs.lemmas.Nat.{row_fits}
use Rattle.std.proofs.lemmas.List.{length-drop}
use Rattle.tk_shape.specs.Lengths.{slot_len}
use Rattle.tk_table.specs.Restoring.{slots_spelled}
use Rattle.tk_checkpoint.specs.Reading.{positions_from}
use Rattle.tk_checkpoint.proofs.Flags.{no_flags}
use Rattle.tk_checkpoint.proofs.Places.{length-positions}
use Rattle.tk_checkpoint.proofs.SlotChecks.{none_checked, this_sound, one_more_checked, first_unsound, all_checked}
use Rattle.tk_checkpoint.proofs.slots.check_each.Goals as goal

pub loop-n-init : goal.loop-n-init
loop-n-init c =
    let positions = positions_from c.args.shape.now.hits c.args.count c.args.window.now in
    let long = length-positions c.args.shape.now.hits c.args.count c.args.window.now in
    none_checked c.args.shape.now positions c.args.table.now c.args.found.now
    (c.requires.none_found ∙ ap (λ n. replicate n false) (sym long) ∙ no_flags positions)

pub split_at-requires : goal.split_at-requires
split_at-requires c =
    let shape = c.args.shape.now in
    let len = slot_len shape in
    let ends = row_fits c.loop-n.n len (shape.buckets * shape.depth) len c.loop-n-test.true (omega arith) in
    let left = ap length c.loop-n.invariant.left ∙ length-drop (c.loop-n.n * len) c.args.table.now in
    omega (arith, ends, left, c.requires.whole, c.slot_len-len.ensures)

pub returns-then-not-is_sound_slot : goal.returns-then-not-is_sound_slot
returns-then-not-is_sound_slot c =
    let shape = c.args.shape.now in
    let table = c.args.table.now in
    let rest = c.loop-n.rest.now in
    let slot = c.split_at.result.0.now in
    let positions = positions_from shape.hits c.args.count c.args.window.now in
    let front = c.split_at.ensures.front ∙ ap (λ n. take n rest) c.slot_len-len.ensures in
    let sound = this_sound shape positions table c.loop-n.n c.loop-n.found rest slot c.loop-n-test.true c.loop-n.invariant
    front (c.loop-n.n / shape.depth) false refl
    (c.if-not-is_sound_slot.ensures.sound (take c.loop-n.n (slots_spelled shape table)) c.loop-n.invariant.flagged) in
    sym (first_unsound shape positions table c.loop-n.n c.loop-n.found rest slot c.loop-n-test.true c.loop-n.invariant
    front sound)

pub loop-n-preserved : goal.loop-n-preserved
loop-n-preserved c =
    let shape = c.args.shape.now in
    let table = c.args.table.now in
    let rest = c.loop-n.rest.now in
    let slot = c.split_at.result.0.now in
    let earlier = take c.loop-n.n (slots_spelled shape table) in
    let positions = positions_from shape.hits c.args.count c.args.window.now in
    let front = c.split_at.ensures.front ∙ ap (λ n. take n rest) c.slot_len-len.ensures in
    let sound = this_sound shape positions table c.loop-n.n c.loop-n.found rest slot c.loop-n-test.true c.loop-n.invariant
    front (c.loop-n.n / shape.depth) true refl
    (c.if-not-is_sound_slot.ensures.sound earlier c.loop-n.invariant.flagged) in
    one_more_checked shape positions table c.loop-n.n c.loop-n.found rest slot c.loop-n-test.true c.loop-n.invariant
    front c.is_sound_slot.new.found c.split_at.result.1.now
    (c.split_at.ensures.back ∙ ap (λ n. drop n rest) c.slot_len-len.ensures)
    (c.if-not-is_sound_slot.ensures.noted earlier c.loop-n.invariant.flagged refl) sound

pub returns : goal.returns
returns c =
    sym (all_checked c.args.shape.now (positions_from c.args.shape.now.hits c.args.count c.args.window.now) c.args.table.now
    c.loop-n.n c.loop-n.found c.loop-n.rest.now c.loop-n-test.false c.loop-n.invariant)
