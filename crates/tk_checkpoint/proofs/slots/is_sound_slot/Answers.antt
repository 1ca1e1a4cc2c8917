use Rattle.std.proofs.Common.{ap, ap₂, sym, ◌∙◌, arith}
use Rattle.std.specs.Prelude.{◌==◌, ◌||◌, ◌&&◌, not}
use Rattle.std.specs.List.{list_any}
use Rattle.tk_frames.specs.Slots.{slot_from}
use Rattle.tk_checkpoint.specs.Reading.{positions_from}
use Rattle.tk_checkpoint.specs.Sound.{has_slot}
use Rattle.tk_checkpoint.proofs.Flags.{flags_above}
use Rattle.tk_checkpoint.proofs.SlotChecks.{zero_position}
use Rattle.tk_checkpoint.proofs.slots.is_sound_slot.Goals as goal

pub returns-then-is_zeros-clause-noted : goal.returns-then-is_zeros-clause-noted
returns-then-is_zeros-clause-noted c earlier told _ =
    let positions = positions_from c.args.shape.now.hits c.args.count c.args.window.now in
    let s = slot_from c.args.slot.now in
    let zero = zero_position s (sym c.if-is_zeros.ensures) in
    told ∙ sym (flags_above earlier s 1 positions c.requires.ascending (omega (arith, zero)))

pub returns-clause-sound : goal.returns-clause-sound
returns-clause-sound c earlier told =
    let positions = positions_from c.args.shape.now.hits c.args.count c.args.window.now in
    let x = (slot_from c.args.slot.now).position in
    c.note.ensures.new earlier told
    ∙ ap (λ n. list_any (λ p. p == n) positions && not (has_slot earlier n)) c.u64_at.ensures
    ∙ ap₂ (λ a b. a || ((b && list_any (λ p. p == x) positions) && not (has_slot earlier x)))
    c.if-is_zeros.ensures c.if-not-lies_in.ensures
