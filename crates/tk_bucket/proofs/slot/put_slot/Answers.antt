use Rattle.std.proofs.Common.{ap, ◌∙◌}
use Rattle.tk_frames.specs.Slots.{slot_from}
use Rattle.tk_bucket.proofs.OneSlot.{slot_from-slot_bytes}
use Rattle.tk_bucket.proofs.slot.put_slot.Goals as goal

pub returns-clause-slot : goal.returns-clause-slot
returns-clause-slot c =
    ap slot_from c.spell_slot.ensures.bytes
    ∙ slot_from-slot_bytes c.args.position c.args.first c.args.second c.args.block.now
    c.ranges.position.fits c.ranges.first.fits c.ranges.second.fits
