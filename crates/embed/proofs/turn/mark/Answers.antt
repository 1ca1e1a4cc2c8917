-- The mark's frame is that of an entry in range.
use Rattle.std.proofs.Common.{◌∙◌, ◌+◌, ◌*◌, ℕ, ap}
use Rattle.tk_frames.specs.declared.entry.Entry.TheVariants.{Mark}
use Rattle.tk_frames.specs.Spelling.{entry_frame}
use Rattle.embed.specs.Turns.{mark_of}
use Rattle.embed.proofs.TurnLaws.{placed-mark}
use Rattle.embed.proofs.turn.mark.Goals as goal

pub returns-clause-servers : goal.returns-clause-servers
returns-clause-servers c = λ shape E are low.
    c.take_all.ensures.taken shape E (mark_of c.args.turn) are (placed-mark shape c.args.turn low)
    (c.as_slice.ensures.value ∙ c.in_ok-mark.ensures
    ∙ ap (λ (n : ℕ). entry_frame (2 * n + 2) (Mark (c.args.turn + 1))) c.from.ensures)

pub returns-clause-due : goal.returns-clause-due
returns-clause-due c = λ shape E are next.
    c.take_all.ensures.due shape E (mark_of c.args.turn) are next
    (c.as_slice.ensures.value ∙ c.in_ok-mark.ensures
    ∙ ap (λ (n : ℕ). entry_frame (2 * n + 2) (Mark (c.args.turn + 1))) c.from.ensures)
