use Rattle.std.proofs.Common.{sym, ◌∙◌}
use mathlib.Core.Option.{none}
use Rattle.atomic_table.specs.Table.{step}
use Rattle.tk_board.proofs.Moves.{meets}
use Rattle.tk_board.proofs.tally.Tally.meet.Goals as goal

pub load-requires : goal.load-requires
load-requires g c =
    let t = c.self.inside.words.shared.table_id in
    let p = c.args.place.now in (
      c.requires.0 ∙ sym c.self.view_is,
      c.self.invariant,
      meets t.slots p.id p.me (step t.slots 0 0 0 none) c.requires.1,
    )
