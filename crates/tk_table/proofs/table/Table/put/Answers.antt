use Rattle.std.proofs.Common.{◌≡◌, ap, sym, subst, ◌∙◌}
use Rattle.tk_table.specs.Stands.{Kept, IsPair}
use Rattle.tk_table.specs.Inside.{Laid}
use Rattle.tk_table.proofs.Standing.{shape_with_room, kept_with, write_stands, write_displaced}
use Rattle.tk_table.proofs.Standing.{latest_writes, left_below}
use Rattle.tk_table.proofs.table.Table.put.Goals as goal

pub invariant_of-self : goal.invariant_of-self
invariant_of-self c =
    let at = c.self.view_is ∙ c.make_room.ensures.table in
    let same : c.self.inside.shape ≡ c.args.self.now.shape =
    ap (λ (t : Kept). t.shape) at ∙ shape_with_room c.args.self.now in
    let room = rw (← c.self.view_is, ← same) at c.make_room.ensures.room in
    kept_with c.self.inside.shape c.self.inside.grid.shape _ c.self.inside.scratch.buckets _
    c.self.inside.grid.slots _ c.self.inside.latest _ _ _ c.args.position c.args.pair
    c.args.block.now c.self.invariant
    (ap (λ (g : Laid). g.shape) c.put-put.ensures.slots) c.put-put.ensures.size
    (ap (λ (g : Laid). g.slots) c.put-put.ensures.slots) c.come.ensures.room
    c.come.ensures.positions c.come.ensures.pairs room
    (left_below c.args.self.now c.self.inside.shape c.self.inside.grid.slots
    c.self.inside.latest.positions c.args.position c.requires.above at)
    (subst (λ shape. IsPair shape c.args.pair) (sym same) c.requires.pair)

pub returns-clause-stands : goal.returns-clause-stands
returns-clause-stands c = λ R w stands ordered is.
    write_stands c.args.self.now R w c.args.position c.args.pair c.args.block.now stands ordered is
    c.requires.first c.requires.above c.requires.pair
    c.self.inside.shape c.self.inside.grid.slots _
    c.self.inside.latest.positions _ (c.self.view_is ∙ c.make_room.ensures.table)
    (ap (λ (g : Laid). g.slots) c.put-put.ensures.slots)
    c.come.ensures.positions

pub returns-clause-displaced : goal.returns-clause-displaced
returns-clause-displaced c = λ R w stands ordered is.
    let means = write_displaced c.args.self.now R w c.args.position c.args.pair c.args.block.now
    stands ordered is c.requires.first c.requires.above c.requires.pair
    c.self.inside.shape c.self.inside.grid.slots c.self.inside.latest.positions
    (c.self.view_is ∙ c.make_room.ensures.table) in
    let found = c.put-put.ensures.displaced in
    (λ e. means.0 (found.0 e), λ e. found.1 (means.1 e))

pub returns-clause-latest : goal.returns-clause-latest
returns-clause-latest c =
    latest_writes c.args.self.now c.self.inside.shape c.self.inside.grid.slots
    c.self.inside.latest.positions c.come.new.self.positions c.args.position
    c.requires.above (c.self.view_is ∙ c.make_room.ensures.table) c.come.ensures.positions
