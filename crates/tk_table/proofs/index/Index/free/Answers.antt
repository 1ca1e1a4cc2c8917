use Rattle.std.proofs.Common.{◌*◌, ap, sym, ◌∙◌, arith, drop, length, take}
use Rattle.std.specs.Prelude.{position, not}
use Rattle.tk_table.proofs.Used.{free_at, part_ends}
use Rattle.tk_table.proofs.index.Index.free.Goals as goal

pub part-requires-clause-within : goal.part-requires-clause-within
part-requires-clause-within c =
    let ends = part_ends _ _ _ _ _ c.self.invariant _ c.self.view_is c.args.bucket c.requires in
    omega (arith, ends.2, ap length c.deref.ensures.value)

pub part-requires-clause-small : goal.part-requires-clause-small
part-requires-clause-small c =
    let ends = part_ends _ _ _ _ _ c.self.invariant _ c.self.view_is c.args.bucket c.requires in
    omega (arith, ends.4, ap length c.deref.ensures.value)

pub returns-in-Some : goal.returns-in-Some
returns-in-Some c =
    let x = c.self.inside in
    let free = free_at _ _ _ _ _ c.self.invariant _ c.self.view_is c.args.bucket c.requires in
    sym c.in-Some.is ∙ c.first_empty.ensures
    ∙ ap (position (λ u. not u)) (c.part.ensures ∙ ap (λ us. take x.depth (drop (c.args.bucket * x.depth) us)) c.deref.ensures.value)
    ∙ free

pub returns-in-None : goal.returns-in-None
returns-in-None c =
    let x = c.self.inside in
    let free = free_at _ _ _ _ _ c.self.invariant _ c.self.view_is c.args.bucket c.requires in
    sym c.in-None.is ∙ c.first_empty.ensures
    ∙ ap (position (λ u. not u)) (c.part.ensures ∙ ap (λ us. take x.depth (drop (c.args.bucket * x.depth) us)) c.deref.ensures.value)
    ∙ free
