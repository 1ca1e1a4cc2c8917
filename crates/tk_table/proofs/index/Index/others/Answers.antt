use Rattle.std.proofs.Common.{◌*◌, ap, sym, ◌∙◌, arith, drop, length, map, take}
use Rattle.std.specs.Prelude.{Some}
use Rattle.tk_table.proofs.Used.{others_at, part_ends}
use Rattle.tk_table.proofs.index.Index.others.Goals as goal

pub part-requires-clause-within : goal.part-requires-clause-within
part-requires-clause-within c =
    let ends = part_ends _ _ _ _ _ c.self.invariant _ c.self.view_is c.args.bucket c.requires.within in
    omega (arith, ends.1, ap length c.deref.ensures.value)

pub part-requires-clause-small : goal.part-requires-clause-small
part-requires-clause-small c =
    let ends = part_ends _ _ _ _ _ c.self.invariant _ c.self.view_is c.args.bucket c.requires.within in
    omega (arith, ends.3, ap length c.deref.ensures.value)

pub returns : goal.returns
returns c =
    let x = c.self.inside in
    others_at _ _ _ _ _ c.self.invariant _ c.self.view_is c.args.bucket c.requires.within c.requires.full
    ∙ ap (map (λ o. Some o))
    (sym (c.part.ensures ∙ ap (λ os. take x.depth (drop (c.args.bucket * x.depth) os)) c.deref.ensures.value))
