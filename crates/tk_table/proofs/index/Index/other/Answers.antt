use Rattle.std.proofs.Common.{◌*◌, ap, sym, ◌∙◌, arith, drop, length, take}
use Rattle.std.specs.Prelude.{Some, slice_index_or}
use Rattle.tk_table.proofs.Rows.{some_within}
use Rattle.tk_table.proofs.Used.{other_at, part_ends}
use Rattle.tk_table.proofs.index.Index.other.Goals as goal

pub part-requires-clause-within : goal.part-requires-clause-within
part-requires-clause-within c =
    let low = (some_within c.args.self.now c.args.bucket c.args.slot c.requires).0 in
    let ends = part_ends _ _ _ _ _ c.self.invariant _ c.self.view_is c.args.bucket low in
    omega (arith, ends.1, ap length c.deref.ensures.value)

pub part-requires-clause-small : goal.part-requires-clause-small
part-requires-clause-small c =
    let low = (some_within c.args.self.now c.args.bucket c.args.slot c.requires).0 in
    let ends = part_ends _ _ _ _ _ c.self.invariant _ c.self.view_is c.args.bucket low in
    omega (arith, ends.3, ap length c.deref.ensures.value)

pub bounds-part-slot : goal.bounds-part-slot
bounds-part-slot c =
    let x = c.self.inside in
    let low = (some_within c.args.self.now c.args.bucket c.args.slot c.requires).0 in
    let found = other_at _ _ _ _ _ c.self.invariant _ c.self.view_is c.args.bucket c.args.slot 0 low
    c.requires in
    let part = c.part.ensures
    ∙ ap (λ os. take x.depth (drop (c.args.bucket * x.depth) os)) c.deref.ensures.value in
    omega (arith, found.0, ap length part)

pub returns : goal.returns
returns c =
    let x = c.self.inside in
    let low = (some_within c.args.self.now c.args.bucket c.args.slot c.requires).0 in
    let found = other_at _ _ _ _ _ c.self.invariant _ c.self.view_is c.args.bucket c.args.slot 0 low
    c.requires in
    let part = c.part.ensures
    ∙ ap (λ os. take x.depth (drop (c.args.bucket * x.depth) os)) c.deref.ensures.value in
    found.1 ∙ ap (λ os. Some (slice_index_or os c.args.slot 0)) (sym part)
