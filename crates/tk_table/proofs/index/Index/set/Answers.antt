use Rattle.std.proofs.Common.{◌+◌, ◌*◌, ap, ap₂, arith, drop, is_none, length, set, subst, sym, take, ◌∙◌}
use Rattle.std.specs.Prelude.{is_some, not, position}
use Rattle.std.proofs.lemmas.List.{length-set}
use Rattle.std.proofs.Math.Bool.{not-not}
use Rattle.tk_table.specs.Rows.{rows, slots_in, IsIndex}
use Rattle.tk_table.proofs.Used.{low_at, inner_at, part_ends, rows_set, index_set}
use Rattle.tk_table.proofs.index.Index.set.Goals as goal

pub index_mut-requires : goal.index_mut-requires
index_mut-requires c =
    let x = c.self.inside in
    let at = c.args.at in
    let within = low_at _ _ _ _ _ c.self.invariant _ c.self.view_is c.args.at.bucket c.requires.bucket in
    let ends = part_ends _ _ _ _ _ c.self.invariant _ c.self.view_is c.args.at.bucket c.requires.bucket in
    let inner = inner_at _ _ _ _ _ c.self.invariant _ c.self.view_is c.args.at.bucket c.requires.bucket at.slot c.requires.slot in
    omega (arith, ends.1, inner, x.others.ok.0)

pub index_mut-requires-2 : goal.index_mut-requires-2
index_mut-requires-2 c =
    let x = c.self.inside in
    let at = c.args.at in
    let within = low_at _ _ _ _ _ c.self.invariant _ c.self.view_is c.args.at.bucket c.requires.bucket in
    let ends = part_ends _ _ _ _ _ c.self.invariant _ c.self.view_is c.args.at.bucket c.requires.bucket in
    let inner = inner_at _ _ _ _ _ c.self.invariant _ c.self.view_is c.args.at.bucket c.requires.bucket at.slot c.requires.slot in
    omega (arith, ends.2, inner, x.used.ok.0)

pub part-requires-clause-within : goal.part-requires-clause-within
part-requires-clause-within c =
    let x = c.self.inside in
    let at = c.args.at in
    let within = low_at _ _ _ _ _ c.self.invariant _ c.self.view_is c.args.at.bucket c.requires.bucket in
    let ends = part_ends _ _ _ _ _ c.self.invariant _ c.self.view_is c.args.at.bucket c.requires.bucket in
    let inner = inner_at _ _ _ _ _ c.self.invariant _ c.self.view_is c.args.at.bucket c.requires.bucket at.slot c.requires.slot in
    omega (arith, ends.2, ap length c.deref.ensures.value, length-set x.used.items (at.bucket * x.depth + at.slot) c.is_some.result)

pub part-requires-clause-small : goal.part-requires-clause-small
part-requires-clause-small c =
    let x = c.self.inside in
    let at = c.args.at in
    let within = low_at _ _ _ _ _ c.self.invariant _ c.self.view_is c.args.at.bucket c.requires.bucket in
    let ends = part_ends _ _ _ _ _ c.self.invariant _ c.self.view_is c.args.at.bucket c.requires.bucket in
    let inner = inner_at _ _ _ _ _ c.self.invariant _ c.self.view_is c.args.at.bucket c.requires.bucket at.slot c.requires.slot in
    omega (arith, ends.4, ap length c.deref.ensures.value, length-set x.used.items (at.bucket * x.depth + at.slot) c.is_some.result)

pub invariant_of-self : goal.invariant_of-self
invariant_of-self c =
    let x = c.self.inside in
    let at = c.args.at in
    let within = low_at _ _ _ _ _ c.self.invariant _ c.self.view_is c.args.at.bucket c.requires.bucket in
    let ends = part_ends _ _ _ _ _ c.self.invariant _ c.self.view_is c.args.at.bucket c.requires.bucket in
    let inner = inner_at _ _ _ _ _ c.self.invariant _ c.self.view_is c.args.at.bucket c.requires.bucket at.slot c.requires.slot in
    let place = at.bucket * x.depth + at.slot in
    let empty = c.first_empty-empty.ensures
    ∙ ap (position (λ u. not u)) (c.part.ensures
    ∙ ap (λ us. take x.depth (drop (at.bucket * x.depth) us))
    (c.deref.ensures.value ∙ ap (set x.used.items place) c.is_some.ensures)) in
    let mark = sym (not-not c.is_none.result) ∙ sym (ap not c.is_none.ensures) ∙ ap is_none empty in
    let is = index_set x.buckets x.depth at.bucket at.slot x.others.items x.used.items x.full.items
    c.args.other c.is_none.result c.self.invariant within inner mark in
    let os = sym (ap (set x.others.items place) c.unwrap_or.ensures) in
    let us = sym (ap (set x.used.items place) c.is_some.ensures) in
    subst (λ us. IsIndex x.buckets x.depth (set x.others.items place c.unwrap_or.result) us (set x.full.items at.bucket c.is_none.result)) us
    (subst (λ os. IsIndex x.buckets x.depth os (set x.used.items place (is_some c.args.other)) (set x.full.items at.bucket c.is_none.result)) os is)

pub returns : goal.returns
returns c =
    let x = c.self.inside in
    let at = c.args.at in
    let within = low_at _ _ _ _ _ c.self.invariant _ c.self.view_is c.args.at.bucket c.requires.bucket in
    let ends = part_ends _ _ _ _ _ c.self.invariant _ c.self.view_is c.args.at.bucket c.requires.bucket in
    let inner = inner_at _ _ _ _ _ c.self.invariant _ c.self.view_is c.args.at.bucket c.requires.bucket at.slot c.requires.slot in
    let place = at.bucket * x.depth + at.slot in
    rw (← c.self.view_is)
    (ap₂ (λ other is_used. rows x.buckets x.depth (slots_in (set x.others.items place other) (set x.used.items place is_used)))
    c.unwrap_or.ensures c.is_some.ensures
    ∙ rows_set x.buckets x.depth at.bucket at.slot x.others.items x.used.items c.args.other within inner)
