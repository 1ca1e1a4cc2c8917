use Rattle.std.proofs.Common.{◌<◌, ◌&&◌, ap, ap₂, sym, ◌∙◌, arith, is_none, length}
use Rattle.std.specs.List.{list_all}
use Rattle.std.proofs.lemmas.List.{take_all}
use Rattle.std.proofs.lemmas.List.Folds.{list_all_more}
use Rattle.tk_place.specs.Place.{lowest_empty}
use Rattle.tk_table.proofs.Used.{leads_by_row, mark_at, named_at, part_ends}
use Rattle.tk_table.proofs.index.Index.leads_to_full.Goals as goal

pub index-requires : goal.index-requires
index-requires c =
    let row = c.others-other-items.result.now in
    let named = named_at _ _ row c.others-other-items.ensures c.requires.named c.loop-other.other-index 0
    (omega arith) in
    let ends = part_ends _ _ _ _ _ c.self.invariant _ c.self.view_is _ named in
    omega (arith, ends.0, c.self.inside.full.ok.0)

pub loop-other-preserved : goal.loop-other-preserved
loop-other-preserved c =
    let T = c.args.self.now in
    let row = c.others-other-items.result.now in
    let i = c.loop-other.other-index in
    let within : i < length row = omega arith in
    let named = named_at _ _ row c.others-other-items.ensures c.requires.named i 0 within in
    let mark = c.index.ensures
    ∙ mark_at _ _ _ _ _ c.self.invariant _ c.self.view_is _ c.index.result.now named in
    ap₂ (λ x y. x && y) c.loop-other.invariant mark
    ∙ sym (list_all_more (λ o. is_none (lowest_empty T o)) row i 0 within)

pub returns : goal.returns
returns c =
    let T = c.args.self.now in
    let row = c.others-other-items.result.now in
    c.loop-other.invariant
    ∙ ap (list_all (λ o. is_none (lowest_empty T o)))
    (take_all c.loop-other.other-index row (omega arith))
    ∙ sym (leads_by_row T c.args.bucket row c.others-other-items.ensures)
