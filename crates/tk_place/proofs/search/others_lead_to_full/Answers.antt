use Rattle.std.proofs.Common.{ap, sym, ◌∙◌, arith}
use Rattle.std.specs.List.{list_all}
use Rattle.std.proofs.lemmas.List.{take_all}
use Rattle.tk_place.specs.Table.{leads_to_full}
use Rattle.tk_place.proofs.Leading.{row_below, row_full, others_by_row}
use Rattle.tk_place.proofs.search.others_lead_to_full.Goals as goal

pub leads_to_full-all-requires-clause-within : goal.leads_to_full-all-requires-clause-within
leads_to_full-all-requires-clause-within g c =
    row_below _ _ _ _ _ c.requires.table c.others-other-items.ensures (omega arith)

pub leads_to_full-all-requires-clause-full : goal.leads_to_full-all-requires-clause-full
leads_to_full-all-requires-clause-full g c =
    row_full _ _ _ _ c.others-other-items.ensures c.requires.led (omega arith)

pub returns : goal.returns
returns g c =
    let T = g.V.Slots.others c.args.slots.now in
    let row = c.others-other-items.result.now in
    c.loop-other.invariant
    ∙ ap (list_all (leads_to_full T)) (take_all c.loop-other.other-index row (omega arith))
    ∙ sym (others_by_row T c.args.bucket row c.others-other-items.ensures)
