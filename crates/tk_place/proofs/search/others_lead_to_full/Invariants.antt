use Rattle.std.proofs.Common.{◌≡◌, take}
use Rattle.std.specs.List.{list_all}
use Rattle.tk_place.specs.Table.{leads_to_full}
use Rattle.tk_place.proofs.search.others_lead_to_full.Given as goal

abbrev pub invariant-loop-other : goal.invariant-loop-other
invariant-loop-other g l =
    l.all ≡ list_all (leads_to_full (g.V.Slots.others l.slots)) (take l.other-index l.other-items)
