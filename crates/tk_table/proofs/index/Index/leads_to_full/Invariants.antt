use Rattle.std.proofs.Common.{◌≡◌, take, is_none}
use Rattle.std.specs.List.{list_all}
use Rattle.tk_place.specs.Place.{lowest_empty}
use Rattle.tk_table.proofs.index.Index.leads_to_full.Given as goal

abbrev pub invariant-loop-other : goal.invariant-loop-other
invariant-loop-other l =
    l.all ≡ list_all (λ o. is_none (lowest_empty l.self o)) (take l.other-index l.other-items)
