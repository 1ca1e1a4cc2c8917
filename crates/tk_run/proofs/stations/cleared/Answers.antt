-- One station more is cleared.
use Rattle.std.proofs.Common.{◌++◌, ◌∷◌, [], ap, sym, ◌∙◌, List}
use Rattle.std.proofs.lemmas.List.{map-append}
use Rattle.tk_run.specs.Answering.{Replies}
use Rattle.tk_run.specs.declared.stations.Station.{Station}
use Rattle.tk_run.proofs.stations.cleared.Goals as goal

pub clearing-preserved : goal.clearing-preserved
clearing-preserved c =
    let station = c.in-Some.station in
    c.in_ok-push-2.ensures.items
    ∙ ap (λ (xs : List Replies). xs ++ station.replies ∷ []) c.clearing.invariant
    ∙ sym (map-append (λ (s : Station). s.replies) c.clearing.yielded (station ∷ []))
