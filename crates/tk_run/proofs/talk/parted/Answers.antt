-- One reading more is taken apart.
use Rattle.std.proofs.Common.{◌++◌, ◌∷◌, [], ap, sym, ◌∙◌, List}
use Rattle.std.proofs.lemmas.List.{map-append}
use Rattle.tk_client.specs.Client.{ClientState}
use Rattle.tk_run.specs.declared.talk.Talk.{Talk}
use Rattle.tk_run.specs.declared.talk.Reading.{Reading}
use Rattle.tk_run.proofs.talk.parted.Goals as goal

pub parting-preserved : goal.parting-preserved
parting-preserved c =
    let so_far = c.parting.invariant in
    let read = c.parting.yielded in
    let reading = c.in-Some.reading in
    record {
      clients =
          c.in_ok-push.ensures.items
          ∙ ap (λ (xs : List ClientState). xs ++ reading.client ∷ []) so_far.clients
          ∙ sym (map-append (λ (r : Reading). r.client) read (reading ∷ []));
      talks =
          c.in_ok-push-2.ensures.items
          ∙ ap (λ (xs : List Talk). xs ++ reading.talk ∷ []) so_far.talks
          ∙ sym (map-append (λ (r : Reading). r.talk) read (reading ∷ []));
    }
