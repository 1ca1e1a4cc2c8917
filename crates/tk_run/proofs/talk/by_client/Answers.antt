-- The numbers of the clients rise.
use Rattle.std.proofs.Common.{rules}
use Rattle.std.proofs.lemmas.List.Sorted.{IsNonDecreasingBy-from_sort_by_key}
use Rattle.tk_run.specs.declared.talk.Reading.{Reading}
use Rattle.tk_run.proofs.talk.by_client.Goals as goal

pub returns-clause-ordered : goal.returns-clause-ordered
returns-clause-ordered c =
    IsNonDecreasingBy-from_sort_by_key (λ (r : Reading). r.client.number) _ c.sort_unstable_by_key.ensures.sorted
    (λ a r q k. search rules)
