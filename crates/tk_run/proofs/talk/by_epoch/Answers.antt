-- The epochs rise.
use Rattle.std.proofs.Common.{rules}
use Rattle.std.proofs.lemmas.List.Sorted.{IsNonDecreasingBy-from_sort_by_key}
use Rattle.tk_run.specs.Answering.{epoch_of}
use Rattle.tk_run.proofs.talk.by_epoch.Goals as goal

pub returns-clause-ordered : goal.returns-clause-ordered
returns-clause-ordered c =
    IsNonDecreasingBy-from_sort_by_key epoch_of _ c.sort_unstable_by_key.ensures.sorted
    (λ a r q k. search rules)
