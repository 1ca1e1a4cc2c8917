-- The laws are proved of the definitions.
use Rattle.tk_client.proofs.InRangeLaws.{asked-in_range, pair-in_range, fresh-whole, seeds-whole}
use Rattle.tk_client.proofs.laws.asked_in_range.Goals as goal

pub returns-clause-frames : goal.returns-clause-frames
returns-clause-frames c = asked-in_range

pub returns-clause-buckets : goal.returns-clause-buckets
returns-clause-buckets c = pair-in_range

pub returns-clause-vectors : goal.returns-clause-vectors
returns-clause-vectors c = fresh-whole

pub returns-clause-seeds : goal.returns-clause-seeds
returns-clause-seeds c = seeds-whole
