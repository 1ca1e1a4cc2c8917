-- The filter of the first server's epoch is that of the writes before its mark.
use Rattle.std.proofs.Common.{ap, ◌∙◌}
use Rattle.tk_bloom.specs.Filters.{all_marked}
use Rattle.tk_cluster.proofs.set.EpochSet.filter.Goals as goal

pub returns-clause-marks : goal.returns-clause-marks
returns-clause-marks c shape E stands =
    c.filter.ensures ∙ (c.epoch.ensures.is shape E stands).stands.filter

pub returns-clause-shows : goal.returns-clause-shows
returns-clause-shows c shape E stands hits =
    ap (λ m. all_marked m hits) c.filter.ensures
    ∙ (c.epoch.ensures.is shape E stands).stands.shows hits
