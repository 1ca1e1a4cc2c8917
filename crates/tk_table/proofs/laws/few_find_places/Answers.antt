use Rattle.tk_table.proofs.FewPlaces.{few-find_places}
use Rattle.tk_table.proofs.laws.few_find_places.Goals as goal

pub returns : goal.returns
returns c = few-find_places c.fit_by_placements.ensures
