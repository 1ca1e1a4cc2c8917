use Rattle.tk_place.proofs.Fits.{fits_by_placements}
use Rattle.tk_place.proofs.laws.fit_by_placements.Goals as goal

pub returns : goal.returns
returns c = fits_by_placements
