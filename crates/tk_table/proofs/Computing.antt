-- What a computation of the definitions unfolds.
use Rattle.std.specs.Prelude.{⊤}
use Rattle.std.specs.Int.Count.{ones}
use Rattle.tk_place.specs.Place.{is_placeable}
use Rattle.tk_table.specs.Table.{retained_with, retained_on}

unfoldable pub computing : ⊤
unfolding ones is_placeable retained_with retained_on
computing = tt
