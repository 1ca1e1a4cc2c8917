-- What a computation of the definitions unfolds.
use Rattle.std.specs.Prelude.{⊤}
use Rattle.tk_kernel.specs.Chosen.{chosen_sum}
use Rattle.tk_place.specs.Place.{levels_from, search_end}
use Rattle.tk_table.specs.Table.{layout_with, layout_on}
use Rattle.tk_privacy.proofs.Offers as privacy
use Rattle.tk_hostile.specs.Choice.{replies_by}
use Rattle.tk_hostile.specs.Wrong.{reader_asking, wrong_normal, wrong_unnormal}
use Rattle.tk_hostile.specs.Attack.{keys_of, unattacked, after_write, ask_of, after_ask, moved, attacked}
use Rattle.tk_hostile.specs.Attack.{attack_normal, attack_unnormal}

unfoldable pub computing : ⊤
unfolding privacy.computing chosen_sum levels_from search_end layout_with layout_on replies_by
    reader_asking wrong_normal wrong_unnormal keys_of unattacked after_write ask_of after_ask moved
    attacked attack_normal attack_unnormal
computing = tt
