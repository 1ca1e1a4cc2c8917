-- A run under wrong replies, before its first turn.
use Rattle.std.proofs.Common.{◌≡◌, refl, ap, ◌∙◌, ℕ}
use Rattle.tk_schedule.specs.declared.history.History.{History}
use Rattle.tk_script.specs.declared.script.Script.{Script}
use Rattle.tk_words.specs.Words.{WordBook}
use Rattle.tk_client.specs.Reader.{Reader}
use Rattle.tk_report.specs.Clients.{client_knowing, known_first, idle}
use Rattle.tk_report.specs.Groups.{IsGroup}
use Rattle.tk_report.specs.Queues.{writing_before}
use Rattle.tk_report.specs.declared.group.Group.{Group}
use Rattle.tk_hostile.specs.declared.sides.Sides.{Sides}
use Rattle.tk_hostile.specs.Choice.{Choice}
use Rattle.tk_hostile.specs.Wrong.{reader_asking}
use Rattle.tk_hostile.specs.Walks.{knows_before}

first-known : (S : Script) (b : WordBook) (H : History) (sides : Sides) (F : Choice) (c : ℕ) →
    known_first S c ≡ knows_before S b H sides F 0 c
unfolding reader_asking
first-known S b H sides F c = refl

-- before the first turn each client knows what it knows first
pub group-known : (S : Script) (b : WordBook) (H : History) (sides : Sides) (F : Choice)
    (group : Group) → IsGroup S (known_first S) 0 group →
    IsGroup S (knows_before S b H sides F 0) 0 group
unfolding client_knowing
group-known S b H sides F group is =
    record {
      said = is.said;
      clients = record {
        counted = is.clients.counted;
        each = λ c d low.
            is.clients.each c d low
            ∙ ap (λ (r : Reader). idle S.shape c (writing_before S c 0) r)
            (first-known S b H sides F c);
      };
    }
