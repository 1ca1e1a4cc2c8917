-- The clients at the end of a run under wrong replies.
use Rattle.std.proofs.Common.{ap, ℕ, List}
use Rattle.tk_shape.specs.Lengths.{turn_count}
use Rattle.tk_schedule.specs.declared.history.History.{History}
use Rattle.tk_script.specs.declared.script.Script.{Script}
use Rattle.tk_words.specs.Words.{WordBook}
use Rattle.tk_client.specs.Client.{ClientState}
use Rattle.tk_report.specs.Clients.{AreClients, client_knowing}
use Rattle.tk_hostile.specs.Choice.{Choice}
use Rattle.tk_hostile.specs.Wrong.{wrong_reader, AreWrongedClients}

pub clients-at_end : (S : Script) (b : WordBook) (H : History) (h : ℕ) (F : Choice)
    (clients : List ClientState) →
    let turns = turn_count S.shape in
    AreClients S.shape.clients (client_knowing S (λ c. wrong_reader S b H h F c turns) turns) clients →
    AreWrongedClients S b H h F clients
unfolding client_knowing
clients-at_end S b H h F clients are =
    record {
      are = are;
      logs = λ c d within. ap (λ (s : ClientState). s.reader.follows) (are.each c d within);
    }
