-- What a run of threads leaves, and what its taps have.
use Rattle.std.specs.Prelude.{◌≡◌, ℕ, List, map, Option, Result, OnOk, OnErr, IfOk}
use Rattle.std.specs.List.{range_with_len}
use Rattle.tk_shape.specs.declared.shape.Shape.{Shape}
use Rattle.tk_shape.specs.Lengths.{turn_count}
use Rattle.tk_io.specs.Tapped.{TapsGain, TapsGainFronts, TapsKeepBut}
use Rattle.tk_schedule.specs.declared.history.History.{History}
use Rattle.tk_schedule.specs.Schedule.{IsLegal, epoch_at}
use Rattle.tk_script.specs.declared.script.Script.{Script}
use Rattle.tk_words.specs.Words.{WordBook, words_of}
use Rattle.tk_report.specs.declared.outcome.Outcome.{Outcome}
use Rattle.tk_report.specs.Clients.{AreClients}
use Rattle.tk_report.specs.Displaced.{displaced_count}
use Rattle.tk_report.specs.Entries.{entries}
use Rattle.tk_report.specs.Exchange.{exchange, bytes_of}
use Rattle.tk_report.specs.Outcomes.{IsLeftBy}
use Rattle.tk_report.specs.Serving.{Serving, exchange_under}
use Rattle.tk_cluster.specs.Closings.{Ended}
use Rattle.tk_run.specs.declared.closed_run.ClosedRun.{ClosedRun}
use Rattle.tk_run.specs.Ranged.{Summing}
use Rattle.tk_run.specs.Ranging.{over_ranges}
use Rattle.tk_run.specs.Under.{client_under}

-- What taps have after a call. With an answer each from 1 to count gained what bytes gives for it,
-- with an error a front of it; no other gained anything.
pub record TapsAfter {X E : Type 0} (result : Result X E) (count : ℕ) (bytes : ℕ → List ℕ)
    (old new : ℕ → Option (List ℕ)) : Type 0 where
  pub ok : OnOk result (TapsGain count bytes old new)
  pub err : OnErr result (TapsGainFronts count bytes old new)
  pub others : TapsKeepBut count old new

-- the epochs that a client reads in a history, turn after turn
abbrev pub epochs_of : Shape → History → ℕ → List ℕ
epochs_of shape H c = map (λ g. epoch_at H g c) (range_with_len 0 (turn_count shape))

-- A run with this history left the outcome. Its closed cluster had the entries of the history in
-- their order, and each client's pass pinned the epochs that the client reads in it.
pub record IsRun (S : Script) (b : WordBook) (H : History) (r : Outcome × Ended) : Type 0 where
  pub left : IsLeftBy S (words_of S.shape b) H r.0
  pub order : r.1.order ≡ entries S (words_of S.shape b) H
  pub epochs : r.1.epochs ≡ map (epochs_of S.shape H) (range_with_len 0 S.shape.clients)

-- One legal history came about. What the run left is of it, and so is what the taps have.
pub record CameAbout (S : Script) (b : WordBook) {E : Type 0} (result : Result (Outcome × Ended) E)
    (old new : ℕ → Option (List ℕ)) : Type 0 where
  pub history : History
  pub legal : IsLegal S.shape history
  pub run : IfOk result (IsRun S b history)
  pub taps :
      TapsAfter result S.shape.servers (λ j. bytes_of (exchange S b history j)) old new

-- ---- whatever servers reply

-- A run with this history under a serving is over. Its clients are as they are at the end under it; its
-- cluster, and what was displaced, are of the history alone.
pub record IsClosedRun (S : Script) (b : WordBook) (H : History) (V : Serving) (r : ClosedRun)
    : Type 0 where
  pub history : r.history ≡ H
  pub clients : AreClients S.shape.clients (client_under S b H V (turn_count S.shape)) r.clients.items
  pub displaced : r.displaced ≡ displaced_count S (words_of S.shape b) H
  pub order : r.closed.order ≡ entries S (words_of S.shape b) H
  pub epochs : r.closed.epochs ≡ map (epochs_of S.shape H) (range_with_len 0 S.shape.clients)

-- One legal history came about, under the serving that it has. What the run left is of both, and so is
-- what the taps have.
pub record CameAboutUnder (S : Script) (b : WordBook) (V : History → Serving) {E : Type 0}
    (result : Result ClosedRun E) (old new : ℕ → Option (List ℕ)) : Type 0 where
  pub history : History
  pub legal : IsLegal S.shape history
  pub run : IfOk result (IsClosedRun S b history (V history))
  pub taps : TapsAfter result S.shape.servers
      (λ j. bytes_of (exchange_under S b history (V history) j)) old new

-- so where its servers make these sums over so many even ranges
abbrev pub CameAboutOver : {E : Type 0} → Script → WordBook → ℕ → Summing → Result ClosedRun E
    → (ℕ → Option (List ℕ)) → (ℕ → Option (List ℕ)) → Type 0
CameAboutOver S b shards sum result old new =
    CameAboutUnder S b (over_ranges S b shards sum) result old new
