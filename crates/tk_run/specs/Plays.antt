-- Plays of scripts, and what is said of a turn of one under each serving that its servers may make.
use Rattle.std.specs.Prelude.{◌≡◌, ℕ, ◌+◌, ◌≤◌, List, map, Option}
use Rattle.std.specs.List.{range_with_len}
use Rattle.tk_io.specs.Tapped.{TapsGain, TapsGainFronts}
use Rattle.tk_schedule.specs.declared.history.History.{History}
use Rattle.tk_schedule.specs.Schedule.{serial_history}
use Rattle.tk_script.specs.declared.script.Script.{Script}
use Rattle.tk_words.specs.Words.{WordBook, BookWords, words_of}
use Rattle.tk_frames.specs.declared.entry.Placed.{Placed}
use Rattle.tk_frames.specs.InOrder.{IsOrder}
use Rattle.tk_frames.specs.Spelling.{read_frame, reply_frame}
use Rattle.tk_replica.specs.Replica.{StandsFor}
use Rattle.tk_client.specs.Client.{ClientState}
use Rattle.tk_report.specs.declared.plan.Plan.{Plan}
use Rattle.tk_report.specs.Clients.{AreClients}
use Rattle.tk_report.specs.Entries.{write_at, entries_at}
use Rattle.tk_report.specs.Exchange.{exchange, bytes_of}
use Rattle.tk_report.specs.Serving.{Serving, read_under}
use Rattle.tk_report.specs.Turns.{placed_before}
use Rattle.tk_run.specs.declared.run.Run.{Run}
use Rattle.tk_run.specs.declared.server.Server.{Server}
use Rattle.tk_run.specs.declared.turn_place.TurnPlace.{TurnPlace}
use Rattle.tk_run.specs.Rows.{Frame, AreRows}
use Rattle.tk_run.specs.Servers.{AreServers, IsServerAt, nothing_seen, with_more}
use Rattle.tk_run.specs.Turns.{entries_seen}
use Rattle.tk_run.specs.Under.{IsRunUnder, ServesAs, asked_under, client_under, posed, replied_under}
use Rattle.tk_run.specs.Under.{reply_under, turn_under, wrote_under}

-- a script as it is played: with these words, in this history
pub record PlayedScript : Type 0 where
  pub script : Script
  pub book : WordBook
  pub history : History

-- the play that a plan is of
abbrev pub play_of : {D : Type 0} {draws : _} → Plan D draws → PlayedScript
play_of {draws = draws} plan =
    record { script = plan.script.now; book = draws.book plan.draws.now; history = plan.history.now }

-- what is defined of its script, its words and its history
abbrev pub of_play : {X : Type 0} → PlayedScript → (Script → WordBook → History → X) → X
of_play P defined = defined P.script P.book P.history

abbrev pub words_played : PlayedScript → BookWords
words_played P = words_of P.script.shape P.book

-- the entries before turn g, and those of turn g
abbrev pub played_before : PlayedScript → ℕ → List Placed
played_before P g = placed_before P.script (words_played P) P.history g

abbrev pub played_at : PlayedScript → ℕ → List Placed
played_at P g = entries_at (write_at P.script (words_played P)) P.history g

-- what server j sees of the serial play
abbrev pub serial_sight : Script → WordBook → ℕ → List ℕ
serial_sight S b j = bytes_of (exchange S b (serial_history S.shape) j)

-- ---- a turn under a serving

module _ (P : PlayedScript) (V : Serving) where
  -- all clients are as this says of each
  abbrev pub AllAre :
      (Script → WordBook → History → Serving → ℕ → ℕ → ClientState) → ℕ → List ClientState → Type 0
  AllAre state g clients = AreClients P.script.shape.clients (of_play P state V g) clients

  -- the client of a place once it has asked, and once the turn is over
  abbrev pub asked_at : TurnPlace → ClientState
  asked_at at = of_play P asked_under V at.turn at.place

  abbrev pub idle_at : TurnPlace → ClientState
  idle_at at = of_play P client_under V (at.turn + 1) at.place

  -- what all ask of each server, and what each is replied
  abbrev pub ArePosed : ℕ → List (List Frame) → Type 0
  ArePosed g rows =
      AreRows P.script.shape.servers (of_play P posed V g P.script.shape.clients) rows

  abbrev pub AreReplied : ℕ → List (List Frame) → Type 0
  AreReplied g rows =
      AreRows P.script.shape.clients (of_play P replied_under V g P.script.shape.servers) rows

  -- what the client of a place asks of each server, and what the server of a place replies to each
  abbrev pub asks_at : TurnPlace → List Frame
  asks_at at =
      map (λ j. read_frame (of_play P read_under V at.turn at.place j))
      (range_with_len 1 P.script.shape.servers)

  abbrev pub replies_at : TurnPlace → List Frame
  replies_at at =
      map (λ c. reply_frame (of_play P reply_under V at.turn (at.place + 1) c))
      (range_with_len 0 P.script.shape.clients)

  -- the server of a place holds what is told of it, and saw all of a turn; so all servers
  abbrev pub HasSeenTurn : TurnPlace → (ℕ → List Placed) → Server → Type 0
  HasSeenTurn at Es server =
      IsServerAt P.script.shape (Es (at.place + 1)) (of_play P turn_under V at.turn (at.place + 1)) server

  abbrev pub HaveSeenTurn : ℕ → (ℕ → List Placed) → List Server → Type 0
  HaveSeenTurn g Es servers = AreServers P.script.shape Es (of_play P turn_under V g) servers

  -- each tap gained what its server sees of a turn, or a front of it
  abbrev pub TapsGainTurn : {T : Type 0} → ℕ → (T → ℕ → Option (List ℕ)) → T → T → Type 0
  TapsGainTurn g tap old new =
      TapsGain P.script.shape.servers (of_play P turn_under V g) (tap old) (tap new)

  abbrev pub TapsGainTurnFronts : {T : Type 0} → ℕ → (T → ℕ → Option (List ℕ)) → T → T → Type 0
  TapsGainTurnFronts g tap old new =
      TapsGainFronts P.script.shape.servers (of_play P turn_under V g) (tap old) (tap new)

-- ---- under each serving that servers make in a turn

module _ (P : PlayedScript) where
  abbrev pub UnderEach : ℕ → (Serving → (ℕ → List Placed) → Type 0) → Type 0
  UnderEach g says = (V : Serving) (Es : ℕ → List Placed) → ServesAs P.script P.book P.history V g Es → says V Es

  -- once all clients, or the client of a place, have written, where this server is the first
  abbrev pub OnceWritten : ℕ → Server → List ClientState → (Serving → Type 0) → Type 0
  OnceWritten g server clients says =
      UnderEach g (λ V Es. StandsFor P.script.shape (Es 1) server.state →
      AllAre P V wrote_under g clients → says V)

  abbrev pub OnceItWrote : TurnPlace → Server → ClientState → (Serving → Type 0) → Type 0
  OnceItWrote at server client says =
      UnderEach at.turn (λ V Es. StandsFor P.script.shape (Es 1) server.state →
      client ≡ of_play P wrote_under V at.turn at.place → says V)

  -- once all have written, or asked, and the servers took what was written
  abbrev pub OnceTaken :
      ℕ → List ClientState → List Server → (Serving → (ℕ → List Placed) → Type 0) → Type 0
  OnceTaken g clients servers says =
      UnderEach g (λ V Es. AllAre P V wrote_under g clients →
      AreServers P.script.shape Es (entries_seen P.script (words_played P) P.history g) servers → says V Es)

  abbrev pub OnceAsked :
      ℕ → List (List Frame) → List Server → (Serving → (ℕ → List Placed) → Type 0) → Type 0
  OnceAsked g asked servers says =
      UnderEach g (λ V Es. ArePosed P V g asked →
      AreServers P.script.shape Es (entries_seen P.script (words_played P) P.history g) servers → says V Es)

  -- once the server of a place took it, and is asked
  abbrev pub OnceItIsAsked :
      TurnPlace → List Frame → Server → (Serving → (ℕ → List Placed) → Type 0) → Type 0
  OnceItIsAsked at asked server says =
      UnderEach at.turn (λ V Es.
      asked ≡ of_play P posed V at.turn P.script.shape.clients at.place →
      IsServerAt P.script.shape (Es (at.place + 1))
      (entries_seen P.script (words_played P) P.history at.turn (at.place + 1)) server → says V Es)

  -- once all clients, or the client of a place, have asked, and are replied over entries in order
  abbrev pub OnceReplied : ℕ → List (List Frame) → List ClientState → (Serving → Type 0) → Type 0
  OnceReplied g replies clients says =
      UnderEach g (λ V Es.
      ((j : ℕ) → 1 ≤ j → j ≤ P.script.shape.servers → IsOrder P.script.shape (Es j)) →
      AreReplied P V g replies → AllAre P V asked_under g clients → says V)

  abbrev pub OnceItIsReplied : TurnPlace → List Frame → ClientState → (Serving → Type 0) → Type 0
  OnceItIsReplied at replies client says =
      UnderEach at.turn (λ V Es.
      ((j : ℕ) → 1 ≤ j → j ≤ P.script.shape.servers → IsOrder P.script.shape (Es j)) →
      replies ≡ of_play P replied_under V at.turn P.script.shape.servers at.place →
      client ≡ asked_at P V at → says V)

  -- from a run as it is before turn g; and a run as it is behind it, where servers saw this
  abbrev pub FromTurn : ℕ → Run → (Serving → (ℕ → List Placed) → Type 0) → Type 0
  FromTurn g run says =
      (V : Serving) (Es : ℕ → List Placed) → ServesAs P.script P.book P.history V g (with_more Es (played_at P g)) →
      IsRunUnder P.script P.book P.history V g Es nothing_seen run → says V Es

  abbrev pub IsRunAfter : Serving → ℕ → (ℕ → List Placed) → (ℕ → List ℕ) → Run → Type 0
  IsRunAfter V g Es seen run =
      IsRunUnder P.script P.book P.history V (g + 1) (with_more Es (played_at P g)) seen run
