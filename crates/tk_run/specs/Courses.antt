-- A run of threads between two turns, and what its clients read in a turn.
use Rattle.std.specs.Prelude.{◌≡◌, ℕ, ◌+◌, ◌*◌, ◌<◌, ◌≤◌, List, [], ◌∷◌, ◌++◌, None}
use Rattle.std.specs.Prelude.{length, map, flat_map, slice_index_or, Option, Result, OnOk, OnErr}
use Rattle.std.specs.Arc.{arc_value}
use Rattle.std.specs.List.{range_with_len}
use mathlib.Core.List.{IsPrefix}
use Rattle.tk_shape.specs.declared.shape.Shape.{Shape}
use Rattle.tk_shape.specs.Lengths.{turn_count}
use Rattle.tk_schedule.specs.declared.history.TurnOrder.{TurnOrder}
use Rattle.tk_schedule.specs.declared.history.History.{History}
use Rattle.tk_schedule.specs.Schedule.{IsLegal, epoch_at, phases_over, marks_due}
use Rattle.tk_script.specs.declared.script.Script.{Script}
use Rattle.tk_words.specs.Words.{WordBook, words_of}
use Rattle.tk_frames.specs.Spelling.{read_frame, reply_frame, placed_frame}
use Rattle.tk_table.specs.Shown.{is_shown}
use Rattle.tk_io.specs.Tapped.{TapsGain, TapsGainFronts, TapsKeepBut}
use Rattle.tk_client.specs.Client.{ClientState}
use Rattle.tk_report.specs.Entries.{write_at, entries_at}
use Rattle.tk_report.specs.Exchange.{bytes_of}
use Rattle.tk_report.specs.Queues.{said_before}
use Rattle.tk_cluster.specs.Sets.{StandsAtMark}
use Rattle.tk_cluster.specs.Passes.{Passing}
use Rattle.tk_cluster.specs.Tellings.{Telling}
use Rattle.tk_report.specs.declared.group.Group.{Group}
use Rattle.tk_run.specs.declared.pinned_write.PinnedWrite.{PinnedWrite}
use Rattle.tk_run.specs.declared.talk.Talk.{Talk}
use Rattle.tk_report.specs.Clients.{AreClients}
use Rattle.tk_report.specs.Report.{read_over}
use Rattle.tk_report.specs.Serving.{Serving, read_under, exchange_under}
use Rattle.tk_run.specs.Turns.{placed_before}
use Rattle.tk_run.specs.Under.{client_under, wrote_under, asked_under, reply_under, turn_under}
use Rattle.tk_run.specs.Ran.{Ran, set_on}

-- ---- reads

-- how many entries stand before those of turn g
abbrev pub entries_behind : Shape → ℕ → ℕ
entries_behind shape g = g * shape.clients + phases_over shape g

-- the write of a deed stands among the entries of turn g
pub record IsInTurn (shape : Shape) (g : ℕ) (d : PinnedWrite) : Type 0 where
  pub behind : entries_behind shape g < d.position
  pub within : d.position ≤ entries_behind shape g + shape.clients + marks_due shape g

-- the sets stand for the entries before the marks of the epochs that the clients read in turn g
pub record AreSets (S : Script) (b : WordBook) (H : History) (g : ℕ) (deeds : List PinnedWrite)
    : Type 0 where
  pub counted : length deeds ≡ S.shape.clients
  pub each : (c : ℕ) (d : PinnedWrite) → c < length deeds →
      StandsAtMark S.shape (placed_before S (words_of S.shape b) H (g + 1)) (epoch_at H g c)
      (set_on (slice_index_or deeds c d))

-- clients that have written in turn g of a legal history, and the sets that they read from
pub record MayRead (S : Script) (b : WordBook) (H : History) (V : Serving) (g : ℕ)
    (clients : List ClientState) (deeds : List PinnedWrite) : Type 0 where
  pub legal : IsLegal S.shape H
  pub turn_in : g < turn_count S.shape
  pub wrote : AreClients S.shape.clients (wrote_under S b H V g) clients
  pub sets : AreSets S b H g deeds

-- a client that waits for no replies may ask
pub record MayAsk (shape : Shape) (a : ClientState) : Type 0 where
  pub same : a.shape ≡ shape
  pub closed : a.read ≡ None

-- of this set in this turn
pub record MayTalk (shape : Shape) (d : Talk) : Type 0 where
  pub turn_in : d.turn < turn_count shape
  pub set : (arc_value d.set).shape ≡ shape
  pub epoch_in : (arc_value d.set).number ≤ shape.phases
  pub none_asked : d.asked.items ≡ []
  pub none_replied : d.replies.items ≡ []

-- what client c was replied in turn g to what it asked
pub record IsTalk (S : Script) (b : WordBook) (H : History) (V : Serving) (g c : ℕ) (talk : Talk)
    : Type 0 where
  pub asked : talk.asked.items
      ≡ map (λ j. read_frame (read_under S b H V g c j)) (range_with_len 1 S.shape.servers)
  pub replied : talk.replies.items
      ≡ map (λ j. reply_frame (reply_under S b H V g j c)) (range_with_len 1 S.shape.servers)

-- a read of a turn that is yet to be asked, from the set on a deed
pub record IsBlank (turn : ℕ) (d : PinnedWrite) (talk : Talk) : Type 0 where
  pub turn_is : talk.turn ≡ turn
  pub set : arc_value talk.set ≡ set_on d
  pub none_asked : talk.asked.items ≡ []
  pub none_replied : talk.replies.items ≡ []

-- the serving tells client c in turn g of the writes that its read is over
abbrev pub TellsInTurn : Script → WordBook → History → Serving → ℕ → ℕ → Type 0
TellsInTurn S b H V g c =
    let w = words_of S.shape b in
    V.shows g c ≡ (λ log s. is_shown S.shape (read_over S w H g c) (w.hits log s))

-- A client that has written in a turn of this legal history, is told of the writes that its read is
-- over, and reads from the set of the epoch that the history says.
pub record MayAskIn (S : Script) (b : WordBook) (H : History) (V : Serving) (a : ClientState)
    (d : Talk) : Type 0 where
  pub legal : IsLegal S.shape H
  pub turn_in : d.turn < turn_count S.shape
  pub client_in : a.number < S.shape.clients
  pub wrote : a ≡ wrote_under S b H V d.turn a.number
  pub stands : StandsAtMark S.shape (placed_before S (words_of S.shape b) H (d.turn + 1))
      (epoch_at H d.turn a.number) (arc_value d.set)
  pub told : TellsInTurn S b H V d.turn a.number

-- Such a client asks as the history says.
pub record AsksAs (S : Script) (b : WordBook) (H : History) (V : Serving) (a : ClientState)
    (d e : Talk) (new : ClientState) : Type 0 where
  pub client : new ≡ asked_under S b H V d.turn a.number
  pub asked : e.asked.items
      ≡ map (λ j. read_frame (read_under S b H V d.turn a.number j))
      (range_with_len 1 S.shape.servers)

pub record AreTalks (S : Script) (b : WordBook) (H : History) (V : Serving) (g : ℕ)
    (talks : List Talk) : Type 0 where
  pub counted : length talks ≡ S.shape.clients
  pub each : (c : ℕ) (d : Talk) → c < length talks → IsTalk S b H V g c (slice_index_or talks c d)

-- reads of a turn that are yet to be asked, from the sets on these deeds
abbrev pub AreBlank : ℕ → List PinnedWrite → List Talk → Type 0
AreBlank turn [] [] = Unit {0}
AreBlank turn (d ∷ ds) (t ∷ ts) = IsBlank turn d t × AreBlank turn ds ts
AreBlank turn _ _ = ⊥

-- ---- what servers see

-- so many servers were asked, and replied
pub record HasTalked (servers : ℕ) (talk : Talk) : Type 0 where
  pub asked : length talk.asked.items ≡ servers
  pub replied : length talk.replies.items ≡ servers

-- what the server at a place sees of it: the read, and the reply
abbrev pub talk_seen : ℕ → Talk → List ℕ
talk_seen i talk =
    slice_index_or talk.asked.items i [] ++ slice_index_or talk.replies.items i []

-- what each server saw of turn g, server 1 first
pub record AreSights (S : Script) (b : WordBook) (H : History) (V : Serving) (g : ℕ)
    (sights : List (List ℕ)) : Type 0 where
  pub counted : length sights ≡ S.shape.servers
  pub each : (i : ℕ) (d : List ℕ) → i < length sights →
      slice_index_or sights i d ≡ turn_under S b H V g (i + 1)

-- ---- a run

-- a legal history goes on from these turns
pub record GoesOn (shape : Shape) (turns : List TurnOrder) (H : History) : Type 0 where
  pub legal : IsLegal shape H
  pub begins : IsPrefix turns H

-- Before turn g the passes and the publisher are where the turns so far lead, and however the run
-- goes on, the clients are as the history says of them, under the serving that it has.
pub record IsCourse (S : Script) (b : WordBook) (V : History → Serving) (g : ℕ)
    (turns : List TurnOrder) (group : Group) (passes : List Passing) (p : Telling) : Type 0 where
  pub counted : length turns ≡ g
  pub said : group.said ≡ said_before S g
  pub ran : Ran S.shape (write_at S (words_of S.shape b)) turns passes p
  pub clients : (H : History) → GoesOn S.shape turns H →
      AreClients S.shape.clients (client_under S b H (V H) g) group.clients.items

-- The same in turn g when all have written and pinned. Every server sees these bytes of the
-- entries.
pub record HasWritten (S : Script) (b : WordBook) (V : History → Serving) (g : ℕ)
    (turns : List TurnOrder) (group : Group) (passes : List Passing) (p : Telling)
    (deeds : List PinnedWrite) (bytes : List ℕ) : Type 0 where
  pub counted : length turns ≡ g + 1
  pub said : group.said ≡ said_before S (g + 1)
  pub ran : Ran S.shape (write_at S (words_of S.shape b)) turns passes p
  pub reads : (H : History) → GoesOn S.shape turns H →
      MayRead S b H (V H) g group.clients.items deeds
  pub seen : (H : History) → GoesOn S.shape turns H →
      bytes ≡ flat_map placed_frame (entries_at (write_at S (words_of S.shape b)) H g)

-- ---- taps

-- What taps have after a turn of a run. With an answer each gained what its server saw of the turn,
-- however the run goes on; with an error a front of what it sees of it in some legal history.
pub record TapsAfterTurn (S : Script) (b : WordBook) (V : History → Serving) (g : ℕ) {X E : Type 0}
    (result : Result X E) (before after : List TurnOrder) (old new : ℕ → Option (List ℕ)) : Type 0
  where
    pub ok : OnOk result ((H : History) → GoesOn S.shape after H →
        TapsGain S.shape.servers (turn_under S b H (V H) g) old new)
    pub err : OnErr result ((H : History) × GoesOn S.shape before H
        × TapsGainFronts S.shape.servers (turn_under S b H (V H) g) old new)
    pub others : TapsKeepBut S.shape.servers old new

-- and after all turns
pub record TapsAfterRun (S : Script) (b : WordBook) (V : History → Serving) {X E : Type 0}
    (result : Result X E) (after : List TurnOrder) (old new : ℕ → Option (List ℕ)) : Type 0 where
  pub ok : OnOk result ((H : History) → GoesOn S.shape after H →
      TapsGain S.shape.servers (λ j. bytes_of (exchange_under S b H (V H) j)) old new)
  pub err : OnErr result ((H : History) × IsLegal S.shape H
      × TapsGainFronts S.shape.servers (λ j. bytes_of (exchange_under S b H (V H) j)) old new)
  pub others : TapsKeepBut S.shape.servers old new
