-- A run whose reads are relayed, as it stands within a turn.
use Rattle.std.specs.Prelude.{◌≡◌, ℕ, ◌+◌, ◌<◌, List, length, map, flat_map, slice_index_or, Option}
use Rattle.std.specs.List.{range_with_len}
use Rattle.tk_io.specs.Tapped.{TapsGain, TapsGainFronts}
use Rattle.tk_schedule.specs.declared.history.History.{History}
use Rattle.tk_schedule.specs.Schedule.{epoch_at, serial_history}
use Rattle.tk_script.specs.declared.script.Script.{Script}
use Rattle.tk_words.specs.Words.{WordBook, BookWords, words_of, seed_at}
use Rattle.tk_client.specs.Client.{ClientState, opened}
use Rattle.tk_report.specs.Clients.{AreClients, known_before, client_before, client_knowing}
use Rattle.tk_report.specs.Exchange.{bytes_of}
use Rattle.tk_report.specs.Outcomes.{IsLeftBy}
use Rattle.tk_report.specs.Queues.{said_before}
use Rattle.tk_report.specs.Report.{target_at}
use Rattle.tk_report.specs.Turns.{placed_before}
use Rattle.tk_report.specs.Entries.{write_at, entries_at}
use Rattle.tk_report.specs.declared.group.Group.{Group}
use Rattle.tk_report.specs.declared.outcome.Outcome.{Outcome}
use Rattle.tk_report.specs.declared.plan.Plan.{Plan}
use Rattle.tk_shape.specs.declared.shape.Shape.{Shape}
use Rattle.tk_shape.specs.Lengths.{turn_count}
use Rattle.tk_frames.specs.Spelling.{placed_frame}
use Rattle.tk_cluster.specs.declared.set.EpochSet.{EpochSet}
use Rattle.tk_cluster.specs.Passes.{Passing}
use Rattle.tk_cluster.specs.Tellings.{Telling}
use Rattle.tk_cluster.specs.Sets.{StandsAtMark}
use Rattle.tk_relay.specs.declared.relayed_read.RelayedRead.{RelayedRead}
use Rattle.tk_relay.specs.Bundles.{parts_for, bundle_frame}
use Rattle.tk_relay.specs.Pads.{Padding, padding_of, paddings_of}
use Rattle.tk_relay.specs.Relayed.{frames_read, pads_read, part_read, reply_read}
use Rattle.tk_relay.specs.Relayed.{relayed_turn, relayed_exchange}
use Rattle.tk_relay.specs.Ordered.{HaveOrdered}

-- ---- clients

-- client c after its write of turn g
abbrev pub client_wrote : Script → BookWords → History → ℕ → ℕ → ClientState
client_wrote S w H g c = client_knowing S (known_before S w H g) (g + 1) c

-- and after it asked for its read of turn g
unfoldable pub client_asked : Script → BookWords → History → ℕ → ℕ → ClientState
client_asked S w H g c =
    opened g (epoch_at H g c) (target_at S w H g c) (client_wrote S w H g c)

-- so is this client after its write, after it asked, and after it took the replies
abbrev pub ClientWrote : Script → WordBook → History → ℕ → ℕ → ClientState → Type 0
ClientWrote S b H g c client = client ≡ client_wrote S (words_of S.shape b) H g c

abbrev pub ClientAsked : Script → WordBook → History → ℕ → ℕ → ClientState → Type 0
ClientAsked S b H g c client = client ≡ client_asked S (words_of S.shape b) H g c

abbrev pub ClientRead : Script → WordBook → History → ℕ → ℕ → ClientState → Type 0
ClientRead S b H g c client = client ≡ client_before S (words_of S.shape b) H (g + 1) c

-- so are all clients
abbrev pub ClientsWrote : Script → WordBook → History → ℕ → List ClientState → Type 0
ClientsWrote S b H g = AreClients S.shape.clients (client_wrote S (words_of S.shape b) H g)

abbrev pub ClientsAsked : Script → WordBook → History → ℕ → List ClientState → Type 0
ClientsAsked S b H g = AreClients S.shape.clients (client_asked S (words_of S.shape b) H g)

abbrev pub ClientsRead : Script → WordBook → History → ℕ → List ClientState → Type 0
ClientsRead S b H g = AreClients S.shape.clients (client_before S (words_of S.shape b) H (g + 1))

-- a set that stands among the entries up to the end of turn g
abbrev pub StandsAfter : Script → WordBook → History → ℕ → EpochSet → Type 0
StandsAfter S b H g set =
    StandsAtMark S.shape (placed_before S (words_of S.shape b) H (g + 1)) set.number set

-- ---- reads

-- client c's read in turn g, to which the first count servers have replied
pub record IsRelayed (S : Script) (b : WordBook) (seeds : List (List ℕ)) (H : History)
    (g count c : ℕ) (r : RelayedRead) : Type 0 where
  pub bundle : r.bundle
      ≡ bundle_frame (parts_for S.shape (pads_read S seeds g c) (frames_read S b H g c))
  pub parts : r.parts.items ≡ map (part_read S b seeds H g c) (range_with_len 1 S.shape.servers)
  pub replies : r.replies.items ≡ map (reply_read S b seeds H g c) (range_with_len 1 count)

-- those of all clients
pub record AreRelayed (S : Script) (b : WordBook) (seeds : List (List ℕ)) (H : History)
    (g count : ℕ) (reads : List RelayedRead) : Type 0 where
  pub counted : length reads ≡ S.shape.clients
  pub each : (c : ℕ) (d : RelayedRead) → c < length reads →
      IsRelayed S b seeds H g count c (slice_index_or reads c d)

-- the same under these pads, whatever the seeds that they are of, before any server has replied
abbrev pub AreSentUnder :
    Script → WordBook → History → ℕ → List Padding → List RelayedRead → Type 0
AreSentUnder S b H g pads reads =
    (seeds : List (List ℕ)) → pads ≡ paddings_of S.shape seeds g → AreRelayed S b seeds H g 0 reads

-- all servers have replied to them
abbrev pub AreReplied :
    Script → WordBook → List (List ℕ) → History → ℕ → List RelayedRead → Type 0
AreReplied S b seeds H g = AreRelayed S b seeds H g S.shape.servers

-- and so under these pads, which are of some seeds
abbrev pub AreRepliedUnder :
    Script → WordBook → History → ℕ → List Padding → List RelayedRead → Type 0
AreRepliedUnder S b H g pads reads =
    (seeds : List (List ℕ)) × (pads ≡ paddings_of S.shape seeds g) × AreReplied S b seeds H g reads

-- so to the read of client c
abbrev pub IsRepliedUnder :
    Script → WordBook → History → ℕ → ℕ → Padding → RelayedRead → Type 0
IsRepliedUnder S b H g c pads read =
    (seeds : List (List ℕ)) × (pads ≡ padding_of S.shape (seed_at seeds c) g)
    × IsRelayed S b seeds H g S.shape.servers c read

-- ---- a run

-- Before turn g all is as the definitions say of it: so are the clients, and the entries of the turns
-- so far are ordered in a cluster of this shape, where all passes have met.
pub record IsRunBefore (shape : Shape) (S : Script) (b : WordBook) (H : History) (g : ℕ)
    (group : Group) (passes : List Passing) (p : Telling) (taken : ℕ) : Type 0 where
  pub same : S.shape ≡ shape
  pub said : group.said ≡ said_before S g
  pub clients : AreClients S.shape.clients (client_before S (words_of S.shape b) H g)
      group.clients.items
  pub ordered : HaveOrdered shape (placed_before S (words_of S.shape b) H g) passes p
  pub met : p.seen ≡ placed_before S (words_of S.shape b) H g
  pub counted : taken ≡ length (placed_before S (words_of S.shape b) H g)

-- The same when all have written in turn g, and have pinned this set. Of the turn's entries these
-- bytes are seen.
pub record HaveWritten (shape : Shape) (S : Script) (b : WordBook) (H : History) (g : ℕ)
    (group : Group) (passes : List Passing) (p : Telling) (taken : ℕ) (set : EpochSet)
    (bytes : List ℕ) : Type 0 where
  pub said : group.said ≡ said_before S (g + 1)
  pub clients : AreClients S.shape.clients (client_wrote S (words_of S.shape b) H g)
      group.clients.items
  pub ordered : HaveOrdered shape (placed_before S (words_of S.shape b) H (g + 1)) passes p
  pub met : p.seen ≡ placed_before S (words_of S.shape b) H (g + 1)
  pub counted : taken ≡ length (placed_before S (words_of S.shape b) H (g + 1))
  pub stands : StandsAtMark S.shape (placed_before S (words_of S.shape b) H (g + 1)) set.number set
  pub epoch : set.number ≡ epoch_at H g 0
  pub seen : bytes ≡ flat_map placed_frame (entries_at (write_at S (words_of S.shape b)) H g)

-- ---- the same of a run that is planned

-- a script's run with these words, in this history
pub record RelayedRun : Type 0 where
  pub script : Script
  pub book : WordBook
  pub history : History

-- the run that a plan is of, and the serial one
abbrev pub planned : {D : Type 0} {draws : _} → Plan D draws → RelayedRun
planned {draws = draws} plan =
    record { script = plan.script.now; book = draws.book plan.draws.now; history = plan.history.now }

abbrev pub serial_run : Script → WordBook → RelayedRun
serial_run S b = record { script = S; book = b; history = serial_history S.shape }

module _ (shape : Shape) (R : RelayedRun) where
  -- it stands so before turn g, and behind the last
  abbrev pub IsBefore : ℕ → Group → List Passing → Telling → ℕ → Type 0
  IsBefore g group passes p taken =
      IsRunBefore shape R.script R.book R.history g group passes p taken

  abbrev pub IsAtEnd : Group → List Passing → Telling → ℕ → Type 0
  IsAtEnd = IsBefore (turn_count R.script.shape)

  -- so once all have written in turn g
  abbrev pub IsWritten : ℕ → Group → List Passing → Telling → ℕ → EpochSet → List ℕ → Type 0
  IsWritten g group passes p taken set bytes =
      HaveWritten shape R.script R.book R.history g group passes p taken set bytes

-- this is what it leaves
abbrev pub IsOutcomeOf : RelayedRun → Outcome → Type 0
IsOutcomeOf R outcome = IsLeftBy R.script (words_of R.script.shape R.book) R.history outcome

module _ (R : RelayedRun) (seeds : List (List ℕ)) where
  -- what each server sees of turn g
  abbrev pub turn_sights : ℕ → List (List ℕ)
  turn_sights g =
      map (relayed_turn R.script R.book seeds R.history g) (range_with_len 1 R.script.shape.servers)

  -- each tap gained that, or a front of it
  abbrev pub GainTurn : ℕ → (ℕ → Option (List ℕ)) → (ℕ → Option (List ℕ)) → Type 0
  GainTurn g old new =
      TapsGain R.script.shape.servers (relayed_turn R.script R.book seeds R.history g) old new

  abbrev pub GainTurnFronts : ℕ → (ℕ → Option (List ℕ)) → (ℕ → Option (List ℕ)) → Type 0
  GainTurnFronts g old new =
      TapsGainFronts R.script.shape.servers (relayed_turn R.script R.book seeds R.history g) old new

  -- each gained what its server sees of the whole run, or a front of it
  abbrev pub GainRun : (ℕ → Option (List ℕ)) → (ℕ → Option (List ℕ)) → Type 0
  GainRun old new =
      TapsGain R.script.shape.servers
      (λ j. bytes_of (relayed_exchange R.script R.book seeds R.history j)) old new

  abbrev pub GainRunFronts : (ℕ → Option (List ℕ)) → (ℕ → Option (List ℕ)) → Type 0
  GainRunFronts old new =
      TapsGainFronts R.script.shape.servers
      (λ j. bytes_of (relayed_exchange R.script R.book seeds R.history j)) old new
