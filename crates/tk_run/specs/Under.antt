-- A run under a serving, as it stands within a turn.
use Rattle.std.specs.Prelude.{◌≡◌, ℕ, ◌+◌, ◌<◌, List, length, map, slice_index_or, Option, Some, None}
use Rattle.std.specs.List.{range_with_len}
use Rattle.tk_schedule.specs.declared.history.History.{History}
use Rattle.tk_schedule.specs.Schedule.{epoch_at}
use Rattle.tk_script.specs.declared.script.Script.{Script}
use Rattle.tk_words.specs.Words.{WordBook, words_of}
use Rattle.tk_frames.specs.declared.entry.Placed.{Placed}
use Rattle.tk_frames.specs.declared.read_frame.ReadFrame.{ReadFrame}
use Rattle.tk_frames.specs.declared.reply_frame.ReplyFrame.{ReplyFrame}
use Rattle.tk_frames.specs.Order.{before}
use Rattle.tk_frames.specs.Spelling.{read_frame, reply_frame}
use Rattle.tk_table.specs.Replies.{reply_to}
use Rattle.tk_table.specs.Shown.{is_shown}
use Rattle.tk_client.specs.declared.target.Target.{Target}
use Rattle.tk_client.specs.Client.{ClientState, opened}
use Rattle.tk_report.specs.Clients.{AreClients, client_knowing}
use Rattle.tk_report.specs.Groups.{IsSomeGroup}
use Rattle.tk_report.specs.Queues.{writing_before}
use Rattle.tk_report.specs.Serving.{Serving, reader_under, read_under, target_under, read_replied}
use Rattle.tk_report.specs.Turns.{placed_before}
use Rattle.tk_run.specs.declared.run.Run.{Run}
use Rattle.tk_run.specs.Servers.{AreServers, AreReady}
use Rattle.tk_run.specs.Turns.{turn_bytes, bytes_before}

-- ---- servers

-- In turn g servers that hold these entries tell and reply to the clients what the serving has.
pub record ServesAs (S : Script) (b : WordBook) (H : History) (V : Serving) (g : ℕ)
    (Es : ℕ → List Placed) : Type 0 where
  pub shows : (c : ℕ) → c < S.shape.clients → V.shows g c
      ≡ (λ log s. is_shown S.shape (before (Es 1) (epoch_at H g c)) ((words_of S.shape b).hits log s))
  pub reply : (c j : ℕ) (r : ReadFrame) → c < S.shape.clients →
      V.reply g c j r ≡ reply_to S.shape (before (Es j) (epoch_at H g c)) r

-- ---- clients

-- client c before turn g
abbrev pub client_under : Script → WordBook → History → Serving → ℕ → ℕ → ClientState
client_under S b H V g c = client_knowing S (λ k. reader_under S b H V k g) g c

-- after its write of turn g
abbrev pub wrote_under : Script → WordBook → History → Serving → ℕ → ℕ → ClientState
wrote_under S b H V g c = client_knowing S (λ k. reader_under S b H V k g) (g + 1) c

-- and after it asked for its read of turn g
unfoldable pub asked_under : Script → WordBook → History → Serving → ℕ → ℕ → ClientState
asked_under S b H V g c =
    opened g (epoch_at H g c) (target_under S H V g c (reader_under S b H V c g))
    (wrote_under S b H V g c)

-- ---- reads

-- the frames of the reads of the first count clients in turn g for server j
unfoldable pub reads_for : Script → WordBook → History → Serving → ℕ → ℕ → ℕ → List ReadFrame
reads_for S b H V g count j = map (λ c. read_under S b H V g c j) (range_with_len 0 count)

-- as they lie before they are sent: the list at place i is for server i + 1
abbrev pub posed : Script → WordBook → History → Serving → ℕ → ℕ → ℕ → List (List ℕ)
posed S b H V g count i = map read_frame (reads_for S b H V g count (i + 1))

-- the reply of server j to client c in turn g, and those of the first count servers
abbrev pub reply_under : Script → WordBook → History → Serving → ℕ → ℕ → ℕ → ReplyFrame
reply_under S b H V g j c = V.reply g c j (read_under S b H V g c j)

unfoldable pub replies_from : Script → WordBook → History → Serving → ℕ → ℕ → ℕ → List ReplyFrame
replies_from S b H V g count c = map (λ j. reply_under S b H V g j c) (range_with_len 1 count)

abbrev pub replied_under : Script → WordBook → History → Serving → ℕ → ℕ → ℕ → List (List ℕ)
replied_under S b H V g count c = map reply_frame (replies_from S b H V g count c)

-- ---- what servers see

-- what server j sees of turn g, and of the turns before it
abbrev pub turn_under : Script → WordBook → History → Serving → ℕ → ℕ → List ℕ
turn_under S b H V g j = turn_bytes S b H (read_replied S b H V j) g

abbrev pub seen_under : Script → WordBook → History → Serving → ℕ → ℕ → List ℕ
seen_under S b H V g j = bytes_before S b H (read_replied S b H V j) g

-- ---- a run

-- Before turn g the clients are as they are under the serving. Es gives what each server holds, and
-- seen what each saw since it was last given away.
pub record IsRunUnder (S : Script) (b : WordBook) (H : History) (V : Serving) (g : ℕ)
    (Es : ℕ → List Placed) (seen : ℕ → List ℕ) (run : Run) : Type 0 where
  pub clients : AreClients S.shape.clients (client_under S b H V g) run.group.clients.items
  pub servers : AreServers S.shape Es seen run.servers.list.items

-- Before turn g, whatever servers were given, all texts are said that are due, no read is open, and
-- the servers took the entries so far.
pub record IsRunning (S : Script) (b : WordBook) (H : History) (g : ℕ) (run : Run) : Type 0 where
  pub group : IsSomeGroup S g run.group
  pub servers : AreReady S.shape (placed_before S (words_of S.shape b) H g) run.servers.list.items
  pub taken : run.servers.taken ≡ length (placed_before S (words_of S.shape b) H g)

-- ---- clients, whatever they know

-- client c before turn g
pub record IsIdle (S : Script) (g c : ℕ) (client : ClientState) : Type 0 where
  pub same : client.shape ≡ S.shape
  pub number : client.number ≡ c
  pub writing : client.writing ≡ writing_before S c g
  pub closed : client.read ≡ None

pub record AreIdle (S : Script) (g : ℕ) (clients : List ClientState) : Type 0 where
  pub counted : length clients ≡ S.shape.clients
  pub each : (c : ℕ) (d : ClientState) → c < length clients →
      IsIdle S g c (slice_index_or clients c d)

-- and after it asked for its read of turn g
pub record AskedInTurn (S : Script) (H : History) (g c : ℕ) (client : ClientState) : Type 0 where
  pub same : client.shape ≡ S.shape
  pub number : client.number ≡ c
  pub writing : client.writing ≡ writing_before S c (g + 1)
  pub target : Option Target
  pub waits : client.read ≡ Some (record { turn = g; epoch = epoch_at H g c; target = target })

pub record AreAsking (S : Script) (H : History) (g : ℕ) (clients : List ClientState) : Type 0 where
  pub counted : length clients ≡ S.shape.clients
  pub each : (c : ℕ) (d : ClientState) → c < length clients →
      AskedInTurn S H g c (slice_index_or clients c d)
