-- A run under wrong replies, as far as it was gone through.
use Rattle.std.specs.Prelude.{◌≡◌, ℕ, ◌+◌, ◌≤◌, List, map}
use Rattle.std.specs.List.{range_with_len}
use Rattle.tk_shape.specs.declared.shape.Shape.{Shape}
use Rattle.tk_schedule.specs.declared.history.History.{History}
use Rattle.tk_schedule.specs.Schedule.{epoch_at}
use Rattle.tk_script.specs.declared.script.Script.{Script}
use Rattle.tk_words.specs.Words.{WordBook, drawn, words_of}
use Rattle.tk_frames.specs.declared.read_frame.ReadFrame.{ReadFrame}
use Rattle.tk_frames.specs.declared.reply_frame.ReplyFrame.{ReplyFrame}
use Rattle.tk_frames.specs.Order.{Record}
use Rattle.tk_frames.specs.Spelling.{read_frame}
use Rattle.tk_client.specs.Reader.{Reader}
use Rattle.tk_client.specs.Client.{ClientState, opened}
use Rattle.tk_report.specs.Clients.{AreClients, client_knowing}
use Rattle.tk_report.specs.Folds.{KeepsBefore, IsOpenTo}
use Rattle.tk_report.specs.Groups.{IsGroup}
use Rattle.tk_report.specs.Ledgers.{IsLeftBy}
use Rattle.tk_report.specs.Report.{target_for}
use Rattle.tk_report.specs.declared.ledger.Ledger.{Ledger}
use Rattle.tk_report.specs.declared.marked.Marked.{Marked}
use Rattle.tk_report.specs.declared.plan.Plan.{Plan}
use Rattle.tk_privacy.specs.Privacy.{Pairs, read_for, view_for}
use Rattle.tk_privacy.specs.Reads.{reads_at, reads_before}
use Rattle.tk_privacy.specs.Steps.{AreLastReads}
use Rattle.tk_hostile.specs.Choice.{Choice, replies_by, sums_by}
use Rattle.tk_hostile.specs.Given.{Given, sums_at}
use Rattle.tk_hostile.specs.Wrong.{reader_asking, pair_asking, asks}
use Rattle.tk_hostile.specs.declared.sides.Sides.{Sides}
use Rattle.tk_hostile.specs.declared.sums.Sums.{Sums}
use Rattle.tk_hostile.specs.declared.walk.Walked.{Walked}
use Rattle.tk_hostile.specs.declared.wrong_servers.Servers.{Servers}

-- the servers are some of a shape
pub record AreSides (shape : Shape) (sides : Sides) : Type 0 where
  pub hidden_low : 1 ≤ sides.hidden
  pub hidden_high : sides.hidden ≤ shape.servers
  pub asked_low : 1 ≤ sides.asked
  pub asked_high : sides.asked ≤ shape.servers
  pub seen_low : 1 ≤ sides.seen
  pub seen_high : sides.seen ≤ shape.servers

-- this is what some writes leave
abbrev pub IsLeft : Shape → Marked → Type 0
IsLeft shape open_now = (R : List Record) × IsLeftBy shape R open_now

-- what each client knows before turn g, where the hidden server replies to another's frames
abbrev pub knows_before : Script → WordBook → History → Sides → Choice → ℕ → ℕ → Reader
knows_before S b H sides F g c =
    reader_asking S (words_of S.shape b) H sides.hidden F (asks S.shape b H sides.asked) c g

-- the two buckets of each read
abbrev pub pair_in : Script → WordBook → History → Sides → Choice → Pairs
pair_in S b H sides F =
    pair_asking S (words_of S.shape b) H sides.hidden F (asks S.shape b H sides.asked)

-- the read frame that server j sees of a client in a turn
abbrev pub read_in : Script → WordBook → History → Sides → Choice → ℕ → ℕ → ℕ → ReadFrame
read_in S b H sides F j g c = read_for S.shape b H (pair_in S b H sides F g c) g c j

-- over a tape these are the read frames that the last server sees
abbrev pub AreLastReadsOver :
    Script → History → Sides → Choice → List ℕ → List ReadFrame → Type 0
AreLastReadsOver S H sides F u reads = AreLastReads S.shape H (pair_in S (drawn u) H sides F) u reads

-- before turn g all is as the definitions say of it, and the reads so far are those of the seen one
pub record IsWalkBefore (S : Script) (b : WordBook) (H : History) (sides : Sides) (F : Choice)
    (g : ℕ) (f : Walked) : Type 0 where
  pub group : IsGroup S (knows_before S b H sides F g) g f.group
  pub ledger : KeepsBefore S b H g f.ledger
  pub reads : f.reads.items ≡ reads_before S.shape b H (pair_in S b H sides F) sides.seen g

-- ---- a client's read in a turn

-- client c in turn g after it has written and before it reads, and the same with its read open
abbrev pub client_in : Script → WordBook → History → Sides → Choice → ℕ → ℕ → ClientState
client_in S b H sides F g c = client_knowing S (knows_before S b H sides F g) (g + 1) c

abbrev pub client_open : Script → WordBook → History → Sides → Choice → ℕ → ℕ → ClientState
client_open S b H sides F g c =
    let target = target_for S (words_of S.shape b) H g c (knows_before S b H sides F g c) in
    opened g (epoch_at H g c) target (client_in S b H sides F g c)

-- and after it has read
abbrev pub client_out : Script → WordBook → History → Sides → Choice → ℕ → ℕ → ClientState
client_out S b H sides F g c = client_knowing S (knows_before S b H sides F (g + 1)) (g + 1) c

-- the read frames with which it asks all servers, in their order
abbrev pub asked_in : Script → WordBook → History → Sides → Choice → ℕ → ℕ → List ReadFrame
asked_in S b H sides F g c =
    map (λ j. read_in S b H sides F j g c) (range_with_len 1 S.shape.servers)

-- ---- the same of a run that is gone through

-- a script's run with these words, in this history, where these are the servers and the sums of others
pub record WrongRun : Type 0 where
  pub script : Script
  pub book : WordBook
  pub history : History
  pub sides : Sides
  pub choice : Choice

-- the run that a plan is of, with these replies
abbrev pub wrong_run : {D : Type 0} {draws : _} → Plan D draws → Given → Sides → WrongRun
wrong_run {draws = draws} plan given sides =
    record {
      script = plan.script.now;
      book = draws.book plan.draws.now;
      history = plan.history.now;
      sides = sides;
      choice = sums_at given;
    }

module _ (R : WrongRun) where
  -- it was gone through up to turn g, with these entries, and this lies open to a client's read
  abbrev pub IsWalkedTo : ℕ → Walked → Type 0
  IsWalkedTo g f = IsWalkBefore R.script R.book R.history R.sides R.choice g f

  abbrev pub HasLedger : ℕ → Ledger → Type 0
  HasLedger g ledger = KeepsBefore R.script R.book R.history g ledger

  abbrev pub LiesOpenTo : ℕ → ℕ → Marked → Type 0
  LiesOpenTo g c left = IsOpenTo R.script R.book R.history g c left

  -- this is client c in turn g before it reads, with its read open, and after it
  abbrev pub IsClientIn : ℕ → ℕ → ClientState → Type 0
  IsClientIn g c client = client ≡ client_in R.script R.book R.history R.sides R.choice g c

  abbrev pub IsClientOpen : ℕ → ℕ → ClientState → Type 0
  IsClientOpen g c client = client ≡ client_open R.script R.book R.history R.sides R.choice g c

  abbrev pub IsClientOut : ℕ → ℕ → ClientState → Type 0
  IsClientOut g c client = client ≡ client_out R.script R.book R.history R.sides R.choice g c

  -- so are all before they read, and after it
  abbrev pub AreClientsIn : ℕ → List ClientState → Type 0
  AreClientsIn g clients =
      AreClients R.script.shape.clients (client_in R.script R.book R.history R.sides R.choice g)
      clients

  abbrev pub AreClientsOut : ℕ → List ClientState → Type 0
  AreClientsOut g clients =
      AreClients R.script.shape.clients (client_out R.script R.book R.history R.sides R.choice g)
      clients

  -- the frames with which client c asks in turn g
  abbrev pub frames_asked : ℕ → ℕ → List (List ℕ)
  frames_asked g c = map read_frame (asked_in R.script R.book R.history R.sides R.choice g c)

  -- the one of them that the seen server sees, those of all clients, and all frames that it sees
  abbrev pub read_kept : ℕ → ℕ → ReadFrame
  read_kept g c = read_in R.script R.book R.history R.sides R.choice R.sides.seen g c

  abbrev pub reads_kept : ℕ → List ReadFrame
  reads_kept g =
      reads_at R.script.shape R.book R.history
      (pair_in R.script R.book R.history R.sides R.choice) R.sides.seen g

  abbrev pub frames_kept : List (List ℕ)
  frames_kept =
      view_for R.script R.book R.history (pair_in R.script R.book R.history R.sides R.choice)
      R.sides.seen

-- ---- the servers at a read

-- whichever writes left what lies open to it
abbrev pub ForItsWrites : Servers → (List Record → Type 0) → Type 0
ForItsWrites servers says =
    (R : List Record) → IsLeftBy servers.replies.now.shape R servers.left.now → says R

-- the replies of all over these writes to a read, of which the hidden one gets this frame; and the sums
-- of server j
abbrev pub replies_made : Servers → List Record → ReadFrame → List ReplyFrame
replies_made servers R r =
    let given = servers.replies.now in
    replies_by given.shape servers.hidden (sums_at given) R r

abbrev pub sums_made : Servers → List Record → ReadFrame → ℕ → Sums
sums_made servers R r j =
    let given = servers.replies.now in
    sums_by given.shape servers.hidden (sums_at given) R r j
