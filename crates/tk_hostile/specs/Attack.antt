-- What all servers but one see of clients who go on from what they then read, where one adversary has
-- these servers in its hands, and decides when each frame goes: it sees all that they see, and does
-- from that what it likes. Left out are a hidden server that tells others what it gets, links to it that
-- can be read, texts that answer to what was read, and replies that aren't well formed, which a client
-- refuses and then stops.
use Rattle.std.specs.Prelude.{ℕ, zero, suc, ◌+◌, ◌==◌, nat_lt, ◌&&◌, Bool, cond, List, [], ◌∷◌}
use Rattle.std.specs.Prelude.{◌++◌, map, Option, Some, None}
use Rattle.std.specs.List.{range_with_len}
use Rattle.tk_shape.specs.declared.shape.Shape.{Shape}
use Rattle.tk_shape.specs.Lengths.{turn_count}
use Rattle.tk_script.specs.declared.script.Script.{Script}
use Rattle.tk_words.specs.Words.{WordBook, BookWords, drawn, words_of}
use Rattle.tk_frames.specs.declared.write_frame.WriteFrame.{WriteFrame}
use Rattle.tk_frames.specs.declared.read_frame.ReadFrame.{ReadFrame}
use Rattle.tk_client.specs.Reader.{Reader, new_reader, at_epoch, target, after_read}
use Rattle.tk_client.specs.declared.target.Target.{Target}
use Rattle.tk_client.specs.Asked.{pair_for, frame_for}
use Rattle.tk_client.specs.Replies.{answer_in}
use Rattle.tk_report.specs.Entries.{write_at}
use Rattle.tk_report.specs.Report.{follows_of}
use Rattle.tk_privacy.specs.Privacy.{Pairs, normal_for, regained, unnormal_for}
use Rattle.tk_privacy.specs.Counts.{all_but}
use Rattle.tk_report.specs.Exchange.{blank_read}
use Rattle.tk_hostile.specs.declared.sums.Sums.{Sums}
use Rattle.tk_hostile.specs.Choice.{reply_with}
use Rattle.tk_hostile.specs.Wrong.{read_regained}

-- ---- what is seen

-- what a log's key gives for a number
pub record KeyWords : Type 0 where
  pub pair : ℕ × ℕ
  pub hits : List ℕ
  pub pad : List ℕ
  pub tag : List ℕ → List ℕ

-- for each log and number what its key gives, where the key is held
abbrev pub Keys : Type 0
Keys = ℕ → ℕ → Option KeyWords

-- the keys of the logs that are told
unfoldable pub keys_of : Shape → BookWords → (ℕ → Bool) → Keys
keys_of shape w holds log s =
    cond (holds log && (nat_lt log shape.logs && nat_lt s (turn_count shape)))
    (Some (record {
      pair = w.pair log s;
      hits = w.hits log s;
      pad = w.pad log s;
      tag = w.tag log s;
    }))
    None

-- a client's write, or its read: the frame for each server but the hidden one
pub data SeenAct : Type 0 where
  Wrote : WriteFrame → SeenAct
  Asked : List ReadFrame → SeenAct

-- all that an adversary has seen so far
pub record Seen : Type 0 where
  pub keys : Keys
  pub sights : List SeenAct

abbrev pub seen_more : Seen → SeenAct → Seen
seen_more seen sight = record seen { sights = seen.sights ++ sight ∷ [] }

-- ---- the adversary

-- a client's next write or its next read is due
pub data Move : Type 0 where
  Writes : ℕ → Move
  Reads : ℕ → Move

-- The logs whose keys an adversary holds, as a lying client may; and what it does, from all that it has
-- seen. It lets a client write or read. Of one that reads it chooses the sums that each server replies
-- with to the read before, which epoch to read, and what the filter shows, by filter positions. The
-- hidden server tells nobody what it gets; but what it replies may be made of all the frames that it
-- got so far, of which the read's own is told last: be it honest sums, over any blocks that it holds.
-- That the sums of other servers may be made of them too makes the laws say only more.
pub record Adversary : Type 0 where
  pub holds : ℕ → Bool
  pub next : Seen → Move
  pub sums : Seen → List ReadFrame → ReadFrame → ℕ → Sums
  pub epoch : Seen → ℕ
  pub shows : Seen → List ℕ → Bool

-- ---- clients

-- a client so far: in how many turns it wrote, and in how many it read; what it knew as a reader when
-- it last asked, for what it asked, and the frame of that read which the hidden server has
pub record Acting : Type 0 where
  pub written : ℕ
  pub asked : ℕ
  pub reader : Reader
  pub target : Option Target
  pub hidden : ReadFrame

-- a run so far: the clients, the two buckets of each read, the frames that the hidden server got, and
-- what was seen
pub record Attacked : Type 0 where
  pub clients : ℕ → Acting
  pub pairs : Pairs
  pub hidden : List ReadFrame
  pub seen : Seen

-- before its first turn a client awaits no reply
unfoldable pub unattacked : Script → BookWords → Adversary → Attacked
unattacked S w adversary =
    record {
      clients = λ c. record {
        written = 0;
        asked = 0;
        reader = new_reader (follows_of S c);
        target = None;
        hidden = blank_read;
      };
      pairs = λ g c. (0, 0);
      hidden = [];
      seen = record { keys = keys_of S.shape w adversary.holds; sights = [] };
    }

-- ---- a write

unfoldable pub after_write : ℕ → WriteFrame → Attacked → Attacked
after_write c write run =
    let was = run.clients c in
    let is : Acting = record was { written = was.written + 1 } in
    record run {
      clients = λ d. cond (d == c) is (run.clients d);
      seen = seen_more run.seen (Wrote write);
    }

-- ---- a read

-- the reader once a client has these sums for its last read
abbrev pub heard : Script → BookWords → (ReadFrame → ℕ → Sums) → Acting → Reader
heard S w sums was =
    let replies =
    map (λ j. reply_with was.hidden (sums was.hidden j)) (range_with_len 1 S.shape.servers)
    in
    after_read S.shape was.reader was.target (answer_in S.shape w replies was.target)

-- what a client asks: over which epoch, what it knows then, for what it asks, and in which two buckets
pub record Ask : Type 0 where
  pub epoch : ℕ
  pub reader : Reader
  pub target : Option Target
  pub pair : ℕ × ℕ

-- it takes the replies to its last read, and is told an epoch and a filter
unfoldable pub ask_of : Script → BookWords → Adversary → ℕ → Attacked → Ask
ask_of S w adversary c run =
    let was = run.clients c in
    let e = adversary.epoch run.seen in
    let reader = at_epoch e (heard S w (adversary.sums run.seen run.hidden) was) in
    let t = target S.shape (λ log s. adversary.shows run.seen (w.hits log s)) reader in
    record { epoch = e; reader = reader; target = t; pair = pair_for w was.asked c t }

-- the run once client c has asked this of each server, by this frame
unfoldable pub after_ask : Shape → ℕ → ℕ → Ask → (ℕ → ReadFrame) → Attacked → Attacked
after_ask shape h c ask frame run =
    let g = (run.clients c).asked in
    let is : Acting = record {
      written = (run.clients c).written;
      asked = g + 1;
      reader = ask.reader;
      target = ask.target;
      hidden = frame h;
    } in
    record {
      clients = λ d. cond (d == c) is (run.clients d);
      pairs = λ f d. cond (f == g && d == c) ask.pair (run.pairs f d);
      hidden = run.hidden ++ frame h ∷ [];
      seen = seen_more run.seen (Asked (map frame (all_but shape h)));
    }

-- ---- a run

-- there is such a client, and such a turn
abbrev pub is_due : Shape → ℕ → ℕ → Bool
is_due shape g c = nat_lt g (turn_count shape) && nat_lt c shape.clients

-- the read frame of a turn, a client, an epoch and two buckets for each server
abbrev pub Frames : Type 0
Frames = ℕ → ℕ → ℕ → ℕ × ℕ → ℕ → ReadFrame

-- a move; where no such turn is left it is none
unfoldable pub moved :
    Script → BookWords → ℕ → Adversary → Frames → Attacked → Move → Attacked
moved S w h adversary frames run (Writes c) =
    let g = (run.clients c).written in
    cond (is_due S.shape g c) (after_write c (write_at S w g c) run) run
moved S w h adversary frames run (Reads c) =
    let g = (run.clients c).asked in
    let ask = ask_of S w adversary c run in
    cond (is_due S.shape g c) (after_ask S.shape h c ask (frames g c ask.epoch ask.pair) run) run

-- a run after so many moves
unfoldable pub attacked : Script → BookWords → ℕ → Adversary → Frames → ℕ → Attacked
attacked S w h adversary frames zero = unattacked S w adversary
attacked S w h adversary frames (suc k) =
    let run = attacked S w h adversary frames k in
    moved S w h adversary frames run (adversary.next run.seen)

-- the run with the words of a book
abbrev pub under_attack : Script → WordBook → ℕ → Adversary → ℕ → Attacked
under_attack S b h adversary k =
    attacked S (words_of S.shape b) h adversary (frame_for S.shape b) k

-- all that the adversary has seen of it
abbrev pub seen_by : Script → WordBook → ℕ → Adversary → ℕ → Seen
seen_by S b h adversary k = (under_attack S b h adversary k).seen

-- ---- the change, move by move

-- the tape of what is shown to all servers but h
unfoldable pub attack_normal : Script → ℕ → Adversary → ℕ → List ℕ → List ℕ
attack_normal S h adversary k u =
    normal_for S h (under_attack S (drawn u) h adversary k).pairs u

-- the run over a tape whose writes are regained
abbrev pub attack_regained : Script → ℕ → Adversary → ℕ → List ℕ → Attacked
attack_regained S h adversary k r =
    attacked S (words_of S.shape (drawn r)) h adversary (read_regained S.shape h r) k

-- the tape that shows this to all servers but h: the writes are undone first
unfoldable pub attack_unnormal : Script → ℕ → Adversary → ℕ → List ℕ → List ℕ
attack_unnormal S h adversary k v =
    unnormal_for S h (attack_regained S h adversary k (regained S v)).pairs v

-- the tape with which B shows what A shows with u
abbrev pub attack_mirror : Script → Script → ℕ → Adversary → ℕ → List ℕ → List ℕ
attack_mirror A B h adversary k u =
    attack_unnormal B h adversary k (attack_normal A h adversary k u)
