-- What shows of a reply, of a read that is open, and of a member: all that decides when the member writes, asks and
-- ends. What it reads isn't among it.
use Rattle.std.specs.Prelude.{◌≡◌, ℕ, ◌==◌, cond, List, [], map, slice_index, Option, Some, None, Result, Ok, Err}
use Rattle.std.specs.Option.{option_map}
use Rattle.tk_shape.specs.declared.shape.Shape.{Shape}
use Rattle.tk_frames.specs.declared.fault.FrameError.{FrameError}
use Rattle.tk_frames.specs.Fields.{reply_in}
use Rattle.tk_frames.specs.Faults.{first_fault, reply_checks}
use Rattle.tk_words.specs.Words.{WordBook}
use Rattle.tk_client.specs.declared.open_read.OpenRead.{OpenRead}
use Rattle.tk_packets.specs.Packets.{PacketView}
use Rattle.tk_member.specs.declared.fault.Fault.{Fault}
use Rattle.tk_member.specs.declared.word.HostWord.{HostWord}
use Rattle.tk_member.specs.declared.word.HostWord.TheVariants.{Say, Tick, Ahead, Has}
use Rattle.tk_member.specs.Words.{word_in}
use Rattle.tk_member.specs.Epochs.{ToldMarks}
use Rattle.tk_member.specs.Members.{MemberState}
use Rattle.tk_member.specs.Acting.{ActedMember}
use Rattle.tk_member.specs.Steps.{step}
use Rattle.tk_member.specs.Courses.{after_packets}

-- of a reply: why it can't be read, if it can't, and which read it names; and not its sums
pub record Face : Type 0 where
  pub fault : Option FrameError
  pub client : ℕ
  pub turn : ℕ
  pub epoch : ℕ

abbrev pub face : Shape → List ℕ → Face
face shape reply =
    let r = reply_in shape reply in
    record {
      fault = first_fault (reply_checks shape reply);
      client = r.client;
      turn = r.turn;
      epoch = r.epoch;
    }

-- of a read that is open: its turn and its epoch, and not what it is for
abbrev pub read_shown : Option OpenRead → Option (ℕ × ℕ)
read_shown None = None
read_shown (Some read) = Some (read.turn, read.epoch)

-- of a member: all but what it has to say and what it knows as a reader
pub record Stand : Type 0 where
  pub shape : Shape
  pub number : ℕ
  pub written : ℕ
  pub asked : ℕ
  pub ticks : ℕ
  pub ahead : ℕ
  pub told : List ToldMarks
  pub read : Option (ℕ × ℕ)
  pub replies : List (Option Face)

abbrev pub stand : MemberState → Stand
stand m =
    record {
      shape = m.client.shape;
      number = m.client.number;
      written = m.written;
      asked = m.asked;
      ticks = m.ticks;
      ahead = m.ahead;
      told = m.told;
      read = read_shown m.client.read;
      replies = map (option_map (face m.client.shape)) m.replies;
    }

-- ---- what comes to a member, and what becomes of it

-- of a host's word: all but what is said
abbrev pub word_shown : Option HostWord → Option HostWord
word_shown None = None
word_shown (Some (Say log text)) = Some (Say 0 [])
word_shown (Some Tick) = Some Tick
word_shown (Some (Ahead turns)) = Some (Ahead turns)
word_shown (Some (Has packets)) = Some (Has packets)

-- of a server's frame: of a reply its face, and else the whole
pub data Sent : Type 0 where
  Replied : Face → Sent
  Told : List ℕ → Sent

abbrev pub frame_shown : Shape → List ℕ → Sent
frame_shown shape frame =
    cond (slice_index frame 0 == 3) (Replied (face shape frame)) (Told frame)

-- of a packet: who sends it, and that
pub data Came : Type 0 where
  OfHost : Option HostWord → Came
  OfServer : ℕ → Sent → Came

abbrev pub packet_shown : Shape → PacketView → Came
packet_shown shape p =
    cond (p.peer == 0) (OfHost (word_shown (word_in p.bytes))) (OfServer p.peer (frame_shown shape p.bytes))

-- how it stands, or why it ended
abbrev pub outcome : Result ActedMember Fault → Result Stand Fault
outcome (Ok t) = Ok (stand t.member)
outcome (Err fault) = Err fault

-- how it stands after packets, if it takes more
abbrev pub stand_after : Option ActedMember → Option Stand
stand_after None = None
stand_after (Some t) = Some (stand t.member)

-- ---- the law

-- What comes to two members shows the same. After one packet they stand alike, or have ended for the same fault; after
-- any number of packets they stand alike, or neither takes more.
pub record ActAlike (a b : WordBook) (m n : MemberState) : Type 0 where
  pub one : (p q : PacketView) → packet_shown m.client.shape p ≡ packet_shown n.client.shape q →
      outcome (step a m p) ≡ outcome (step b n q)
  pub all : (ps qs : List PacketView) →
      map (packet_shown m.client.shape) ps ≡ map (packet_shown n.client.shape) qs →
      stand_after (after_packets a m ps) ≡ stand_after (after_packets b n qs)

-- Members that stand alike act alike, whatever words they have, and whatever they say and read.
abbrev pub MembersActAlike : Type 0
MembersActAlike =
    (a b : WordBook) (m n : MemberState) → stand m ≡ stand n → ActAlike a b m n
