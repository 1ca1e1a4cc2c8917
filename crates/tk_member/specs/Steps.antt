-- What a member does with a packet.
use Rattle.std.specs.Prelude.{◌≡◌, ◌⊎◌, ℕ, ◌+◌, ◌-◌, min, nat_le, nat_lt, ◌==◌, ◌||◌, cond, List, [], ◌∷◌}
use Rattle.std.specs.Prelude.{slice_index, slice_index_or, slice_set, Option, Some, None}
use Rattle.std.specs.Prelude.{option_map, IsSome, Result, Ok, Err}
use Rattle.std.specs.Option.{is_none, is_some}
use Rattle.tk_shape.specs.Lengths.{turn_count}
use Rattle.tk_words.specs.Words.{WordBook, BookWords, words_of}
use Rattle.tk_client.specs.declared.say_error.SayError.{SayError}
use Rattle.tk_client.specs.declared.take_error.TakeError.{TakeError}
use Rattle.tk_client.specs.Writing.{with_text}
use Rattle.tk_client.specs.Saying.{fault_of}
use Rattle.tk_client.specs.Client.{after_replies, refusal_in}
use Rattle.tk_packets.specs.Packets.{PacketView}
use Rattle.tk_member.specs.declared.fault.Fault.{Fault}
use Rattle.tk_member.specs.declared.fault.Fault.TheVariants.{Peer, Refused, Older, Memory}
use Rattle.tk_member.specs.declared.word.HostWord.{HostWord}
use Rattle.tk_member.specs.declared.word.HostWord.TheVariants.{Say, Tick, Ahead, Has}
use Rattle.tk_member.specs.Words.{word_in}
use Rattle.tk_member.specs.Epochs.{ToldMarks, with_epoch}
use Rattle.tk_member.specs.Members.{MemberState, no_replies}
use Rattle.tk_member.specs.Acting.{ActedMember, behind, acts}
use Rattle.tk_member.specs.News.{news, refused_packet}

-- the host is told this, and then it acts
abbrev pub tells_and_acts : WordBook → List PacketView → MemberState → Result ActedMember Fault
tells_and_acts b told m = Ok (behind told (acts b m))

-- ---- what its host tells it

abbrev pub said : WordBook → MemberState → ℕ → List ℕ → Option SayError → Result ActedMember Fault
said b m log text (Some error) = tells_and_acts b (refused_packet log error ∷ []) m
said b m log text None =
    let writing = with_text log text m.client.writing in
    tells_and_acts b [] (record m { client = record m.client { writing = writing } })

-- a text is said on a log, or the host is told why it may not be said
abbrev pub says : WordBook → MemberState → ℕ → List ℕ → Result ActedMember Fault
says b m log text = said b m log text (fault_of m.client.shape m.client.writing.logs log text)

-- no more ticks, nor turns ahead, are counted than there are turns
abbrev pub counted_up : MemberState → ℕ → ℕ
counted_up m n = min n (turn_count m.client.shape)

-- A server that has more packets of this client than it sent has them of a member that was further:
-- it may not go on, since it would use words twice.
abbrev pub heard : WordBook → MemberState → Option HostWord → Result ActedMember Fault
heard b m None = Err Peer
heard b m (Some (Say log text)) = says b m log text
heard b m (Some Tick) = tells_and_acts b [] (record m { ticks = counted_up m (m.ticks + 1) })
heard b m (Some (Ahead turns)) =
    tells_and_acts b [] (record m { ahead = counted_up m (m.ahead + turns) })
heard b m (Some (Has packets)) =
    cond (nat_lt (m.written + m.asked) packets) (Err Older) (tells_and_acts b [] m)

-- ---- what servers send it

-- what is there where all are
abbrev pub all_of : {X : Type 0} → List (Option X) → Option (List X)
all_of [] = Some []
all_of (None ∷ xs) = None
all_of (Some x ∷ xs) = option_map (λ ys. x ∷ ys) (all_of xs)

-- the member after the replies to the read that is open, and what its host is told: what is new
abbrev pub after_settling : BookWords → List (List ℕ) → MemberState → MemberState
after_settling w replies m =
    record m {
      client = after_replies w replies m.client;
      replies = no_replies m.client.shape;
    }

abbrev pub told_after : BookWords → List (List ℕ) → MemberState → List PacketView
told_after w replies m =
    news m.client.shape m.client.reader (after_replies w replies m.client).reader

-- the read is settled by all replies, where they aren't refused
abbrev pub settled : WordBook → MemberState → List (List ℕ) → Option TakeError →
    Result ActedMember Fault
settled b m replies (Some error) = Err Refused
settled b m replies None =
    let words = words_of m.client.shape b in
    tells_and_acts b (told_after words replies m) (after_settling words replies m)

abbrev pub settled_by : WordBook → MemberState → Option (List (List ℕ)) → Result ActedMember Fault
settled_by b m None = tells_and_acts b [] m
settled_by b m (Some replies) = settled b m replies (refusal_in replies m.client)

-- where all replies to it are there
abbrev pub settled_if_all : WordBook → MemberState → Result ActedMember Fault
settled_if_all b m = settled_by b m (all_of m.replies)

abbrev pub with_reply : MemberState → ℕ → List ℕ → MemberState
with_reply m j reply = record m { replies = slice_set m.replies (j - 1) (Some reply) }

-- server j's reply to the read that is open, which it has not yet
abbrev pub replied : WordBook → MemberState → ℕ → List ℕ → Result ActedMember Fault
replied b m j reply =
    cond (is_none m.client.read || is_some (slice_index_or m.replies (j - 1) None)) (Err Peer)
    (settled_if_all b (with_reply m j reply))

abbrev pub told_epoch : WordBook → MemberState → Result (List ToldMarks) Fault → Result ActedMember Fault
told_epoch b m (Err fault) = Err fault
told_epoch b m (Ok told) = tells_and_acts b [] (record m { told = told })

-- server j tells its next epoch
abbrev pub takes_epoch : WordBook → MemberState → ℕ → List ℕ → Result ActedMember Fault
takes_epoch b m j frame = told_epoch b m (with_epoch m.client.shape m.told j frame)

-- a reply, an epoch, or that a frame was refused
abbrev pub served : WordBook → MemberState → ℕ → List ℕ → Result ActedMember Fault
served b m j frame =
    let kind = slice_index frame 0 in
    cond (kind == 3) (replied b m j frame)
    (cond (kind == 0x0b) (takes_epoch b m j frame)
    (cond (kind == 0x0c) (Err Refused) (Err Peer)))

-- ---- any packet

-- How a member stands after a packet and what it sends, or why it ends. Peer 0 is its host, and
-- peer j server j.
unfoldable pub step : WordBook → MemberState → PacketView → Result ActedMember Fault
step b m p =
    cond (p.peer == 0) (heard b m (word_in p.bytes))
    (cond (nat_le p.peer m.client.shape.servers) (served b m p.peer p.bytes)
    (Err Peer))

-- ---- what a call answers

-- the member stands as it is defined, and sends these packets
abbrev pub IsTurned : Result ActedMember Fault → MemberState → List PacketView → Type 0
IsTurned defined m packets = defined ≡ Ok (record { member = m; packets = packets })

-- it ends as it is defined, or because memory ran out
abbrev pub IsEnded : Result ActedMember Fault → Fault → Type 0
IsEnded defined fault = (fault ≡ Memory) ⊎ (defined ≡ Err fault)

-- replies that are refused end it so, and only they, unless memory runs out
abbrev pub EndsRefused : Option TakeError → Fault → Type 0
EndsRefused refusal fault = (fault ≡ Memory) ⊎ ((fault ≡ Refused) × IsSome refusal)
