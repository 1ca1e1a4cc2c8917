-- What a member writes and asks, and when. What it has to say or to read decides nothing of when.
use Rattle.std.specs.Prelude.{◌≡◌, ℕ, zero, suc, ◌+◌, ◌-◌, ◌*◌, min, nat_le, nat_lt, Bool, ◌&&◌, cond}
use Rattle.std.specs.Prelude.{List, [], ◌∷◌, ◌++◌, map, replicate}
use Rattle.std.specs.Option.{is_none}
use Rattle.tk_shape.specs.declared.shape.Shape.{Shape}
use Rattle.tk_shape.specs.Lengths.{turn_count}
use Rattle.tk_schedule.specs.Schedule.{phases_over}
use Rattle.tk_words.specs.Words.{WordBook, BookWords, words_of}
use Rattle.tk_frames.specs.Spelling.{write_frame, read_frame}
use Rattle.tk_client.specs.Writing.{first_waiting, after_write}
use Rattle.tk_client.specs.Writes.{write_of}
use Rattle.tk_client.specs.Asked.{asked}
use Rattle.tk_client.specs.Client.{target_over, opened}
use Rattle.tk_packets.specs.Packets.{PacketView, packet}
use Rattle.tk_member.specs.Epochs.{filter_of, marks_at}
use Rattle.tk_member.specs.Members.{MemberState, known_to}

-- the member after it acted, and the packets that it sent
pub record ActedMember : Type 0 where
  pub member : MemberState
  pub packets : List PacketView

-- nothing was sent
abbrev pub unmoved : MemberState → ActedMember
unmoved m = record { member = m; packets = [] }

-- the packets come behind these
abbrev pub behind : List PacketView → ActedMember → ActedMember
behind packets t = record { member = t.member; packets = packets ++ t.packets }

-- it acted so behind these packets, and then stands as this member, with these packets in all
abbrev pub HasActed : List PacketView → ActedMember → MemberState → List PacketView → Type 0
HasActed front t m packets = behind front t ≡ record { member = m; packets = packets }

-- and then it acts so
abbrev pub followed_by : ActedMember → (MemberState → ActedMember) → ActedMember
followed_by t act = behind t.packets (act t.member)

-- a frame for each server, where the servers are counted from this one on
abbrev pub packets_from : ℕ → List (List ℕ) → List PacketView
packets_from j [] = []
packets_from j (frame ∷ frames) = packet j frame ∷ packets_from (j + 1) frames

-- the epoch that the reads of a turn are over
abbrev pub epoch_due : Shape → ℕ → ℕ
epoch_due shape turn = phases_over shape turn

-- ---- writes

-- the words of a book for its shape
abbrev pub words_for : WordBook → MemberState → BookWords
words_for b m = words_of m.client.shape b

-- its write of the next turn goes to every server
abbrev pub write_packets : BookWords → MemberState → List PacketView
write_packets w m =
    let write = write_of w m.written m.client.number (first_waiting m.client.writing) in
    packets_from 1 (replicate m.client.shape.servers (write_frame write))

abbrev pub after_turn : MemberState → MemberState
after_turn m =
    record m {
      client = record m.client { writing = after_write m.client.writing };
      written = m.written + 1;
    }

-- it writes in so many turns
unfoldable pub wrote : BookWords → ℕ → MemberState → ActedMember
wrote w zero m = unmoved m
wrote w (suc n) m = behind (write_packets w m) (wrote w n (after_turn m))

-- how many writes go ahead of their turns
abbrev pub ahead_due : MemberState → ℕ
ahead_due m = min m.ahead (turn_count m.client.shape - m.written)

abbrev pub goes_ahead : BookWords → MemberState → ActedMember
goes_ahead w m = wrote w (ahead_due m) (record m { ahead = m.ahead - ahead_due m })

-- how many turns have an epoch to read that is known
abbrev pub turns_known : MemberState → ℕ
turns_known m =
    let shape = m.client.shape in
    min (turn_count shape) ((known_to m + 1) * shape.ticks)

-- how many of the ticks that wait are for such a turn
abbrev pub ticks_due : MemberState → ℕ
ticks_due m = min m.ticks (turns_known m - m.written)

abbrev pub goes_by_ticks : BookWords → MemberState → ActedMember
goes_by_ticks w m = wrote w (ticks_due m) (record m { ticks = m.ticks - ticks_due m })

-- ---- reads

-- in the next turn it wrote already, no read is open, and the epoch is known
abbrev pub may_ask : MemberState → Bool
may_ask m =
    nat_lt m.asked m.written && is_none m.client.read
    && nat_le (epoch_due m.client.shape m.asked) (known_to m)

-- its read of the next turn, to each server its own frame
abbrev pub asks : WordBook → MemberState → ActedMember
asks b m =
    let shape = m.client.shape in
    let epoch = epoch_due shape m.asked in
    let marks = filter_of shape (marks_at shape m.told epoch) in
    let target = target_over (words_of shape b) marks epoch m.client in
    let frames = asked shape b m.asked m.client.number epoch target in
    record {
      member = record m { client = opened m.asked epoch target m.client; asked = m.asked + 1 };
      packets = packets_from 1 (map read_frame frames);
    }

abbrev pub asks_if_due : WordBook → MemberState → ActedMember
asks_if_due b m = cond (may_ask m) (asks b m) (unmoved m)

-- ---- both

-- first all writes that are due, and then a read if one is due
unfoldable pub acts : WordBook → MemberState → ActedMember
acts b m =
    let words = words_of m.client.shape b in
    followed_by (followed_by (goes_ahead words m) (goes_by_ticks words)) (asks_if_due b)
