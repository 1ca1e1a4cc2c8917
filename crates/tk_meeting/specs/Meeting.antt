-- A group apart: clients and servers on machines of their own, and what is on its way between them.
use Rattle.std.specs.Prelude.{ℕ, ◌+◌, ◌==◌, cond, List, [], ◌++◌, map, filter, Option, Some, None, Result, Ok, Err}
use Rattle.tk_script.specs.declared.script.Script.{Script}
use Rattle.tk_packets.specs.Packets.{PacketView}
use Rattle.tk_client.specs.Client.{new_client}
use Rattle.tk_report.specs.Queues.{writes_of}
use Rattle.tk_report.specs.Report.{follows_of}
use Rattle.tk_member.specs.declared.fault.Fault.{Fault}
use Rattle.tk_member.specs.Members.{MemberState, new_member}
use Rattle.tk_member.specs.Acting.{ActedMember}
use Rattle.tk_serve.specs.Seats.{Seat, empty_seats}
use Rattle.tk_serve.specs.Steps.{SeatsAndPackets}

-- a log, and a text that was said on it
pub record Saying : Type 0 where
  pub log : ℕ
  pub text : List ℕ

-- Of each client, by number: its member; the texts that were said to it and that it may say, by the turn
-- that it was to write next; what it told its host; and why it ended, if it did. Of each server, by number, what
-- it took of each client. And the frames on their way, from a client up to a server, and from a
-- server down to a client.
pub record Meeting : Type 0 where
  pub members : ℕ → MemberState
  pub said : ℕ → ℕ → List Saying
  pub told : ℕ → List PacketView
  pub ended : ℕ → Option Fault
  pub seats : ℕ → List Seat
  pub up : ℕ → ℕ → List (List ℕ)
  pub down : ℕ → ℕ → List (List ℕ)

-- the same, but for one number
abbrev pub changed : {X : Type 0} → ℕ → X → (ℕ → X) → ℕ → X
changed i x f k = cond (k == i) x (f k)

-- nothing has happened
abbrev pub opening : Script → Meeting
opening S =
    record {
      members = λ c. new_member (new_client S.shape c (writes_of S c) (follows_of S c));
      said = λ c g. [];
      told = λ c. [];
      ended = λ c. None;
      seats = λ j. empty_seats S.shape;
      up = λ c j. [];
      down = λ j c. [];
    }

-- ---- what a program's step does

-- the packets for a peer, and the frames in them
abbrev pub for_peer : ℕ → List PacketView → List PacketView
for_peer peer packets = filter (λ p. p.peer == peer) packets

abbrev pub frames_for : ℕ → List PacketView → List (List ℕ)
frames_for peer packets = map (λ p. p.bytes) (for_peer peer packets)

-- A client's member stands as it is told: its frames are on their way, and its host is told the
-- rest. Or it has ended.
abbrev pub member_went : Meeting → ℕ → Result ActedMember Fault → Meeting
member_went m c (Ok t) =
    record m {
      members = changed c t.member m.members;
      told = changed c (m.told c ++ for_peer 0 t.packets) m.told;
      up = changed c (λ j. m.up c j ++ frames_for j t.packets) m.up;
    }
member_went m c (Err fault) = record m { ended = changed c (Some fault) m.ended }

-- server j stands as it is told, and its frames are on their way; client c is peer c + 1
abbrev pub server_went : Meeting → ℕ → SeatsAndPackets → Meeting
server_went m j s =
    record m {
      seats = changed j s.seats m.seats;
      down = changed j (λ c. m.down j c ++ frames_for (c + 1) s.packets) m.down;
    }
