-- How a member stands of which this much is known: how far it is, and what was said to it for the turn
-- that it writes next.
use Rattle.tk_meeting.proofs.Terms.{◌≡◌, ℕ, ◌≤◌, ◌<◌, List, [], ◌∷◌, map, ◌+◌, ◌==◌, cond, ◌-◌, filter, Option, Some}
use Rattle.tk_meeting.proofs.Terms.{None, Result, Ok, range_with_len, AllByRecursion, WordBook, words_of, write_frame}
use Rattle.tk_meeting.proofs.Terms.{read_frame, phases_over, Script, OpenRead, writing_before, reader_before, target_at}
use Rattle.tk_meeting.proofs.Terms.{PacketView, ActedMember, MemberState, tells_and_acts, Fault, sayings, tells_read, Saying}
use Rattle.tk_meeting.proofs.Terms.{for_peer, frames_for}
use Rattle.tk_meeting.proofs.Canonical.{serial, write_in, read_from, reply_in, with_sayings, telling_of}
use Rattle.tk_meeting.proofs.Pace.{Pace, Kind, Wrote, Asked, settled, acted}

-- the read of turn g, while it is open
abbrev pub read_of : Script → WordBook → ℕ → ℕ → OpenRead
read_of S b c g =
    record {
      turn = g;
      epoch = phases_over S.shape g;
      target = target_at S (words_of S.shape b) (serial S) g c;
    }

-- server j's reply to the read that is open, if it is there
abbrev pub reply_there : Script → WordBook → ℕ → Pace → ℕ → Option (List ℕ)
reply_there S b c p j = cond (p.replied j) (Some (reply_in S b c j (p.asked - 1))) None

pub record IsAt (S : Script) (b : WordBook) (c : ℕ) (p : Pace) (saids : List Saying)
    (m : MemberState) : Type 0 where
  pub shape_is : m.client.shape ≡ S.shape
  pub number_is : m.client.number ≡ c
  pub writing_is : m.client.writing ≡ with_sayings saids (writing_before S c p.written)
  pub reader_is : m.client.reader ≡ reader_before S (words_of S.shape b) (serial S) c (settled p)
  pub read_is : m.client.read ≡ cond p.is_open (Some (read_of S b c (p.asked - 1))) None
  pub written_is : m.written ≡ p.written
  pub asked_is : m.asked ≡ p.asked
  pub ticks_is : m.ticks ≡ p.ticks
  pub ahead_is : m.ahead ≡ p.ahead
  pub told_is : m.told ≡ map (λ j. telling_of S b (p.epochs j)) (range_with_len 1 S.shape.servers)
  pub replies_is : m.replies ≡ map (reply_there S b c p) (range_with_len 1 S.shape.servers)

-- the frames to server j of what is sent, where the next write is that of turn g, and the next read
-- that of turn k
unfoldable pub frames_of : Script → WordBook → ℕ → ℕ → ℕ → ℕ → List Kind → List (List ℕ)
frames_of S b c j g k [] = []
frames_of S b c j g k (Wrote ∷ kinds) =
    write_frame (write_in S b c g) ∷ frames_of S b c j (g + 1) k kinds
frames_of S b c j g k (Asked ∷ kinds) =
    read_frame (read_from S b c j k) ∷ frames_of S b c j g (k + 1) kinds

-- What was said for turn g is all that the script has in it, if the client writes on up to turn n; and
-- in the turns behind it nothing is said.
pub record IsForetold (S : Script) (c g n : ℕ) (saids : List Saying) : Type 0 where
  pub here : g < n → saids ≡ sayings S c g
  pub behind : (k : ℕ) → g < k → k < n → sayings S c k ≡ []

-- what was said for the next turn, after it wrote from turn g up to turn n
abbrev pub said_on : ℕ → ℕ → List Saying → List Saying
said_on g n saids = cond (g == n) saids []

-- A member before whose step the pace was p went to the pace that follows and sent what is sent then,
-- and told its host this of its reads.
pub record Goes (S : Script) (b : WordBook) (c : ℕ) (p : Pace) (saids : List Saying)
    (news : List PacketView) (result : Result ActedMember Fault) : Type 0 where
  pub turned : ActedMember
  pub is : result ≡ Ok turned
  pub at : IsAt S b c (acted S.shape p).pace
      (said_on p.written (acted S.shape p).pace.written saids) turned.member
  pub frames : (j : ℕ) → 1 ≤ j → j ≤ S.shape.servers →
      frames_for j turned.packets ≡ frames_of S b c j p.written p.asked (acted S.shape p).kinds
  pub host : filter tells_read (for_peer 0 turned.packets) ≡ news

-- What a step comes to before the member acts: it stands at the pace p, and tells its host this. That asks
-- for nothing to be foretold, so it says how far the member will write before one knows what.
pub record Readies (S : Script) (b : WordBook) (c : ℕ) (p : Pace) (saids : List Saying)
    (news : List PacketView) (result : Result ActedMember Fault) : Type 0 where
  pub member : MemberState
  pub told : List PacketView
  pub is : result ≡ tells_and_acts b told member
  pub at : IsAt S b c p saids member
  pub to_host : AllByRecursion (λ (x : PacketView). x.peer ≡ 0) told
  pub host : filter tells_read told ≡ news
