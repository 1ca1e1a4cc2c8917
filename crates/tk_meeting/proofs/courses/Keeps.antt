-- What a meeting has where its course is known: each client, server and link is what the serial run makes
-- of it.
use Rattle.tk_meeting.proofs.Terms.{◌≡◌, ℕ, ◌≤◌, ◌<◌, List, filter, Option, None, drop, WordBook, Script, PacketView}
use Rattle.tk_meeting.proofs.Terms.{MemberState, Fault, tells_read, news_before, Saying, Meeting}
use Rattle.tk_meeting.proofs.Canonical.{AreFronts, stream}
use Rattle.tk_meeting.proofs.Pace.{Pace, Kind, settled}
use Rattle.tk_meeting.proofs.Standing.{IsAt, frames_of}
use Rattle.tk_meeting.proofs.Course.{Course, newest_by, came_of}

-- the frames between client c and server j
pub record LinkKeeps (S : Script) (b : WordBook) (c j : ℕ) (p : Pace) (writes : ℕ → ℕ) (reads : ℕ)
    (kinds : List Kind) (up down : List (List ℕ)) : Type 0 where
  pub up_is : up ≡ frames_of S b c j (writes c) reads kinds
  pub down_is : down ≡ drop (came_of p j) (stream S b c j (newest_by S.shape writes) reads)

-- client c, by its pace and by what came to the servers of each client and is on its way to them
pub record ClientKeeps (S : Script) (b : WordBook) (c : ℕ) (p : Pace) (writes reads : ℕ → ℕ → ℕ)
    (kinds : ℕ → List Kind) (member : MemberState) (said : ℕ → List Saying) (told : List PacketView)
    (ended : Option Fault) (up down : ℕ → List (List ℕ)) : Type 0 where
  pub at : IsAt S b c p (said p.written) member
  pub told_is : filter tells_read told ≡ news_before S b c (settled p)
  pub going : ended ≡ None
  pub links : (j : ℕ) → 1 ≤ j → j ≤ S.shape.servers →
      LinkKeeps S b c j p (writes j) (reads j c) (kinds j) (up j) (down j)

pub record Keeps (S : Script) (b : WordBook) (q : Course) (m : Meeting) : Type 0 where
  pub clients : (c : ℕ) → c < S.shape.clients →
      ClientKeeps S b c (q.paces c) q.writes q.reads (q.up c) (m.members c) (m.said c) (m.told c)
      (m.ended c) (m.up c) (λ j. m.down j c)
  pub servers : (j : ℕ) → 1 ≤ j → j ≤ S.shape.servers →
      AreFronts S b j (q.writes j) (q.reads j) (m.seats j)
