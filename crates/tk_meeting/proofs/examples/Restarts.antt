-- A member and a server that are begun again, computed: two clients and two servers.
use Rattle.tk_meeting.proofs.Terms.{◌≡◌, ℕ, List, [], ◌∷◌, length, ◌++◌, Option, Some, None, refl, codes, option_map}
use Rattle.tk_meeting.proofs.Terms.{be32, script, PacketView, packet, ActedMember, after_packets, frames_for, first_member}
use Rattle.tk_meeting.proofs.examples.Orders.{computing, book}
use Rattle.tk_member.specs.Steps as stepping

-- ---- what a host says

abbrev says : List ℕ → PacketView
says text = packet 0 (0x53 ∷ (be32 0 ++ text))

abbrev tick : PacketView
tick = packet 0 (0x54 ∷ [])

abbrev has : ℕ → PacketView
has count = packet 0 (0x47 ∷ be32 count)

-- what the first client puts for server 1, if it goes on
abbrev puts : List PacketView → Option (List (List ℕ))
puts packets = option_map (λ (t : ActedMember). frames_for 1 t.packets) (after_packets book (first_member script 0) packets)

abbrev count_put : List PacketView → Option ℕ
count_put packets = option_map (length {A = List ℕ}) (puts packets)

-- ---- a member

-- it wrote and asked, which is two frames
pub put-two : count_put (says (codes "hi") ∷ tick ∷ []) ≡ Some 2
unfolding computing after_packets stepping.step
put-two = refl

-- with all of its journal it goes on where a server has both, and puts the same again
pub same-again : puts (says (codes "hi") ∷ tick ∷ has 2 ∷ []) ≡ puts (says (codes "hi") ∷ tick ∷ [])
unfolding computing after_packets stepping.step
same-again = refl

-- with less of it, it ends; where no server has any of it yet, it goes on
pub lacks-tick : puts (says (codes "hi") ∷ has 1 ∷ []) ≡ None
unfolding computing after_packets stepping.step
lacks-tick = refl

pub had-none : count_put (says (codes "hi") ∷ has 0 ∷ tick ∷ []) ≡ Some 2
unfolding computing after_packets stepping.step
had-none = refl
