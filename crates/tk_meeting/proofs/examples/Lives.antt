-- A group of two clients and two servers, computed, in which a server loses all and a member is begun again.
use Rattle.tk_meeting.proofs.Terms.{◌≡◌, ℕ, List, [], ◌∷◌, ◌++◌, refl, codes, be32, script, after_packets}
use Rattle.tk_meeting.specs.Lives.{Lives, Happening, Hears, GoesUp, MemberAgain, ServerAgain, at_first, lives_on}
use Rattle.tk_meeting.specs.Lives.{lives_after}
use Rattle.tk_meeting.proofs.examples.Orders.{computing, book}
use Rattle.tk_member.specs.Steps as stepping

abbrev lived : List Happening → Lives
lived xs = lives_after script (λ c. book) (at_first script) xs

abbrev ticks : ℕ → Happening
ticks c = Hears c (0x54 ∷ [])

abbrev up_once : List Happening
up_once = GoesUp 0 1 ∷ GoesUp 1 1 ∷ GoesUp 0 2 ∷ GoesUp 1 2 ∷ []

abbrev begins : List Happening
begins = Hears 0 (0x53 ∷ (be32 0 ++ codes "hi")) ∷ ticks 0 ∷ ticks 1 ∷ [] ++ up_once ++ up_once

-- Server 1 loses all, and the first client's member is begun again before the server has all again.
abbrev again : List Happening
again = begins ++ ServerAgain 1 ∷ GoesUp 1 1 ∷ MemberAgain 0 ∷ [] ++ up_once ++ up_once

-- it has then what it had
pub same-again : (lived again).seats 1 ≡ (lived begins).seats 1
unfolding computing after_packets stepping.step lives_on lives_after
same-again = refl
