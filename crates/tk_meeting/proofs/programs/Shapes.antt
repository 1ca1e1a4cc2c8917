-- A member's shape stays, whatever comes.
use Rattle.tk_meeting.proofs.Terms.{◌≡◌, ℕ, List, [], ◌∷◌, Result, Ok, ◌∙◌, refl, ap, Err, Shape, WordBook, PacketView}
use Rattle.tk_meeting.proofs.Terms.{ActedMember, stood_by, member_next, MemberState, step, Fault, state_after}
use Rattle.tk_meeting.proofs.scripts.Lasting.{base_of, LastsIn, step-lasts}

-- after a packet, whether it ends the member or not
shape-stays : (b : WordBook) (m : MemberState) (p : PacketView) → (member_next b m p).client.shape ≡ m.client.shape
shape-stays b m p = by (step b m p) (step-lasts b m p)
  where
    by : (r : Result ActedMember Fault) → LastsIn (base_of m) r → (stood_by m r).client.shape ≡ m.client.shape
    by (Ok t) lasts = ap (λ (x : Shape × List ℕ). x.0) lasts
    by (Err fault) lasts = refl

-- and so it does after packets
pub shape-after : (b : WordBook) (m : MemberState) (ps : List PacketView) →
    (state_after (member_next b) m ps).client.shape ≡ m.client.shape
shape-after b m [] = refl
shape-after b m (p ∷ ps) = shape-after b (member_next b m p) ps ∙ shape-stays b m p
