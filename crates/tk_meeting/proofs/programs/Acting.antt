-- What a member has put at any moment, and that no packet but the last ended it.
use Rattle.tk_meeting.proofs.Terms.{◌≡◌, ℕ, List, [], ◌∷◌, cond, ◌++◌, Bool, true, false, Some, None, Result, Ok, Err}
use Rattle.tk_meeting.proofs.Terms.{fold_l, WordBook, Script, Passing, taken, PacketView, ActedMember, behind, unmoved}
use Rattle.tk_meeting.proofs.Terms.{after_packets, behind_if, after_packet, stood_by, member_next, sends_next}
use Rattle.tk_meeting.proofs.Terms.{exchanged, MemberState, is_over, step, Fault, first_member, ActsAsMember}
use Rattle.tk_meeting.proofs.programs.Moments.{Moment, moment, up-to}
use Rattle.tk_meeting.proofs.programs.Standing.{IsTaken, AllTaken}

-- ---- packets after which a member stands end it nowhere

pub none-stands : (b : WordBook) (ps : List PacketView) (t : ActedMember) → fold_l (after_packet b) None ps ≡ Some t → ⊥
none-stands b [] t is = absurd (cc (is))
none-stands b (p ∷ ps) t is = none-stands b ps t is

all-taken : (b : WordBook) (u t : ActedMember) (ps : List PacketView) → fold_l (after_packet b) (Some u) ps ≡ Some t →
    AllTaken b u.member ps
all-taken b u t [] is = tt
all-taken b u t (p ∷ ps) is =
    let by : (r : Result ActedMember Fault) → fold_l (after_packet b) (behind_if u r) ps ≡ Some t →
    IsTaken r × AllTaken b (stood_by u.member r) ps =
    λ r. elim r as (λ x. fold_l (after_packet b) (behind_if u x) ps ≡ Some t →
    IsTaken x × AllTaken b (stood_by u.member x) ps) [
      | Ok v ↦ λ it. (tt, all-taken b (behind u.packets v) t ps it)
      | Err e ↦ λ it. absurd (none-stands b ps t it)
    ]
    in
    let go : (over : Bool) → fold_l (after_packet b) (cond over None (behind_if u (step b u.member p))) ps ≡ Some t →
    AllTaken b u.member (p ∷ ps) =
    λ over. elim over as (λ x.
    fold_l (after_packet b) (cond x None (behind_if u (step b u.member p))) ps ≡ Some t →
    AllTaken b u.member (p ∷ ps)) [
      | true ↦ λ it. absurd (none-stands b ps t it)
      | false ↦ λ it. by (step b u.member p) it
    ]
    in
    go (is_over u.member) is

pub stands-taken : (b : WordBook) (m : MemberState) (t : ActedMember) (ps : List PacketView) →
    after_packets b m ps ≡ Some t → AllTaken b m ps
unfolding after_packets
stands-taken b m t ps is = all-taken b (unmoved m) t ps is

-- ---- at some moment

pub member-moment : (S : Script) (b : WordBook) (c : ℕ) (past xs ys : List Passing) (acts : ActsAsMember S b c past) →
    xs ++ ys ≡ past →
    Moment (member_next b) (sends_next b) (first_member S c) acts.packets acts.last [] xs
unfolding exchanged
member-moment S b c past xs ys acts front =
    let rest = up-to xs ys (exchanged b (first_member S c) acts.packets ++ taken acts.last) past acts.count
    front acts.order
    in
    moment (member_next b) (sends_next b) xs rest.0 (first_member S c) acts.packets acts.last [] rest.1
