-- A meeting that stands where programs do, by what each of them took.
use Rattle.tk_meeting.proofs.Terms.{◌≡◌, ℕ, ◌≤◌, ◌<◌, List, [], ◌∷◌, ◌+◌, ◌++◌, None, Result, Ok, Err, WordBook, Script}
use Rattle.tk_meeting.proofs.Terms.{PacketView, seats_next, answers_next, empty_seats, ActedMember, member_next, sends_next}
use Rattle.tk_meeting.proofs.Terms.{MemberState, step, Fault, for_peer, frames_for, Meeting, first_member, state_after}
use Rattle.tk_meeting.proofs.Terms.{seats_from, member_after}
use Rattle.tk_meeting.proofs.programs.Moments.{sent_after}

-- a packet doesn't end a member
abbrev pub IsTaken : Result ActedMember Fault → Type 0
IsTaken (Ok t) = Unit {0}
IsTaken (Err fault) = ⊥

-- none of these packets does
abbrev pub AllTaken : WordBook → MemberState → List PacketView → Type 0
AllTaken b m [] = Unit {0}
AllTaken b m (p ∷ ps) = IsTaken (step b m p) × AllTaken b (member_next b m p) ps

pub taken-front : (b : WordBook) (m : MemberState) (ps qs : List PacketView) → AllTaken b m (ps ++ qs) →
    AllTaken b m ps
taken-front b m [] qs all = tt
taken-front b m (p ∷ ps) qs all = (all.0, taken-front b (member_next b m p) ps qs all.1)

pub taken-last : (b : WordBook) (m : MemberState) (ps : List PacketView) (p : PacketView) →
    AllTaken b m (ps ++ p ∷ []) → IsTaken (step b (state_after (member_next b) m ps) p)
taken-last b m [] p all = all.0
taken-last b m (q ∷ ps) p all = taken-last b (member_next b m q) ps p all.1

-- all that a member sends for packets, and a server
abbrev pub sent_of : Script → (ℕ → WordBook) → ℕ → List PacketView → List PacketView
sent_of S books c ps = sent_after (member_next (books c)) (sends_next (books c)) (first_member S c) ps

abbrev pub served_of : Script → List PacketView → List PacketView
served_of S ps = sent_after (seats_next S.shape) (answers_next S.shape) (empty_seats S.shape) ps

module _ (S : Script) (books : ℕ → WordBook) where
  -- Client c's member took these packets, and server j those.
  pub record IsAt (clients servers : ℕ → List PacketView) (m : Meeting) : Type 0 where
    pub members : (c : ℕ) → c < S.shape.clients → m.members c ≡ member_after S books c (clients c)
    pub going : (c : ℕ) → c < S.shape.clients → AllTaken (books c) (first_member S c) (clients c) → m.ended c ≡ None
    pub told : (c : ℕ) → c < S.shape.clients → m.told c ≡ for_peer 0 (sent_of S books c (clients c))
    pub seats : (j : ℕ) → 1 ≤ j → j ≤ S.shape.servers → m.seats j ≡ seats_from S.shape (servers j)
    pub up : (c j : ℕ) → c < S.shape.clients → 1 ≤ j → j ≤ S.shape.servers →
        frames_for (c + 1) (servers j) ++ m.up c j ≡ frames_for j (sent_of S books c (clients c))
    pub down : (j c : ℕ) → 1 ≤ j → j ≤ S.shape.servers → c < S.shape.clients →
        frames_for j (clients c) ++ m.down j c ≡ frames_for (c + 1) (served_of S (servers j))
