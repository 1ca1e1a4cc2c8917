-- A member takes a packet: a word of its host, or a server's next frame.
use Rattle.tk_meeting.proofs.Terms.{◌≡◌, ℕ, ◌≤◌, ◌<◌, List, [], ◌∷◌, ◌+◌, ◌==◌, cond, ◌++◌, false, Option, Some, None}
use Rattle.tk_meeting.proofs.Terms.{Result, Ok, ◌∙◌, refl, ap, sym, subst, append-nil, append_assoc, ap₂, Err, WordBook}
use Rattle.tk_meeting.proofs.Terms.{Script, PacketView, Seat, ActedMember, stood_by, member_next, sends_next, sent_by}
use Rattle.tk_meeting.proofs.Terms.{MemberState, step, Fault, changed, for_peer, frames_for, Meeting, member_went}
use Rattle.tk_meeting.proofs.Terms.{first_member, member_after}
use Rattle.tk_meeting.proofs.courses.Picks.{at-place, pick, unchanged}
use Rattle.tk_meeting.proofs.members.Packets.{peer-append, frames-append}
use Rattle.tk_meeting.proofs.programs.Moments.{state-one, sent-one}
use Rattle.tk_meeting.proofs.programs.Doings.{one_more}
use Rattle.tk_meeting.proofs.programs.Standing.{IsAt, IsTaken, AllTaken, taken-last, sent_of, served_of}

-- ---- what a step does to a meeting, whether the member goes on or ends

pub record Went (m : Meeting) (c : ℕ) (r : Result ActedMember Fault) (n : Meeting) : Type 0 where
  pub members : (k : ℕ) → n.members k ≡ changed c (stood_by (m.members c) r) m.members k
  pub told : (k : ℕ) → n.told k ≡ changed c (m.told c ++ for_peer 0 (sent_by r)) m.told k
  pub up : (k j : ℕ) → n.up k j ≡ cond (k == c) (m.up c j ++ frames_for j (sent_by r)) (m.up k j)
  pub seats : n.seats ≡ m.seats
  pub down : n.down ≡ m.down
  pub apart : (k : ℕ) → (k == c) ≡ false → n.ended k ≡ m.ended k
  pub going : IsTaken r → n.ended ≡ m.ended

pub went : (m : Meeting) (c : ℕ) (r : Result ActedMember Fault) → Went m c r (member_went m c r)
went m c (Ok t) =
    record {
      members = λ k. refl;
      told = λ k. refl;
      up = λ k j.
          pick (λ b.
          (cond b (λ i. m.up c i ++ frames_for i t.packets) (m.up k)) j
          ≡ cond b (m.up c j ++ frames_for j t.packets) (m.up k j)) (k == c) (λ _. refl) (λ _. refl);
      seats = refl;
      down = refl;
      apart = λ k _. refl;
      going = λ _. refl;
    }
went m c (Err e) =
    record {
      members = λ k.
          sym (unchanged c m.members k);
      told = λ k.
          sym
          (ap (λ xs. cond (k == c) xs (m.told k)) (append-nil (m.told c))
          ∙ unchanged c m.told k);
      up = λ k j.
          sym
          (ap (λ xs. cond (k == c) xs (m.up k j)) (append-nil (m.up c j))
          ∙ unchanged c (λ n. m.up n j) k);
      seats = refl;
      down = refl;
      apart = λ k other. ap (λ b. cond b (Some e) (m.ended k)) other;
      going = λ taken. absurd taken;
    }

-- ---- a member's packet

module _ (S : Script) (books : ℕ → WordBook) (clients servers : ℕ → List PacketView) (m : Meeting)
    (at : IsAt S books clients servers m) (c : ℕ) (low : c < S.shape.clients) (p : PacketView)
    (going : m.ended c ≡ None) where
  abbrev now : ℕ → List PacketView
  now = one_more c p clients

  abbrev state : MemberState
  state = member_after S books c (clients c)

  -- the same meeting, but for what was said and for what is on its way down
  pub record IsLike (left : Meeting) : Type 0 where
    pub members : left.members ≡ m.members
    pub told : left.told ≡ m.told
    pub ended : left.ended ≡ m.ended
    pub seats : left.seats ≡ m.seats
    pub up : left.up ≡ m.up
    pub down : (j d : ℕ) → 1 ≤ j → j ≤ S.shape.servers → d < S.shape.clients →
        frames_for j (now d) ++ left.down j d ≡ frames_for (d + 1) (served_of S (servers j))

  module _ (left : Meeting) (like : IsLike left) (r : Result ActedMember Fault)
      (steps : r ≡ step (books c) (left.members c) p) where
    abbrev then : Meeting
    then = member_went left c r

    w : Went left c r then
    w = went left c r

    stands : left.members c ≡ state
    stands = ap (λ (f : ℕ → MemberState). f c) like.members ∙ at.members c low

    by : r ≡ step (books c) state p
    by = steps ∙ ap (λ (s : MemberState). step (books c) s p) stands

    sent-more : sent_of S books c (clients c ++ p ∷ []) ≡ sent_of S books c (clients c) ++ sent_by r
    sent-more =
        sent-one (member_next (books c)) (sends_next (books c)) (first_member S c) (clients c) p
        ∙ ap (λ (x : Result ActedMember Fault). sent_of S books c (clients c) ++ sent_by x) (sym by)

    stood-more : stood_by (left.members c) r ≡ member_after S books c (clients c ++ p ∷ [])
    stood-more =
        ap₂ (λ (s : MemberState) (x : Result ActedMember Fault). stood_by s x) stands by
        ∙ sym (state-one (member_next (books c)) (sends_next (books c)) (first_member S c) (clients c) p)

    members-are : (k : ℕ) → k < S.shape.clients → then.members k ≡ member_after S books k (now k)
    members-are k within =
        w.members k
        ∙ at-place (λ n b.
        cond b (stood_by (left.members c) r) (left.members n)
        ≡ member_after S books n (cond b (clients c ++ p ∷ []) (clients n))) c k stood-more
        (λ _. ap (λ (f : ℕ → MemberState). f k) like.members ∙ at.members k within)

    going-on : (k : ℕ) → k < S.shape.clients → AllTaken (books k) (first_member S k) (now k) →
        then.ended k ≡ None
    going-on k within =
        at-place (λ n b.
        AllTaken (books n) (first_member S n) (cond b (clients c ++ p ∷ []) (clients n)) → then.ended n ≡ None) c k own
        (λ other all.
        w.apart k other ∙ ap (λ (f : ℕ → Option Fault). f k) like.ended ∙ at.going k within all)
      where
        own : AllTaken (books c) (first_member S c) (clients c ++ p ∷ []) → then.ended c ≡ None
        own all =
            let taken : IsTaken r =
            subst IsTaken (sym by) (taken-last (books c) (first_member S c) (clients c) p all)
            in
            ap (λ (f : ℕ → Option Fault). f c) (w.going taken ∙ like.ended) ∙ going

    told-are : (k : ℕ) → k < S.shape.clients → then.told k ≡ for_peer 0 (sent_of S books k (now k))
    told-are k within =
        w.told k
        ∙ at-place (λ n b.
        cond b (left.told c ++ for_peer 0 (sent_by r)) (left.told n)
        ≡ for_peer 0 (sent_of S books n (cond b (clients c ++ p ∷ []) (clients n)))) c k own
        (λ _. ap (λ (f : ℕ → List PacketView). f k) like.told ∙ at.told k within)
      where
        own : left.told c ++ for_peer 0 (sent_by r) ≡ for_peer 0 (sent_of S books c (clients c ++ p ∷ []))
        own =
            ap (λ xs. xs ++ for_peer 0 (sent_by r))
            (ap (λ (f : ℕ → List PacketView). f c) like.told ∙ at.told c low)
            ∙ sym (peer-append 0 (sent_of S books c (clients c)) (sent_by r)) ∙ ap (for_peer 0) (sym sent-more)

    up-are : (k j : ℕ) → k < S.shape.clients → 1 ≤ j → j ≤ S.shape.servers →
        frames_for (k + 1) (servers j) ++ then.up k j ≡ frames_for j (sent_of S books k (now k))
    up-are k j within one most =
        ap (λ fs. frames_for (k + 1) (servers j) ++ fs) (w.up k j)
        ∙ at-place (λ n b.
        frames_for (n + 1) (servers j) ++ cond b (left.up c j ++ frames_for j (sent_by r)) (left.up n j)
        ≡ frames_for j (sent_of S books n (cond b (clients c ++ p ∷ []) (clients n)))) c k own
        (λ _.
        ap (λ (f : ℕ → ℕ → List (List ℕ)). frames_for (k + 1) (servers j) ++ f k j) like.up
        ∙ at.up k j within one most)
      where
        own : frames_for (c + 1) (servers j) ++ (left.up c j ++ frames_for j (sent_by r))
            ≡ frames_for j (sent_of S books c (clients c ++ p ∷ []))
        own =
            sym (append_assoc (frames_for (c + 1) (servers j)) (left.up c j) (frames_for j (sent_by r)))
            ∙ ap (λ xs. xs ++ frames_for j (sent_by r))
            (ap (λ (f : ℕ → ℕ → List (List ℕ)). frames_for (c + 1) (servers j) ++ f c j) like.up
            ∙ at.up c j low one most)
            ∙ sym (frames-append j (sent_of S books c (clients c)) (sent_by r))
            ∙ ap (frames_for j) (sym sent-more)

    pub member-steps : IsAt S books now servers then
    member-steps =
        record {
          members = members-are;
          going = going-on;
          told = told-are;
          seats = λ j one most.
              ap (λ (f : ℕ → List Seat). f j) (w.seats ∙ like.seats) ∙ at.seats j one most;
          up = up-are;
          down = λ j d one most within.
              ap (λ (f : ℕ → ℕ → List (List ℕ)). frames_for j (now d) ++ f j d) w.down
              ∙ like.down j d one most within;
        }
