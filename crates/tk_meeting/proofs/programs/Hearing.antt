-- What each event of a member does is what its packet does.
use Rattle.tk_meeting.proofs.Terms.{◌≡◌, ℕ, ◌≤◌, ◌<◌, List, [], ◌∷◌, ◌+◌, cond, ◌++◌, Bool, Option, Some, None, ◌∙◌}
use Rattle.tk_meeting.proofs.Terms.{refl, ap, sym, arith, subst, le-leb, eq-eqb, ap₂, ne_eqb, Err, nat_le, Shape}
use Rattle.tk_meeting.proofs.Terms.{WordBook, Script, SayError, PacketView, MemberState, served, step, heard, word_in}
use Rattle.tk_meeting.proofs.Terms.{Fault, Peer, HostWord, Say, Tick, Ahead, Has, Said, Ticked, WentAhead, Greeted}
use Rattle.tk_meeting.proofs.Terms.{Down, comes_down, happens, client_does, unless_ended, hears, noted, say_fault}
use Rattle.tk_meeting.proofs.Terms.{greeting_of, taken_of, Saying, changed, frames_for, Meeting, member_went}
use Rattle.tk_meeting.proofs.Terms.{first_member}
use Rattle.tk_meeting.proofs.courses.Picks.{at-place}
use Rattle.tk_meeting.proofs.programs.Shapes.{shape-after}
use Rattle.tk_meeting.proofs.programs.Doings.{one_more}
use Rattle.tk_meeting.proofs.programs.Standing.{IsAt, served_of}
use Rattle.tk_meeting.proofs.programs.Serving.{link-same, there-other, is-client, is-server}
use Rattle.tk_meeting.proofs.programs.Taking.{IsLike, member-steps}

step-hears : (b : WordBook) (m : MemberState) (p : PacketView) (word : HostWord) → p.peer ≡ 0 →
    word_in p.bytes ≡ Some word → heard b m (Some word) ≡ step b m p
unfolding step
step-hears b m p word host spelled =
    ap (heard b m) (sym spelled)
    ∙ sym
    (ap (λ (k : Bool).
    cond k (heard b m (word_in p.bytes))
    (cond (nat_le p.peer m.client.shape.servers) (served b m p.peer p.bytes) (Err Peer)))
    (eq-eqb p.peer 0 host))

step-serves : (b : WordBook) (m : MemberState) (p : PacketView) → 1 ≤ p.peer →
    p.peer ≤ m.client.shape.servers → served b m p.peer p.bytes ≡ step b m p
unfolding step
step-serves b m p one most =
    sym
    (ap₂ (λ (k l : Bool).
    cond k (heard b m (word_in p.bytes)) (cond l (served b m p.peer p.bytes) (Err Peer)))
    (ne_eqb p.peer 0 (λ is. omega (arith, one, is))) (le-leb p.peer m.client.shape.servers most))

module _ (S : Script) (books : ℕ → WordBook) (clients servers : ℕ → List PacketView) (m : Meeting)
    (at : IsAt S books clients servers m) (c : ℕ) (low : c < S.shape.clients) (p : PacketView)
    (going : m.ended c ≡ None) where
  abbrev now : ℕ → List PacketView
  now = one_more c p clients

  does : (after : Meeting) → client_does S.shape m c after ≡ after
  does after =
      ap₂ (λ (b : Bool) (o : Option Fault). cond b (unless_ended o m after) m) (is-client S c low) going

  -- ---- a word of its host

  module _ (host : p.peer ≡ 0) where
    down-same : (j d : ℕ) → 1 ≤ j → j ≤ S.shape.servers → d < S.shape.clients →
        frames_for j (now d) ++ m.down j d ≡ frames_for (d + 1) (served_of S (servers j))
    down-same j d one most within =
        let other : p.peer ≡ j → ⊥ = λ is. absurd (omega (arith, host, is, one)) in
        at-place (λ k b.
        frames_for j (cond b (clients c ++ p ∷ []) (clients k)) ++ m.down j k ≡ frames_for j (clients k) ++ m.down j k)
        c d (ap (λ fs. fs ++ m.down j c) (there-other j (clients c) p other)) (λ _. refl)
        ∙ at.down j d one most within

    like-noted : (y : Saying) (o : Option SayError) →
        IsLike S books clients servers m at c low p going (noted c y o m)
    like-noted y (Some error) =
        record { members = refl; told = refl; ended = refl; seats = refl; up = refl; down = down-same }
    like-noted y None =
        record { members = refl; told = refl; ended = refl; seats = refl; up = refl; down = down-same }

    heard-steps : (left : Meeting) → IsLike S books clients servers m at c low p going left → (word : HostWord) →
        word_in p.bytes ≡ Some word → IsAt S books now servers (hears books left c word)
    heard-steps left like word spelled =
        member-steps S books clients servers m at c low p going left like
        (heard (books c) (left.members c) (Some word)) (step-hears (books c) (left.members c) p word host spelled)

    like-itself : IsLike S books clients servers m at c low p going m
    like-itself =
        record { members = refl; told = refl; ended = refl; seats = refl; up = refl; down = down-same }

    pub said-steps : (log : ℕ) (text : List ℕ) → word_in p.bytes ≡ Some (Say log text) →
        IsAt S books now servers (happens S.shape books m (Said c log text))
    unfolding happens
    said-steps log text spelled =
        let y : Saying = record { log = log; text = text } in
        let o = say_fault m c log text in
        subst (λ (n : Meeting). IsAt S books now servers n)
        (sym (does (hears books (noted c y o m) c (Say log text))))
        (heard-steps (noted c y o m) (like-noted y o) (Say log text) spelled)

    pub ticked-steps : word_in p.bytes ≡ Some Tick → IsAt S books now servers (happens S.shape books m (Ticked c))
    unfolding happens
    ticked-steps spelled =
        subst (λ (n : Meeting). IsAt S books now servers n) (sym (does (hears books m c Tick)))
        (heard-steps m like-itself Tick spelled)

    pub ahead-steps : (turns : ℕ) → word_in p.bytes ≡ Some (Ahead turns) →
        IsAt S books now servers (happens S.shape books m (WentAhead c turns))
    unfolding happens
    ahead-steps turns spelled =
        subst (λ (n : Meeting). IsAt S books now servers n) (sym (does (hears books m c (Ahead turns))))
        (heard-steps m like-itself (Ahead turns) spelled)

    pub greeted-steps : (j count : ℕ) → 1 ≤ j → j ≤ S.shape.servers → count ≤ taken_of m c j →
        word_in p.bytes ≡ Some (Has count) →
        IsAt S books now servers (happens S.shape books m (Greeted c j count))
    unfolding happens
    greeted-steps j count one most few spelled =
        let told : greeting_of m c j count ≡ count = omega (arith, few) in
        let next : happens S.shape books m (Greeted c j count) ≡ hears books m c (Has count) =
        ap (λ (b : Bool). cond b (client_does S.shape m c (hears books m c (Has (greeting_of m c j count)))) m)
        (is-server S j one most)
        ∙ does (hears books m c (Has (greeting_of m c j count)))
        ∙ ap (λ (n : ℕ). hears books m c (Has n)) told
        in
        subst (λ (n : Meeting). IsAt S books now servers n) (sym next)
        (heard-steps m like-itself (Has count) spelled)

  -- ---- a frame of a server

  module _ (one : 1 ≤ p.peer) (most : p.peer ≤ S.shape.servers) (rest : List (List ℕ))
      (comes : m.down p.peer c ≡ p.bytes ∷ rest) where
    abbrev left : Meeting
    left = record m { down = changed p.peer (changed c rest (m.down p.peer)) m.down }

    down-left : (j d : ℕ) → 1 ≤ j → j ≤ S.shape.servers → d < S.shape.clients →
        frames_for j (now d) ++ left.down j d ≡ frames_for (d + 1) (served_of S (servers j))
    down-left j d first last within =
        link-same (λ k. k) p.peer c p rest clients m.down (λ k is. sym is) refl comes j d
        ∙ at.down j d first last within

    like-left : IsLike S books clients servers m at c low p going left
    like-left = record { members = refl; told = refl; ended = refl; seats = refl; up = refl; down = down-left }

    shape-is : (m.members c).client.shape ≡ S.shape
    shape-is =
        ap (λ (s : MemberState). s.client.shape) (at.members c low)
        ∙ shape-after (books c) (first_member S c) (clients c)

    pub down-steps : IsAt S books now servers (happens S.shape books m (Down p.peer c))
    unfolding happens
    down-steps =
        let r = served (books c) (m.members c) p.peer p.bytes in
        let next : happens S.shape books m (Down p.peer c) ≡ member_went left c r =
        ap (λ (b : Bool). cond b (client_does S.shape m c (comes_down books m p.peer c (m.down p.peer c))) m)
        (is-server S p.peer one most)
        ∙ does (comes_down books m p.peer c (m.down p.peer c)) ∙ ap (comes_down books m p.peer c) comes
        in
        let within : p.peer ≤ (m.members c).client.shape.servers =
        subst (λ (s : Shape). p.peer ≤ s.servers) (sym shape-is) most
        in
        subst (λ (n : Meeting). IsAt S books now servers n) (sym next)
        (member-steps S books clients servers m at c low p going left like-left r
        (step-serves (books c) (m.members c) p one within))
