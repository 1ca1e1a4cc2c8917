-- A member that is begun again puts again what it put, and ends where its journal lacks what a server has of it.
use Rattle.tk_meeting.proofs.Terms.{◌≡◌, ℕ, ◌≤◌, List, [], ◌∷◌, length, ◌+◌, cond, ◌++◌, Bool, true, false, Some, None}
use Rattle.tk_meeting.proofs.Terms.{Result, Ok, ◌∙◌, refl, ap, sym, arith, subst, append-nil, inl, inr, eq-eqb}
use Rattle.tk_meeting.proofs.Terms.{append_assoc, length-append, Err, cases_lt, AllByRecursion, nat_lt, nat_le, fold_l}
use Rattle.tk_meeting.proofs.Terms.{WordBook, Script, PacketView, ActedMember, acts, behind, unmoved, after_packets}
use Rattle.tk_meeting.proofs.Terms.{behind_if, after_packet, MemberState, is_over, tells_and_acts, served, step, heard}
use Rattle.tk_meeting.proofs.Terms.{word_in, Fault, Peer, Older, frames_for, first_member, IsFront, MembersPutAgain}
use Rattle.tk_meeting.proofs.Terms.{Greets, IsGreeting, MembersGoOn}
use Rattle.std.proofs.lemmas.Bool.Decides.{nat_tests}
use Rattle.tk_meeting.proofs.members.Packets.{frames-append}
use Rattle.tk_meeting.proofs.programs.Acting.{none-stands}
use Rattle.tk_meeting.proofs.programs.Meeting.{front-of_frames}
use Rattle.tk_meeting.proofs.restarts.Resting.{IsResting, rests-still, Puts, PutsIf, step-puts}

-- ---- fronts

pub front-of_front : {X : Type 0} (xs ys zs : List X) → IsFront xs ys → IsFront ys zs → IsFront xs zs
front-of_front xs ys zs one two =
    record {
      rest = one.rest ++ two.rest;
      whole = sym (append_assoc xs one.rest two.rest) ∙ ap (λ l. l ++ two.rest) one.whole ∙ two.whole;
    }

-- of two fronts of one list the shorter is a front of the other
pub shorter-front : {X : Type 0} (xs ys zs : List X) → IsFront xs zs → IsFront ys zs → length xs ≤ length ys →
    IsFront xs ys
shorter-front [] ys zs one two few = record { rest = ys; whole = refl }
shorter-front (x ∷ xs) [] zs one two few = absurd (omega (arith, few))
shorter-front (x ∷ xs) (y ∷ ys) zs one two few =
    let is : (x ∷ xs) ++ one.rest ≡ (y ∷ ys) ++ two.rest = one.whole ∙ sym two.whole in
    let same : x ≡ y = cc (is) in
    let more : xs ++ one.rest ≡ ys ++ two.rest = cc (is) in
    let rest = shorter-front xs ys (ys ++ two.rest) (record { rest = one.rest; whole = more })
    (record { rest = two.rest; whole = refl }) (omega (arith, few))
    in
    record { rest = rest.rest; whole = ap (λ l. x ∷ l) rest.whole ∙ ap (λ h. h ∷ ys) same }

-- ---- packets one after the other

module _ (b : WordBook) where
  abbrev Goes : ActedMember → List PacketView → ActedMember → Type 0
  Goes u ps t = fold_l (after_packet b) (Some u) ps ≡ Some t

  -- the first packet makes it stand so, and then it goes on
  record Begins (u : ActedMember) (p : PacketView) (ps : List PacketView) (t : ActedMember) : Type 0 where
    pub next : ActedMember
    pub steps : step b u.member p ≡ Ok next
    pub going : is_over u.member ≡ false
    pub goes : Goes (behind u.packets next) ps t

  begins : (u : ActedMember) (p : PacketView) (ps : List PacketView) (t : ActedMember) → Goes u (p ∷ ps) t → Begins u p ps t
  begins u p ps t goes = by-over (is_over u.member) refl goes
    where
      by-step : (r : Result ActedMember Fault) → step b u.member p ≡ r → is_over u.member ≡ false →
          fold_l (after_packet b) (behind_if u r) ps ≡ Some t → Begins u p ps t
      by-step (Ok v) is going it = record { next = v; steps = is; going = going; goes = it }
      by-step (Err e) is going it = absurd (none-stands b ps t it)

      by-over : (over : Bool) → is_over u.member ≡ over →
          fold_l (after_packet b) (cond over None (behind_if u (step b u.member p))) ps ≡ Some t → Begins u p ps t
      by-over true is it = absurd (none-stands b ps t it)
      by-over false is it = by-step (step b u.member p) refl is it

  -- what it put stays in front
  stays : (u t : ActedMember) (ps : List PacketView) → Goes u ps t → IsFront u.packets t.packets
  stays u t [] goes =
      let same : u ≡ t = cc (goes) in
      record { rest = []; whole = append-nil u.packets ∙ ap (λ (v : ActedMember). v.packets) same }
  stays u t (p ∷ ps) goes =
      let first = begins u p ps t goes in
      let next = behind u.packets first.next in
      front-of_front u.packets next.packets t.packets (record { rest = first.next.packets; whole = refl })
      (stays next t ps first.goes)

  -- where it stands after the first packets
  record Between (u : ActedMember) (ps qs : List PacketView) (t : ActedMember) : Type 0 where
    pub at : ActedMember
    pub first : Goes u ps at
    pub then : Goes at qs t

  between : (u t : ActedMember) (ps qs : List PacketView) → Goes u (ps ++ qs) t → Between u ps qs t
  between u t [] qs goes = record { at = u; first = refl; then = goes }
  between u t (p ∷ ps) qs goes =
      let first = begins u p (ps ++ qs) t goes in
      let rest = between (behind u.packets first.next) t ps qs first.goes in
      let over : fold_l (after_packet b) (cond (is_over u.member) None (behind_if u (step b u.member p))) ps
      ≡ fold_l (after_packet b) (Some (behind u.packets first.next)) ps =
      ap (λ k. fold_l (after_packet b) (cond k None (behind_if u (step b u.member p))) ps) first.going
      ∙ ap (λ r. fold_l (after_packet b) (behind_if u r) ps) first.steps
      in
      record { at = rest.at; first = over ∙ rest.first; then = rest.then }

  -- ---- how many frames it put for a server

  module _ (j : ℕ) (low : 1 ≤ j) where
    record Counted (u : ActedMember) : Type 0 where
      pub rests : IsResting u.member
      pub most : j ≤ u.member.client.shape.servers
      pub counted : u.member.written + u.member.asked ≡ length (frames_for j u.packets)

    counted-then : (u t : ActedMember) (ps : List PacketView) → Counted u → Goes u ps t → Counted t
    counted-then u t [] was goes =
        let same : u ≡ t = cc (goes) in subst Counted same was
    counted-then u t (p ∷ ps) was goes =
        let first = begins u p ps t goes in
        let v = first.next in
        let puts : Puts j low u.member v =
        subst (PutsIf j low b u.member was.most) first.steps (step-puts j low b u.member was.most p)
        in
        let counted = puts.counted in
        let before = was.counted in
        let both = ap length (frames-append j u.packets v.packets)
        ∙ length-append (frames_for j u.packets) (frames_for j v.packets)
        in
        let now : Counted (behind u.packets v) =
        record { rests = puts.rests; most = puts.most; counted = omega (arith, counted, before, both) }
        in
        counted-then (behind u.packets v) t ps now first.goes

  -- ---- greetings

  greeted-by : (m : MemberState) (count : ℕ) (p : PacketView) → Greets count p →
      step b m p ≡ cond (nat_lt (m.written + m.asked) count) (Err Older) (tells_and_acts b [] m)
  unfolding step
  greeted-by m count p greets =
      let serves : Result ActedMember Fault =
      cond (nat_le p.peer m.client.shape.servers) (served b m p.peer p.bytes) (Err Peer)
      in
      ap (λ k. cond k (heard b m (word_in p.bytes)) serves) (eq-eqb p.peer 0 greets.host)
      ∙ ap (heard b m) greets.spelled

  -- one that goes on when it is greeted wrote and asked as often, and changed nothing
  record HasAll (m : MemberState) (count : ℕ) (v : ActedMember) : Type 0 where
    pub enough : count ≤ m.written + m.asked
    pub same : v ≡ unmoved m

  has-all : (m : MemberState) (count : ℕ) (p : PacketView) (v : ActedMember) → IsResting m → Greets count p →
      step b m p ≡ Ok v → HasAll m count v
  has-all m count p v rests greets is = elim (cases_lt (m.written + m.asked) count) [
    | inl more ↦
        let test : nat_lt (m.written + m.asked) count ≡ true = grind (arith, nat_tests, more) in
        let ends : Err Older ≡ Ok v =
        sym (ap (λ k. cond k (Err Older) (tells_and_acts b [] m)) test) ∙ sym (greeted-by m count p greets) ∙ is
        in
        absurd (cc (ends))
    | inr few ↦
        let test : nat_lt (m.written + m.asked) count ≡ false = grind (arith, nat_tests, few) in
        let goes : Ok (behind [] (acts b m)) ≡ Ok v =
        sym (ap (λ k. cond k (Err Older) (tells_and_acts b [] m)) test) ∙ sym (greeted-by m count p greets) ∙ is
        in
        let acted : behind [] (acts b m) ≡ v = cc (goes) in
        record { enough = few; same = sym acted ∙ ap (behind []) (rests-still b m rests) }
  ]

  greeted-all : (u t : ActedMember) (greetings : List PacketView) (greeting : PacketView) (later : List PacketView)
      (count : ℕ) → IsResting u.member → AllByRecursion IsGreeting greetings → Greets count greeting →
      Goes u (greetings ++ greeting ∷ later) t → count ≤ u.member.written + u.member.asked
  greeted-all u t [] greeting later count rests all greets goes =
      let first = begins u greeting later t goes in
      (has-all u.member count greeting first.next rests greets first.steps).enough
  greeted-all u t (g ∷ gs) greeting later count rests all greets goes =
      let first = begins u g (gs ++ greeting ∷ later) t goes in
      let one = has-all u.member all.0.count g first.next rests all.0.greets first.steps in
      let next = behind u.packets first.next in
      let same : next.member ≡ u.member = ap (λ (v : ActedMember). v.member) one.same in
      subst (λ (m : MemberState). count ≤ m.written + m.asked) same
      (greeted-all next t gs greeting later count (subst IsResting (sym same) rests) all.1 greets first.goes)

-- ---- a member from its first packet on

first-rests : (S : Script) (c : ℕ) → IsResting (first_member S c)
first-rests S c = record { none_ahead = omega arith; none_ticks = omega arith; no_read = refl }

pub put-again : MembersPutAgain
unfolding after_packets
put-again S b c journal later again stands =
    let there = between b (unmoved (first_member S c)) again journal later stands in
    record { was = there.at; stood = there.first; front = stays b there.at again later there.then }

pub go-on : MembersGoOn
unfolding after_packets
go-on S b c j had again low most begun =
    let none = unmoved (first_member S c) in
    let was = between b none begun.was begun.journal begun.kept.rest
    (ap (λ ps. fold_l (after_packet b) (Some none) ps) begun.kept.whole ∙ begun.stood)
    in
    let now = between b none again begun.journal (begun.greetings ++ begun.greeting ∷ begun.later) begun.stands in
    let is : Some was.at ≡ Some now.at = sym was.first ∙ now.first in
    let same : was.at ≡ now.at = cc (is) in
    let starts : Counted b j low none = record { rests = first-rests S c; most = most; counted = refl } in
    let counted = counted-then b j low none now.at begun.journal starts now.first in
    let many = greeted-all b now.at again begun.greetings begun.greeting begun.later (length had) counted.rests
    begun.greet begun.greets now.then
    in
    let count = counted.counted in
    let put = front-of_frames j now.at.packets begun.was.packets
    (subst (λ (v : ActedMember). IsFront v.packets begun.was.packets) same
    (stays b was.at begun.was begun.kept.rest was.then))
    in
    front-of_front had (frames_for j now.at.packets) (frames_for j again.packets)
    (shorter-front had (frames_for j now.at.packets) (frames_for j begun.was.packets) begun.has put
    (omega (arith, many, count)))
    (front-of_frames j now.at.packets again.packets
    (stays b now.at again (begun.greetings ++ begun.greeting ∷ begun.later) now.then))
