-- A client's step keeps what a meeting has where its course is known.
use Rattle.tk_meeting.proofs.Terms.{◌≡◌, ℕ, ◌≤◌, ◌<◌, List, [], ◌+◌, ◌==◌, cond, ◌++◌, Bool, true, false, filter, None}
use Rattle.tk_meeting.proofs.Terms.{Result, Ok, ◌∙◌, refl, ap, sym, arith, subst, drop, eqb-true, eqb-false}
use Rattle.tk_meeting.proofs.Terms.{filter-append, WordBook, Script, PacketView, ActedMember, Fault, tells_read, news_before}
use Rattle.tk_meeting.proofs.Terms.{Saying, for_peer, frames_for, Meeting, member_went}
use Rattle.tk_meeting.proofs.Canonical.{AreFronts, stream}
use Rattle.tk_meeting.proofs.Pace.{Pace, Kind, settled, acted}
use Rattle.tk_meeting.proofs.Standing.{IsAt, frames_of, Goes}
use Rattle.tk_meeting.proofs.Course.{Course, newest_by, came_of, goes_on}
use Rattle.tk_meeting.proofs.courses.Picks.{at-place}
use Rattle.tk_meeting.proofs.courses.Acting.{IsActed, acted-is}
use Rattle.tk_meeting.proofs.courses.Balanced.{IsLinked}
use Rattle.tk_meeting.proofs.courses.Frames.{frames-append}
use Rattle.tk_meeting.proofs.courses.Keeps.{LinkKeeps, ClientKeeps, Keeps}

-- client c is about to take a step at the pace p, which tells its host this of its reads
pub record IsPoised (S : Script) (b : WordBook) (q : Course) (m : Meeting) (c : ℕ) (p : Pace)
    (saids : List Saying) (news : List PacketView) : Type 0 where
  pub going : m.ended c ≡ None
  pub told_is : filter tells_read (m.told c) ++ news ≡ news_before S b c (settled p)
  pub links : (j : ℕ) → 1 ≤ j → j ≤ S.shape.servers →
      LinkKeeps S b c j p (q.writes j) (q.reads j c) (q.up c j) (m.up c j) (m.down j c)
  pub linked : (j : ℕ) → 1 ≤ j → j ≤ S.shape.servers →
      IsLinked S.shape c p j (q.writes j) (q.reads j c) (q.up c j)
  pub others : (d : ℕ) → d < S.shape.clients → (d == c) ≡ false →
      ClientKeeps S b d (q.paces d) q.writes q.reads (q.up d) (m.members d) (m.said d) (m.told d)
      (m.ended d) (m.up d) (λ j. m.down j d)
  pub servers : (j : ℕ) → 1 ≤ j → j ≤ S.shape.servers →
      AreFronts S b j (q.writes j) (q.reads j) (m.seats j)
  pub said_is : m.said c p.written ≡ saids
  pub none_behind : (k : ℕ) → p.written < k → m.said c k ≡ []

below_other : (g n : ℕ) → (g == n) ≡ false → g ≤ n → g < n
below_other g n other low = omega (arith, eqb-false g n other, low)

module _ (S : Script) (b : WordBook) where
  -- the link to a server after the client acted
  acted_link : (c j : ℕ) (p q : Pace) (writes : ℕ → ℕ) (reads : ℕ) (kinds more : List Kind)
      (up down new : List (List ℕ)) → IsActed p more q → IsLinked S.shape c p j writes reads kinds →
      new ≡ frames_of S b c j p.written p.asked more →
      LinkKeeps S b c j p writes reads kinds up down →
      LinkKeeps S b c j q writes reads (kinds ++ more) (up ++ new) down
  acted_link c j p q writes reads kinds more up down new a l new_is k =
      let came : came_of q j ≡ came_of p j =
      λ i. a.settled_is i + cond (a.replied i j) 1 0 + a.epochs i j
      in
      record {
        up_is = (λ i. k.up_is i ++ new_is i)
            ∙ sym (frames-append S b c j (writes c) reads p.written p.asked kinds more l.wrote l.asked);
        down_is = k.down_is
            ∙ ap (λ n. drop n (stream S b c j (newest_by S.shape writes) reads)) (sym came);
      }

  said_after : (c g n : ℕ) (said : ℕ → List Saying) (saids : List Saying) (b : Bool) → (g == n) ≡ b →
      said g ≡ saids → g ≤ n → ((k : ℕ) → g < k → said k ≡ []) → cond b saids [] ≡ said n
  said_after c g n said saids true is here low behind = sym here ∙ ap said (eqb-true g n is)
  said_after c g n said saids false is here low behind = sym (behind n (below_other g n is low))

  -- the client itself
  client_went : (q : Course) (m : Meeting) (c : ℕ) (p : Pace) (saids : List Saying)
      (news : List PacketView) (result : Result ActedMember Fault) → IsPoised S b q m c p saids news →
      (g : Goes S b c p saids news result) → let next = acted S.shape p in
      ClientKeeps S b c next.pace q.writes q.reads (λ j. q.up c j ++ next.kinds) g.turned.member
      (m.said c) (m.told c ++ for_peer 0 g.turned.packets) (m.ended c)
      (λ j. m.up c j ++ frames_for j g.turned.packets) (λ j. m.down j c)
  client_went q m c p saids news result h g =
      let next = acted S.shape p in
      let a = acted-is S.shape p in
      record {
        at = subst (λ ys. IsAt S b c next.pace ys g.turned.member)
            (said_after c p.written next.pace.written (m.said c) saids (p.written == next.pace.written)
            refl h.said_is (omega (arith, a.written)) h.none_behind) g.at;
        told_is = filter-append tells_read (m.told c) (for_peer 0 g.turned.packets)
            ∙ (λ i. filter tells_read (m.told c) ++ g.host i)
            ∙ h.told_is ∙ ap (news_before S b c) (sym a.settled_is);
        going = h.going;
        links = λ j low high.
            acted_link c j p next.pace (q.writes j) (q.reads j c) (q.up c j) next.kinds (m.up c j)
            (m.down j c) (frames_for j g.turned.packets) a (h.linked j low high) (g.frames j low high)
            (h.links j low high);
      }

  -- the whole meeting
  pub went-keeps : (q : Course) (m : Meeting) (c : ℕ) (p : Pace) (saids : List Saying)
      (news : List PacketView) (result : Result ActedMember Fault) → IsPoised S b q m c p saids news →
      Goes S b c p saids news result → Keeps S b (goes_on S.shape q c p) (member_went m c result)
  went-keeps q m c p saids news result h g =
      let next = acted S.shape p in
      let t = g.turned in
      let kept : Keeps S b (goes_on S.shape q c p) (member_went m c (Ok t)) =
      record {
        clients = λ d low.
            at-place (λ x k.
            ClientKeeps S b x (cond k next.pace (q.paces x)) q.writes q.reads
            (cond k (λ j. q.up c j ++ next.kinds) (q.up x)) (cond k t.member (m.members x)) (m.said x)
            (cond k (m.told c ++ for_peer 0 t.packets) (m.told x)) (m.ended x)
            (cond k (λ j. m.up c j ++ frames_for j t.packets) (m.up x)) (λ j. m.down j x)) c d
            (client_went q m c p saids news result h g) (λ other. h.others d low other);
        servers = h.servers;
      }
      in
      subst (λ r. Keeps S b (goes_on S.shape q c p) (member_went m c r)) (sym g.is) kept
