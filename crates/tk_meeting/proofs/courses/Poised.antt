-- A client that is about to take a step, and the meeting after it.
use Rattle.tk_meeting.proofs.Terms.{◌≡◌, ℕ, ◌≤◌, ◌<◌, List, [], ◌+◌, ◌==◌, cond, ◌++◌, ◌-◌, true, false, filter, Result}
use Rattle.tk_meeting.proofs.Terms.{Ok, ◌∙◌, ap, sym, arith, subst, drop, AllByRecursion, WordBook, words_of, Script}
use Rattle.tk_meeting.proofs.Terms.{reader_before, PacketView, ActedMember, acts, behind, MemberState, news, tells_and_acts}
use Rattle.tk_meeting.proofs.Terms.{served, Fault, tells_read, news_before, Saying, Meeting, member_went, opening}
use Rattle.tk_meeting.proofs.Canonical.{stream, serial, reply_in, epoch_in}
use Rattle.tk_meeting.proofs.Pace.{Pace, settled, acted, IsPace, first_pace, reply_came, epoch_came, all_replied}
use Rattle.tk_meeting.proofs.Pace.{with_reply_of}
use Rattle.tk_meeting.proofs.Standing.{IsAt, Goes, Readies, IsForetold}
use Rattle.tk_meeting.proofs.Course.{Course, newest_by, came_of, goes_on}
use Rattle.tk_meeting.proofs.telling.Foreseeing.{ForeseesOf, Foresees}
use Rattle.tk_meeting.proofs.courses.Picks.{itself}
use Rattle.tk_meeting.proofs.courses.Balanced.{IsReady, ArePaces}
use Rattle.tk_meeting.proofs.courses.Foretelling.{writes-so}
use Rattle.tk_meeting.proofs.courses.Keeps.{ClientKeeps, Keeps}
use Rattle.tk_meeting.proofs.courses.Members.{IsPoised, went-keeps}

-- what a read tells the host once all have replied to it
abbrev pub news_then : Script → WordBook → ℕ → ℕ → Pace → List PacketView
news_then S b c j p =
    let w = words_of S.shape b in
    cond (all_replied S.shape (with_reply_of j p))
    (news S.shape (reader_before S w (serial S) c (p.asked - 1)) (reader_before S w (serial S) c p.asked)) []

-- what holds of members (`Gathered` has that it does)
pub record AreMembers (S : Script) (b : WordBook) : Type 0 where
  pub first : (c : ℕ) → c < S.shape.clients → IsAt S b c first_pace [] ((opening S).members c)
  pub acts_go : (c : ℕ) (p : Pace) (saids : List Saying) (m : MemberState) (told : List PacketView) →
      c < S.shape.clients → IsPace S.shape p → IsAt S b c p saids m →
      IsForetold S c p.written (acted S.shape p).pace.written saids →
      AllByRecursion (λ (x : PacketView). x.peer ≡ 0) told →
      Goes S b c p saids (filter tells_read told) (tells_and_acts b told m)
  pub reply : (c j : ℕ) (p : Pace) (saids : List Saying) (m : MemberState) → c < S.shape.clients → 1 ≤ j →
      j ≤ S.shape.servers → IsPace S.shape p → IsAt S b c p saids m → p.is_open ≡ true →
      p.replied j ≡ false →
      Readies S b c (reply_came S.shape j p) saids (news_then S b c j p)
      (served b m j (reply_in S b c j (p.asked - 1)))
  pub epoch : (c j : ℕ) (p : Pace) (saids : List Saying) (m : MemberState) → c < S.shape.clients → 1 ≤ j →
      j ≤ S.shape.servers → IsPace S.shape p → IsAt S b c p saids m → p.epochs j < S.shape.phases →
      Readies S b c (epoch_came j p) saids [] (served b m j (epoch_in S b (p.epochs j + 1)))

module _ (S : Script) (b : WordBook) (paces : ArePaces S.shape) (laws : AreMembers S b) where
  -- what the client is to write in the step is foretold
  foretold : (q : Course) (m : Meeting) (c : ℕ) (p : Pace) (saids : List Saying) (news : List PacketView) →
      c < S.shape.clients → IsPace S.shape p → IsPoised S b q m c p saids news →
      ForeseesOf S c (acted S.shape p).pace.written (m.said c) →
      IsForetold S c p.written (acted S.shape p).pace.written saids
  foretold q m c p saids news low pace h f =
      let within = (paces.acts p pace).written_in in
      record {
        here = λ more. sym h.said_is ∙ f.before p.written more (omega (arith, more, within));
        behind = λ k past more. sym (f.before k more (omega (arith, more, within))) ∙ h.none_behind k past;
      }

  pub step-keeps : (q : Course) (m : Meeting) (c : ℕ) (p : Pace) (saids : List Saying)
      (news : List PacketView) (result : Result ActedMember Fault) → c < S.shape.clients → IsPace S.shape p →
      IsPoised S b q m c p saids news → Readies S b c p saids news result →
      Foresees S (member_went m c result) → Keeps S b (goes_on S.shape q c p) (member_went m c result)
  step-keeps q m c p saids news result low pace h r f =
      let turned : ActedMember = behind r.told (acts b r.member) in
      let there : Foresees S (member_went m c (Ok turned)) =
      subst (λ x. Foresees S (member_went m c x)) r.is f
      in
      let client : cond (c == c) turned.member (m.members c) ≡ turned.member =
      λ i. cond (itself c i) turned.member (m.members c)
      in
      let far : (cond (c == c) turned.member (m.members c)).written ≡ (acted S.shape p).pace.written =
      ap (λ (x : MemberState). x.written) client ∙ writes-so S b c p saids r.member r.at
      in
      let of : ForeseesOf S c (acted S.shape p).pace.written (m.said c) =
      subst (λ n. ForeseesOf S c n (m.said c)) far (there.each c low)
      in
      let goes : Goes S b c p saids (filter tells_read r.told) (tells_and_acts b r.told r.member) =
      laws.acts_go c p saids r.member r.told low pace r.at (foretold q m c p saids news low pace h of)
      r.to_host
      in
      went-keeps S b q m c p saids news result h
      (subst (Goes S b c p saids news) (sym r.is)
      (subst (λ xs. Goes S b c p saids xs (tells_and_acts b r.told r.member)) r.host goes))

-- a client is poised where what is said and what comes down changes for it alone
pub poised : (S : Script) (b : WordBook) (q : Course) (m : Meeting) (said : ℕ → ℕ → List Saying)
    (down : ℕ → ℕ → List (List ℕ)) (c : ℕ) (p : Pace) (saids : List Saying) (news : List PacketView) →
    Keeps S b q m → c < S.shape.clients → IsReady S.shape c p q.writes q.reads (q.up c) →
    filter tells_read (m.told c) ++ news ≡ news_before S b c (settled p) →
    ((j : ℕ) → 1 ≤ j → j ≤ S.shape.servers → down j c
    ≡ drop (came_of p j) (stream S b c j (newest_by S.shape (q.writes j)) (q.reads j c))) →
    ((d : ℕ) → (d == c) ≡ false → said d ≡ m.said d) →
    ((d j : ℕ) → (d == c) ≡ false → down j d ≡ m.down j d) → said c p.written ≡ saids →
    ((k : ℕ) → p.written < k → said c k ≡ []) →
    IsPoised S b q (record m { said = said; down = down }) c p saids news
poised S b q m said down c p saids news keeps low ready told_is downs said_same down_same here behind =
    record {
      going = (keeps.clients c low).going;
      told_is = told_is;
      links = λ j one most. record {
        up_is = ((keeps.clients c low).links j one most).up_is;
        down_is = downs j one most;
      };
      linked = ready.links;
      others = λ d within other.
          subst (λ (f : ℕ → List Saying).
          ClientKeeps S b d (q.paces d) q.writes q.reads (q.up d) (m.members d) f (m.told d) (m.ended d)
          (m.up d) (λ j. down j d)) (sym (said_same d other))
          (subst (λ (f : ℕ → List (List ℕ)).
          ClientKeeps S b d (q.paces d) q.writes q.reads (q.up d) (m.members d) (m.said d) (m.told d)
          (m.ended d) (m.up d) f) (λ i j. sym (down_same d j other) i) (keeps.clients d within));
      servers = keeps.servers;
      said_is = here;
      none_behind = behind;
    }
