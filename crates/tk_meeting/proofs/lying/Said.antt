-- What was said to members whose servers lie doesn't depend on their words, and there is a script that has it.
use Rattle.tk_meeting.proofs.Terms.{◌≡◌, ℕ, List, [], ◌∷◌, ◌==◌, cond, ◌++◌, Bool, true, false, Option, Some, None}
use Rattle.tk_meeting.proofs.Terms.{Result, Ok, ◌∙◌, refl, ap, sym, subst, Err, true≢false, list_any, ◌||◌, Shape}
use Rattle.tk_meeting.proofs.Terms.{WordBook, drawn, Script, fault_of, text_fault, is_written, SayError, NotWriter}
use Rattle.tk_meeting.proofs.Terms.{Written, ActedMember, MemberState, served, Fault, Peer, Say, Tick, Ahead, Has, is_client}
use Rattle.tk_meeting.proofs.Terms.{is_server, unless_ended, say_fault, Deed, Ticks, Claims, Sends, Answers, Hidden}
use Rattle.tk_meeting.proofs.Terms.{does, after_deeds, lied, Says, GoesAhead, doer, member_does, said_more, said_after}
use Rattle.tk_meeting.proofs.Terms.{went_on, HoldsBlocks, answer_to, Saying, changed, Meeting, opening, LiedHaveScripts}
use Rattle.tk_meeting.proofs.Terms.{stand, Stand, outcome}
use Rattle.tk_meeting.proofs.courses.Picks.{pick}
use Rattle.tk_meeting.proofs.telling.Rising.{cond-has}
use Rattle.tk_meeting.proofs.scripts.Lasting.{base_of, logs_of, LastsIn, heard-lasts, served-lasts}
use Rattle.tk_meeting.proofs.scripts.Sayable.{IsSayable, opening-sayable, noted-sayable, went-sayable, free-said}
use Rattle.tk_meeting.proofs.scripts.Scripts.{script_of, tells}
use Rattle.tk_meeting.proofs.shown.Steps.{acting, acted-outcome}
use Rattle.tk_meeting.proofs.lying.Growth.{noted-is}
use Rattle.tk_meeting.proofs.lying.Outcomes.{deed-readies, ready-same}
use Rattle.tk_meeting.proofs.telling.Ways.{client-has}

-- ---- what was said may be said

said-sayable : (S : Script) (m : Meeting) (d : Deed) → IsSayable S m →
    IsSayable S (record m { said = said_after m d })
said-sayable S m (Says c log text) is =
    let y : Saying = record { log = log; text = text } in
    let o = say_fault m c log text in
    subst (IsSayable S) (noted-is c y o m) (noted-sayable S m c y o is (free-said S m c log text is))
said-sayable S m (Ticks c) is = is
said-sayable S m (GoesAhead c turns) is = is
said-sayable S m (Claims c count) is = is
said-sayable S m (Sends c j frame) is = is
said-sayable S m (Answers c table) is = is

does-lasts : (h : Hidden) (b : WordBook) (m : MemberState) (d : Deed) → LastsIn (base_of m) (member_does h b m d)
does-lasts h b m (Says c log text) = heard-lasts b m (Some (Say log text))
does-lasts h b m (Ticks c) = heard-lasts b m (Some Tick)
does-lasts h b m (GoesAhead c turns) = heard-lasts b m (Some (Ahead turns))
does-lasts h b m (Claims c count) = heard-lasts b m (Some (Has count))
does-lasts h b m (Sends c j frame) =
    cond-has (LastsIn (base_of m)) (is_server m.client.shape j) (served b m j frame) (Err Peer)
    (served-lasts b m j frame) tt
does-lasts h b m (Answers c table) =
    served-lasts b m h.server (answer_to h b table m.client.shape m.client.number m.client.read)

went-may : (S : Script) (m : Meeting) (d : Deed) (r : Result ActedMember Fault) → IsSayable S m →
    LastsIn (base_of (m.members (doer d))) r → IsSayable S (went_on m d r)
went-may S m d (Ok t) is lasts =
    went-sayable S (record m { said = said_after m d }) (doer d) (Ok t) (said-sayable S m d is) lasts
went-may S m d (Err fault) is lasts = went-sayable S m (doer d) (Err fault) is tt

deed-sayable : (S : Script) (h : Hidden) (b : WordBook) (m : Meeting) (d : Deed) → IsSayable S m →
    IsSayable S (does S.shape h b m d)
unfolding does
deed-sayable S h b m d is =
    let r = member_does h b (m.members (doer d)) d in
    client-has (IsSayable S) S.shape m (doer d) (went_on m d r) is
    (went-may S m d r is (does-lasts h b (m.members (doer d)) d))

-- ---- the same is said, whatever the words are

-- whether a log is written follows from the logs alone
written-of : (log : ℕ) (fs : List Written) → is_written log fs ≡ list_any (λ (l : ℕ). l == log) (logs_of fs)
written-of log [] = refl
written-of log (f ∷ fs) = ap (λ (t : Bool). (f.log == log) || t) (written-of log fs)

fault_by : ℕ → List ℕ → Shape × List ℕ → Option SayError
fault_by log text base = cond (list_any (λ (l : ℕ). l == log) base.1) (text_fault base.0 text) (Some (NotWriter log))

fault-by : (m : MemberState) (log : ℕ) (text : List ℕ) →
    fault_of m.client.shape m.client.writing.logs log text ≡ fault_by log text (base_of m)
unfolding fault_by
fault-by m log text =
    ap (λ (t : Bool). cond t (text_fault m.client.shape text) (Some (NotWriter log)))
    (written-of log m.client.writing.logs)

-- two groups of one script that have other words
record SaidAlike (S : Script) (m n : Meeting) : Type 0 where
  stands : (c : ℕ) → stand (m.members c) ≡ stand (n.members c)
  ended : (c : ℕ) → m.ended c ≡ n.ended c
  said : m.said ≡ n.said
  may : IsSayable S m
  other_may : IsSayable S n

module _ (S : Script) (h : Hidden) (holds : HoldsBlocks S.shape h) (a b : WordBook) where
  more-same : (m n : Meeting) → SaidAlike S m n → (c : ℕ) (y : Saying) (o p : Option SayError) → o ≡ p →
      said_more m c y o ≡ said_more n c y p
  more-same m n alike c y o p same =
      subst (λ (q : Option SayError). said_more m c y o ≡ said_more n c y q) same (at o)
    where
      at : (o : Option SayError) → said_more m c y o ≡ said_more n c y o
      at (Some error) = alike.said
      at None =
          λ i.
          changed c
          (changed (alike.stands c i).written (alike.said i c (alike.stands c i).written ++ y ∷ []) (alike.said i c))
          (alike.said i)

  said-same : (m n : Meeting) → SaidAlike S m n → (d : Deed) → said_after m d ≡ said_after n d
  said-same m n alike (Says c log text) =
      more-same m n alike c (record { log = log; text = text }) (say_fault m c log text) (say_fault n c log text)
      (fault-by (m.members c) log text
      ∙ ap (fault_by log text) (alike.may.bases c ∙ sym (alike.other_may.bases c))
      ∙ sym (fault-by (n.members c) log text))
  said-same m n alike (Ticks c) = alike.said
  said-same m n alike (GoesAhead c turns) = alike.said
  said-same m n alike (Claims c count) = alike.said
  said-same m n alike (Sends c j frame) = alike.said
  said-same m n alike (Answers c table) = alike.said

  went-same : (m n : Meeting) → SaidAlike S m n → (d : Deed) (r s : Result ActedMember Fault) → outcome r ≡ outcome s →
      IsSayable S (went_on m d r) → IsSayable S (went_on n d s) → SaidAlike S (went_on m d r) (went_on n d s)
  went-same m n alike d (Ok t) (Ok u) same may other_may =
      record {
        stands = λ x.
            pick (λ k. stand (cond k t.member (m.members x)) ≡ stand (cond k u.member (n.members x))) (x == doer d)
            (λ e. ap (stand-of (stand t.member)) same) (λ e. alike.stands x);
        ended = alike.ended;
        said = said-same m n alike d;
        may = may;
        other_may = other_may;
      }
    where
      stand-of : Stand → Result Stand Fault → Stand
      stand-of other (Ok s) = s
      stand-of other (Err fault) = other
  went-same m n alike d (Err e) (Err f) same may other_may =
      record {
        stands = alike.stands;
        ended = λ x i. cond (x == doer d) (Some (fault-of e (same i))) (alike.ended x i);
        said = alike.said;
        may = may;
        other_may = other_may;
      }
    where
      fault-of : Fault → Result Stand Fault → Fault
      fault-of other (Ok s) = other
      fault-of other (Err fault) = fault
  went-same m n alike d (Ok t) (Err f) same may other_may = absurd (true≢false (ap goes same))
    where
      goes : Result Stand Fault → Bool
      goes (Ok s) = true
      goes (Err fault) = false
  went-same m n alike d (Err e) (Ok u) same may other_may = absurd (true≢false (sym (ap goes same)))
    where
      goes : Result Stand Fault → Bool
      goes (Ok s) = true
      goes (Err fault) = false

  deed-same : (m n : Meeting) → SaidAlike S m n → (d : Deed) →
      SaidAlike S (does S.shape h a m d) (does S.shape h b n d)
  unfolding does
  deed-same m n alike d =
      either (is_client S.shape (doer d)) (m.ended (doer d)) (n.ended (doer d)) (alike.ended (doer d))
    where
      shape : S.shape ≡ (n.members (doer d)).client.shape
      shape = sym (ap (λ (p : Shape × List ℕ). p.0) (alike.other_may.bases (doer d)))

      outcomes : outcome (member_does h a (m.members (doer d)) d) ≡ outcome (member_does h b (n.members (doer d)) d)
      outcomes =
          acted-outcome a _ (m.members (doer d)) _ _ (deed-readies h a (m.members (doer d)) d)
          ∙ ap acting
          (ready-same h a b (m.members (doer d)) (n.members (doer d)) d d (alike.stands (doer d))
          (subst (λ (k : Shape). HoldsBlocks k h) shape holds) refl)
          ∙ sym (acted-outcome b _ (n.members (doer d)) _ _ (deed-readies h b (n.members (doer d)) d))

      went : SaidAlike S (went_on m d (member_does h a (m.members (doer d)) d))
          (went_on n d (member_does h b (n.members (doer d)) d))
      went =
          went-same m n alike d (member_does h a (m.members (doer d)) d) (member_does h b (n.members (doer d)) d) outcomes
          (went-may S m d (member_does h a (m.members (doer d)) d) alike.may
          (does-lasts h a (m.members (doer d)) d))
          (went-may S n d (member_does h b (n.members (doer d)) d) alike.other_may
          (does-lasts h b (n.members (doer d)) d))

      unless : (o : Option Fault) →
          SaidAlike S (unless_ended o m (went_on m d (member_does h a (m.members (doer d)) d)))
          (unless_ended o n (went_on n d (member_does h b (n.members (doer d)) d)))
      unless None = went
      unless (Some fault) = alike

      either : (t : Bool) (o p : Option Fault) → o ≡ p →
          SaidAlike S (cond t (unless_ended o m (went_on m d (member_does h a (m.members (doer d)) d))) m)
          (cond t (unless_ended p n (went_on n d (member_does h b (n.members (doer d)) d))) n)
      either true o p same =
          subst (λ (q : Option Fault).
          SaidAlike S (unless_ended o m (went_on m d (member_does h a (m.members (doer d)) d)))
          (unless_ended q n (went_on n d (member_does h b (n.members (doer d)) d)))) same (unless o)
      either false o p same = alike

  deeds-same : (ds : List Deed) (m n : Meeting) → SaidAlike S m n →
      SaidAlike S (after_deeds S.shape h a m ds) (after_deeds S.shape h b n ds)
  unfolding after_deeds
  deeds-same [] m n alike = alike
  deeds-same (d ∷ ds) m n alike =
      deeds-same ds (does S.shape h a m d) (does S.shape h b n d) (deed-same m n alike d)

  pub lied-same : (ds : List Deed) → (lied S h a ds).said ≡ (lied S h b ds).said
  lied-same ds =
      (deeds-same ds (opening S) (opening S)
      (record {
        stands = λ c. refl;
        ended = λ c. refl;
        said = refl;
        may = opening-sayable S;
        other_may = opening-sayable S;
      })).said

deeds-sayable : (S : Script) (h : Hidden) (b : WordBook) (m : Meeting) (ds : List Deed) → IsSayable S m →
    IsSayable S (after_deeds S.shape h b m ds)
unfolding after_deeds
deeds-sayable S h b m [] is = is
deeds-sayable S h b m (d ∷ ds) is = deeds-sayable S h b (does S.shape h b m d) ds (deed-sayable S h b m d is)

pub lied-have-scripts : LiedHaveScripts
lied-have-scripts S h deeds holds =
    let m : Meeting = lied S h (drawn []) deeds in
    let is : IsSayable S m = deeds-sayable S h (drawn []) (opening S) deeds (opening-sayable S) in
    record {
      script = script_of S m is;
      same_shape = refl;
      same_keys = refl;
      same_roles = refl;
      tells = λ b c g client turn.
          ap (λ (said : ℕ → ℕ → List Saying). said c g) (lied-same S h holds b (drawn []) deeds)
          ∙ tells S m is c g client turn;
    }
