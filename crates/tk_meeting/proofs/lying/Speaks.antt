-- A member has to write what the script has, by what was said to it, whatever servers send it.
use Rattle.tk_meeting.proofs.Terms.{◌≡◌, ℕ, ◌≤◌, ◌<◌, List, [], ◌∷◌, ◌+◌, ◌==◌, cond, ◌++◌, Bool, true, false, Option}
use Rattle.tk_meeting.proofs.Terms.{Some, None, ◌∙◌, refl, ap, sym, arith, subst, eqb-true, ne_eqb, eqb-false}
use Rattle.tk_meeting.proofs.Terms.{turn_count, Shape, WordBook, Script, fault_of, Writing, with_text, SayError, ActedMember}
use Rattle.tk_meeting.proofs.Terms.{acts, may_ask, asks, asks_if_due, unmoved, MemberState, say_fault, Deed, Ticks}
use Rattle.tk_meeting.proofs.Terms.{Claims, Sends, Answers, Says, GoesAhead, doer, said_more, said_after, Saying}
use Rattle.tk_meeting.proofs.Terms.{changed, Meeting, stand}
use Rattle.tk_meeting.proofs.Standing.{IsForetold}
use Rattle.tk_meeting.proofs.telling.Foreseeing.{ForeseesOf}
use Rattle.tk_meeting.proofs.members.Hearing.{said-one}
use Rattle.tk_meeting.proofs.courses.Picks.{itself}
use Rattle.tk_meeting.proofs.shown.Steps.{written_then, acts-written, ahead_of, said_writing, heard_writing}
use Rattle.tk_meeting.proofs.members.Writing.{queue}
use Rattle.tk_meeting.proofs.members.Acts.{Written, acts-so}
use Rattle.tk_meeting.proofs.telling.Rising.{cond-has}
use Rattle.tk_meeting.proofs.lying.Outcomes.{does_writing}

-- a member to which this was said, by turns
pub record Speaks (S : Script) (c : ℕ) (said : ℕ → List Saying) (m : MemberState) : Type 0 where
  pub shape : m.client.shape ≡ S.shape
  pub number : m.client.number ≡ c
  pub writing : m.client.writing ≡ queue S c m.written (said m.written)
  pub within : m.written ≤ turn_count S.shape
  pub later : (k : ℕ) → m.written < k → said k ≡ []

-- ---- a text more

module _ (S : Script) (m : Meeting) (c : ℕ) (speaks : Speaks S c (m.said c) (m.members c)) where
  abbrev member : MemberState
  member = m.members c

  -- what it has to write then is what was said to it then, also for later turns
  pub record Queued (said : ℕ → List Saying) (writing : Writing) : Type 0 where
    pub writing_is : writing ≡ queue S c member.written (said member.written)
    pub later : (k : ℕ) → member.written < k → said k ≡ []

  queued_as : Queued (m.said c) member.client.writing
  queued_as = record { writing_is = speaks.writing; later = speaks.later }

  queued_said : (log : ℕ) (text : List ℕ) (o : Option SayError) →
      Queued (said_more m c (record { log = log; text = text }) o c) (said_writing log text o member.client.writing)
  unfolding said_writing
  queued_said log text (Some error) = queued_as
  queued_said log text None =
      let y : Saying = record { log = log; text = text } in
      let g = member.written in
      let mine : ℕ → List Saying = changed g (m.said c g ++ y ∷ []) (m.said c) in
      let own : changed c mine m.said c ≡ mine = λ i. cond (itself c i) mine (m.said c) in
      let here : mine g ≡ m.said c g ++ y ∷ [] = λ i. cond (itself g i) (m.said c g ++ y ∷ []) (m.said c g) in
      record {
        writing_is =
            ap (with_text log text) speaks.writing
            ∙ said-one (m.said c g) log text _
            ∙ ap (queue S c g) (sym here)
            ∙ ap (λ (s : ℕ → List Saying). queue S c g (s g)) (sym own);
        later = λ k past.
            ap (λ (s : ℕ → List Saying). s k) own
            ∙ (λ i. cond (ne_eqb k g (λ e. omega (arith, e, past)) i) (m.said c g ++ y ∷ []) (m.said c k))
            ∙ speaks.later k past;
      }

  pub queued : (d : Deed) → doer d ≡ c → Queued (said_after m d c) (does_writing member d)
  unfolding does_writing heard_writing
  queued (Says e log text) is =
      subst (λ (k : ℕ). Queued (said_more m k (record { log = log; text = text }) (say_fault m k log text) c)
      (does_writing member (Says k log text))) (sym is)
      (queued_said log text (fault_of member.client.shape member.client.writing.logs log text))
  queued (Ticks e) is = queued_as
  queued (GoesAhead e turns) is = queued_as
  queued (Claims e count) is = queued_as
  queued (Sends e j frame) is = queued_as
  queued (Answers e table) is = queued_as

-- ---- acting

-- asking changes neither a member's shape and number nor what it has to write
asked-keeps : (b : WordBook) (m : MemberState) → let k = (asks_if_due b m).member.client in
    (k.shape ≡ m.client.shape) × (k.number ≡ m.client.number) × (k.writing ≡ m.client.writing)
asked-keeps b m =
    cond-has (λ (t : ActedMember).
    (t.member.client.shape ≡ m.client.shape) × (t.member.client.number ≡ m.client.number)
    × (t.member.client.writing ≡ m.client.writing)) (may_ask m) (asks b m) (unmoved m) (refl, refl, refl)
    (refl, refl, refl)

module _ (S : Script) (b : WordBook) (c : ℕ) (client : c < S.shape.clients) (m : MemberState)
    (said : ℕ → List Saying) (ready : Speaks S c said m)
    (foresees : ForeseesOf S c (acts b m).member.written said) where
  pub within_then : written_then m ≤ turn_count S.shape
  within_then =
      let turns = turn_count m.client.shape in
      let low : m.written ≤ turns = subst (λ (k : Shape). m.written ≤ turn_count k) (sym ready.shape) ready.within in
      let ahead : m.written + ahead_of (stand m) ≤ turns = omega (arith, low) in
      let all : written_then m ≤ turns = omega (arith, ahead) in
      subst (λ (k : Shape). written_then m ≤ turn_count k) ready.shape all

  foretold : IsForetold S c m.written (written_then m) (said m.written)
  foretold =
      let n : (acts b m).member.written ≡ written_then m = acts-written b m in
      let within = within_then in
      record {
        here = λ more. foresees.before m.written (omega (arith, n, more)) (omega (arith, more, within));
        behind = λ k past more.
            sym (foresees.before k (omega (arith, n, more)) (omega (arith, more, within))) ∙ ready.later k past;
      }

  pub written-so : Written S b c m (said m.written)
  written-so = acts-so S b c m (said m.written) ready.shape ready.number ready.writing within_then foretold

  -- what was said for the turn that it then writes next
  said-then : (t : Bool) → (m.written == written_then m) ≡ t →
      cond t (said m.written) [] ≡ said (written_then m)
  said-then true is = ap said (eqb-true m.written (written_then m) is)
  said-then false is =
      sym (ready.later (written_then m)
      (omega (arith, eqb-false m.written (written_then m) is)))

  pub speaks-then : Speaks S c said (acts b m).member
  speaks-then =
      let w = written-so in
      let n : (acts b m).member.written ≡ written_then m = acts-written b m in
      let member : (acts b m).member ≡ (asks_if_due b w.last).member =
      ap (λ (t : ActedMember). t.member) w.acts_are
      in
      let kept = asked-keeps b w.last in
      record {
        shape = ap (λ (x : MemberState). x.client.shape) member ∙ kept.0 ∙ w.shape;
        number = ap (λ (x : MemberState). x.client.number) member ∙ kept.1 ∙ w.number;
        writing =
            ap (λ (x : MemberState). x.client.writing) member ∙ kept.2 ∙ w.writing
            ∙ ap (queue S c (written_then m)) (said-then (m.written == written_then m) refl)
            ∙ ap (λ (k : ℕ). queue S c k (said k)) (sym n);
        within = subst (λ (k : ℕ). k ≤ turn_count S.shape) (sym n) within_then;
        later = λ k past. ready.later k (omega (arith, n, past));
      }
