-- What a host says keeps what a meeting has where its course is known.
use Rattle.tk_meeting.proofs.Terms.{◌≡◌, ℕ, ◌≤◌, ◌<◌, List, [], ◌∷◌, length, ◌+◌, ◌==◌, cond, ◌++◌, false, filter}
use Rattle.tk_meeting.proofs.Terms.{Option, Some, None, ◌∙◌, refl, ap, sym, arith, subst, append-nil, drop, ne_eqb}
use Rattle.tk_meeting.proofs.Terms.{length-map-range_with_len, Shape, WordBook, Script, SayError, Seat, MemberState}
use Rattle.tk_meeting.proofs.Terms.{heard, Say, Tick, Ahead, Has, hears, noted, say_fault, greeting_of, tells_read}
use Rattle.tk_meeting.proofs.Terms.{news_before, Saying, changed, Meeting}
use Rattle.tk_meeting.proofs.courses.Frames.{frames-length}
use Rattle.tk_meeting.proofs.Canonical.{stream, write_in, read_from}
use Rattle.tk_meeting.proofs.Pace.{Pace, Paced, settled, IsIdle, ticked, sent_ahead}
use Rattle.tk_meeting.proofs.Course.{Course, newest_by, came_of, goes_on}
use Rattle.tk_meeting.proofs.telling.Foreseeing.{Foresees}
use Rattle.tk_meeting.proofs.courses.Picks.{at-place, itself, unchanged}
use Rattle.tk_meeting.proofs.courses.Balanced.{IsReady, IsBalanced, ArePaces, ticked-ready, ahead-ready}
use Rattle.tk_meeting.proofs.members.Hearing.{tick-readies, ahead-readies, greeted-readies, say-readies}
use Rattle.tk_meeting.proofs.members.Hearing.{refused-readies}
use Rattle.tk_meeting.proofs.courses.Keeps.{Keeps}
use Rattle.tk_meeting.proofs.courses.Members.{IsPoised}
use Rattle.tk_meeting.proofs.courses.Poised.{AreMembers, step-keeps, poised}

-- where nothing is due the course stays
pub idle-stays : (shape : Shape) (q : Course) (c : ℕ) → IsIdle shape (q.paces c) →
    goes_on shape q c (q.paces c) ≡ q
idle-stays shape q c idle =
    ap {B = Course} (λ (t : Paced). record q {
      paces = changed c t.pace q.paces;
      up = changed c (λ j. q.up c j ++ t.kinds) q.up;
    }) idle
    ∙ (λ i. record q {
      paces = λ d. unchanged c q.paces d i;
      up = λ d. kinds_stay d i;
    })
  where
    kinds_stay : (d : ℕ) → cond (d == c) (λ j. q.up c j ++ []) (q.up d) ≡ q.up d
    kinds_stay d =
        at-place (λ x k. cond k (λ j. q.up c j ++ []) (q.up x) ≡ q.up x) c d (λ i j. append-nil (q.up c j) i) (λ _. refl)

module _ (S : Script) (b : WordBook) (paces : ArePaces S.shape) (laws : AreMembers S b) (q : Course)
    (m : Meeting) (keeps : Keeps S b q m) (balanced : IsBalanced S.shape q) (now : Foresees S m) (c : ℕ)
    (low : c < S.shape.clients) where
  abbrev pace : Pace
  pace = q.paces c

  abbrev member : MemberState
  member = m.members c

  -- nothing is said for later turns
  pub none-later : (k : ℕ) → pace.written < k → m.said c k ≡ []
  none-later k past =
      let is = ((keeps.clients c low).at).written_is in
      (now.each c low).behind k (omega (arith, past, is))

  -- it is poised at a pace at which as much was sent and came
  same_poised : (p : Pace) → IsReady S.shape c p q.writes q.reads (q.up c) → p.written ≡ pace.written →
      settled p ≡ settled pace → ((j : ℕ) → came_of p j ≡ came_of pace j) →
      IsPoised S b q m c p (m.said c p.written) []
  same_poised p ready written settled_is came =
      let k = keeps.clients c low in
      poised S b q m m.said m.down c p (m.said c p.written) [] keeps low ready
      (append-nil (filter tells_read (m.told c)) ∙ k.told_is ∙ ap (news_before S b c) (sym settled_is))
      (λ j one most.
      (k.links j one most).down_is
      ∙ ap (λ n. drop n (stream S b c j (newest_by S.shape (q.writes j)) (q.reads j c))) (sym (came j)))
      (λ d other. refl) (λ d j other. refl) refl
      (λ n past. none-later n (omega (arith, past, written)))

  -- its clock ticks
  pub tick-keeps : let went = hears (λ d. b) m c Tick in
      Foresees S went → Keeps S b (goes_on S.shape q c (ticked S.shape pace)) went
  tick-keeps f =
      let p = ticked S.shape pace in
      let ready =
      ticked-ready S.shape paces c pace q.writes q.reads (q.up c) (balanced.each c low).ready
      in
      step-keeps S b paces laws q m c p (m.said c pace.written) [] (heard b member (Some Tick)) low
      ready.pace (same_poised p ready refl refl (λ j. refl))
      (tick-readies (keeps.clients c low).at) f

  -- writes go ahead
  pub ahead-keeps : (turns : ℕ) → let went = hears (λ d. b) m c (Ahead turns) in
      Foresees S went → Keeps S b (goes_on S.shape q c (sent_ahead S.shape turns pace)) went
  ahead-keeps turns f =
      let p = sent_ahead S.shape turns pace in
      let ready =
      ahead-ready S.shape paces c turns pace q.writes q.reads (q.up c) (balanced.each c low).ready
      in
      step-keeps S b paces laws q m c p (m.said c pace.written) [] (heard b member (Some (Ahead turns))) low
      ready.pace (same_poised p ready refl refl (λ j. refl))
      (ahead-readies (keeps.clients c low).at turns) f

  -- ---- steps at which it stays idle

  abbrev stays : Meeting → Type 0
  stays after = Keeps S b (goes_on S.shape q c pace) after → Keeps S b q after

  still : (after : Meeting) → stays after
  still after h = subst (λ x. Keeps S b x after) (idle-stays S.shape q c (balanced.each c low).idle) h

  -- no server has more packets of it than it sent
  few-taken : (j count : ℕ) → 1 ≤ j → j ≤ S.shape.servers → greeting_of m c j count ≤ pace.written + pace.asked
  few-taken j count one most =
      let seat = (keeps.servers j one most).each c low in
      let linked = (balanced.each c low).ready.links j one most in
      omega (
        arith,
        ap (λ (s : Seat). length s.writes) seat,
        ap (λ (s : Seat). length s.reads) seat,
        length-map-range_with_len (write_in S b c) 0 (q.writes j c),
        length-map-range_with_len (read_from S b c j) 0 (q.reads j c),
        linked.wrote,
        linked.asked,
        ap (λ (fs : List (List ℕ)). length fs) ((keeps.clients c low).links j one most).up_is,
        frames-length S b c j (q.writes j c) (q.reads j c) (q.up c j),
      )

  pub greeted-keeps : (j count : ℕ) → 1 ≤ j → j ≤ S.shape.servers →
      let went = hears (λ d. b) m c (Has (greeting_of m c j count)) in
      Foresees S went → Keeps S b q went
  greeted-keeps j count one most f =
      let packets = greeting_of m c j count in
      let ready = (balanced.each c low).ready in
      still (hears (λ d. b) m c (Has packets))
      (step-keeps S b paces laws q m c pace (m.said c pace.written) [] (heard b member (Some (Has packets))) low
      ready.pace (same_poised pace ready refl refl (λ j. refl))
      (greeted-readies (keeps.clients c low).at packets (few-taken j count one most)) f)

  -- a text is said
  said_by : (log : ℕ) (text : List ℕ) (o : Option SayError) → say_fault m c log text ≡ o →
      let went =
      hears (λ d. b) (noted c (record { log = log; text = text }) o m) c (Say log text)
      in
      Foresees S went → Keeps S b q went
  said_by log text (Some error) is f =
      let ready = (balanced.each c low).ready in
      still (hears (λ d. b) m c (Say log text))
      (step-keeps S b paces laws q m c pace (m.said c pace.written) [] (heard b member (Some (Say log text))) low
      ready.pace (same_poised pace ready refl refl (λ j. refl))
      (refused-readies (keeps.clients c low).at log text error is) f)
  said_by log text None is f =
      let k = keeps.clients c low in
      let ready = (balanced.each c low).ready in
      let y : Saying = record { log = log; text = text } in
      let g = member.written in
      let saids = m.said c pace.written ++ y ∷ [] in
      let mine : ℕ → List Saying = changed g (m.said c g ++ y ∷ []) (m.said c) in
      let more : ℕ → ℕ → List Saying = changed c mine m.said in
      let own : more c ≡ mine = λ i. cond (itself c i) mine (m.said c) in
      let here : mine pace.written ≡ saids =
      subst (λ n. changed n (m.said c n ++ y ∷ []) (m.said c) pace.written ≡ saids) (sym k.at.written_is)
      (λ i. cond (itself pace.written i) saids (m.said c pace.written))
      in
      let behind : (n : ℕ) → pace.written < n → mine n ≡ [] =
      λ n past.
      let apart : (n == g) ≡ false = ne_eqb n g (λ e. omega (arith, e, past, k.at.written_is)) in
      (λ i. cond (apart i) (m.said c g ++ y ∷ []) (m.said c n)) ∙ none-later n past
      in
      let before : Meeting = noted c y None m in
      let at =
      poised S b q m more m.down c pace saids [] keeps low ready
      (append-nil (filter tells_read (m.told c)) ∙ k.told_is) (λ j one most. (k.links j one most).down_is)
      (λ d other i. cond (other i) mine (m.said d)) (λ d j other. refl)
      (ap (λ (s : ℕ → List Saying). s pace.written) own ∙ here)
      (λ n past. ap (λ (s : ℕ → List Saying). s n) own ∙ behind n past)
      in
      still (hears (λ d. b) before c (Say log text))
      (step-keeps S b paces laws q before c pace saids [] (heard b member (Some (Say log text))) low ready.pace at
      (say-readies k.at log text is) f)

  pub said-keeps : (log : ℕ) (text : List ℕ) →
      let went =
      hears (λ d. b) (noted c (record { log = log; text = text }) (say_fault m c log text) m) c (Say log text)
      in
      Foresees S went → Keeps S b q went
  said-keeps log text f = said_by log text (say_fault m c log text) refl f
