-- However its packets are delivered, a meeting has what its course says.
use Rattle.tk_meeting.proofs.Terms.{◌≡◌, ℕ, ◌<◌, min, List, [], ◌∷◌, ◌+◌, ◌/◌, cond, ◌++◌, ◌*◌, Bool, true, false}
use Rattle.tk_meeting.proofs.Terms.{Option, None, ◌∙◌, refl, ap, sym, arith, subst, append_assoc, drop_of_length-le}
use Rattle.tk_meeting.proofs.Terms.{and_parts, ◌&&◌, Shape, WordBook, IsBook, Script, Fault, Say, Tick, Ahead, Has}
use Rattle.tk_meeting.proofs.Terms.{Event, Said, Ticked, WentAhead, Greeted, Up, Down, is_client, is_server, comes_down}
use Rattle.tk_meeting.proofs.Terms.{met, happens, after_events, client_does, unless_ended, hears, noted, say_fault}
use Rattle.tk_meeting.proofs.Terms.{greeting_of, comes_up, HasWhatWasSaid, Meeting, opening}
use Rattle.tk_meeting.proofs.Canonical.{stream}
use Rattle.tk_meeting.proofs.Pace.{ticked, sent_ahead}
use Rattle.tk_meeting.proofs.Standing.{frames_of}
use Rattle.tk_meeting.proofs.Course.{Course, first_course, newest_by, stream_len, goes_on, course_up, course_down}
use Rattle.tk_meeting.proofs.Course.{moves, moved, course_of}
use Rattle.tk_meeting.proofs.servers.Openings.{opening-fronts}
use Rattle.tk_meeting.proofs.servers.Numbers.{stream-length}
use Rattle.tk_meeting.proofs.telling.Foreseeing.{Foresees, foresees}
use Rattle.tk_meeting.proofs.courses.Picks.{pick}
use Rattle.tk_meeting.proofs.courses.Lengths.{over_first}
use Rattle.tk_meeting.proofs.courses.Balanced.{IsBalanced, ArePaces, first-balanced}
use Rattle.tk_meeting.proofs.courses.Reaching.{moves-balanced, server-range, client-range}
use Rattle.tk_meeting.proofs.courses.Keeps.{Keeps}
use Rattle.tk_meeting.proofs.courses.Poised.{AreMembers}
use Rattle.tk_meeting.proofs.courses.Speaking.{tick-keeps, ahead-keeps, greeted-keeps, said-keeps}
use Rattle.tk_meeting.proofs.courses.Arriving.{down-keeps}
use Rattle.tk_meeting.proofs.courses.Serving.{up-keeps}

-- ---- the opening

none_told : (shape : Shape) (n : ℕ) → stream_len shape n 0 ≡ 0
none_told shape n =
    let none : min 0 ((n + 1) * shape.ticks) ≡ 0 = omega arith in
    (λ i. none i + min (none i / shape.ticks) n)
    ∙ (λ i. 0 + min (over_first shape i) n)
    ∙ least_none n
  where
    least_none : (n : ℕ) → 0 + min 0 n ≡ 0
    least_none n = omega arith

pub keeps-first : (S : Script) (b : WordBook) → AreMembers S b → Keeps S b first_course (opening S)
unfolding frames_of
keeps-first S b laws =
    record {
      clients = λ c low. record {
        at = laws.first c low;
        told_is = refl;
        going = refl;
        links = λ j one most. record {
          up_is = refl;
          down_is =
              let n = newest_by S.shape (λ d. 0) in
              sym (drop_of_length-le (stream S b c j n 0) {i = 0}
              (omega (arith, stream-length S b c j n 0, none_told S.shape n)));
        };
      };
      servers = λ j one most. opening-fronts S b j;
    }

-- ---- an event

unended : (o : Option Fault) (m after : Meeting) → o ≡ None → unless_ended o m after ≡ after
unended o m after is = ap (λ x. unless_ended x m after) is

-- what an event of a client does, where the course goes so if there is such a client
client_keeps : (S : Script) (b : WordBook) (q : Bool → Course) (m after : Meeting) (c : ℕ) →
    (going : (c : ℕ) → c < S.shape.clients → m.ended c ≡ None) → Keeps S b (q false) m →
    (c < S.shape.clients → Foresees S after → Keeps S b (q true) after) →
    Foresees S (client_does S.shape m c after) →
    Keeps S b (q (is_client S.shape c)) (client_does S.shape m c after)
client_keeps S b q m after c going keeps goes f =
    let then = unless_ended (m.ended c) m after in
    pick (λ k. Foresees S (cond k then m) → Keeps S b (q k) (cond k then m)) (is_client S.shape c) (λ is f.
    let low = client-range S.shape c is in
    let same = unended (m.ended c) m after (going c low) in
    subst (Keeps S b (q true)) (sym same) (goes low (subst (Foresees S) same f))) (λ none f. keeps) f

module _ (S : Script) (b : WordBook) (book : IsBook S.shape b) (paces : ArePaces S.shape)
    (laws : AreMembers S b) where
  pub keeps-next : (q : Course) (m : Meeting) (x : Event) → IsBalanced S.shape q → Keeps S b q m →
      Foresees S m → Foresees S (happens S.shape (λ c. b) m x) →
      Keeps S b (moves S.shape q x) (happens S.shape (λ c. b) m x)
  unfolding moves happens
  keeps-next q m (Said c log text) balanced keeps now f =
      client_keeps S b (λ k. q) m
      (hears (λ c. b) (noted c (record { log = log; text = text }) (say_fault m c log text) m) c (Say log text)) c
      (λ d low. (keeps.clients d low).going) keeps
      (λ low g. said-keeps S b paces laws q m keeps balanced now c low log text g) f
  keeps-next q m (Ticked c) balanced keeps now f =
      client_keeps S b (λ k. cond k (goes_on S.shape q c (ticked S.shape (q.paces c))) q) m
      (hears (λ c. b) m c Tick) c (λ d low. (keeps.clients d low).going) keeps
      (λ low g. tick-keeps S b paces laws q m keeps balanced now c low g) f
  keeps-next q m (WentAhead c turns) balanced keeps now f =
      client_keeps S b (λ k. cond k (goes_on S.shape q c (sent_ahead S.shape turns (q.paces c))) q) m
      (hears (λ c. b) m c (Ahead turns)) c (λ d low. (keeps.clients d low).going) keeps
      (λ low g. ahead-keeps S b paces laws q m keeps balanced now c low turns g) f
  keeps-next q m (Greeted c j count) balanced keeps now f =
      let went = hears (λ c. b) m c (Has (greeting_of m c j count)) in
      pick (λ k. Foresees S (cond k (client_does S.shape m c went) m) →
      Keeps S b q (cond k (client_does S.shape m c went) m)) (is_server S.shape j) (λ is g.
      let range = server-range S.shape j is in
      client_keeps S b (λ k. q) m went c (λ d low. (keeps.clients d low).going) keeps
      (λ low h. greeted-keeps S b paces laws q m keeps balanced now c low j count range.0 range.1 h) g)
      (λ none g. keeps) f
  keeps-next q m (Up c j) balanced keeps now f =
      pick (λ k.
      Keeps S b (cond k (course_up q c j (q.up c j)) q) (cond k (comes_up S.shape m c j (m.up c j)) m))
      (is_client S.shape c && is_server S.shape j) (λ is.
      let parts = and_parts (is_client S.shape c) (is_server S.shape j) is in
      let range = server-range S.shape j parts.1 in
      up-keeps S b q m keeps balanced c j (client-range S.shape c parts.0) range.0 range.1 book) (λ none. keeps)
  keeps-next q m (Down j c) balanced keeps now f =
      let went = comes_down (λ c. b) m j c (m.down j c) in
      pick (λ k. Foresees S (cond k (client_does S.shape m c went) m) →
      Keeps S b (cond (k && is_client S.shape c) (course_down S.shape q j c) q)
      (cond k (client_does S.shape m c went) m)) (is_server S.shape j) (λ is g.
      let range = server-range S.shape j is in
      client_keeps S b (λ k. cond k (course_down S.shape q j c) q) m went c
      (λ d low. (keeps.clients d low).going) keeps
      (λ low h. down-keeps S b paces laws q m keeps balanced now j c range.0 range.1 low h) g)
      (λ none g. keeps) f

  -- ---- all events

  keeps_after : (q : Course) (m : Meeting) (xs : List Event) → IsBalanced S.shape q → Keeps S b q m →
      ((front rest : List Event) → xs ≡ front ++ rest → Foresees S (after_events S.shape (λ c. b) m front)) →
      Keeps S b (moved S.shape q xs) (after_events S.shape (λ c. b) m xs)
  unfolding moved after_events
  keeps_after q m [] balanced keeps now = keeps
  keeps_after q m (x ∷ xs) balanced keeps now =
      let next = happens S.shape (λ c. b) m x in
      keeps_after (moves S.shape q x) next xs (moves-balanced S.shape paces q x balanced)
      (keeps-next q m x balanced keeps (now [] (x ∷ xs) refl) (now (x ∷ []) xs refl))
      (λ front rest is. now (x ∷ front) rest (ap (λ ys. x ∷ ys) is))

  -- the meeting has what its course says, where a script has what is said and will be said
  pub keeps-all : (events more : List Event) → HasWhatWasSaid S (met S (λ c. b) (events ++ more)) →
      Keeps S b (course_of S.shape events) (met S (λ c. b) events)
  keeps-all events more tells =
      keeps_after first_course (opening S) events (first-balanced S.shape paces) (keeps-first S b laws)
      (λ front rest is. foresees S (λ c. b) front (rest ++ more)
      (subst (λ (xs : List Event). HasWhatWasSaid S (met S (λ c. b) xs))
      (ap (λ (xs : List Event). xs ++ more) is ∙ append_assoc front rest more) tells))
