-- What its course says of a meeting is what the laws say.
use Rattle.tk_meeting.proofs.Terms.{◌≡◌, ℕ, ◌≤◌, ◌<◌, List, [], ◌∷◌, length, ◌+◌, ◌==◌, cond, ◌++◌, ◌-◌, Bool, true}
use Rattle.tk_meeting.proofs.Terms.{false, filter, Option, Some, None, ◌∙◌, refl, ap, sym, arith, drop, eqb-true}
use Rattle.tk_meeting.proofs.Terms.{eq-eqb, ap₂, length-append, and_parts, and_from, length-drop, list_any, is_none}
use Rattle.tk_meeting.proofs.Terms.{◌&&◌, turn_count, Shape, WordBook, words_of, IsBook, serial_history, unsent_count}
use Rattle.tk_meeting.proofs.Terms.{Script, Reader, Writing, with_text, count_of, OpenRead, queues-send, writing_before}
use Rattle.tk_meeting.proofs.Terms.{reader_before, logs, Seat, MemberState, is_over, Event, met, tells_read}
use Rattle.tk_meeting.proofs.Terms.{news_before, HasWhatWasSaid, HasFront, HasTold, HasNoFaults, IsAllHanded, is_refusal, Saying}
use Rattle.tk_meeting.proofs.Terms.{Meeting}
use Rattle.tk_meeting.proofs.Standing.{read_of}
use Rattle.tk_meeting.proofs.Canonical.{with_sayings, stream, serial}
use Rattle.tk_meeting.proofs.Pace.{Pace, Kind, settled}
use Rattle.tk_meeting.proofs.Course.{Course, newest_by, stream_len, came_of, course_of}
use Rattle.tk_meeting.proofs.servers.Numbers.{stream-length}
use Rattle.tk_meeting.proofs.servers.Quiet.{quiet-stream}
use Rattle.tk_meeting.proofs.courses.Lengths.{newest-last}
use Rattle.tk_meeting.proofs.courses.Acting.{wrote_in}
use Rattle.tk_meeting.proofs.courses.Balanced.{IsBalanced, ArePaces}
use Rattle.tk_meeting.proofs.courses.Reaching.{all-balanced}
use Rattle.tk_meeting.proofs.courses.Frames.{frames-none}
use Rattle.tk_meeting.proofs.courses.Keeps.{Keeps}
use Rattle.tk_meeting.proofs.courses.Poised.{AreMembers}
use Rattle.tk_meeting.proofs.courses.Ends.{IsDone, ends-done}
use Rattle.tk_meeting.proofs.courses.Stuck.{never-stuck}
use Rattle.tk_meeting.proofs.courses.Serial.{keeps-all}

-- client c told its host all that its reads give, and knows of its logs what the report says
pub record HasToldWhole (S : Script) (b : WordBook) (m : Meeting) (c : ℕ) : Type 0 where
  pub told : filter tells_read (m.told c) ≡ news_before S b c (turn_count S.shape)
  pub logs : (m.members c).client.reader.follows
      ≡ logs S (words_of S.shape b) (serial_history S.shape) c
  pub unsent : length (m.members c).client.writing.waiting
      ≡ unsent_count S c + length (m.said c (turn_count S.shape))

-- what stands of a meeting, but for what it told log by log
pub record IsSerialWhole (S : Script) (b : WordBook) (m : Meeting) : Type 0 where
  pub fronts : (c j : ℕ) → c < S.shape.clients → 1 ≤ j → j ≤ S.shape.servers → HasFront S b m c j
  pub told : (c : ℕ) → c < S.shape.clients → HasTold S b m c
  pub quiet : HasNoFaults S.shape m
  pub over : (c : ℕ) → c < S.shape.clients → is_over (m.members c) ≡ true → HasToldWhole S b m c
  pub whole : IsAllHanded S.shape m → (c : ℕ) → c < S.shape.clients →
      (is_over (m.members c) ≡ true) × HasToldWhole S b m c

settled_most : (p : Pace) (b : Bool) → p.is_open ≡ b → settled p ≤ p.asked
settled_most p true is =
    let e : settled p ≡ p.asked - 1 = ap (λ t. cond t (p.asked - 1) p.asked) is in
    omega (arith, e)
settled_most p false is =
    let e : settled p ≡ p.asked = ap (λ t. cond t (p.asked - 1) p.asked) is in
    omega (arith, e)

closed-open : (t : Bool) (x : OpenRead) → is_none (cond t (Some x) None) ≡ true → t ≡ false
closed-open true x h = absurd (cc h)
closed-open false x h = refl

sayings-wait : (xs : List Saying) (w : Writing) →
    length (with_sayings xs w).waiting ≡ length w.waiting + length xs
unfolding with_sayings
sayings-wait [] w = omega arith
sayings-wait (y ∷ ys) w =
    let later = sayings-wait ys (with_text y.log y.text w) in
    let one = length-append w.waiting (record { log = y.log; number = count_of y.log w.logs; text = y.text } ∷ []) in
    omega (arith, later, one)

open-none : (t : Bool) (x : OpenRead) (n : ℕ) →
    cond t (n - 1) n ≡ cond (is_none (cond t (Some x) None)) n (n - 1)
open-none true x n = refl
open-none false x n = refl

-- a member is over when it has written and asked in all turns, and no read is open
over-when : (n : MemberState) → n.written ≡ turn_count n.client.shape → n.asked ≡ turn_count n.client.shape →
    n.client.read ≡ None → is_over n ≡ true
over-when n written asked closed =
    and_from (n.written == turn_count n.client.shape && n.asked == turn_count n.client.shape) (is_none n.client.read)
    (and_from (n.written == turn_count n.client.shape) (n.asked == turn_count n.client.shape)
    (eq-eqb n.written (turn_count n.client.shape) written)
    (eq-eqb n.asked (turn_count n.client.shape) asked))
    (ap (λ (o : Option OpenRead). is_none o) closed)

none_left : (xs : List (List ℕ)) (n : ℕ) → drop n xs ≡ [] → length xs ≤ n
none_left xs n none = omega (arith, length-drop n xs, ap (λ (ys : List (List ℕ)). length ys) none)

module _ (S : Script) (b : WordBook) (q : Course) (m : Meeting) (keeps : Keeps S b q m)
    (balanced : IsBalanced S.shape q) where
  keeps-fronts : (c j : ℕ) → c < S.shape.clients → 1 ≤ j → j ≤ S.shape.servers → HasFront S b m c j
  keeps-fronts c j low one most =
      let at = keeps.servers j one most in
      record {
        written = q.writes j c;
        asked = q.reads j c;
        written_in = at.writes_in c low;
        asked_in = at.reads_in c low;
        writes = ap (λ (s : Seat). s.writes) (at.each c low);
        reads = ap (λ (s : Seat). s.reads) (at.each c low);
      }

  keeps-told : (c : ℕ) → c < S.shape.clients → HasTold S b m c
  keeps-told c low =
      let p = q.paces c in
      let pace = (balanced.each c low).ready.pace in
      record {
        turns = settled p;
        settled = open-none p.is_open (read_of S b c (p.asked - 1)) p.asked
            ∙ ap₂ (λ (o : Option OpenRead) (n : ℕ). cond (is_none o) n (n - 1))
            (sym (keeps.clients c low).at.read_is) (sym (keeps.clients c low).at.asked_is);
        within = omega (arith, settled_most p p.is_open refl, pace.asked_in, pace.written_in);
        told = (keeps.clients c low).told_is;
      }

  keeps-quiet : HasNoFaults S.shape m
  keeps-quiet =
      record {
        members = λ c low. (keeps.clients c low).going;
        servers = λ j c one most low.
            ap (λ (xs : List (List ℕ)). list_any is_refusal xs)
            ((keeps.clients c low).links j one most).down_is
            ∙ quiet-stream S b c j (newest_by S.shape (q.writes j)) (q.reads j c) (came_of (q.paces c) j);
      }

  keeps-unsent : (c : ℕ) → c < S.shape.clients → (q.paces c).written ≡ turn_count S.shape →
      length (m.members c).client.writing.waiting ≡ unsent_count S c + length (m.said c (turn_count S.shape))
  keeps-unsent c low written =
      let k = keeps.clients c low in
      ap (λ (w : Writing). length w.waiting) k.at.writing_is
      ∙ sayings-wait (m.said c (q.paces c).written) (writing_before S c (q.paces c).written)
      ∙ ap (λ (n : ℕ). length (writing_before S c n).waiting + length (m.said c n)) written
      ∙ ap (λ (n : ℕ). n + length (m.said c (turn_count S.shape))) (queues-send.left_over S c)

  keeps-over : (c : ℕ) → c < S.shape.clients → is_over (m.members c) ≡ true → HasToldWhole S b m c
  keeps-over c low over =
      let k = keeps.clients c low in
      let turns = turn_count (m.members c).client.shape in
      let n = m.members c in
      let both = and_parts (n.written == turns && n.asked == turns) (is_none n.client.read) over in
      let two = and_parts (n.written == turns) (n.asked == turns) both.0 in
      let asked : (q.paces c).asked ≡ turn_count S.shape =
      sym k.at.asked_is ∙ eqb-true n.asked turns two.1 ∙ ap (λ (s : Shape). turn_count s) k.at.shape_is in
      let shut = closed-open (q.paces c).is_open (read_of S b c ((q.paces c).asked - 1))
      (sym (ap (λ (o : Option OpenRead). is_none o) k.at.read_is) ∙ both.1) in
      let settled_is : settled (q.paces c) ≡ turn_count S.shape =
      ap (λ t. cond t ((q.paces c).asked - 1) (q.paces c).asked) shut ∙ asked in
      record {
        told = k.told_is ∙ ap (news_before S b c) settled_is;
        logs = ap (λ (r : Reader). r.follows)
            (k.at.reader_is ∙ ap (reader_before S (words_of S.shape b) (serial S) c) settled_is);
        unsent = keeps-unsent c low (sym k.at.written_is ∙ eqb-true n.written turns two.0
            ∙ ap (λ (s : Shape). turn_count s) k.at.shape_is);
      }

  module _ (all : IsAllHanded S.shape m) where
    none_sent : (c j : ℕ) → c < S.shape.clients → 1 ≤ j → j ≤ S.shape.servers → q.up c j ≡ []
    none_sent c j low one most =
        frames-none S b c j (q.writes j c) (q.reads j c) (q.up c j)
        (sym ((keeps.clients c low).links j one most).up_is ∙ all.none_up c j low one most)

    down_all : (c j : ℕ) → c < S.shape.clients → 1 ≤ j → j ≤ S.shape.servers →
        stream_len S.shape (newest_by S.shape (q.writes j)) (q.reads j c) ≤ came_of (q.paces c) j
    down_all c j low one most =
        let n = newest_by S.shape (q.writes j) in
        let xs = stream S b c j n (q.reads j c) in
        omega (
          arith,
          none_left xs (came_of (q.paces c) j)
              (sym ((keeps.clients c low).links j one most).down_is ∙ all.none_down j c one most low),
          stream-length S b c j n (q.reads j c),
        )

    wrote_all : (c : ℕ) → c < S.shape.clients → (q.paces c).written ≡ turn_count S.shape
    wrote_all =
        never-stuck S.shape q balanced
        (λ c low.
        let at = (keeps.clients c low).at in
        omega (arith, all.ticked c low, at.written_is, at.ticks_is)) none_sent down_all

    came_all : (j c : ℕ) → 1 ≤ j → j ≤ S.shape.servers → c < S.shape.clients →
        q.writes j c ≡ turn_count S.shape
    came_all j c one most low =
        omega (
          arith,
          ((balanced.each c low).ready.links j one most).wrote,
          ap (λ (ks : List Kind). wrote_in ks) (none_sent c j low one most),
          wrote_all c low,
        )

    last_epoch : (j : ℕ) → 1 ≤ j → j ≤ S.shape.servers → newest_by S.shape (q.writes j) ≡ S.shape.phases
    last_epoch j one most = newest-last S.shape (q.writes j) (λ c low. came_all j c one most low)

    ends_over : (c : ℕ) → c < S.shape.clients → is_over (m.members c) ≡ true
    ends_over c low =
        let at = (keeps.clients c low).at in
        let done : IsDone S.shape (q.paces c) =
        ends-done S.shape c (q.paces c) q.writes q.reads (q.up c) (balanced.each c low) (wrote_all c low)
        (λ j one most. none_sent c j low one most) last_epoch (λ j one most. down_all c j low one most)
        in
        over-when (m.members c) (at.written_is ∙ wrote_all c low ∙ ap turn_count (sym at.shape_is))
        (at.asked_is ∙ done.asked ∙ ap turn_count (sym at.shape_is))
        (at.read_is ∙ ap (λ t. cond t (Some (read_of S b c ((q.paces c).asked - 1))) None) done.closed)

    keeps-whole : (c : ℕ) → c < S.shape.clients → (is_over (m.members c) ≡ true) × HasToldWhole S b m c
    keeps-whole c low = (ends_over c low, keeps-over c low (ends_over c low))

  pub keeps-serial : IsSerialWhole S b m
  keeps-serial =
      record { fronts = keeps-fronts; told = keeps-told; quiet = keeps-quiet; over = keeps-over; whole = keeps-whole }

-- a meeting is serial, where a script has what is said and will be said
pub serial-whole : (S : Script) (b : WordBook) → IsBook S.shape b → ArePaces S.shape → AreMembers S b →
    (events more : List Event) → HasWhatWasSaid S (met S (λ c. b) (events ++ more)) →
    IsSerialWhole S b (met S (λ c. b) events)
serial-whole S b book paces laws events more tells =
    keeps-serial S b (course_of S.shape events) (met S (λ c. b) events)
    (keeps-all S b book paces laws events more tells) (all-balanced S.shape paces events)
