-- Two groups apart that are at one course look alike to each server but the hidden one.
use Rattle.tk_meeting.proofs.Terms.{◌≡◌, ℕ, ◌≤◌, ◌<◌, List, [], ◌∷◌, map, ◌+◌, ◌++◌, ◌∙◌, refl, ap, sym, arith, subst}
use Rattle.tk_meeting.proofs.Terms.{drop, ◌≢◌, turn_count, Shape, WordBook, IsBook, drawn, shows_vectors}
use Rattle.tk_meeting.proofs.Terms.{serial_history, Script, read_at, length-mirror, mirror, Event, met, LooksAlike}
use Rattle.tk_meeting.proofs.Terms.{outline, SeesAlike, IsSizedAlike, ActsAlike, MeetingsLookAlike, HasWhatWasSaid, Meeting}
use Rattle.tk_meeting.proofs.Terms.{HaveKeys}
use Rattle.tk_meeting.proofs.Canonical.{stream}
use Rattle.tk_meeting.proofs.Course.{Course, newest_by, came_of, course_of}
use Rattle.tk_meeting.proofs.Pace.{Kind, Wrote, Asked}
use Rattle.tk_meeting.proofs.courses.Acting.{wrote_in, asked_in}
use Rattle.tk_meeting.proofs.courses.Balanced.{IsBalanced}
use Rattle.tk_meeting.proofs.courses.Gathered.{course-balanced, meeting-keeps}
use Rattle.tk_meeting.proofs.courses.Keeps.{Keeps}
use Rattle.tk_meeting.proofs.own.Meetings.{same-met}
use Rattle.tk_meeting.proofs.hidden.SameFrames.{same-write, same-read}
use Rattle.tk_meeting.proofs.hidden.Unsaid.{same-course}
use Rattle.tk_meeting.proofs.hidden.SameStreams.{WriteAlike, AskAlike, AreOfRun, same-seat, same-stream, same-frames}
use Rattle.tk_meeting.proofs.hidden.Outlines.{KindsAgree, kinds-shown}
use Rattle.tk_meeting.proofs.hidden.SameOutlines.{outlines-drop, stream-outlines, frames-outlines}

-- ---- a group at a course

-- frames that are no more than there are turns left are of turns of the run
of-run : (turns g k : ℕ) (kinds : List Kind) → g + wrote_in kinds ≤ turns → k + asked_in kinds ≤ turns →
    AreOfRun turns g k kinds
of-run turns g k [] writes asks = tt
of-run turns g k (Wrote ∷ kinds) writes asks =
    (omega (arith, writes), of-run turns (g + 1) k kinds (omega (arith, writes)) asks)
of-run turns g k (Asked ∷ kinds) writes asks =
    (omega (arith, asks), of-run turns g (k + 1) kinds writes (omega (arith, asks)))

-- what a group is shown to keep, and its course to be
pub record IsKept (S : Script) (b : WordBook) (q : Course) (m : Meeting) : Type 0 where
  pub balanced : IsBalanced S.shape q
  pub keeps : Keeps S b q m

-- all that is on its way to a server is of turns of the run
kinds-in : (S : Script) (b : WordBook) (q : Course) (m : Meeting) → IsKept S b q m → (c j : ℕ) →
    c < S.shape.clients → 1 ≤ j → j ≤ S.shape.servers →
    AreOfRun (turn_count S.shape) (q.writes j c) (q.reads j c) (q.up c j)
kinds-in S b q m kept c j client low high =
    let ready = (kept.balanced.each c client).ready in
    let link = ready.links j low high in
    of-run (turn_count S.shape) (q.writes j c) (q.reads j c) (q.up c j)
    (omega (arith, link.wrote, ready.pace.written_in))
    (omega (arith, link.asked, ready.pace.asked_in, ready.pace.written_in))

-- a group whose texts a script has keeps what its course says, also where each client has a book of its own
pub is-kept : (S : Script) (b : WordBook) (books : ℕ → WordBook) (events more : List Event) → IsBook S.shape b →
    HaveKeys S b books → HasWhatWasSaid S (met S books (events ++ more)) →
    IsKept S b (course_of S.shape events) (met S books events)
is-kept S b books events more served keys tells =
    subst (IsKept S b (course_of S.shape events)) (sym (same-met S b books keys events)) (record {
      balanced = course-balanced S.shape events;
      keeps =
          meeting-keeps S b served events more
          (subst (HasWhatWasSaid S) (same-met S b books keys (events ++ more)) tells);
    })

-- ---- two groups at one course

module _ (A B : Script) (b d : WordBook) (shapes : A.shape ≡ B.shape) (q : Course) (m n : Meeting)
    (one : IsKept A b q m) (other : IsKept B d q n) where
  there : (c : ℕ) → c < A.shape.clients → c < B.shape.clients
  there c client = subst (λ (shape : Shape). c < shape.clients) shapes client

  within : (j : ℕ) → j ≤ A.shape.servers → j ≤ B.shape.servers
  within j high = subst (λ (shape : Shape). j ≤ shape.servers) shapes high

  -- the newest epoch of a server
  same-newest : (c j : ℕ) →
      drop (came_of (q.paces c) j) (stream B d c j (newest_by A.shape (q.writes j)) (q.reads j c))
      ≡ drop (came_of (q.paces c) j) (stream B d c j (newest_by B.shape (q.writes j)) (q.reads j c))
  same-newest c j =
      ap (λ (shape : Shape). drop (came_of (q.paces c) j)
      (stream B d c j (newest_by shape (q.writes j)) (q.reads j c))) shapes

  acts-alike : (c : ℕ) → c < A.shape.clients → ActsAlike c m n
  acts-alike c client =
      let x = (one.keeps.clients c client).at in
      let y = (other.keeps.clients c (there c client)).at in
      record { written = x.written_is ∙ sym y.written_is; asked = x.asked_is ∙ sym y.asked_is }

  pub sized-alike : (j c : ℕ) → KindsAgree A.shape b d → IsBook A.shape b → IsBook B.shape d → 1 ≤ j →
      j ≤ A.shape.servers → c < A.shape.clients → IsSizedAlike j c m n
  sized-alike j c kinds served serves low high client =
      let x = (one.keeps.clients c client).links j low high in
      let y = (other.keeps.clients c (there c client)).links j low (within j high) in
      record {
        up =
            ap (map outline) x.up_is
            ∙ frames-outlines A B b d shapes kinds served serves c j (q.writes j c) (q.reads j c)
            (q.up c j) low high client (kinds-in A b q m one c j client low high)
            ∙ ap (map outline) (sym y.up_is);
        down =
            ap (map outline) x.down_is
            ∙ outlines-drop (came_of (q.paces c) j)
            (stream A b c j (newest_by A.shape (q.writes j)) (q.reads j c))
            (stream B d c j (newest_by A.shape (q.writes j)) (q.reads j c))
            (stream-outlines A B b d shapes kinds served serves c j (newest_by A.shape (q.writes j))
            (q.reads j c))
            ∙ ap (map outline) (same-newest c j ∙ sym y.down_is);
      }

  module _ (w : WriteAlike A B b d) where
    sees-alike : (j c : ℕ) → AskAlike A B b d j → 1 ≤ j → j ≤ A.shape.servers → c < A.shape.clients →
        SeesAlike j c m n
    sees-alike j c r low high client =
        let x = (one.keeps.clients c client).links j low high in
        let y = (other.keeps.clients c (there c client)).links j low (within j high) in
        let front = one.keeps.servers j low high in
        record {
          came =
              front.each c client
              ∙ same-seat A B b d w j r c (q.writes j c) (q.reads j c) client (front.writes_in c client)
              (front.reads_in c client)
              ∙ sym ((other.keeps.servers j low (within j high)).each c (there c client));
          coming =
              x.up_is
              ∙ same-frames A B b d w j r c (q.writes j c) (q.reads j c) (q.up c j) client
              (kinds-in A b q m one c j client low high)
              ∙ sym y.up_is;
          going =
              x.down_is
              ∙ ap (drop (came_of (q.paces c) j))
              (same-stream A B b d w j r c (newest_by A.shape (q.writes j)) (q.reads j c) client
              (front.reads_in c client))
              ∙ same-newest c j ∙ sym y.down_is;
        }

    pub look-alike : (h : ℕ) →
        ((j : ℕ) → 1 ≤ j → j ≤ A.shape.servers → j ≢ h → AskAlike A B b d j) →
        shows_vectors b ≡ shows_vectors d → IsBook A.shape b → IsBook B.shape d →
        LooksAlike A.shape h m n
    look-alike h asks shows served serves =
        record {
          seen = λ j c low high differ client.
              sees-alike j c (asks j low high differ) low high client;
          acted = λ c client. acts-alike c client;
          sized = λ j c low high client.
              sized-alike j c (kinds-shown A.shape b d shows) served serves low high client;
        }

-- ---- the law

pub meetings-look-alike : MeetingsLookAlike
meetings-look-alike A B h u is books others keys other_keys events more tells changed rest other_tells same =
    let v : List ℕ = mirror A B (serial_history A.shape) h u in
    let b : WordBook = drawn u in
    let d : WordBook = drawn v in
    let served : IsBook A.shape b = is.tape in
    let serves : IsBook B.shape d = length-mirror A B (serial_history A.shape) h u is in
    let w : WriteAlike A B b d = record {
      shapes = is.one_shape;
      writes = λ g c turn client. same-write A B (serial_history A.shape) h u is g c turn client;
    } in
    let q : Course = course_of A.shape events in
    let m : Meeting = met A books events in
    let n : Meeting = met B others changed in
    let one : IsKept A b q m = is-kept A b books events more served keys tells in
    let other : IsKept B d q n =
    subst (λ (x : Course). IsKept B d x n) (sym (same-course A.shape B.shape events changed is.one_shape same))
    (is-kept B d others changed rest serves other_keys other_tells)
    in
    look-alike A B b d w.shapes q m n one other w h (λ j low high differ. record {
      reads = λ g c turn client.
          same-read A B (serial_history A.shape) h u is j g c low high differ turn client
          ∙ ap (λ (shape : Shape). read_at B d (serial_history shape) g c j) is.one_shape;
    }) refl served serves
