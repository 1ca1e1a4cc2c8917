-- Groups whose courses are the same keep pace.
use Rattle.tk_meeting.proofs.Terms.{◌≡◌, ℕ, ◌≤◌, ◌<◌, List, [], ◌∷◌, length, ◌+◌, ◌-◌, ◌∙◌, refl, ap, sym, suc, subst}
use Rattle.tk_meeting.proofs.Terms.{inl, inr, length-drop, Shape, WordBook, Script, met, Meeting}
use Rattle.tk_meeting.specs.Pacing.{HaveOneForm, MeetingsKeepPace}
use Rattle.tk_meeting.proofs.Canonical.{stream}
use Rattle.tk_meeting.proofs.Pace.{Kind, Wrote, Asked}
use Rattle.tk_meeting.proofs.Standing.{frames_of}
use Rattle.tk_meeting.proofs.Course.{Course, newest_by, came_of, stream_len, course_of}
use Rattle.tk_meeting.proofs.servers.Numbers.{stream-length}
use Rattle.tk_meeting.proofs.courses.Keeps.{Keeps}
use Rattle.tk_meeting.proofs.hidden.Unsaid.{same-course}
use Rattle.tk_meeting.proofs.hidden.LookAlike.{IsKept, is-kept, sized-alike}
use Rattle.tk_meeting.proofs.hidden.Outlines.{KindsAgree, kinds-shown, kinds-in_format_1}

length-frames : (S : Script) (b : WordBook) (c j g k : ℕ) (kinds : List Kind) →
    length (frames_of S b c j g k kinds) ≡ length kinds
unfolding frames_of
length-frames S b c j g k [] = refl
length-frames S b c j g k (Wrote ∷ kinds) = ap suc (length-frames S b c j (g + 1) k kinds)
length-frames S b c j g k (Asked ∷ kinds) = ap suc (length-frames S b c j g (k + 1) kinds)

-- how many frames of server j are on their way to client c
abbrev count_down : Shape → Course → ℕ → ℕ → ℕ
count_down shape q j c =
    stream_len shape (newest_by shape (q.writes j)) (q.reads j c) - came_of (q.paces c) j

-- how many frames are on each link, where a group keeps its course
record CountsLink (S : Script) (q : Course) (m : Meeting) (j c : ℕ) : Type 0 where
  up : length (m.up c j) ≡ length (q.up c j)
  down : length (m.down j c) ≡ count_down S.shape q j c

counts-link : (S : Script) (b : WordBook) (q : Course) (m : Meeting) → Keeps S b q m → (j c : ℕ) → 1 ≤ j →
    j ≤ S.shape.servers → c < S.shape.clients → CountsLink S q m j c
counts-link S b q m keeps j c one most low =
    let link = (keeps.clients c low).links j one most in
    let n = newest_by S.shape (q.writes j) in
    record {
      up = ap length link.up_is ∙ length-frames S b c j (q.writes j c) (q.reads j c) (q.up c j);
      down =
          ap length link.down_is
          ∙ length-drop (came_of (q.paces c) j) (stream S b c j n (q.reads j c))
          ∙ ap (λ k. k - came_of (q.paces c) j) (stream-length S b c j n (q.reads j c));
    }

-- reads of one form are of the same kinds
kinds-of : (shape : Shape) (a b : WordBook) → HaveOneForm shape a b → KindsAgree shape a b
kinds-of shape a b (inl one) = kinds-in_format_1 shape a b one
kinds-of shape a b (inr shows) = kinds-shown shape a b shows

pub keep-pace : MeetingsKeepPace
keep-pace A B a b shapes served other_served books other_books keys other_keys events more tells other_events
    rest other_tells same =
    let q = course_of A.shape events in
    let r = course_of B.shape other_events in
    let m = met A books events in
    let n = met B other_books other_events in
    let course : q ≡ r = same-course A.shape B.shape events other_events shapes same in
    let mine : IsKept A a q m = is-kept A a books events more served keys tells in
    let theirs : IsKept B b r n = is-kept B b other_books other_events rest other_served other_keys other_tells in
    let one : Keeps A a q m = mine.keeps in
    let other : Keeps B b r n = theirs.keeps in
    let clients : A.shape.clients ≡ B.shape.clients = ap (λ (s : Shape). s.clients) shapes in
    let servers : A.shape.servers ≡ B.shape.servers = ap (λ (s : Shape). s.servers) shapes in
    record {
      acted = λ c low.
          let at = (one.clients c low).at in
          let later = (other.clients c (subst (λ k. c < k) clients low)).at in
          record {
            written = at.written_is ∙ ap (λ (x : Course). (x.paces c).written) course ∙ sym later.written_is;
            asked = at.asked_is ∙ ap (λ (x : Course). (x.paces c).asked) course ∙ sym later.asked_is;
          };
      counted = λ j c first most low.
          let here = counts-link A a q m one j c first most low in
          let there = counts-link B b r n other j c first (subst (λ k. j ≤ k) servers most)
          (subst (λ k. c < k) clients low)
          in
          record {
            up = here.up ∙ ap (λ (x : Course). length (x.up c j)) course ∙ sym there.up;
            down = here.down ∙ (λ i. count_down (shapes i) (course i) j c) ∙ sym there.down;
          };
      sized = λ form j c first most low.
          sized-alike A B a b shapes q m n mine (subst (λ (x : Course). IsKept B b x n) (sym course) theirs) j c
          (kinds-of A.shape a b form) served other_served first most low;
    }
