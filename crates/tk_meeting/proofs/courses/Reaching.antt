-- A frame of a client reaches a server, and every course stays balanced.
use Rattle.tk_meeting.proofs.Terms.{◌≡◌, ℕ, ◌≤◌, ◌<◌, List, [], ◌∷◌, ◌+◌, cond, true, ◌∙◌, refl, ap, sym, arith}
use Rattle.tk_meeting.proofs.Terms.{ltb-true, le_trans, and_parts, leb-true, nat_lt, ◌&&◌, nat_le, Shape, Event, Said}
use Rattle.tk_meeting.proofs.Terms.{Ticked, WentAhead, Greeted, Up, Down, is_client, is_server, changed}
use Rattle.tk_meeting.proofs.Pace.{Kind, Wrote, Asked, ticked, sent_ahead}
use Rattle.tk_meeting.proofs.Course.{Course, first_course, newest_by, came_of, stream_len, goes_on, course_up}
use Rattle.tk_meeting.proofs.Course.{pace_down, course_down, moves, moved, course_of}
use Rattle.tk_meeting.proofs.courses.Acting.{wrote_in, asked_in}
use Rattle.tk_meeting.proofs.courses.Picks.{at-place, pick, itself}
use Rattle.tk_meeting.proofs.servers.Bumps.{newest-grows, bumped-above}
use Rattle.tk_meeting.proofs.servers.Numbers.{length-grows}
use Rattle.tk_meeting.proofs.courses.Balanced.{IsLinked, IsBalanced, ArePaces, first-balanced, goes_on-balanced}
use Rattle.tk_meeting.proofs.courses.Balanced.{ticked-ready, ahead-ready}
use Rattle.tk_meeting.proofs.courses.Coming.{down-ready}

-- where more came to servers, and as much less is on its way to them, a course stays balanced
reached : (shape : Shape) (q : Course) (writes reads : ℕ → ℕ → ℕ) (up : ℕ → ℕ → List Kind) →
    ((i d : ℕ) → q.writes i d ≤ writes i d) → ((i d : ℕ) → q.reads i d ≤ reads i d) →
    ((i d : ℕ) → writes i d + wrote_in (up d i) ≡ q.writes i d + wrote_in (q.up d i)) →
    ((i d : ℕ) → reads i d + asked_in (up d i) ≡ q.reads i d + asked_in (q.up d i)) → IsBalanced shape q →
    IsBalanced shape (record q { writes = writes; reads = reads; up = up })
reached shape q writes reads up more_writes more_reads as_written as_asked h =
    record {
      each = λ d low.
          record {
            ready =
                record {
                  pace = (h.each d low).ready.pace;
                  links = λ i one most. link d i ((h.each d low).ready.links i one most);
                };
            idle = (h.each d low).idle;
          };
    }
  where
    link : (d i : ℕ) → IsLinked shape d (q.paces d) i (q.writes i) (q.reads i d) (q.up d i) →
        IsLinked shape d (q.paces d) i (writes i) (reads i d) (up d i)
    link d i l =
        record {
          wrote = as_written i d ∙ l.wrote;
          asked = as_asked i d ∙ l.asked;
          came =
              le_trans l.came
              (length-grows shape (newest_by shape (q.writes i)) (newest_by shape (writes i)) (q.reads i d) (reads i d)
              (newest-grows shape (q.writes i) (writes i) (λ e client. more_writes i e)) (more_reads i d));
          ordered = l.ordered;
        }

-- ---- one frame

-- one more came to server j of client c, and is no more on its way
module _ (c j : ℕ) (f : ℕ → ℕ → ℕ) (up : ℕ → ℕ → List Kind) (left : List Kind) where
  one_came : (i d : ℕ) → f i d ≤ changed j (changed c (f j c + 1) (f j)) f i d
  one_came i d =
      at-place (λ k t. f k d ≤ cond t (changed c (f j c + 1) (f j)) (f k) d) j i (bumped-above c (f j) d)
      (λ _. omega arith)

  -- what is counted of these frames, before and after
  as_many : (n : List Kind → ℕ) → f j c + 1 + n left ≡ f j c + n (up c j) → (i d : ℕ) →
      changed j (changed c (f j c + 1) (f j)) f i d + n (changed c (changed j left (up c)) up d i)
      ≡ f i d + n (up d i)
  as_many n one i d =
      at-place (λ x s.
      cond s (changed c (f j c + 1) (f j)) (f x) d + n (changed c (changed j left (up c)) up d x) ≡ f x d + n (up d x))
      j i
      (at-place (λ y t.
      cond t (f j c + 1) (f j y) + n (cond t (changed j left (up c)) (up y) j) ≡ f j y + n (up y j)) c d
      (ap (λ s. f j c + 1 + n (cond s left (up c j))) (itself j) ∙ one) (λ _. refl))
      (λ e. at-place (λ y t. f i d + n (cond t (changed j left (up c)) (up y) i) ≡ f i d + n (up y i)) c d
      (ap (λ s. f i d + n (cond s left (up c i))) e) (λ _. refl))

  -- and of frames of the other kind
  as_before : (n : List Kind → ℕ) → n left ≡ n (up c j) → (i d : ℕ) →
      f i d + n (changed c (changed j left (up c)) up d i) ≡ f i d + n (up d i)
  as_before n same i d =
      at-place (λ y t. f i d + n (cond t (changed j left (up c)) (up y) i) ≡ f i d + n (up y i)) c d
      (at-place (λ x s. f i d + n (cond s left (up c x)) ≡ f i d + n (up c x)) j i (ap (λ k. f i d + k) same)
      (λ _. refl))
      (λ _. refl)

pub up-balanced : (shape : Shape) (q : Course) (c j : ℕ) (kinds : List Kind) → q.up c j ≡ kinds →
    IsBalanced shape q → IsBalanced shape (course_up q c j kinds)
up-balanced shape q c j [] is h = h
up-balanced shape q c j (Wrote ∷ left) is h =
    let writes = changed j (changed c (q.writes j c + 1) (q.writes j)) q.writes in
    let wrote : q.writes j c + 1 + wrote_in left ≡ q.writes j c + wrote_in (q.up c j) =
    let first : wrote_in (q.up c j) ≡ 1 + wrote_in left = ap wrote_in is in omega (arith, first)
    in
    reached shape q writes q.reads (changed c (changed j left (q.up c)) q.up) (one_came c j q.writes q.up left)
    (λ i d. omega arith) (as_many c j q.writes q.up left wrote_in wrote)
    (as_before c j q.reads q.up left asked_in (sym (ap asked_in is))) h
up-balanced shape q c j (Asked ∷ left) is h =
    let reads = changed j (changed c (q.reads j c + 1) (q.reads j)) q.reads in
    let asked : q.reads j c + 1 + asked_in left ≡ q.reads j c + asked_in (q.up c j) =
    let first : asked_in (q.up c j) ≡ 1 + asked_in left = ap asked_in is in omega (arith, first)
    in
    reached shape q q.writes reads (changed c (changed j left (q.up c)) q.up) (λ i d. omega arith)
    (one_came c j q.reads q.up left) (as_before c j q.writes q.up left wrote_in (sym (ap wrote_in is)))
    (as_many c j q.reads q.up left asked_in asked) h

-- ---- any event

pub server-range : (shape : Shape) (j : ℕ) → is_server shape j ≡ true → (1 ≤ j) × (j ≤ shape.servers)
server-range shape j is =
    let parts = and_parts (nat_lt 0 j) (nat_le j shape.servers) is in
    (omega (arith, ltb-true 0 j parts.0), leb-true j shape.servers parts.1)

pub client-range : (shape : Shape) (c : ℕ) → is_client shape c ≡ true → c < shape.clients
client-range shape c is = ltb-true c shape.clients is

module _ (shape : Shape) (paces : ArePaces shape) where
  pub down-balanced : (q : Course) (j c : ℕ) → 1 ≤ j → j ≤ shape.servers → c < shape.clients →
      IsBalanced shape q → IsBalanced shape (course_down shape q j c)
  down-balanced q j c low high within h =
      let p = q.paces c in
      let count = stream_len shape (newest_by shape (q.writes j)) (q.reads j c) in
      pick (λ k. IsBalanced shape (cond k (goes_on shape q c (pace_down shape j p)) q))
      (nat_lt (came_of p j) count) (λ more.
      goes_on-balanced shape paces q c (pace_down shape j p) h
      (down-ready shape paces c j p q.writes q.reads (q.up c) low high (h.each c within).ready
      (ltb-true (came_of p j) count more))) (λ none. h)

  pub moves-balanced : (q : Course) (x : Event) → IsBalanced shape q → IsBalanced shape (moves shape q x)
  unfolding moves
  moves-balanced q (Said c log text) h = h
  moves-balanced q (Ticked c) h =
      pick (λ k. IsBalanced shape (cond k (goes_on shape q c (ticked shape (q.paces c))) q))
      (is_client shape c) (λ is.
      goes_on-balanced shape paces q c (ticked shape (q.paces c)) h
      (ticked-ready shape paces c (q.paces c) q.writes q.reads (q.up c)
      (h.each c (client-range shape c is)).ready)) (λ none. h)
  moves-balanced q (WentAhead c turns) h =
      pick (λ k. IsBalanced shape (cond k (goes_on shape q c (sent_ahead shape turns (q.paces c))) q))
      (is_client shape c) (λ is.
      goes_on-balanced shape paces q c (sent_ahead shape turns (q.paces c)) h
      (ahead-ready shape paces c turns (q.paces c) q.writes q.reads (q.up c)
      (h.each c (client-range shape c is)).ready)) (λ none. h)
  moves-balanced q (Greeted c j count) h = h
  moves-balanced q (Up c j) h =
      pick (λ k. IsBalanced shape (cond k (course_up q c j (q.up c j)) q))
      (is_client shape c && is_server shape j) (λ is. up-balanced shape q c j (q.up c j) refl h) (λ none. h)
  moves-balanced q (Down j c) h =
      pick (λ k. IsBalanced shape (cond k (course_down shape q j c) q))
      (is_server shape j && is_client shape c) (λ is.
      let parts = and_parts (is_server shape j) (is_client shape c) is in
      let range = server-range shape j parts.0 in
      down-balanced q j c range.0 range.1 (client-range shape c parts.1) h) (λ none. h)

  moved-balanced : (q : Course) (xs : List Event) → IsBalanced shape q → IsBalanced shape (moved shape q xs)
  unfolding moved
  moved-balanced q [] h = h
  moved-balanced q (x ∷ xs) h = moved-balanced (moves shape q x) xs (moves-balanced q x h)

  -- every course is balanced
  pub all-balanced : (events : List Event) → IsBalanced shape (course_of shape events)
  all-balanced events = moved-balanced first_course events (first-balanced shape paces)
