-- A frame that comes to a server keeps what a meeting has where its course is known.
use Rattle.tk_meeting.proofs.Terms.{◌≡◌, ℕ, ◌≤◌, ◌<◌, List, [], ◌∷◌, length, ◌+◌, ◌==◌, cond, ◌++◌, false, ◌∙◌, refl}
use Rattle.tk_meeting.proofs.Terms.{ap, sym, arith, subst, drop, drop-append-le, turn_count, WordBook, IsBook}
use Rattle.tk_meeting.proofs.Terms.{write_frame, read_frame, Script, SeatsAndPackets, comes_up, changed, frames_for, Meeting}
use Rattle.tk_meeting.proofs.Terms.{server_went}
use Rattle.tk_serve.specs.Steps.{step}
use Rattle.tk_meeting.proofs.Canonical.{AreFronts, stream, write_in, read_from}
use Rattle.tk_meeting.proofs.Pace.{Kind, Wrote, Asked}
use Rattle.tk_meeting.proofs.Standing.{frames_of}
use Rattle.tk_meeting.proofs.Course.{Course, newest_by, came_of, course_up}
use Rattle.tk_meeting.proofs.servers.Numbers.{stream-length}
use Rattle.tk_meeting.proofs.servers.Gains.{TakesFrame}
use Rattle.tk_meeting.proofs.servers.Taken.{write-steps, read-steps}
use Rattle.tk_meeting.proofs.courses.Picks.{at-place, itself, unchanged}
use Rattle.tk_meeting.proofs.courses.Acting.{wrote_in, asked_in}
use Rattle.tk_meeting.proofs.courses.Balanced.{IsBalanced}
use Rattle.tk_meeting.proofs.courses.Keeps.{LinkKeeps, Keeps}

module _ (S : Script) (b : WordBook) (q : Course) (m : Meeting) (keeps : Keeps S b q m)
    (balanced : IsBalanced S.shape q) (c j : ℕ) (low : c < S.shape.clients) (one : 1 ≤ j)
    (most : j ≤ S.shape.servers) where
  -- server j with a frame more of client c, where these are left
  module _ (writes reads : ℕ → ℕ) (left : List Kind) (frames : List (List ℕ)) (s : SeatsAndPackets)
      (takes : TakesFrame S b j (q.writes j) (q.reads j) writes reads s)
      (up_left : frames ≡ frames_of S b c j (writes c) (reads c) left)
      (writes_same : (d : ℕ) → (d == c) ≡ false → writes d ≡ q.writes j d)
      (reads_same : (d : ℕ) → (d == c) ≡ false → reads d ≡ q.reads j d) where
    abbrev writes_then : ℕ → ℕ → ℕ
    writes_then = changed j writes q.writes

    abbrev reads_then : ℕ → ℕ → ℕ
    reads_then = changed j reads q.reads

    abbrev down_then : ℕ → ℕ → List (List ℕ)
    down_then = changed j (λ d. m.down j d ++ frames_for (d + 1) s.packets) m.down

    down_more : (d : ℕ) → d < S.shape.clients → m.down j d ++ frames_for (d + 1) s.packets
        ≡ drop (came_of (q.paces d) j) (stream S b d j (newest_by S.shape writes) (reads d))
    down_more d within =
        let came = came_of (q.paces d) j in
        let n = newest_by S.shape (q.writes j) in
        let old = stream S b d j n (q.reads j d) in
        let more = frames_for (d + 1) s.packets in
        let all : came ≤ length old =
        omega (
          arith,
          ((balanced.each d within).ready.links j one most).came,
          stream-length S b d j n (q.reads j d),
        )
        in
        ap (λ (xs : List (List ℕ)). xs ++ more) ((keeps.clients d within).links j one most).down_is
        ∙ sym (drop-append-le came old more all) ∙ ap (drop came) (takes.tells d within)

    own_link : (i : ℕ) → 1 ≤ i → i ≤ S.shape.servers →
        LinkKeeps S b c i (q.paces c) (writes_then i) (reads_then i c) (changed j left (q.up c) i)
        (changed j frames (m.up c) i) (down_then i c)
    own_link i first last =
        at-place (λ n k.
        LinkKeeps S b c n (q.paces c) (cond k writes (q.writes n)) (cond k reads (q.reads n) c)
        (cond k left (q.up c n)) (cond k frames (m.up c n))
        (cond k (λ d. m.down j d ++ frames_for (d + 1) s.packets) (m.down n) c)) j i
        (record { up_is = up_left; down_is = down_more c low }) (λ other. (keeps.clients c low).links i first last)

    other_link : (d : ℕ) → d < S.shape.clients → (d == c) ≡ false → (i : ℕ) → 1 ≤ i → i ≤ S.shape.servers →
        LinkKeeps S b d i (q.paces d) (writes_then i) (reads_then i d) (q.up d i) (m.up d i) (down_then i d)
    other_link d within apart i first last =
        let k = (keeps.clients d within).links j one most in
        at-place (λ n t.
        LinkKeeps S b d n (q.paces d) (cond t writes (q.writes n)) (cond t reads (q.reads n) d) (q.up d n)
        (m.up d n) (cond t (λ d. m.down j d ++ frames_for (d + 1) s.packets) (m.down n) d)) j i (record {
          up_is = k.up_is
              ∙ (λ t.
              frames_of S b d j (sym (writes_same d apart) t) (sym (reads_same d apart) t) (q.up d j));
          down_is = down_more d within;
        }) (λ other. (keeps.clients d within).links i first last)

    pub took-keeps :
        let after : Course =
        record q { writes = writes_then; reads = reads_then; up = changed c (changed j left (q.up c)) q.up }
        in
        let taken = record m { up = changed c (changed j frames (m.up c)) m.up } in
        Keeps S b after (server_went taken j s)
    took-keeps =
        record {
          clients = λ d within.
              let k = keeps.clients d within in
              record {
                at = k.at;
                told_is = k.told_is;
                going = k.going;
                links = λ i first last.
                    at-place (λ n k.
                    LinkKeeps S b n i (q.paces n) (writes_then i) (reads_then i n)
                    (cond k (changed j left (q.up c)) (q.up n) i)
                    (cond k (changed j frames (m.up c)) (m.up n) i) (down_then i n)) c d (own_link i first last)
                    (λ other. other_link d within other i first last);
              };
          servers = λ i first last.
              at-place (λ n k.
              AreFronts S b n (cond k writes (q.writes n)) (cond k reads (q.reads n)) (cond k s.seats (m.seats n))) j i
              takes.fronts (λ other. keeps.servers i first last);
        }

  -- no change
  stays : (f : ℕ → ℕ → ℕ) → changed j (f j) f ≡ f
  stays f = λ i k. unchanged j f k i

  up_by : IsBook S.shape b → (kinds : List Kind) → q.up c j ≡ kinds →
      Keeps S b (course_up q c j kinds) (comes_up S.shape m c j (m.up c j))
  unfolding frames_of
  up_by book [] is =
      let none : m.up c j ≡ [] =
      ((keeps.clients c low).links j one most).up_is
      ∙ ap (frames_of S b c j (q.writes j c) (q.reads j c)) is
      in
      subst (λ (frames : List (List ℕ)). Keeps S b q (comes_up S.shape m c j frames)) (sym none) keeps
  up_by book (Wrote ∷ left) is =
      let at = balanced.each c low in
      let linked = at.ready.links j one most in
      let wrote = q.writes j c in
      let asked = q.reads j c in
      let more = changed c (wrote + 1) (q.writes j) in
      let now : more c ≡ wrote + 1 = λ i. cond (itself c i) (wrote + 1) wrote in
      let frames = frames_of S b c j (wrote + 1) asked left in
      let first : m.up c j ≡ write_frame (write_in S b c wrote) ∷ frames =
      ((keeps.clients c low).links j one most).up_is ∙ ap (frames_of S b c j wrote asked) is
      in
      let due : wrote < turn_count S.shape =
      omega (arith, linked.wrote, at.ready.pace.written_in, ap wrote_in is)
      in
      let s = step S.shape (m.seats j) c (write_frame (write_in S b c wrote)) in
      let takes =
      write-steps S b j (q.writes j) (q.reads j) (m.seats j) book one most (keeps.servers j one most) c low due
      in
      let kept =
      took-keeps more (q.reads j) left frames s takes (ap (λ n. frames_of S b c j n asked left) (sym now))
      (λ d other i. cond (other i) (wrote + 1) (q.writes j d)) (λ d other. refl)
      in
      subst (λ (fs : List (List ℕ)).
      Keeps S b (course_up q c j (Wrote ∷ left)) (comes_up S.shape m c j fs)) (sym first)
      (subst (λ (r : ℕ → ℕ → ℕ). Keeps S b (record q {
        writes = changed j more q.writes;
        reads = r;
        up = changed c (changed j left (q.up c)) q.up;
      }) (comes_up S.shape m c j (write_frame (write_in S b c wrote) ∷ frames))) (stays q.reads) kept)
  up_by book (Asked ∷ left) is =
      let at = balanced.each c low in
      let linked = at.ready.links j one most in
      let wrote = q.writes j c in
      let asked = q.reads j c in
      let more = changed c (asked + 1) (q.reads j) in
      let now : more c ≡ asked + 1 = λ i. cond (itself c i) (asked + 1) asked in
      let frames = frames_of S b c j wrote (asked + 1) left in
      let first : m.up c j ≡ read_frame (read_from S b c j asked) ∷ frames =
      ((keeps.clients c low).links j one most).up_is ∙ ap (frames_of S b c j wrote asked) is
      in
      let due : asked < turn_count S.shape =
      omega (arith, linked.asked, at.ready.pace.asked_in, at.ready.pace.written_in, ap asked_in is)
      in
      let s = step S.shape (m.seats j) c (read_frame (read_from S b c j asked)) in
      let takes =
      read-steps S b j (q.writes j) (q.reads j) (m.seats j) book one most (keeps.servers j one most) c low due
      in
      let kept =
      took-keeps (q.writes j) more left frames s takes (ap (λ n. frames_of S b c j wrote n left) (sym now))
      (λ d other. refl) (λ d other i. cond (other i) (asked + 1) (q.reads j d))
      in
      subst (λ (fs : List (List ℕ)).
      Keeps S b (course_up q c j (Asked ∷ left)) (comes_up S.shape m c j fs)) (sym first)
      (subst (λ (r : ℕ → ℕ → ℕ). Keeps S b (record q {
        writes = r;
        reads = changed j more q.reads;
        up = changed c (changed j left (q.up c)) q.up;
      }) (comes_up S.shape m c j (read_frame (read_from S b c j asked) ∷ frames))) (stays q.writes) kept)

  pub up-keeps : IsBook S.shape b → Keeps S b (course_up q c j (q.up c j)) (comes_up S.shape m c j (m.up c j))
  up-keeps book = up_by book (q.up c j) refl
