-- A frame that comes to a client keeps what a meeting has where its course is known.
use Rattle.tk_meeting.proofs.Terms.{◌≡◌, ℕ, ◌≤◌, ◌<◌, List, [], ◌∷◌, ◌+◌, ◌/◌, ◌==◌, cond, ◌++◌, ◌-◌, Bool, true, false}
use Rattle.tk_meeting.proofs.Terms.{◌∙◌, refl, ap, sym, arith, subst, append-nil, drop, eqb-true, ltb-true}
use Rattle.tk_meeting.proofs.Terms.{drop_of_length-le, eqb-false, ltb-false, nat_lt, WordBook, words_of, one_if, Script}
use Rattle.tk_meeting.proofs.Terms.{flat_map-next, reader_before, PacketView, MemberState, news, served, comes_down}
use Rattle.tk_meeting.proofs.Terms.{news_before, changed, Meeting}
use Rattle.tk_meeting.proofs.Canonical.{stream, serial, reply_in, epoch_in}
use Rattle.tk_meeting.proofs.Pace.{Pace, settled, reply_came, epoch_came, all_replied, with_reply_of, closed}
use Rattle.tk_meeting.proofs.Standing.{Readies}
use Rattle.tk_meeting.proofs.Course.{Course, newest_by, came_of, replies_of, stream_len, goes_on, pace_down}
use Rattle.tk_meeting.proofs.Course.{course_down}
use Rattle.tk_meeting.proofs.servers.Numbers.{stream-length, next-reply, next-epoch}
use Rattle.tk_meeting.proofs.telling.Foreseeing.{Foresees}
use Rattle.tk_meeting.proofs.courses.Picks.{at-place, pick, itself}
use Rattle.tk_meeting.proofs.courses.Balanced.{IsReady, IsBalanced, ArePaces}
use Rattle.tk_meeting.proofs.courses.Coming.{RepliesNext, replies-next, tells-next, replies-came, reply-numbers}
use Rattle.tk_meeting.proofs.courses.Coming.{reply-ready, epoch-ready}
use Rattle.tk_meeting.proofs.courses.Keeps.{Keeps}
use Rattle.tk_meeting.proofs.courses.Members.{IsPoised}
use Rattle.tk_meeting.proofs.courses.Poised.{AreMembers, step-keeps, poised, news_then}
use Rattle.tk_meeting.proofs.courses.Speaking.{none-later}

-- ---- how many frames came

replied_count : (r s : ℕ) (t before : Bool) → (t ≡ true → before ≡ false) →
    r ≡ s + one_if (cond t true before) → r ≡ s + one_if before + one_if t
replied_count r s true before fresh is = omega (arith, is, ap one_if (fresh refl))
replied_count r s false before fresh is = omega (arith, is)

-- a reply of server j is one frame more of it
came-reply : (S : Script) (p : Pace) (j i : ℕ) → RepliesNext S.shape p j → 1 ≤ i → i ≤ S.shape.servers →
    came_of (reply_came S.shape j p) i ≡ came_of p i + one_if (i == j)
came-reply S p j i next low high =
    let q = reply_came S.shape j p in
    let told : q.epochs i ≡ p.epochs i = λ k. (reply-numbers S.shape j p).2 k i in
    let replies : replies_of q i ≡ replies_of p i + one_if (i == j) =
    replied_count (replies_of q i) (settled p) (i == j) (p.replied i)
    (λ same. ap p.replied (eqb-true i j same) ∙ next.not_yet)
    (replies-came S.shape j i p next.open_still next.some low high)
    in
    omega (arith, told, replies)

epoch_count : (p : Pace) (j i : ℕ) (t : Bool) → (i == j) ≡ t →
    cond t (p.epochs j + 1) (p.epochs i) ≡ p.epochs i + one_if t
epoch_count p j i true is = ap (λ n. p.epochs n + 1) (sym (eqb-true i j is))
epoch_count p j i false is = omega arith

came-epoch : (p : Pace) (j i : ℕ) → came_of (epoch_came j p) i ≡ came_of p i + one_if (i == j)
came-epoch p j i = omega (arith, epoch_count p j i (i == j) refl)

-- ---- what the host is told

news_till : (S : Script) (b : WordBook) (c k n : ℕ) → k + 1 ≡ n →
    let w = words_of S.shape b in
    news_before S b c k ++ news S.shape (reader_before S w (serial S) c k) (reader_before S w (serial S) c n)
    ≡ news_before S b c n
news_till S b c k n next =
    let w = words_of S.shape b in
    let read = reader_before S w (serial S) c in
    ap (λ g. news_before S b c k ++ news S.shape (read k) (read g)) (sym next)
    ∙ sym (flat_map-next (λ g. news S.shape (read g) (read (g + 1))) k) ∙ ap (news_before S b c) next

told_by : (S : Script) (b : WordBook) (c j : ℕ) (p : Pace) (t : Bool) → p.is_open ≡ true → 0 < p.asked →
    let w = words_of S.shape b in
    let read = reader_before S w (serial S) c in
    news_before S b c (settled p) ++ cond t (news S.shape (read (p.asked - 1)) (read p.asked)) []
    ≡ news_before S b c (settled (cond t (closed (with_reply_of j p)) (with_reply_of j p)))
told_by S b c j p true open_is some =
    let read = reader_before S (words_of S.shape b) (serial S) c in
    let before : settled p ≡ p.asked - 1 = ap (λ t. cond t (p.asked - 1) p.asked) open_is in
    (λ i. news_before S b c (before i) ++ news S.shape (read (p.asked - 1)) (read p.asked))
    ∙ news_till S b c (p.asked - 1) p.asked (omega (arith, some))
told_by S b c j p false open_is some = append-nil (news_before S b c (settled p))

told-then : (S : Script) (b : WordBook) (c j : ℕ) (p : Pace) → RepliesNext S.shape p j →
    news_before S b c (settled p) ++ news_then S b c j p ≡ news_before S b c (settled (reply_came S.shape j p))
told-then S b c j p next =
    told_by S b c j p (all_replied S.shape (with_reply_of j p)) next.open_still next.some

-- ---- the step

module _ (S : Script) (b : WordBook) (paces : ArePaces S.shape) (laws : AreMembers S b) (q : Course)
    (m : Meeting) (keeps : Keeps S b q m) (balanced : IsBalanced S.shape q) (now : Foresees S m)
    (j c : ℕ) (one : 1 ≤ j) (most : j ≤ S.shape.servers) (low : c < S.shape.clients) where
  abbrev pace : Pace
  pace = q.paces c

  abbrev member : MemberState
  member = m.members c

  -- what server i tells the client
  abbrev told_to : ℕ → List (List ℕ)
  told_to i = stream S b c i (newest_by S.shape (q.writes i)) (q.reads i c)

  abbrev count : ℕ
  count = stream_len S.shape (newest_by S.shape (q.writes j)) (q.reads j c)

  abbrev rest : List (List ℕ)
  rest = drop (came_of pace j + 1) (told_to j)

  -- the frames on their way, once one of server j came
  abbrev left_down : ℕ → ℕ → List (List ℕ)
  left_down = changed j (changed c rest (m.down j)) m.down

  abbrev left : Meeting
  left = record m { down = left_down }

  downs_left : (p : Pace) → ((i : ℕ) → 1 ≤ i → i ≤ S.shape.servers →
      came_of p i ≡ came_of pace i + one_if (i == j)) → (i : ℕ) → 1 ≤ i → i ≤ S.shape.servers →
      left_down i c ≡ drop (came_of p i) (told_to i)
  downs_left p came i first last =
      at-place (λ n k. came_of p n ≡ came_of pace n + one_if k →
      cond k (changed c rest (m.down j)) (m.down n) c ≡ drop (came_of p n) (told_to n)) j i
      (λ more. (λ k. cond (itself c k) rest (m.down j c)) ∙ ap (λ n. drop n (told_to j)) (sym more))
      (λ other more.
      ((keeps.clients c low).links i first last).down_is
      ∙ ap (λ n. drop n (told_to i)) (omega (arith, more)))
      (came i first last)

  others_left : (d i : ℕ) → (d == c) ≡ false → left_down i d ≡ m.down i d
  others_left d i other =
      at-place (λ n k. cond k (changed c rest (m.down j)) (m.down n) d ≡ m.down n d) j i
      (λ k. cond (other k) rest (m.down j d)) (λ far. refl)

  left_poised : (p : Pace) (news : List PacketView) → IsReady S.shape c p q.writes q.reads (q.up c) →
      p.written ≡ pace.written → news_before S b c (settled pace) ++ news ≡ news_before S b c (settled p) →
      ((i : ℕ) → 1 ≤ i → i ≤ S.shape.servers → came_of p i ≡ came_of pace i + one_if (i == j)) →
      IsPoised S b q left c p (m.said c p.written) news
  left_poised p news ready written told came =
      let k = keeps.clients c low in
      poised S b q m m.said left_down c p (m.said c p.written) news keeps low ready
      (ap (λ xs. xs ++ news) k.told_is ∙ told) (downs_left p came) (λ d other. refl) others_left refl
      (λ n past.
      none-later S b paces laws q m keeps balanced now c low n (omega (arith, past, written)))

  -- a frame that came, which the member takes so
  took : (p : Pace) (news : List PacketView) (frame : List ℕ) → IsReady S.shape c p q.writes q.reads (q.up c) →
      p.written ≡ pace.written → news_before S b c (settled pace) ++ news ≡ news_before S b c (settled p) →
      ((i : ℕ) → 1 ≤ i → i ≤ S.shape.servers → came_of p i ≡ came_of pace i + one_if (i == j)) →
      m.down j c ≡ frame ∷ rest → Readies S b c p (m.said c pace.written) news (served b member j frame) →
      let went = comes_down (λ d. b) m j c (m.down j c) in
      Foresees S went → Keeps S b (goes_on S.shape q c p) went
  took p news frame ready written told came is readies =
      let saids : m.said c pace.written ≡ m.said c p.written = ap (m.said c) (sym written) in
      subst (λ (frames : List (List ℕ)).
      Foresees S (comes_down (λ d. b) m j c frames) →
      Keeps S b (goes_on S.shape q c p) (comes_down (λ d. b) m j c frames)) (sym is)
      (step-keeps S b paces laws q left c p (m.said c p.written) news (served b member j frame) low ready.pace
      (left_poised p news ready written told came)
      (subst (λ ys. Readies S b c p ys news (served b member j frame)) saids readies))

  abbrev is_more : Type 0
  is_more = came_of pace j < count

  -- a reply
  reply_keeps : is_more → pace.epochs j ≡ replies_of pace j / S.shape.ticks →
      let went = comes_down (λ d. b) m j c (m.down j c) in
      Foresees S went → Keeps S b (goes_on S.shape q c (reply_came S.shape j pace)) went
  reply_keeps more due =
      let k = keeps.clients c low in
      let ready = (balanced.each c low).ready in
      let next =
      replies-next S.shape c pace j (q.writes j) (q.reads j c) (q.up c j) ready.pace
      (ready.links j one most) more due
      in
      let frames : m.down j c ≡ reply_in S b c j (pace.asked - 1) ∷ rest =
      (k.links j one most).down_is
      ∙ next-reply S b c j (newest_by S.shape (q.writes j)) (q.reads j c) (replies_of pace j) (pace.epochs j) due
      more
      ∙ ap (λ g. reply_in S b c j g ∷ rest) next.turn
      in
      took (reply_came S.shape j pace) (news_then S b c j pace) (reply_in S b c j (pace.asked - 1))
      (reply-ready S.shape paces c j pace q.writes q.reads (q.up c) one most ready next more)
      (reply-numbers S.shape j pace).0 (told-then S b c j pace next)
      (λ i first last. came-reply S pace j i next first last) frames
      (laws.reply c j pace (m.said c pace.written) member low one most ready.pace k.at next.open_still
      next.not_yet)

  -- an epoch
  epoch_keeps : is_more → (pace.epochs j ≡ replies_of pace j / S.shape.ticks → ⊥) →
      let went = comes_down (λ d. b) m j c (m.down j c) in
      Foresees S went → Keeps S b (goes_on S.shape q c (epoch_came j pace)) went
  epoch_keeps more other =
      let k = keeps.clients c low in
      let ready = (balanced.each c low).ready in
      let next =
      tells-next S.shape c pace j (q.writes j) (q.reads j c) (q.up c j) (ready.links j one most) more other
      in
      let frames : m.down j c ≡ epoch_in S b (pace.epochs j + 1) ∷ rest =
      (k.links j one most).down_is
      ∙ next-epoch S b c j (newest_by S.shape (q.writes j)) (q.reads j c) (replies_of pace j) (pace.epochs j)
      next.behind more
      in
      took (epoch_came j pace) [] (epoch_in S b (pace.epochs j + 1))
      (epoch-ready S.shape paces c j pace q.writes q.reads (q.up c) ready next more) refl
      (append-nil (news_before S b c (settled pace))) (λ i first last. came-epoch pace j i) frames
      (laws.epoch c j pace (m.said c pace.written) member low one most ready.pace k.at next.within)

  -- there is none
  none_down : count ≤ came_of pace j → m.down j c ≡ []
  none_down past =
      ((keeps.clients c low).links j one most).down_is
      ∙ drop_of_length-le (told_to j)
      (omega (
        arith,
        past,
        stream-length S b c j (newest_by S.shape (q.writes j)) (q.reads j c),
      ))

  pub down-keeps : let went = comes_down (λ d. b) m j c (m.down j c) in
      Foresees S went → Keeps S b (course_down S.shape q j c) went
  down-keeps f =
      let went = comes_down (λ d. b) m j c (m.down j c) in
      pick (λ k. Keeps S b (cond k (goes_on S.shape q c (pace_down S.shape j pace)) q) went)
      (nat_lt (came_of pace j) count)
      (λ yet. let more = ltb-true (came_of pace j) count yet in
      pick (λ k.
      Keeps S b (goes_on S.shape q c (cond k (reply_came S.shape j pace) (epoch_came j pace))) went)
      (pace.epochs j == replies_of pace j / S.shape.ticks)
      (λ due. reply_keeps more (eqb-true (pace.epochs j) (replies_of pace j / S.shape.ticks) due) f)
      (λ other. epoch_keeps more (eqb-false (pace.epochs j) (replies_of pace j / S.shape.ticks) other) f))
      (λ all.
      subst (λ (frames : List (List ℕ)). Keeps S b q (comes_down (λ d. b) m j c frames))
      (sym (none_down (ltb-false (came_of pace j) count all))) keeps)
