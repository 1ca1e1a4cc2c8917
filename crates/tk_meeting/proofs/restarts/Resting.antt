-- A member that acted has nothing due, and put to each server as many frames as it wrote and asked.
use Rattle.tk_meeting.proofs.Terms.{◌≡◌, ℕ, ◌≤◌, ◌<◌, min, List, [], length, map, ◌+◌, ◌==◌, cond, ◌++◌, ◌-◌, ◌*◌, Bool}
use Rattle.tk_meeting.proofs.Terms.{true, false, replicate, Result, Ok, ◌∙◌, refl, ap, sym, zero, suc, arith, subst}
use Rattle.tk_meeting.proofs.Terms.{inl, inr, ap₂, length-append, Err, length-map, length-replicate, nat_lt, ◌&&◌}
use Rattle.tk_meeting.proofs.Terms.{nat_le, turn_count, Shape, WordBook, words_of, BookWords, read_frame, length-asked}
use Rattle.tk_meeting.proofs.Terms.{asked, target_over, Writing, PacketView, ActedMember, acts, behind, wrote, packets_from}
use Rattle.tk_meeting.proofs.Terms.{may_ask, asks, asks_if_due, unmoved, epoch_due, goes_ahead, goes_by_ticks}
use Rattle.tk_meeting.proofs.Terms.{ahead_due, ticks_due, followed_by, write_packets, after_turn, turns_known, known}
use Rattle.tk_meeting.proofs.Terms.{filter_of, marks_at, ToldMarks, MemberState, tells_and_acts, served, step, heard}
use Rattle.tk_meeting.proofs.Terms.{word_in, Fault, Peer, frames_for, Stand}
use Rattle.tk_meeting.proofs.members.Packets.{frames-append, own-at, AreToHost, host-alone}
use Rattle.tk_meeting.proofs.members.Wrote.{wrote-so}
use Rattle.tk_meeting.proofs.shown.Steps.{EndsOrReadies, heard_writing, heard-readies, served-readies}

-- nothing is due
pub record IsResting (m : MemberState) : Type 0 where
  pub none_ahead : ahead_due m ≡ 0
  pub none_ticks : ticks_due m ≡ 0
  pub no_read : may_ask m ≡ false

-- ---- one that rests does nothing

module _ (b : WordBook) (m : MemberState) (rests : IsResting m) where
  ahead-still : goes_ahead (words_of m.client.shape b) m ≡ unmoved m
  unfolding wrote
  ahead-still =
      ap (λ n. wrote (words_of m.client.shape b) n (record m { ahead = m.ahead - n })) rests.none_ahead
      ∙ ap (λ n. unmoved (record m { ahead = n })) (let same : m.ahead - 0 ≡ m.ahead = omega arith in same)

  ticks-still : goes_by_ticks (words_of m.client.shape b) m ≡ unmoved m
  unfolding wrote
  ticks-still =
      ap (λ n. wrote (words_of m.client.shape b) n (record m { ticks = m.ticks - n })) rests.none_ticks
      ∙ ap (λ n. unmoved (record m { ticks = n })) (let same : m.ticks - 0 ≡ m.ticks = omega arith in same)

  read-still : asks_if_due b m ≡ unmoved m
  read-still = ap (λ k. cond k (asks b m) (unmoved m)) rests.no_read

  pub rests-still : acts b m ≡ unmoved m
  unfolding acts
  rests-still =
      let w = words_of m.client.shape b in
      ap (λ (t : ActedMember). followed_by (followed_by t (goes_by_ticks w)) (asks_if_due b)) ahead-still
      ∙ ap (λ (t : ActedMember). followed_by (behind [] t) (asks_if_due b)) ticks-still
      ∙ ap (λ (t : ActedMember). behind [] t) read-still

-- ---- writing

-- where as many are taken of what is left as may be, no more may be
none-left : (some left done now rest left_then done_then : ℕ) → now ≡ min some (left - done) → rest ≡ some - now →
    left_then ≡ left → done + now ≤ done_then → min rest (left_then - done_then) ≡ 0
none-left some left done now rest left_then done_then n r l d = omega (arith, n, r, l, d)

known-same : (m l : MemberState) → l.client.shape ≡ m.client.shape → l.told ≡ m.told → turns_known l ≡ turns_known m
known-same m l shape told =
    ap₂ (λ (s : Shape) (t : List ToldMarks). min (turn_count s) ((known s t + 1) * s.ticks)) shape told

-- ---- frames for one server

pub one-each : (j a : ℕ) (frames : List (List ℕ)) → a ≤ j → j < a + length frames →
    length (frames_for j (packets_from a frames)) ≡ 1
one-each j a frames low high = ap length (own-at a frames j low high)

frames-both : (j : ℕ) (xs ys : List PacketView) →
    length (frames_for j (xs ++ ys)) ≡ length (frames_for j xs) + length (frames_for j ys)
frames-both j xs ys =
    ap length (frames-append j xs ys) ∙ length-append (frames_for j xs) (frames_for j ys)

module _ (j : ℕ) (low : 1 ≤ j) where
  write-counted : (w : BookWords) (m : MemberState) → j ≤ m.client.shape.servers →
      length (frames_for j (write_packets w m)) ≡ 1
  write-counted w m most =
      let frames = λ (f : List ℕ). replicate m.client.shape.servers f in
      let any : (f : List ℕ) → length (frames_for j (packets_from 1 (frames f))) ≡ 1 =
      λ f. one-each j 1 (frames f) low (let many = length-replicate m.client.shape.servers f in omega (arith, most, many))
      in
      any _

  wrote-counted : (w : BookWords) (n : ℕ) (m : MemberState) → j ≤ m.client.shape.servers →
      length (frames_for j (wrote w n m).packets) ≡ n
  unfolding wrote
  wrote-counted w zero m most = refl
  wrote-counted w (suc n) m most =
      let first = write-counted w m most in
      let rest = wrote-counted w n (after_turn m) most in
      let both = frames-both j (write_packets w m) (wrote w n (after_turn m)).packets in
      omega (arith, first, rest, both)

  asks-counted : (b : WordBook) (m : MemberState) → j ≤ m.client.shape.servers →
      length (frames_for j (asks b m).packets) ≡ 1
  asks-counted b m most =
      let shape = m.client.shape in
      let epoch = epoch_due shape m.asked in
      let marks = filter_of shape (marks_at shape m.told epoch) in
      let target = target_over (words_of shape b) marks epoch m.client in
      let frames = asked shape b m.asked m.client.number epoch target in
      let many = length-map frames read_frame in
      let each = length-asked shape b m.asked m.client.number epoch target in
      one-each j 1 (map read_frame frames) low (omega (arith, most, many, each))

  -- ---- acting

  -- it rests then, and put so many frames
  pub record Puts (before : MemberState) (t : ActedMember) : Type 0 where
    pub rests : IsResting t.member
    pub most : j ≤ t.member.client.shape.servers
    pub counted : t.member.written + t.member.asked
        ≡ before.written + before.asked + length (frames_for j t.packets)

  no-more : (m : MemberState) → ahead_due m ≡ 0 → ticks_due m ≡ 0 → (k : Bool) → may_ask m ≡ k →
      (b : WordBook) → IsResting (cond k (asks b m) (unmoved m)).member
  no-more m ahead ticks false none b = record { none_ahead = ahead; none_ticks = ticks; no_read = none }
  no-more m ahead ticks true due b =
      record { none_ahead = ahead; none_ticks = ticks; no_read = none (nat_lt (m.asked + 1) m.written) _ }
    where
      none : (x y : Bool) → (x && false && y) ≡ false
      none true y = refl
      none false y = refl

  read-counted : (b : WordBook) (m : MemberState) → j ≤ m.client.shape.servers → (k : Bool) →
      (cond k (asks b m) (unmoved m)).member.written + (cond k (asks b m) (unmoved m)).member.asked
      ≡ m.written + m.asked + length (frames_for j (cond k (asks b m) (unmoved m)).packets)
  read-counted b m most false = omega arith
  read-counted b m most true = let counts = asks-counted b m most in omega (arith, counts)

  read-most : (b : WordBook) (m : MemberState) → j ≤ m.client.shape.servers → (k : Bool) →
      j ≤ (cond k (asks b m) (unmoved m)).member.client.shape.servers
  read-most b m most false = most
  read-most b m most true = most

  pub acts-puts : (b : WordBook) (m : MemberState) → j ≤ m.client.shape.servers → Puts m (acts b m)
  unfolding acts
  acts-puts b m most =
      let w = words_of m.client.shape b in
      let n = ahead_due m in
      let from = record m { ahead = m.ahead - n } in
      let one_on = (goes_ahead w m).member in
      let one = wrote-so w n from in
      let k = ticks_due one_on in
      let next = record one_on { ticks = one_on.ticks - k } in
      let two_on = (goes_by_ticks w one_on).member in
      let two = wrote-so w k next in
      let one_shape : one_on.client.shape ≡ m.client.shape = one.shape in
      let two_shape : two_on.client.shape ≡ one_on.client.shape = two.shape in
      let one_written : one_on.written ≡ m.written + n = one.written in
      let two_written : two_on.written ≡ one_on.written + k = two.written in
      let one_ahead : one_on.ahead ≡ m.ahead - n = one.ahead in
      let two_ahead : two_on.ahead ≡ one_on.ahead = two.ahead in
      let one_asked : one_on.asked ≡ m.asked = one.asked in
      let two_asked : two_on.asked ≡ one_on.asked = two.asked in
      let most_one : j ≤ one_on.client.shape.servers = subst (λ (s : Shape). j ≤ s.servers) (sym one_shape) most in
      let most_two : j ≤ two_on.client.shape.servers = subst (λ (s : Shape). j ≤ s.servers) (sym two_shape) most_one in
      let ahead : ahead_due two_on ≡ 0 =
      none-left m.ahead (turn_count m.client.shape) m.written n two_on.ahead (turn_count two_on.client.shape)
      two_on.written refl (two_ahead ∙ one_ahead) (ap turn_count (two_shape ∙ one_shape))
      (omega (arith, one_written, two_written))
      in
      let ticks : ticks_due two_on ≡ 0 =
      none-left one_on.ticks (turns_known one_on) one_on.written k two_on.ticks (turns_known two_on) two_on.written
      refl two.ticks (known-same one_on two_on two_shape two.told) (omega (arith, two_written))
      in
      let due = may_ask two_on in
      let counts = read-counted b two_on most_two due in
      let first : length (frames_for j (goes_ahead w m).packets) ≡ n = wrote-counted w n from most in
      let second : length (frames_for j (goes_by_ticks w one_on).packets) ≡ k = wrote-counted w k next most_one in
      let writes = (goes_ahead w m).packets ++ (goes_by_ticks w one_on).packets in
      let both = frames-both j (goes_ahead w m).packets (goes_by_ticks w one_on).packets in
      let all = frames-both j writes (asks_if_due b two_on).packets in
      record {
        rests = no-more two_on ahead ticks due refl b;
        most = read-most b two_on most_two due;
        counted = omega (
          arith,
          one_written,
          two_written,
          one_asked,
          two_asked,
          counts,
          first,
          second,
          both,
          all,
        );
      }

  -- ---- any packet

  module _ (b : WordBook) (m : MemberState) (most : j ≤ m.client.shape.servers) where
    abbrev pub PutsIf : Result ActedMember Fault → Type 0
    PutsIf (Ok t) = Puts m t
    PutsIf (Err fault) = Unit {0}

    either : (k : Bool) (r t : Result ActedMember Fault) → PutsIf r → PutsIf t → PutsIf (cond k r t)
    either true r t this that = this
    either false r t this that = that

    -- it stands so, but for what is neither counted nor its shape
    record Alike (n : MemberState) : Type 0 where
      pub shape : n.client.shape ≡ m.client.shape
      pub written : n.written ≡ m.written
      pub asked : n.asked ≡ m.asked

    told-puts : (told : List PacketView) (n : MemberState) → AreToHost told → Alike n →
        PutsIf (tells_and_acts b told n)
    told-puts told n host like =
        let puts = acts-puts b n (subst (λ (s : Shape). j ≤ s.servers) (sym like.shape) most) in
        let counted = puts.counted in
        let none : length (frames_for j told) ≡ 0 =
        ap (λ ps. length (map (λ (p : PacketView). p.bytes) ps)) (host-alone told j low host)
        in
        let both = frames-both j told (acts b n).packets in
        let written = like.written in
        let asked = like.asked in
        record {
          rests = puts.rests;
          most = puts.most;
          counted = omega (arith, counted, none, both, written, asked);
        }

    goes-puts : (writing : Writing) (r : Result ActedMember Fault) (s : Result Stand Fault) →
        EndsOrReadies b writing m r s → PutsIf r
    goes-puts writing r s (inl e) = subst PutsIf (sym e.is) tt
    goes-puts writing r s (inr e) =
        subst PutsIf (sym e.is)
        (told-puts e.told e.first e.to_host
        (record { shape = e.shape_is; written = e.written_is; asked = e.asked_is }))

    pub step-puts : (p : PacketView) → PutsIf (step b m p)
    unfolding step
    step-puts p =
        let serves : Result ActedMember Fault =
        cond (nat_le p.peer m.client.shape.servers) (served b m p.peer p.bytes) (Err Peer)
        in
        either (p.peer == 0) (heard b m (word_in p.bytes)) serves
        (goes-puts (heard_writing m (word_in p.bytes)) (heard b m (word_in p.bytes)) _
        (heard-readies b m (word_in p.bytes)))
        (either (nat_le p.peer m.client.shape.servers) (served b m p.peer p.bytes) (Err Peer)
        (goes-puts m.client.writing (served b m p.peer p.bytes) _ (served-readies b m p.peer p.bytes)) tt)
