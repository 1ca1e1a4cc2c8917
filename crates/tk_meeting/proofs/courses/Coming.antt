-- A frame that comes to a client is one that it waits for.
use Rattle.tk_meeting.proofs.Terms.{◌≡◌, ℕ, ◌≤◌, ◌<◌, List, ◌+◌, ◌/◌, ◌==◌, cond, ◌-◌, ◌*◌, Bool, true, false, ◌∙◌}
use Rattle.tk_meeting.proofs.Terms.{refl, ap, sym, zero, suc, arith, subst, eqb-true, inl, inr, eqb-false, and_parts}
use Rattle.tk_meeting.proofs.Terms.{cases_eq, range_with_len, list_all, Shape, changed}
use Rattle.tk_meeting.proofs.Pace.{Pace, Kind, IsPace, with_reply_of, all_replied, closed, reply_came, epoch_came}
use Rattle.tk_meeting.proofs.Pace.{settled}
use Rattle.tk_meeting.proofs.Course.{newest_by, replies_of, came_of, stream_len, pace_down}
use Rattle.tk_meeting.proofs.courses.Lengths.{reply-next, epoch-next, newest-in, order-reply, order-epoch}
use Rattle.tk_meeting.proofs.courses.Balanced.{IsLinked, IsReady, ArePaces, linked-by}

-- ---- which frame comes

-- there is one more, and it is a reply: the read is open, and this server didn't reply to it yet
pub record RepliesNext (shape : Shape) (p : Pace) (j : ℕ) : Type 0 where
  pub open_still : p.is_open ≡ true
  pub not_yet : p.replied j ≡ false
  pub some : 0 < p.asked
  pub turn : replies_of p j ≡ p.asked - 1
  pub due : p.epochs j ≡ replies_of p j / shape.ticks

below_settled : (p : Pace) (j : ℕ) (b r : Bool) → p.is_open ≡ b → p.replied j ≡ r →
    (p.is_open ≡ true → 0 < p.asked) → (p.is_open ≡ false → p.replied j ≡ false) →
    settled p + cond r 1 0 < p.asked → (b ≡ true) × (r ≡ false)
below_settled p j true true open_is replied_is some none low =
    let is : settled p ≡ p.asked - 1 = ap (λ b. cond b (p.asked - 1) p.asked) open_is in
    absurd (omega (arith, low, is, some open_is))
below_settled p j true false open_is replied_is some none low = (refl, refl)
below_settled p j false r open_is replied_is some none low =
    let is : settled p ≡ p.asked = ap (λ b. cond b (p.asked - 1) p.asked) open_is in
    absurd (omega (arith, low, is))

pub replies-next : (shape : Shape) (c : ℕ) (p : Pace) (j : ℕ) (writes : ℕ → ℕ) (reads : ℕ)
    (kinds : List Kind) → IsPace shape p → IsLinked shape c p j writes reads kinds →
    came_of p j < stream_len shape (newest_by shape writes) reads →
    p.epochs j ≡ replies_of p j / shape.ticks → RepliesNext shape p j
replies-next shape c p j writes reads kinds pace l more due =
    let came = reply-next shape (newest_by shape writes) reads (replies_of p j) (p.epochs j) due more in
    let low : replies_of p j < p.asked = omega (arith, came, l.asked) in
    let is =
    below_settled p j p.is_open (p.replied j) refl refl pace.open_in (λ e. pace.none_replied e j) low
    in
    let settled_is : settled p ≡ p.asked - 1 = ap (λ b. cond b (p.asked - 1) p.asked) is.0 in
    record {
      open_still = is.0;
      not_yet = is.1;
      some = pace.open_in is.0;
      turn = omega (arith, settled_is, ap (λ r. settled p + cond r 1 0) is.1);
      due = due;
    }

-- or it is an epoch, the next one
pub record TellsNext (shape : Shape) (p : Pace) (j : ℕ) (newest : ℕ) : Type 0 where
  pub behind : replies_of p j ≡ (p.epochs j + 1) * shape.ticks
  pub there : p.epochs j < newest
  pub within : p.epochs j < shape.phases

pub tells-next : (shape : Shape) (c : ℕ) (p : Pace) (j : ℕ) (writes : ℕ → ℕ) (reads : ℕ)
    (kinds : List Kind) → IsLinked shape c p j writes reads kinds →
    came_of p j < stream_len shape (newest_by shape writes) reads →
    (p.epochs j ≡ replies_of p j / shape.ticks → ⊥) → TellsNext shape p j (newest_by shape writes)
tells-next shape c p j writes reads kinds l more other =
    let behind : replies_of p j ≡ (p.epochs j + 1) * shape.ticks = elim l.ordered [
      | inl due ↦ absurd (other due)
      | inr e ↦ e
    ]
    in
    let there =
    epoch-next shape (newest_by shape writes) reads (replies_of p j) (p.epochs j) behind more
    in
    record {
      behind = behind;
      there = there;
      within = omega (arith, there, newest-in shape writes);
    }

-- ---- a reply

each_from : (f : ℕ → Bool) (a n j : ℕ) → a ≤ j → j < a + n → list_all f (range_with_len a n) ≡ true →
    f j ≡ true
each_from f a zero j low high all = absurd (omega (arith, low, high))
each_from f a (suc n) j low high all =
    let parts = and_parts (f a) (list_all f (range_with_len (a + 1) n)) all in
    elim (cases_eq a j) [
      | inl here ↦ ap f (sym here) ∙ parts.0
      | inr other ↦ each_from f (a + 1) n j (omega (arith, low, other)) (omega (arith, high)) parts.1
    ]

pub all-replied : (shape : Shape) (p : Pace) (j : ℕ) → all_replied shape p ≡ true → 1 ≤ j →
    j ≤ shape.servers → p.replied j ≡ true
all-replied shape p j all low high =
    each_from p.replied 1 shape.servers j low (omega (arith, high)) all

counted : (shape : Shape) (j i : ℕ) (p : Pace) (b : Bool) → all_replied shape (with_reply_of j p) ≡ b →
    p.is_open ≡ true → 0 < p.asked → 1 ≤ i → i ≤ shape.servers →
    replies_of (cond b (closed (with_reply_of j p)) (with_reply_of j p)) i
    ≡ settled p + cond (changed j true p.replied i) 1 0
counted shape j i p true all open_is some low high =
    let is : settled p ≡ p.asked - 1 = ap (λ b. cond b (p.asked - 1) p.asked) open_is in
    let here : changed j true p.replied i ≡ true = all-replied shape (with_reply_of j p) i all low high in
    omega (arith, is, some, ap {B = ℕ} (λ b. cond b 1 0) here)
counted shape j i p false all open_is some low high = refl

-- with its reply one more of a server's replies came, and none of the others'
pub replies-came : (shape : Shape) (j i : ℕ) (p : Pace) → p.is_open ≡ true → 0 < p.asked → 1 ≤ i →
    i ≤ shape.servers →
    replies_of (reply_came shape j p) i ≡ settled p + cond (changed j true p.replied i) 1 0
replies-came shape j i p open_is some low high =
    counted shape j i p (all_replied shape (with_reply_of j p)) refl open_is some low high

same_numbers : (shape : Shape) (j : ℕ) (p : Pace) (b : Bool) →
    let q = cond b (closed (with_reply_of j p)) (with_reply_of j p) in
    (q.written ≡ p.written) × (q.asked ≡ p.asked) × (q.epochs ≡ p.epochs)
same_numbers shape j p true = (refl, refl, refl)
same_numbers shape j p false = (refl, refl, refl)

pub reply-numbers : (shape : Shape) (j : ℕ) (p : Pace) → let q = reply_came shape j p in
    (q.written ≡ p.written) × (q.asked ≡ p.asked) × (q.epochs ≡ p.epochs)
reply-numbers shape j p = same_numbers shape j p (all_replied shape (with_reply_of j p))

module _ (shape : Shape) (paces : ArePaces shape) where
  reply-linked : (c : ℕ) (p : Pace) (j i : ℕ) (writes : ℕ → ℕ) (reads : ℕ) (kinds : List Kind) (b : Bool) →
      (i == j) ≡ b → 1 ≤ i → i ≤ shape.servers → RepliesNext shape p j →
      (b ≡ true → came_of p i < stream_len shape (newest_by shape writes) reads) →
      IsLinked shape c p i writes reads kinds →
      IsLinked shape c (reply_came shape j p) i writes reads kinds
  reply-linked c p j i writes reads kinds true is low high next more l =
      let q = reply_came shape j p in
      let same : i ≡ j = eqb-true i j is in
      let numbers = reply-numbers shape j p in
      let here : changed j true p.replied i ≡ true = λ k. cond (is k) true (p.replied i) in
      let not_yet : p.replied i ≡ false = ap p.replied same ∙ next.not_yet in
      let before : replies_of p i ≡ settled p = omega (arith, ap {B = ℕ} (λ b. cond b 1 0) not_yet) in
      let replies : replies_of q i ≡ replies_of p i + 1 =
      omega (
        arith,
        replies-came shape j i p next.open_still next.some low high,
        ap {B = ℕ} (λ b. cond b 1 0) here,
        before,
      )
      in
      let told : q.epochs i ≡ p.epochs i = λ k. numbers.2 k i in
      let due : p.epochs i ≡ replies_of p i / shape.ticks =
      subst (λ n. p.epochs n ≡ replies_of p n / shape.ticks) (sym same) next.due
      in
      record {
        wrote = l.wrote ∙ sym numbers.0;
        asked = l.asked ∙ sym numbers.1;
        came = omega (arith, more refl, replies, told);
        ordered = elim (order-reply shape.ticks (replies_of p i) (p.epochs i) shape.in_range.ticks_low due) [
          | inl e ↦ inl (told ∙ e ∙ ap (λ r. r / shape.ticks) (sym replies))
          | inr e ↦ inr (replies ∙ e ∙ ap (λ n. (n + 1) * shape.ticks) (sym told))
        ];
      }
  reply-linked c p j i writes reads kinds false is low high next more l =
      let q = reply_came shape j p in
      let numbers = reply-numbers shape j p in
      let here : changed j true p.replied i ≡ p.replied i = λ k. cond (is k) true (p.replied i) in
      let replies : replies_of q i ≡ replies_of p i =
      omega (
        arith,
        replies-came shape j i p next.open_still next.some low high,
        ap {B = ℕ} (λ b. cond b 1 0) here,
      )
      in
      let told : q.epochs i ≡ p.epochs i = λ k. numbers.2 k i in
      linked-by shape paces c p q i writes reads kinds kinds (l.wrote ∙ sym numbers.0) (l.asked ∙ sym numbers.1) replies
      told l

  -- the client is balanced again, before it acts
  pub reply-ready : (c j : ℕ) (p : Pace) (writes reads : ℕ → ℕ → ℕ) (kinds : ℕ → List Kind) → 1 ≤ j →
      j ≤ shape.servers → IsReady shape c p writes reads kinds → RepliesNext shape p j →
      came_of p j < stream_len shape (newest_by shape (writes j)) (reads j c) →
      IsReady shape c (reply_came shape j p) writes reads kinds
  reply-ready c j p writes reads kinds low high r next more =
      record {
        pace = paces.reply j p low high r.pace next.open_still next.not_yet;
        links = λ i one most.
            reply-linked c p j i (writes i) (reads i c) (kinds i) (i == j) refl one most next
            (λ same. subst (λ n. came_of p n < stream_len shape (newest_by shape (writes n)) (reads n c))
            (sym (eqb-true i j same)) more) (r.links i one most);
      }

  -- ---- an epoch

  epoch-linked : (c : ℕ) (p : Pace) (j i : ℕ) (writes : ℕ → ℕ) (reads : ℕ) (kinds : List Kind) (b : Bool) →
      (i == j) ≡ b → replies_of p j ≡ (p.epochs j + 1) * shape.ticks →
      (b ≡ true → came_of p i < stream_len shape (newest_by shape writes) reads) →
      IsLinked shape c p i writes reads kinds → IsLinked shape c (epoch_came j p) i writes reads kinds
  epoch-linked c p j i writes reads kinds true is behind_last more l =
      let q = epoch_came j p in
      let same : i ≡ j = eqb-true i j is in
      let told : q.epochs i ≡ p.epochs i + 1 =
      (λ k. cond (is k) (p.epochs j + 1) (p.epochs i)) ∙ ap (λ n. p.epochs n + 1) (sym same)
      in
      let behind : replies_of p i ≡ (p.epochs i + 1) * shape.ticks =
      subst (λ n. replies_of p n ≡ (p.epochs n + 1) * shape.ticks) (sym same) behind_last
      in
      record {
        wrote = l.wrote;
        asked = l.asked;
        came = omega (arith, more refl, told);
        ordered =
            inl (told
            ∙ order-epoch shape.ticks (replies_of p i) (p.epochs i) shape.in_range.ticks_low behind);
      }
  epoch-linked c p j i writes reads kinds false is behind_last more l =
      let q = epoch_came j p in
      let told : q.epochs i ≡ p.epochs i = λ k. cond (is k) (p.epochs j + 1) (p.epochs i) in
      linked-by shape paces c p q i writes reads kinds kinds l.wrote l.asked refl told l

  pub epoch-ready : (c j : ℕ) (p : Pace) (writes reads : ℕ → ℕ → ℕ) (kinds : ℕ → List Kind) →
      IsReady shape c p writes reads kinds → TellsNext shape p j (newest_by shape (writes j)) →
      came_of p j < stream_len shape (newest_by shape (writes j)) (reads j c) →
      IsReady shape c (epoch_came j p) writes reads kinds
  epoch-ready c j p writes reads kinds r next more =
      record {
        pace = paces.epoch j p r.pace next.within;
        links = λ i one most.
            epoch-linked c p j i (writes i) (reads i c) (kinds i) (i == j) refl next.behind
            (λ same. subst (λ n. came_of p n < stream_len shape (newest_by shape (writes n)) (reads n c))
            (sym (eqb-true i j same)) more) (r.links i one most);
      }

  -- ---- either

  down_ready : (c j : ℕ) (p : Pace) (writes reads : ℕ → ℕ → ℕ) (kinds : ℕ → List Kind) (b : Bool) →
      (p.epochs j == replies_of p j / shape.ticks) ≡ b → 1 ≤ j → j ≤ shape.servers →
      IsReady shape c p writes reads kinds →
      came_of p j < stream_len shape (newest_by shape (writes j)) (reads j c) →
      IsReady shape c (cond b (reply_came shape j p) (epoch_came j p)) writes reads kinds
  down_ready c j p writes reads kinds true is low high r more =
      reply-ready c j p writes reads kinds low high r
      (replies-next shape c p j (writes j) (reads j c) (kinds j) r.pace (r.links j low high) more
      (eqb-true (p.epochs j) (replies_of p j / shape.ticks) is)) more
  down_ready c j p writes reads kinds false is low high r more =
      epoch-ready c j p writes reads kinds r
      (tells-next shape c p j (writes j) (reads j c) (kinds j) (r.links j low high) more
      (eqb-false (p.epochs j) (replies_of p j / shape.ticks) is)) more

  pub down-ready : (c j : ℕ) (p : Pace) (writes reads : ℕ → ℕ → ℕ) (kinds : ℕ → List Kind) → 1 ≤ j →
      j ≤ shape.servers → IsReady shape c p writes reads kinds →
      came_of p j < stream_len shape (newest_by shape (writes j)) (reads j c) →
      IsReady shape c (pace_down shape j p) writes reads kinds
  down-ready c j p writes reads kinds low high r more =
      down_ready c j p writes reads kinds (p.epochs j == replies_of p j / shape.ticks) refl low high r more
