-- A cluster in which one client after the other writes, from its opening to its close.
use Rattle.std.proofs.Common.{◌≡◌, ◌≢◌, inl, inr, ℕ, zero, suc, ◌+◌, ◌<◌, List, [], ◌∷◌, ◌++◌, length, set}
use Rattle.std.proofs.Common.{refl, ap, sym, ◌∙◌, subst, arith, length-append, length-set}
use Rattle.std.proofs.Common.{Some, slice_get, get_or-set_same, get_or-set_other}
use Rattle.std.specs.Prelude.{slice_index_or, Result, Ok, Err, OnOk}
use Rattle.std.proofs.lemmas.List.FromFn.{length-map-range_with_len, get_or-map-range_with_len}
use Rattle.std.proofs.lemmas.Option.{slice_get-get_or}
use mathlib.Core.Logic.{dite}
use mathlib.Core.List.{IsPrefix}
use native.Mathlib.Decide.{ℕ_discrete}
use Rattle.tk_lists.proofs.Offers.{prefix_self, prefix_trans, prefix_get}
use Rattle.tk_shape.specs.declared.shape.Shape.{Shape}
use Rattle.tk_frames.specs.declared.entry.Placed.{Placed}
use Rattle.tk_frames.specs.declared.entry.Entry.TheVariants.{Write, Mark}
use Rattle.tk_frames.specs.declared.write_frame.WriteFrame.{WriteFrame}
use Rattle.tk_frames.specs.InOrder.{IsNext, mark_count}
use Rattle.tk_frames.specs.Ranges.{IsEntry, IsWrite}
use Rattle.tk_frames.proofs.Offers.{marks-write, marks-mark, order-none, order-push}
use Rattle.tk_order.specs.Legality.{number_of, seat_of, of}
use Rattle.tk_order.proofs.Offers.{of_added, of_else}
use Rattle.tk_cluster.specs.declared.set.EpochSet.{EpochSet}
use Rattle.tk_cluster.specs.Passes.{Reading, Passing, own, fresh, Pins, Learns, ReadsOnly, MeetsAt}
use Rattle.tk_cluster.specs.Tellings.{Telling, told_of, Published}
use Rattle.tk_cluster.specs.Clusters.{Opened, Each, HaveMet}
use Rattle.tk_cluster.specs.Closings.{Ended, Apart, AllOnce, Closes}
use Rattle.tk_relay.specs.Ordered.{IsPassOf, HaveOrdered, MayOrder, EachChanged}
use Rattle.tk_relay.proofs.OneOrder.{one-order}

-- ---- the opening

pub ordered-first : (shape : Shape) (xs : List Passing) (p : Telling) → Opened shape p xs →
    HaveOrdered shape [] xs p
ordered-first shape xs p opened =
    let counted : length xs ≡ shape.clients =
    ap length opened.all ∙ length-map-range_with_len (fresh p.board opened.first) 0 shape.clients
    in
    record {
      order = order-none shape;
      counted = counted;
      each = λ c d low.
          subst (IsPassOf [] p c)
          (sym (ap (λ ys. slice_index_or ys c d) opened.all
          ∙ get_or-map-range_with_len (fresh p.board opened.first) 0 shape.clients c c d
          (omega (arith, low, counted)) (omega arith)))
          (first-pass c);
      marked = ap (λ E. length (of 0 E)) opened.seen;
      shown = ap length opened.shown;
    }
  where
    first-pass : (c : ℕ) → IsPassOf [] p c (fresh p.board opened.first c)
    first-pass c =
        record {
          client = refl;
          ordered = refl;
          board = refl;
          shown = subst (λ (sets : List EpochSet). IsPrefix sets (opened.first ∷ []))
              (sym opened.shown) (prefix_self (opened.first ∷ []));
          known = refl;
        }

-- ---- a write

-- the pass of client c ordered this write
pub record WroteNext (e : Placed) (a b : Passing) : Type 0 where
  pub client : b.client ≡ a.client
  pub reads : b.reads ≡ a.reads
  pub own_is : own b ≡ own a ++ e ∷ []

writer : (E : List Placed) (p : Telling) (w : WriteFrame) (e : Placed) (c : ℕ) (a b : Passing) →
    e.entry ≡ Write w → c ≡ w.client → IsPassOf E p c a → WroteNext e a b →
    IsPassOf (E ++ e ∷ []) p c b
writer E p w e c a b at mine is wrote =
    let seat : seat_of e ≡ c + 1 = ap number_of at ∙ ap (λ n. n + 1) (sym mine) in
    record {
      client = wrote.client ∙ is.client;
      ordered =
          wrote.own_is ∙ ap (λ (ys : List Placed). ys ++ e ∷ []) is.ordered
          ∙ sym (of_added (c + 1) E (of (c + 1) E) e seat refl);
      board = ap (λ (r : Reading). r.board) wrote.reads ∙ is.board;
      shown = subst (λ (r : Reading). IsPrefix p.shown r.shown) (sym wrote.reads) is.shown;
      known = ap (λ (r : Reading). r.known) wrote.reads ∙ is.known ∙ sym (marks-write E e w at);
    }

-- what another orders changes nothing of a pass
bystander : (E : List Placed) (p : Telling) (e : Placed) (c : ℕ) (a : Passing) →
    seat_of e ≢ c + 1 → mark_count (E ++ e ∷ []) ≡ mark_count E → IsPassOf E p c a →
    IsPassOf (E ++ e ∷ []) p c a
bystander E p e c a other count is =
    record {
      client = is.client;
      ordered = is.ordered ∙ sym (of_else (c + 1) E (of (c + 1) E) e other refl);
      board = is.board;
      shown = is.shown;
      known = is.known ∙ sym count;
    }

pub ordered-write : (shape : Shape) (E : List Placed) (w : WriteFrame) (e : Placed)
    (xs : List Passing) (p : Telling) (z f : Passing) → HaveOrdered shape E xs p →
    IsNext shape E e → e.entry ≡ Write w → w.client < length xs →
    WroteNext e (slice_index_or xs w.client f) z →
    HaveOrdered shape (E ++ e ∷ []) (set xs w.client z) p
ordered-write shape E w e xs p z f have next at inside wrote =
    let count : mark_count (E ++ e ∷ []) ≡ mark_count E = marks-write E e w at in
    record {
      order = order-push shape E e have.order next;
      counted = length-set xs w.client z ∙ have.counted;
      each = λ c d low. one c d (omega (arith, low, length-set xs w.client z));
      marked = have.marked ∙ sym count;
      shown = have.shown ∙ ap (λ n. n + 1) (sym count);
    }
  where
    one : (c : ℕ) (d : Passing) → c < length xs →
        IsPassOf (E ++ e ∷ []) p c (slice_index_or (set xs w.client z) c d)
    one c d low = dite (ℕ_discrete c w.client)
        (λ mine.
        subst (λ n. IsPassOf (E ++ e ∷ []) p n (slice_index_or (set xs w.client z) n d)) (sym mine)
        (subst (IsPassOf (E ++ e ∷ []) p w.client) (sym (get_or-set_same xs w.client z d inside))
        (writer E p w e w.client (slice_index_or xs w.client f) z at refl
        (have.each w.client f inside) wrote)))
        (λ isnt.
        subst (IsPassOf (E ++ e ∷ []) p c) (sym (get_or-set_other xs w.client c z d isnt))
        (bystander E p e c (slice_index_or xs c d)
        (λ same. isnt (omega (arith, same, ap number_of at))) (marks-write E e w at)
        (have.each c d low)))

-- the same of the pass at its place, where it ordered the write with an answer
pub write-ordered : {T X : Type 0} (r : Result T X) (shape : Shape) (E : List Placed)
    (w : WriteFrame) (e : Placed) (xs : List Passing) (p : Telling) (z f : Passing) →
    HaveOrdered shape E xs p → IsNext shape E e → e.entry ≡ Write w → w.client < length xs →
    let a = slice_index_or xs w.client f in
    OnOk r (z.client ≡ a.client) → OnOk r (z.reads ≡ a.reads) →
    OnOk r (own z ≡ own a ++ record { position = e.position; entry = Write w } ∷ []) →
    OnOk r (HaveOrdered shape (E ++ e ∷ []) (set xs w.client z) p)
write-ordered (Err x) shape E w e xs p z f have next at inside client reads own_is = tt
write-ordered (Ok x) shape E w e xs p z f have next at inside client reads own_is =
    ordered-write shape E w e xs p z f have next at inside
    (record {
      client = client;
      reads = reads;
      own_is =
          own_is
          ∙ (λ i. own (slice_index_or xs w.client f)
          ++ record { position = e.position; entry = sym at i } ∷ []);
    })

-- such a write is in range, and its client has a pass
pub may-write : (shape : Shape) (e : Placed) (w : WriteFrame) (xs : List Passing) (p : Telling) →
    MayOrder shape e xs p → e.entry ≡ Write w → IsWrite shape w × (w.client < length xs)
may-write shape e w xs p may at =
    let is : IsWrite shape w = subst (IsEntry shape) at may.next.in_range.entry in
    (is, omega (arith, is.client, may.have.counted))

-- ---- a mark

-- which all learn of
learner : (E : List Placed) (p q : Telling) (n : ℕ) (e : Placed) (c : ℕ) (a b : Passing) →
    e.entry ≡ Mark n → q.board ≡ p.board → length q.shown ≡ mark_count E + 2 →
    ReadsOnly (λ x y. Learns x (told_of q) y) a b → IsPassOf E p c a → IsPassOf (E ++ e ∷ []) q c b
learner E p q n e c a b at board long learns is =
    let r = learns.reads in
    let count = marks-mark E e n at in
    let other : seat_of e ≢ c + 1 = λ same. omega (arith, same, ap number_of at) in
    record {
      client = learns.client ∙ is.client;
      ordered =
          (λ i. of (learns.client i + 1) (learns.seen i)) ∙ is.ordered
          ∙ sym (of_else (c + 1) E (of (c + 1) E) e other refl);
      board = r.board ∙ is.board ∙ sym board;
      shown = r.hears;
      known = elim r.known [
        | inl same ↦ absurd (omega (arith, same, r.last, long, is.known))
        | inr top ↦ omega (arith, top, long, count)
      ];
    }

pub ordered-mark : (shape : Shape) (E : List Placed) (n : ℕ) (e : Placed) (xs ys : List Passing)
    (p q : Telling) → HaveOrdered shape E xs p → IsNext shape E e → e.entry ≡ Mark n →
    Published shape p q → EachChanged (ReadsOnly (λ x y. Learns x (told_of q) y)) xs ys →
    HaveOrdered shape (E ++ e ∷ []) ys q
ordered-mark shape E n e xs ys p q have next at published learned =
    let count : mark_count (E ++ e ∷ []) ≡ mark_count E + 1 = marks-mark E e n at in
    let long : length q.shown ≡ mark_count E + 2 =
    ap length published.shown
    ∙ (length-append p.shown (published.set ∷ []) ∙ omega (arith, have.shown))
    in
    record {
      order = order-push shape E e have.order next;
      counted = learned.counted ∙ have.counted;
      each = λ c d low.
          let inside : c < length xs = omega (arith, low, learned.counted) in
          learner E p q n e c (slice_index_or xs c d) (slice_index_or ys c d) at published.board long
          (learned.each c d inside) (have.each c d inside);
      marked = omega (arith, published.marks, have.shown, count);
      shown = omega (arith, long, count);
    }

-- with an answer all learned of the mark
pub mark-ordered : {T X : Type 0} (r : Result T X) (shape : Shape) (E : List Placed) (n : ℕ)
    (e : Placed) (xs ys : List Passing) (p q : Telling) → HaveOrdered shape E xs p →
    IsNext shape E e → e.entry ≡ Mark n → Published shape p q →
    OnOk r (EachChanged (ReadsOnly (λ x y. Learns x (told_of q) y)) xs ys) →
    OnOk r (HaveOrdered shape (E ++ e ∷ []) ys q)
mark-ordered (Err x) shape E n e xs ys p q have next at published learned = tt
mark-ordered (Ok x) shape E n e xs ys p q have next at published learned =
    ordered-mark shape E n e xs ys p q have next at published learned

-- ---- what all pin

-- the pass pinned a set of at most this number
abbrev pub PinsAt : ℕ → Passing → Passing → Type 0
PinsAt most a b = (set : EpochSet) × ReadsOnly (λ x y. Pins x most set y) a b

pinned : (E : List Placed) (p : Telling) (most c : ℕ) (a b : Passing) → most ≡ mark_count E →
    PinsAt most a b → IsPassOf E p c a → IsPassOf E p c b
pinned E p most c a b last pins is =
    let r = pins.1.reads in
    record {
      client = pins.1.client ∙ is.client;
      ordered = (λ i. of (pins.1.client i + 1) (pins.1.seen i)) ∙ is.ordered;
      board = r.board ∙ is.board;
      shown = prefix_trans p.shown a.reads.shown b.reads.shown is.shown r.shown;
      known = omega (arith, r.least, r.greatest, is.known, last);
    }

pub ordered-pinned : (shape : Shape) (E : List Placed) (most : ℕ) (xs ys : List Passing)
    (p : Telling) → most ≡ mark_count E → HaveOrdered shape E xs p →
    EachChanged (PinsAt most) xs ys → HaveOrdered shape E ys p
ordered-pinned shape E most xs ys p last have pins =
    record {
      order = have.order;
      counted = pins.counted ∙ have.counted;
      each = λ c d low.
          let inside : c < length xs = omega (arith, low, pins.counted) in
          pinned E p most c (slice_index_or xs c d) (slice_index_or ys c d) last
          (pins.each c d inside) (have.each c d inside);
      marked = have.marked;
      shown = have.shown;
    }

-- the pinned set is the last one that is shown
pub pinned-set : (E : List Placed) (p : Telling) (most c : ℕ) (a b : Passing) (set : EpochSet) →
    most ≡ mark_count E → length p.shown ≡ mark_count E + 1 → IsPassOf E p c a →
    ReadsOnly (λ x y. Pins x most set y) a b → slice_get p.shown most ≡ Some set
pinned-set E p most c a b set last long is pins =
    let r = pins.reads in
    let here : b.reads.known ≡ most = omega (arith, r.least, r.greatest, is.known, last) in
    let there = slice_get-get_or p.shown most set (omega (arith, last, long)) in
    let begins = prefix_trans p.shown a.reads.shown b.reads.shown is.shown r.shown in
    there ∙ sym (prefix_get p.shown b.reads.shown most _ begins there)
    ∙ subst (λ n. slice_get b.reads.shown n ≡ Some set) here r.shows

-- ---- all meet

each-long : {X : Type 0} (R : X → X → Type 0) (xs ys : List X) → Each R xs ys → length ys ≡ length xs
each-long R [] [] h = refl
each-long R (x ∷ xs) (y ∷ ys) h = ap suc (each-long R xs ys h.1)
each-long R [] (y ∷ ys) h = absurd h
each-long R (x ∷ xs) [] h = absurd h

each-at : {X : Type 0} (R : X → X → Type 0) (xs ys : List X) (k : ℕ) (d : X) → Each R xs ys →
    k < length xs → R (slice_index_or xs k d) (slice_index_or ys k d)
each-at R [] ys k d h low = absurd (omega (arith, low))
each-at R (x ∷ xs) [] k d h low = absurd h
each-at R (x ∷ xs) (y ∷ ys) zero d h low = h.0
each-at R (x ∷ xs) (y ∷ ys) (suc k) d h low = each-at R xs ys k d h.1 (omega (arith, low))

module _ {shape : Shape} {E : List Placed} {xs ys : List Passing} {p q : Telling}
    (have : HaveOrdered shape E xs p) (met : HaveMet shape xs p ys q) where
  long : length ys ≡ length xs
  long = each-long (MeetsAt q.seen) xs ys met.passes

  meets : (c : ℕ) (d : Passing) → c < length xs →
      MeetsAt q.seen (slice_index_or xs c d) (slice_index_or ys c d)
  meets c d low = each-at (MeetsAt q.seen) xs ys c d met.passes low

  meeting : (c : ℕ) (a b : Passing) → MeetsAt q.seen a b → IsPassOf E p c a → IsPassOf E q c b
  meeting c a b m is =
      record {
        client = m.client ∙ is.client;
        ordered = m.own ∙ is.ordered;
        board = ap (λ (r : Reading). r.board) m.reads ∙ is.board ∙ sym met.board;
        shown = subst (λ (sets : List EpochSet). IsPrefix sets b.reads.shown) (sym met.shown)
            (subst (λ (r : Reading). IsPrefix p.shown r.shown) (sym m.reads) is.shown);
        known = ap (λ (r : Reading). r.known) m.reads ∙ is.known;
      }

  pub ordered-met : HaveOrdered shape E ys q
  ordered-met =
      record {
        order = have.order;
        counted = long ∙ have.counted;
        each = λ c d low.
            let inside : c < length xs = omega (arith, low, long) in
            meeting c (slice_index_or xs c d) (slice_index_or ys c d) (meets c d inside)
            (have.each c d inside);
        marked = ap length met.marks ∙ have.marked;
        shown = ap length met.shown ∙ have.shown;
      }

  -- and then all have seen these entries
  pub met-seen : q.seen ≡ E
  met-seen =
      one-order shape q.seen E met.legal.order have.order under (ap length met.marks ∙ have.marked)
    where
      blank : Passing
      blank =
          record {
            client = 0;
            seen = [];
            reads = record { board = p.board; shown = []; known = 0; pinned = [] };
          }

      under : (c : ℕ) → c < shape.clients → of (c + 1) q.seen ≡ of (c + 1) E
      under c low =
          let inside : c < length xs = omega (arith, low, have.counted) in
          let m = meets c blank inside in
          let is = have.each c blank inside in
          let mine = m.client ∙ is.client in
          (λ i. of (sym mine i + 1) (sym m.seen i)) ∙ m.own ∙ is.ordered

-- ---- the close

module _ {shape : Shape} {E : List Placed} {xs : List Passing} {p : Telling}
    (have : HaveOrdered shape E xs p) where
  apart-from : (off : ℕ) (ys : List Passing) →
      ((k : ℕ) (d : Passing) → k < length ys → (slice_index_or ys k d).client ≡ off + k) → Apart ys
  apart-from off [] mine = tt
  apart-from off (a ∷ ys) mine = (
    λ k d low same.
        absurd (omega (arith, same, mine 0 a (omega arith), mine (suc k) d (omega (arith, low)))),
    apart-from (off + 1) ys (λ k d low. mine (suc k) d (omega (arith, low)) ∙ omega arith),
  )

  -- these are all passes, each once
  pub ordered-once : AllOnce shape p.board xs
  ordered-once =
      record {
        counted = have.counted;
        of_board = λ k d low. (have.each k d low).board;
        apart = apart-from 0 xs (λ k d low. (have.each k d low).client ∙ omega arith);
      }

  -- and they had ordered all that the cluster has
  pub ordered-closed : (c : Ended) → Closes shape xs p c → c.order ≡ E
  ordered-closed c closes =
      one-order shape c.order E closes.legal.order have.order under
      (ap length closes.marks ∙ have.marked)
    where
      blank : Passing
      blank =
          record {
            client = 0;
            seen = [];
            reads = record { board = p.board; shown = []; known = 0; pinned = [] };
          }

      under : (k : ℕ) → k < shape.clients → of (k + 1) c.order ≡ of (k + 1) E
      under k low =
          let inside : k < length xs = omega (arith, low, have.counted) in
          let ends = closes.each k blank inside in
          let is = have.each k blank inside in
          (λ i. of (sym is.client i + 1) c.order) ∙ ends.own ∙ is.ordered
