-- What the events of an order make.
use Rattle.std.proofs.Common.{◌≡◌, ℕ, zero, suc, ◌+◌, ◌-◌, ◌<◌, ◌≤◌, refl, ap, ap₂, sym, ◌∙◌, subst, arith}
use Rattle.std.proofs.Common.{List, [], ◌∷◌, ◌++◌, length, cond, true, false, Bool, set, replicate, flat_map}
use Rattle.std.proofs.Common.{append_assoc, append-nil, length-append, nat_lt, lt-ltb, eq-eqb}
use Rattle.std.specs.Prelude.{slice_index, slice_index_or, find, position, option_map, Option, Some, None, not, ◌||◌}
use Rattle.std.specs.List.{range_with_len, prefix_len}
use Rattle.std.proofs.Math.Seq.{get_or-append_seam}
use Rattle.std.proofs.lemmas.Bool.{le-ltb}
use Rattle.tk_shape.specs.declared.shape.Shape.{Shape}
use Rattle.tk_frames.specs.declared.entry.Placed.{Placed}
use Rattle.tk_frames.specs.declared.entry.Entry.{Entry}
use Rattle.tk_frames.specs.declared.entry.Entry.TheVariants.{Write as Writes, Mark as Marks}
use Rattle.tk_frames.specs.Order.{has_mark, is_mark, is_mark_of, is_mark_numbered}
use Rattle.tk_table.specs.Table.{layout, blocks_of}
use Rattle.tk_frames.specs.InOrder.{mark_count, HasNumber, number_after, IsNext, IsOrderFrom, IsOrder}
use Rattle.tk_frames.proofs.Offers.{marks-push, order-push, order-front, has-no_mark, before-more}
use Rattle.tk_core.specs.declared.event.Event.{Event}
use Rattle.tk_core.specs.declared.event.Event.TheVariants.{Apply, Show, Read}
use Rattle.tk_core.specs.declared.reply.Reply.TheVariants as replies
use Rattle.tk_core.specs.Machine.{Machine, Step, stays, world_step, machine_after, show_next, show_mark}
use Rattle.tk_core.specs.Events.{applies, entry_events, done_after, events_from, last_mark_from}
use Rattle.tk_core.specs.Laws.{ServersReadAlike, EventsMakeOrders, EpochsAreRead}
use Rattle.tk_core.proofs.Lists.{after-append}

-- the machine that has these entries, of which each server has applied the first done
abbrev pub made : Shape → List Placed → ℕ → Machine
made shape E done =
    record { order = E; applied = replicate shape.servers done; shown = mark_count E }

-- ---- several entries applied

set-seam : (front back : List ℕ) (x y : ℕ) → set (front ++ x ∷ back) (length front) y
    ≡ front ++ y ∷ back
set-seam [] back x y = refl
set-seam (z ∷ front) back x y = ap (λ ns. z ∷ ns) (set-seam front back x y)

abbrev with_applied : List Placed → ℕ → List ℕ → Machine
with_applied E shown ns = record { order = E; applied = ns; shown = shown }

apply-step : (shape : Shape) (E : List Placed) (shown : ℕ) (front back : List ℕ) (x : ℕ) →
    x < length E →
    world_step shape (with_applied E shown (front ++ x ∷ back)) (Apply (length front + 1))
    ≡ record {
      machine = with_applied E shown (front ++ (x + 1) ∷ back);
      reply =
          replies.Applied (x + 1);
    }
unfolding world_step
apply-step shape E shown front back x low =
    let ns = front ++ x ∷ back in
    let at : length front + 1 - 1 ≡ length front = omega arith in
    let is : slice_index ns (length front + 1 - 1) ≡ x =
    ap (slice_index ns) at ∙ get_or-append_seam front x back 0
    in
    ap₂ (λ (k i : ℕ). cond (nat_lt k (length E)) (record {
      machine = with_applied E shown (set ns i (k + 1));
      reply = replies.Applied (k + 1);
    }) (stays (with_applied E shown ns) replies.UpToDate)) is at
    ∙ ap (λ b. cond b (record {
      machine = with_applied E shown (set ns (length front) (x + 1));
      reply = replies.Applied (x + 1);
    }) (stays (with_applied E shown ns) replies.UpToDate)) (lt-ltb x (length E) low)
    ∙ ap (λ (ms : List ℕ). record {
      machine = with_applied E shown ms;
      reply =
          replies.Applied (x + 1);
    })
    (set-seam front back x (x + 1))

apply-several : (shape : Shape) (E : List Placed) (shown : ℕ) (front back : List ℕ) (x k : ℕ) →
    x + k ≤ length E →
    machine_after shape (with_applied E shown (front ++ x ∷ back)) (replicate k (Apply
    (length front + 1)))
    ≡ with_applied E shown (front ++ (x + k) ∷ back)
unfolding machine_after
apply-several shape E shown front back x zero low =
    let none : x ≡ x + 0 = omega arith in
    ap (λ n. with_applied E shown (front ++ n ∷ back)) none
apply-several shape E shown front back x (suc k) low =
    let next : (x + 1) + k ≡ x + suc k = omega arith in
    ap (λ (s : Step). machine_after shape s.machine (replicate k (Apply (length front + 1))))
    (apply-step shape E shown front back x (omega (arith, low)))
    ∙ apply-several shape E shown front back (x + 1) k (omega (arith, low))
    ∙ ap (λ n. with_applied E shown (front ++ n ∷ back)) next

-- the servers after the first ones, each of which applies k entries
apply-each : (shape : Shape) (E : List Placed) (shown done k c a : ℕ) (front : List ℕ) →
    done + k ≤ length E →
    a ≡ length front + 1 →
    machine_after shape (with_applied E shown (front ++ replicate c done))
    (flat_map (λ server. replicate k (Apply server)) (range_with_len a c))
    ≡ with_applied E shown (front ++ replicate c (done + k))
unfolding machine_after
apply-each shape E shown done k zero a front low at = refl
apply-each shape E shown done k (suc c) a front low at =
    let rest = flat_map (λ server. replicate k (Apply server)) (range_with_len (a + 1) c) in
    let m = with_applied E shown (front ++ done ∷ replicate c done) in
    let grouped : (ns : List ℕ) → (front ++ (done + k) ∷ []) ++ ns ≡ front ++ (done + k) ∷ ns =
    λ ns. append_assoc front ((done + k) ∷ []) ns
    in
    after-append shape m (replicate k (Apply a)) rest
    ∙ ap (λ n. machine_after shape (machine_after shape m (replicate k (Apply n))) rest) at
    ∙ ap (λ (w : Machine). machine_after shape w rest)
    (apply-several shape E shown front (replicate c done) done k low
    ∙ ap (with_applied E shown) (sym (grouped (replicate c done))))
    ∙ apply-each shape E shown done k c (a + 1) (front ++ (done + k) ∷ []) low
    (omega (arith, at, length-append front ((done + k) ∷ [])))
    ∙ ap (with_applied E shown) (grouped (replicate c (done + k)))

-- ---- a mark is shown

find-new : (e : ℕ) (E : List Placed) (p : Placed) → has_mark e E ≡ false → is_mark_of e p ≡ true →
    find (is_mark_of e) (E ++ p ∷ []) ≡ Some p
find-new e [] p none at = ap (λ b. cond b (Some p) None) at
find-new e (x ∷ E) p none at =
    elim (is_mark_of e x) as (λ b. (b || has_mark e E) ≡ false →
    cond b (Some x) (find (is_mark_of e) (E ++ p ∷ [])) ≡ Some p)
    [ true ↦ λ h. absurd cc | false ↦ λ rest. find-new e E p rest at ] none

all-reach : (n a : ℕ) → prefix_len (λ k. not (nat_lt k a)) (replicate n a) ≡ n
all-reach zero a = refl
all-reach (suc n) a =
    ap (λ (b : Bool). cond (not b) (1 + prefix_len (λ k. not (nat_lt k a)) (replicate n a)) 0)
    (le-ltb a a (omega arith))
    ∙ omega (arith, all-reach n a)

length-same : (n a : ℕ) → length (replicate n a) ≡ n
length-same zero a = refl
length-same (suc n) a = ap suc (length-same n a)

none-below : (n a : ℕ) → position (λ k. nat_lt k a) (replicate n a) ≡ None
none-below n a =
    ap₂ (λ (x y : ℕ). cond (nat_lt x y) (Some x) None) (all-reach n a) (length-same n a)
    ∙ ap (λ (b : Bool). cond b (Some n) None) (le-ltb n n (omega arith))

show-step : (shape : Shape) (E : List Placed) (p : Placed) → IsOrder shape E →
    p.entry ≡ Marks (mark_count E + 1) →
    world_step shape (with_applied (E ++ p ∷ []) (mark_count E)
    (replicate shape.servers p.position)) Show
    ≡ record {
      machine = with_applied (E ++ p ∷ []) (mark_count E + 1) (replicate shape.servers p.position);
      reply = replies.Shown (mark_count E + 1);
    }
unfolding world_step
show-step shape E p order at =
    let e = mark_count E + 1 in
    let m = with_applied (E ++ p ∷ []) (mark_count E) (replicate shape.servers p.position) in
    let found = find-new e E p (has-no_mark shape E e order (omega arith)) (ap
    (is_mark_numbered e) at ∙ eq-eqb e e refl) in
    ap (λ (o : Option Placed). show_next m (option_map (λ (q : Placed). q.position) o)) found
    ∙ ap (show_mark m) (none-below shape.servers p.position)

-- ---- entry by entry

pub one-entry : (shape : Shape) (E : List Placed) (p : Placed) (done : ℕ) (x : Entry)
    (rest : List Event) →
    p.entry ≡ x → IsOrder shape E → p.position ≡ length E + 1 → HasNumber (mark_count E + 1) x →
    done ≤ length E →
    machine_after shape (made shape E done) (entry_events shape done p.position x ++ rest)
    ≡ machine_after shape (made shape (E ++ p ∷ []) (done_after done p.position x)) rest
unfolding machine_after world_step
one-entry shape E p done (Writes w) rest at order place number low =
    let q : Placed = record { position = length E + 1; entry = Writes w } in
    let same : q ≡ p = λ i. record { position = sym place i; entry = sym at i } in
    let marks : mark_count E ≡ mark_count (E ++ p ∷ []) =
    sym (marks-push E p ∙ ap (λ (y : Entry). mark_count E + cond (is_mark y) 1 0) at ∙ omega arith)
    in
    ap₂ (λ (y : Placed) (n : ℕ). machine_after shape (record {
      order = E ++ y ∷ [];
      applied = replicate shape.servers done;
      shown = n;
    }) rest) same marks
one-entry shape E p done (Marks e) rest at order place number low =
    let due : p.entry ≡ Marks (mark_count E + 1) = at ∙ ap Marks number in
    let q : Placed = record { position = length E + 1; entry = Marks (mark_count E + 1) } in
    let same : q ≡ p = λ i. record { position = sym place i; entry = sym due i } in
    let marks : mark_count E + 1 ≡ mark_count (E ++ p ∷ []) =
    sym (marks-push E p ∙ ap (λ (y : Entry). mark_count E + cond (is_mark y) 1 0) at)
    in
    let k = p.position - done in
    let n = shape.servers in
    let all : done + k ≡ p.position = omega (arith, low, place) in
    let tail = applies shape k in
    ap (λ (y : Placed). machine_after shape (with_applied (E ++ y ∷ []) (mark_count E)
    (replicate n done)) ((tail ++ (Show ∷ [])) ++ rest)) same
    ∙ ap (machine_after shape (with_applied (E ++ p ∷ []) (mark_count E) (replicate n done)))
    (append_assoc tail (Show ∷ []) rest)
    ∙ after-append shape (with_applied (E ++ p ∷ []) (mark_count E) (replicate n done)) tail
    (Show ∷ rest)
    ∙ ap (λ (m : Machine). machine_after shape m (Show ∷ rest))
    (apply-each shape (E ++ p ∷ []) (mark_count E) done k n 1 [] (omega
    (arith, all, place, length-append E (p ∷ []))) refl
    ∙ ap (λ a. with_applied (E ++ p ∷ []) (mark_count E) (replicate n a)) all)
    ∙ ap (λ (s : Step). machine_after shape s.machine rest) (show-step shape E p order due)
    ∙ ap (λ c. machine_after shape (with_applied (E ++ p ∷ []) c
    (replicate n p.position)) rest) marks

pub done-within : (done at n : ℕ) (x : Entry) → done ≤ n → at ≡ n + 1 → done_after done at x ≤ n + 1
done-within done at n (Writes w) low place = omega (arith, low)
done-within done at n (Marks e) low place = omega (arith, place)

number-push : (E : List Placed) (p : Placed) (x : Entry) → p.entry
    ≡ x → HasNumber (mark_count E + 1) x →
    number_after (mark_count E + 1) x ≡ mark_count (E ++ p ∷ []) + 1
number-push E p (Writes w) at number =
    omega (arith, marks-push E p, ap one_if at)
  where
    one_if : Entry → ℕ
    one_if y = cond (is_mark y) 1 0
number-push E p (Marks e) at number =
    omega (arith, marks-push E p, ap one_if at)
  where
    one_if : Entry → ℕ
    one_if y = cond (is_mark y) 1 0

-- the entries after the next one
pub later-entries : (shape : Shape) (E ps : List Placed) (p : Placed) →
    IsNext shape E p → IsOrderFrom shape (length E + 1 + 1) (number_after
    (mark_count E + 1) p.entry) ps →
    IsOrderFrom shape (length (E ++ p ∷ []) + 1) (mark_count (E ++ p ∷ []) + 1) ps
later-entries shape E ps p next later =
    let long : length E + 1 ≡ length (E ++ p ∷ []) = sym (length-append E (p ∷ [])) in
    subst (λ n. IsOrderFrom shape n (mark_count (E ++ p ∷ []) + 1) ps) (ap (λ n. n + 1) long)
    (subst (λ k. IsOrderFrom shape (length E + 1 + 1) k ps)
    (number-push E p p.entry refl next.number) later)

made-by : (shape : Shape) (E ps : List Placed) (done : ℕ) → IsOrder shape E → done ≤ length E →
    IsOrderFrom shape (length E + 1) (mark_count E + 1) ps →
    machine_after shape (made shape E done) (events_from shape done ps)
    ≡ made shape (E ++ ps) (last_mark_from done ps)
unfolding machine_after events_from
made-by shape E [] done order low entries = ap (λ F. made shape F done) (sym (append-nil E))
made-by shape E (p ∷ ps) done order low entries =
    let next = entries.0 in
    let then = done_after done p.position p.entry in
    let within = done-within done p.position (length E) p.entry low next.at in
    one-entry shape E p done p.entry (events_from shape then ps) refl order next.at next.number low
    ∙ made-by shape (E ++ p ∷ []) ps then (order-push shape E p order next)
    (omega (arith, within, length-append E (p ∷ []))) (later-entries shape E ps p next entries.1)
    ∙ ap (λ F. made shape F (last_mark_from then ps)) (append_assoc E (p ∷ []) ps)

-- ---- the laws

pub events-make_orders : EventsMakeOrders
events-make_orders shape J order = made-by shape [] J 0 tt (omega arith) order

pub servers-read_alike : ServersReadAlike
unfolding world_step
servers-read_alike shape m i j first second = refl

pub epochs-are_read : EpochsAreRead
unfolding world_step
epochs-are_read shape E F server first second order =
    let front = order-front shape E F order in
    let e = mark_count E in
    ap (λ (m : Machine). (world_step shape m (Read server first second)).reply)
    (events-make_orders shape E front)
    ∙ ap (λ rs. replies.Blocks e (slice_index_or (blocks_of (layout shape rs)) first [])
    (slice_index_or (blocks_of (layout shape rs)) second []))
    (sym (before-more shape E F e front (omega arith)))
