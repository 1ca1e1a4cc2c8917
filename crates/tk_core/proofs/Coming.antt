-- The events of an order may come one after the other.
use Rattle.std.proofs.Common.{◌≡◌, ℕ, zero, suc, ◌+◌, ◌-◌, ◌*◌, ◌≤◌, refl, ap, sym, ◌∙◌, subst, arith}
use Rattle.std.proofs.Common.{List, [], ◌∷◌, ◌++◌, length, replicate, flat_map, append-nil, append_assoc, length-append}
use Rattle.std.specs.List.{AllByRecursion, range_with_len}
use Rattle.tk_shape.specs.declared.shape.Shape.{Shape}
use Rattle.tk_shape.specs.Lengths.{turn_count}
use Rattle.tk_frames.specs.declared.entry.Placed.{Placed}
use Rattle.tk_frames.specs.declared.entry.Entry.{Entry}
use Rattle.tk_frames.specs.declared.entry.Entry.TheVariants.{Write as Writes, Mark as Marks}
use Rattle.tk_frames.specs.Order.{records}
use Rattle.tk_frames.specs.Ranges.{IsEntry}
use Rattle.tk_frames.specs.InOrder.{mark_count, HasNumber, IsNext, IsOrderFrom, IsOrder}
use Rattle.tk_frames.proofs.Offers.{record_of, records-append, records-write, order-push}
use Rattle.tk_core.specs.declared.event.Event.{Event}
use Rattle.tk_core.specs.declared.event.Event.TheVariants.{Mark, Apply, Show}
use Rattle.tk_core.specs.Machine.{Machine, world_step, machine_after}
use Rattle.tk_core.specs.World.{IsServer, MayCome, MayAllCome}
use Rattle.tk_core.specs.Events.{applies, entry_events, done_after, events_from}
use Rattle.tk_core.specs.Laws.{EventsMayCome}
use Rattle.tk_core.proofs.Making.{made, one-entry, later-entries, done-within}

pub may-append : (shape : Shape) (m : Machine) (xs ys : List Event) → MayAllCome shape m xs →
    MayAllCome shape (machine_after shape m xs) ys → MayAllCome shape m (xs ++ ys)
unfolding machine_after MayAllCome
may-append shape m [] ys first then = then
may-append shape m (x ∷ xs) ys first then =
    (first.0, may-append shape (world_step shape m x).machine xs ys first.1 then)

-- ---- what may come at any time

abbrev MayEver : Shape → Event → Type 0
MayEver shape x = (m : Machine) → MayCome shape m x

ever-all : (shape : Shape) (m : Machine) (xs : List Event) → AllByRecursion (MayEver shape) xs →
    MayAllCome shape m xs
unfolding MayAllCome
ever-all shape m [] all = tt
ever-all shape m (x ∷ xs) all = (all.0 m, ever-all shape (world_step shape m x).machine xs all.1)

ever-append : (shape : Shape) (xs ys : List Event) → AllByRecursion (MayEver shape) xs →
    AllByRecursion (MayEver shape) ys → AllByRecursion (MayEver shape) (xs ++ ys)
ever-append shape [] ys first then = then
ever-append shape (x ∷ xs) ys first then = (first.0, ever-append shape xs ys first.1 then)

ever-several : (shape : Shape) (server k : ℕ) → IsServer shape server →
    AllByRecursion (MayEver shape) (replicate k (Apply server))
ever-several shape server zero is = tt
ever-several shape server (suc k) is = (λ m. is, ever-several shape server k is)

ever-each : (shape : Shape) (k a c : ℕ) → 1 ≤ a → a + c ≤ shape.servers + 1 →
    AllByRecursion (MayEver shape) (flat_map (λ server. replicate k (Apply server))
    (range_with_len a c))
ever-each shape k a zero low high = tt
ever-each shape k a (suc c) low high =
    ever-append shape (replicate k (Apply a))
    (flat_map (λ server. replicate k (Apply server)) (range_with_len (a + 1) c))
    (ever-several shape a k (record { low = low; high = omega (arith, high) }))
    (ever-each shape k (a + 1) c (omega (arith, low)) (omega (arith, high)))

-- ---- entry by entry

entry-may : (shape : Shape) (E : List Placed) (p : Placed) (done : ℕ) (x : Entry) → p.entry ≡ x →
    IsNext shape E p → length (records (E ++ p ∷ [])) ≤ shape.clients * turn_count shape →
    MayAllCome shape (made shape E done) (entry_events shape done p.position x)
unfolding MayAllCome
entry-may shape E p done (Writes w) at next few =
    let count = ap length (records-write E p w at) in
    let long = length-append (records E) (record_of p w ∷ []) in (
      record {
        in_range = subst (IsEntry shape) at (next.in_range).entry;
        few = omega (arith, few, count, long);
      },
      tt,
    )
entry-may shape E p done (Marks e) at next few =
    let number : e ≡ mark_count E + 1 =
    subst (HasNumber (mark_count E + 1)) at next.number
    in
    let range = subst (IsEntry shape) at (next.in_range).entry in
    let high = range.1 in
    let k = p.position - done in (
      omega (arith, number, high),
      ever-all shape (world_step shape (made shape E done) Mark).machine (applies shape k ++
          (Show ∷ []))
          (ever-append shape (applies shape k) (Show ∷ [])
          (ever-each shape k 1 shape.servers (omega arith) (omega arith)) (λ m. tt, tt)),
    )

may-from : (shape : Shape) (E ps : List Placed) (done : ℕ) → IsOrder shape E → done ≤ length E →
    IsOrderFrom shape (length E + 1) (mark_count E + 1) ps →
    length (records (E ++ ps)) ≤ shape.clients * turn_count shape →
    MayAllCome shape (made shape E done) (events_from shape done ps)
unfolding machine_after MayAllCome events_from
may-from shape E [] done order low entries few = tt
may-from shape E (p ∷ ps) done order low entries few =
    let next = entries.0 in
    let then = done_after done p.position p.entry in
    let xs = entry_events shape done p.position p.entry in
    let within = done-within done p.position (length E) p.entry low next.at in
    let grouped : (E ++ p ∷ []) ++ ps ≡ E ++ p ∷ ps = append_assoc E (p ∷ []) ps in
    let few_then : length (records ((E ++ p ∷ []) ++ ps)) ≤ shape.clients * turn_count shape =
    subst (λ F. length (records F) ≤ shape.clients * turn_count shape) (sym grouped) few
    in
    let parts = ap length (records-append (E ++ p ∷ []) ps) in
    let sum = length-append (records (E ++ p ∷ [])) (records ps) in
    let here : machine_after shape (made shape E done) xs ≡ made shape (E ++ p ∷ []) then =
    ap (machine_after shape (made shape E done)) (sym (append-nil xs))
    ∙ one-entry shape E p done p.entry [] refl order next.at next.number low
    in
    may-append shape (made shape E done) xs (events_from shape then ps)
    (entry-may shape E p done p.entry refl next (omega (arith, few_then, parts, sum)))
    (subst (λ m. MayAllCome shape m (events_from shape then ps)) (sym here)
    (may-from shape (E ++ p ∷ []) ps then (order-push shape E p order next)
    (omega (arith, within, length-append E (p ∷ [])))
    (later-entries shape E ps p next entries.1) few_then))

pub events-may_come : EventsMayCome
events-may_come shape J order few = may-from shape [] J 0 tt (omega arith) order few
