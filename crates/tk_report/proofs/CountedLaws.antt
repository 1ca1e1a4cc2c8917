-- The count of a run's entries, when one more comes.
use Rattle.std.proofs.Common.{◌≡◌, ◌∙◌, ℕ, ◌+◌, ◌^◌, ◌<◌, ◌≤◌, refl, ap, sym, subst, arith}
use Rattle.std.proofs.Common.{Bool, true, false, cond, List, [], ◌∷◌, ◌++◌, length-append}
use Rattle.std.specs.Prelude.{All, ◌↔◌}
use Rattle.std.proofs.lemmas.List.Elements.{All-weaker}
use Rattle.tk_shape.specs.declared.shape.Shape.{Shape}
use Rattle.tk_frames.specs.declared.write_frame.WriteFrame.{WriteFrame}
use Rattle.tk_frames.specs.declared.entry.Placed.{Placed as AtPlace}
use Rattle.tk_frames.specs.declared.entry.Entry.TheVariants.{Write, Mark}
use Rattle.tk_frames.specs.InOrder.{IsNext}
use Rattle.tk_frames.specs.Order.{Record, records}
use Rattle.tk_frames.proofs.Offers.{record_of, records-write, records-mark, length-writes_and_marks, order-push}
use Rattle.tk_table.specs.declared.table.Put.{Put}
use Rattle.tk_table.specs.declared.table.Put.TheVariants.{Placed, Displaced}
use Rattle.tk_table.specs.Ordered.{AreOrdered}
use Rattle.tk_table.specs.Stands.{Kept, TableStandsFor, IsWrite as IsRecord}
use Rattle.tk_table.specs.Table.{is_displaced}
use Rattle.tk_table.proofs.Offers.{order-writes}
use Rattle.tk_report.specs.declared.count.Count.{Count}
use Rattle.tk_report.specs.Counts.{HasCounted, MayCount}
use Rattle.tk_report.specs.Displaced.{displaced_on}
use Rattle.tk_report.proofs.DisplacedLaws.{displaced-more, displaced-few}
use Rattle.tk_report.proofs.OrderCounts.{next-few}

-- there are few enough displaced writes to count one more
pub count-room : (p : AtPlace) (c : Count) → MayCount p c → c.displaced + 1 < 2 ^ 32
count-room p c may =
    omega (
      arith,
      may.counted.displaced,
      displaced-few may.shape [] [] (records may.E),
      length-writes_and_marks may.E,
      next-few may.shape may.E p may.next,
    )

-- ---- it comes

-- what a table makes of a write, and what becomes of the write
abbrev Stands : Kept → Kept → ℕ → ℕ × ℕ → List ℕ → Type 0
Stands old new position pair block =
    (R : List Record) (r : Record) → TableStandsFor old R → AreOrdered old.shape R →
    IsRecord r position pair block → TableStandsFor new (R ++ r ∷ [])

abbrev Displaces : Kept → Put → ℕ → ℕ × ℕ → List ℕ → Type 0
Displaces old put position pair block =
    (R : List Record) (r : Record) → TableStandsFor old R → AreOrdered old.shape R →
    IsRecord r position pair block → (put ≡ Displaced) ↔ (is_displaced old.shape R r ≡ true)

-- a write is counted
pub counted-write : (shape : Shape) (E : List AtPlace) (c : Count) (t : Kept) (n : ℕ) (put : Put)
    (p : AtPlace) (w : WriteFrame) (block : List ℕ) → block ≡ w.block →
    HasCounted shape E c → IsNext shape E p → p.entry ≡ Write w →
    t.shape ≡ c.table.shape → All (λ k. k ≤ p.position) t.positions →
    Stands c.table t p.position (w.first, w.second) block →
    Displaces c.table put p.position (w.first, w.second) block →
    ((d : Bool) → (put ≡ Displaced) ↔ (d ≡ true) → n ≡ c.displaced + cond d 1 0) →
    HasCounted shape (E ++ p ∷ []) (record { table = t; entries = p.position; displaced = n })
counted-write shape E c t n put p w block its is next at same latest stands displaces adds =
    let R = records E in
    let r = record_of p w in
    let writes : R ++ r ∷ [] ≡ records (E ++ p ∷ []) = sym (records-write E p w at) in
    let ordered = subst (λ (sh : Shape). AreOrdered sh R) (sym is.same) (order-writes shape E is.order) in
    let here : IsRecord r p.position (w.first, w.second) block =
    record { position = refl; first = refl; second = refl; block = sym its } in
    record {
      order = order-push shape E p is.order next;
      same = same ∙ is.same;
      table = subst (TableStandsFor t) writes (stands R r is.table ordered here);
      latest = latest;
      entries = next.at ∙ sym (length-append E (p ∷ []));
      displaced =
          adds (is_displaced c.table.shape R r) (displaces R r is.table ordered here)
          ∙ ap (λ (sh : Shape). c.displaced + cond (is_displaced sh R r) 1 0) is.same
          ∙ ap (λ (k : ℕ). k + cond (is_displaced shape R r) 1 0) is.displaced
          ∙ sym (displaced-more shape R r)
          ∙ ap (displaced_on shape [] []) writes;
    }

-- a mark changes no count
pub counted-mark : (shape : Shape) (E : List AtPlace) (c : Count) (p : AtPlace) (e : ℕ) →
    HasCounted shape E c → IsNext shape E p → p.entry ≡ Mark e →
    HasCounted shape (E ++ p ∷ []) (record c { entries = p.position })
counted-mark shape E c p e is next at =
    let none : records E ≡ records (E ++ p ∷ []) = sym (records-mark E p e at) in
    record {
      order = order-push shape E p is.order next;
      same = is.same;
      table = subst (TableStandsFor c.table) none is.table;
      latest =
          All-weaker (λ k. k ≤ c.entries) (λ k. k ≤ p.position)
          (λ k low. omega (arith, low, is.entries, next.at)) c.table.positions is.latest;
      entries = next.at ∙ sym (length-append E (p ∷ []));
      displaced = is.displaced ∙ ap (displaced_on shape [] []) none;
    }

-- ---- what became of a write

-- one that was placed adds nothing, and one that was displaced adds one
pub placed-adds : (put : Put) (displaced : Bool) (n : ℕ) →
    (put ≡ Displaced) ↔ (displaced ≡ true) → put ≡ Placed → n ≡ n + cond displaced 1 0
placed-adds put true n means placed = absurd (cc (means.1 refl, placed))
placed-adds put false n means placed = omega arith

pub displaced-adds : (put : Put) (displaced : Bool) (n : ℕ) →
    (put ≡ Displaced) ↔ (displaced ≡ true) → put ≡ Displaced → n + 1 ≡ n + cond displaced 1 0
displaced-adds put true n means is = refl
displaced-adds put false n means is = absurd (cc (means.0 is))
