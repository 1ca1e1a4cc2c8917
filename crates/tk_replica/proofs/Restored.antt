-- A state made of the table and the window that some entries left.
use Rattle.std.proofs.Common.{◌≡◌, ℕ, ◌+◌, ◌≤◌, inl, inr, refl, ap, ap₂, sym, ◌∙◌, subst, arith, List, []}
use Rattle.std.proofs.Common.{◌∷◌, ◌++◌, length, length-append}
use Rattle.std.specs.Prelude.{slice_index_or, All}
use Rattle.std.proofs.lemmas.List.Elements.{All-cons}
use Rattle.tk_shape.specs.declared.shape.Shape.{Shape}
use Rattle.tk_frames.specs.declared.entry.Placed.{Placed}
use Rattle.tk_frames.specs.Order.{records, before}
use Rattle.tk_frames.specs.InOrder.{mark_count, mark_position, HasNumber, IsNext, IsOrder}
use Rattle.tk_frames.proofs.Offers.{records-mark, marks-mark, before-none, before-mark}
use Rattle.tk_frames.proofs.Offers.{mark_position-mark, order-front, order-rest}
use Rattle.tk_table.specs.Stands.{Kept, TableStandsFor}
use Rattle.tk_bloom.specs.Windows.{Kept as KeptPushes}
use Rattle.tk_replica.specs.declared.epoch.Epoch.{Epoch}
use Rattle.tk_replica.specs.Epochs.{IsEpochOf}
use Rattle.tk_replica.specs.Store.{Stored, IsTaken}
use Rattle.tk_replica.specs.Shelf.{Shelved}
use Rattle.tk_replica.specs.Replica.{ReplicaView, IsReplica, StandsFor, replica_with}
use Rattle.tk_replica.specs.Restoring.{HasLeft, IsRestored, EndsWithMark}
use Rattle.tk_replica.proofs.Standing.{same-writes, taken-stands}

-- the epoch of the mark at the end, or the first where there are no entries
epoch-last : (shape : Shape) (E : List Placed) (applied last : ℕ) (table : Kept) (window : KeptPushes)
    (epoch : Epoch) → table.shape ≡ shape → HasLeft shape E applied last table window →
    EndsWithMark E → IsTaken shape last applied table window epoch → IsEpochOf shape E last epoch
epoch-last shape E applied last table window epoch same left (inl none) taken =
    let zero_last : last ≡ 0 = left.last_is ∙ ap mark_count none in
    let writes : records E ≡ before E last =
    ap records none ∙ sym (before-none []) ∙ ap (before []) (sym zero_last) ∙ ap (λ e. before e last) (sym none) in
    record {
      number = taken.number_is;
      upto = taken.upto_is ∙ left.applied_is ∙ ap length none ∙ ap (λ e. mark_position e last) (sym none);
      stands = same-writes shape (records E) (before E last) epoch writes
          (taken-stands shape (records E) last applied table window epoch same left.table_is left.window_is taken);
    }
epoch-last shape E applied last table window epoch same left (inr marked) taken =
    let front = marked.front in
    let p = marked.last in
    let n = marked.number in
    let order : IsOrder shape (front ++ p ∷ []) = subst (IsOrder shape) marked.split left.order in
    let next : IsNext shape front p = (order-rest shape front (p ∷ []) order).0 in
    let fronts : IsOrder shape front = order-front shape front (p ∷ []) order in
    let new : n ≡ mark_count front + 1 = subst (HasNumber (mark_count front + 1)) marked.mark next.number in
    let here : last ≡ n = left.last_is ∙ ap mark_count marked.split ∙ marks-mark front p n marked.mark ∙ sym new in
    let writes : records E ≡ before E last =
    ap records marked.split ∙ records-mark front p n marked.mark
    ∙ sym (before-mark shape front p n fronts marked.mark new)
    ∙ ap₂ before (sym marked.split) (sym here) in
    let long : applied ≡ p.position =
    left.applied_is ∙ ap length marked.split ∙ length-append front (p ∷ []) ∙ sym next.at in
    record {
      number = taken.number_is;
      upto = taken.upto_is ∙ long ∙ sym (mark_position-mark shape front p n fronts marked.mark new)
          ∙ ap₂ mark_position (sym marked.split) (sym here);
      stands = same-writes shape (records E) (before E last) epoch writes
          (taken-stands shape (records E) last applied table window epoch same left.table_is left.window_is taken);
    }

-- a state that is made of what entries left stands for them
pub stands-restored : (shape : Shape) (E : List Placed) (applied last : ℕ) (table : Kept) (window : KeptPushes)
    (s : ReplicaView) → table.shape ≡ shape → HasLeft shape E applied last table window →
    IsRestored shape applied last table window s → StandsFor shape E s
stands-restored shape E applied last table window s same left is =
    let one = ap length is.kept in
    let floor = is.floor_is in
    let ends = is.last_is in
    record {
      same = is.same;
      order = left.order;
      table_same = ap (λ (t : Kept). t.shape) is.table_is ∙ same;
      table = subst (λ t. TableStandsFor t (records E)) (sym is.table_is) left.table_is;
      window = is.window_is ∙ left.window_is;
      applied = is.applied_is ∙ left.applied_is;
      last = is.last_is ∙ left.last_is;
      counted = omega (arith, one, floor, ends);
      some = omega (arith, floor, ends);
      kept = λ i d low.
          let none : i ≡ 0 = omega (arith, low, one) in
          let at : last ≡ s.floor + i = omega (arith, none, floor) in
          let first : is.epoch ≡ slice_index_or s.kept i d =
          sym (ap₂ (λ es k. slice_index_or es k d) is.kept none) in
          subst (λ e. IsEpochOf shape E e (slice_index_or s.kept i d)) at
          (subst (IsEpochOf shape E last) first
          (epoch-last shape E applied last table window is.epoch same left left.ends is.taken));
    }

-- the parts of a state that is made of a table and a window
pub parts-restored : (shape : Shape) (applied last : ℕ) (table : Kept) (window : KeptPushes) (made now : Stored)
    (shelf : Shelved) (epoch : Epoch) → made ≡ record { shape = shape; table = table; window = window } →
    now ≡ made → shelf ≡ record { floor = last; last = last; epochs = epoch ∷ [] } →
    IsTaken made.shape last applied made.table made.window epoch →
    IsRestored shape applied last table window (replica_with applied now shelf)
parts-restored shape applied last table window made now shelf epoch is same held taken =
    let parts : Stored = record { shape = shape; table = table; window = window } in
    subst (λ (s : Stored). IsRestored shape applied last table window (replica_with applied s shelf))
    (sym (same ∙ is))
    (subst (λ (f : Shelved). IsRestored shape applied last table window (replica_with applied parts f)) (sym held)
    (record {
      same = refl;
      applied_is = refl;
      last_is = refl;
      floor_is = refl;
      table_is = refl;
      window_is = refl;
      epoch = epoch;
      kept = refl;
      taken = subst (λ (s : Stored). IsTaken s.shape last applied s.table s.window epoch) is taken;
    }))

-- a state that is made of parts of one shape is a state
pub replica-restored : (shape : Shape) (applied last : ℕ) (table : Kept) (window : KeptPushes) (s : ReplicaView) →
    IsRestored shape applied last table window s → All (λ p. p ≤ applied) table.positions → IsReplica s
replica-restored shape applied last table window s is latest =
    record {
      latest = subst (λ (t : Kept). All (λ p. p ≤ s.applied) t.positions) (sym is.table_is)
          (subst (λ a. All (λ p. p ≤ a) table.positions) (sym is.applied_is) latest);
      epochs_same = subst (λ (es : List Epoch). All (λ (e : Epoch). e.shape ≡ s.shape) es) (sym is.kept)
          (All-cons (λ (e : Epoch). e.shape ≡ s.shape) is.epoch [] (is.taken.same ∙ sym is.same)
          (λ k d low. absurd (omega arith)));
    }
