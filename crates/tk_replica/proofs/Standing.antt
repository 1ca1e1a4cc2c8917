-- What a state stands for, when it is opened, takes one more entry, and lets epochs go.
use Rattle.std.proofs.Common.{◌≡◌, ℕ, zero, suc, ◌+◌, ◌-◌, ◌<◌, ◌≤◌, inl, inr, refl, ap, sym, ◌∙◌}
use Rattle.std.proofs.Common.{subst, arith, List, [], ◌∷◌, ◌++◌, length, drop, length-append, length-drop}
use Rattle.std.specs.Prelude.{slice_index_or, All}
use Rattle.std.proofs.Math.ListN.{get_or-append}
use Rattle.std.proofs.Math.Seq.{get_or-append_seam}
use Rattle.std.proofs.lemmas.Bool.{cases_lt}
use Rattle.std.proofs.lemmas.List.{get_or-drop}
use Rattle.std.proofs.lemmas.List.Elements.{All-get_or}
use Rattle.tk_shape.specs.declared.shape.Shape.{Shape}
use Rattle.tk_frames.specs.declared.write_frame.WriteFrame.{WriteFrame}
use Rattle.tk_frames.specs.declared.entry.Placed.{Placed}
use Rattle.tk_frames.specs.declared.entry.Entry.TheVariants.{Write, Mark}
use Rattle.tk_frames.specs.Order.{Record, records, before}
use Rattle.tk_frames.specs.Ranges.{IsPlaced}
use Rattle.tk_frames.proofs.Offers.{before-none, record_of, records-write, records-mark, marks-write, marks-mark}
use Rattle.tk_table.specs.Ordered.{AreOrdered}
use Rattle.tk_table.specs.Table.{layout, blocks_of}
use Rattle.tk_table.specs.Stands.{Kept, TableStandsFor, IsWrite}
use Rattle.tk_bloom.specs.Filters.{positions_of, marks_of, is_shown as are_shown}
use Rattle.tk_bloom.specs.Windows.{Kept as KeptPushes}
use Rattle.tk_replica.specs.declared.epoch.Epoch.{Epoch}
use Rattle.tk_frames.specs.InOrder.{mark_count, HasNumber, IsNextAt, IsNext, IsOrder}
use Rattle.tk_table.specs.Shown.{pushes_of}
use Rattle.tk_replica.specs.Epochs.{EpochStandsFor, IsEpochOf}
use Rattle.tk_replica.specs.Store.{Stored, IsNewStore, IsTaken, pushed, window_with}
use Rattle.tk_replica.specs.Replica.{ReplicaView, StandsFor, replica_with}
use Rattle.tk_frames.proofs.Offers.{order-push, before-more, before-mark, mark_position-more, mark_position-mark}
use Rattle.tk_table.proofs.Offers.{order-writes, pushes-more, pushes-none}

-- ---- an epoch

pub same-writes : (shape : Shape) (R S : List Record) (epoch : Epoch) → R ≡ S →
    EpochStandsFor shape R epoch → EpochStandsFor shape S epoch
same-writes shape R S epoch same is =
    subst (λ (rs : List Record). EpochStandsFor shape rs epoch) same is

-- one that is kept, when one more entry comes
epoch-more : (shape : Shape) (E : List Placed) (p : Placed) (e : ℕ) (epoch : Epoch) →
    IsOrder shape E → IsNext shape E p → e ≤ mark_count E →
    IsEpochOf shape E e epoch → IsEpochOf shape (E ++ p ∷ []) e epoch
epoch-more shape E p e epoch order next within is =
    record {
      number = is.number;
      upto = is.upto ∙ sym (mark_position-more E p e next.number within);
      stands =
          same-writes shape (before E e) (before (E ++ p ∷ []) e) epoch
          (sym (before-more shape E (p ∷ []) e order within)) is.stands;
    }

-- one that is taken of the table and the window of these writes
pub taken-stands : (shape : Shape) (R : List Record) (number upto : ℕ) (t : Kept) (w : KeptPushes)
    (epoch : Epoch) → t.shape ≡ shape → TableStandsFor t R →
    w ≡ window_with shape (pushes_of shape R) → IsTaken shape number upto t w epoch →
    EpochStandsFor shape R epoch
taken-stands shape R number upto t w epoch same table window taken =
    record {
      same = taken.same;
      blocks =
          taken.blocks ∙ ap blocks_of table.slots ∙ ap (λ sh. blocks_of (layout sh R)) same;
      filter =
          taken.filter ∙ ap (λ (k : KeptPushes). marks_of k.bits (positions_of k.pushes)) window;
      shows = λ hits.
          taken.shows hits ∙ ap (λ (k : KeptPushes). are_shown (positions_of k.pushes) hits) window;
    }

-- the one that the next mark makes
epoch-new : (shape : Shape) (E : List Placed) (s : ReplicaView) (p : Placed) (n : ℕ)
    (epoch : Epoch) → StandsFor shape E s → p.entry ≡ Mark n → n ≡ mark_count E + 1 →
    IsTaken s.shape n p.position s.table s.window epoch →
    IsEpochOf shape (E ++ p ∷ []) n epoch
epoch-new shape E s p n epoch is at new taken =
    record {
      number = taken.number_is;
      upto = taken.upto_is ∙ sym (mark_position-mark shape E p n is.order at new);
      stands =
          same-writes shape (records E) (before (E ++ p ∷ []) n) epoch
          (sym (before-mark shape E p n is.order at new))
          (taken-stands shape (records E) n p.position s.table s.window epoch is.table_same
          is.table is.window
          (subst (λ sh. IsTaken sh n p.position s.table s.window epoch) is.same taken));
    }

-- ---- the next entry

-- what may come next to a state may stand after its entries
pub next-entry : (shape : Shape) (E : List Placed) (s : ReplicaView) (p : Placed) →
    StandsFor shape E s → IsNextAt s.shape (s.applied + 1) (s.last + 1) p → IsNext shape E p
next-entry shape E s p is next =
    record {
      at = next.at ∙ ap (λ n. n + 1) is.applied;
      in_range = subst (λ sh. IsPlaced sh p) is.same next.in_range;
      number = subst (λ n. HasNumber (n + 1) p.entry) is.last next.number;
    }

-- and the other way round
pub entry-next : (shape : Shape) (E : List Placed) (s : ReplicaView) (p : Placed) →
    StandsFor shape E s → IsNext shape E p → IsNextAt s.shape (s.applied + 1) (s.last + 1) p
entry-next shape E s p is next =
    record {
      at = next.at ∙ ap (λ n. n + 1) (sym is.applied);
      in_range = subst (λ sh. IsPlaced sh p) (sym is.same) next.in_range;
      number = subst (λ n. HasNumber (n + 1) p.entry) (sym is.last) next.number;
    }

-- the table's change at a write
abbrev TakesWrite : Kept → Kept → ℕ → ℕ × ℕ → List ℕ → Type 0
TakesWrite old new position pair block =
    (R : List Record) (w : Record) → TableStandsFor old R → AreOrdered old.shape R →
    IsWrite w position pair block → TableStandsFor new (R ++ w ∷ [])

pub stands-write : (shape : Shape) (E : List Placed) (s : ReplicaView) (t : Kept) (p : Placed)
    (w : WriteFrame) → StandsFor shape E s →
    IsNextAt s.shape (s.applied + 1) (s.last + 1) p → p.entry ≡ Write w →
    t.shape ≡ s.table.shape → TakesWrite s.table t p.position (w.first, w.second) w.block →
    StandsFor shape (E ++ p ∷ [])
    (record s { applied = p.position; table = t; window = pushed s.window w.hits })
stands-write shape E s t p w is may at same takes =
    let next = next-entry shape E s p is may in
    let counted = is.counted in
    let last = is.last in
    let writes = sym (records-write E p w at) in
    record {
      same = is.same;
      order = order-push shape E p is.order next;
      table_same = same ∙ is.table_same;
      table =
          subst (TableStandsFor t) writes
          (takes (records E) (record_of p w) is.table
          (subst (λ sh. AreOrdered sh (records E)) (sym is.table_same)
          (order-writes shape E is.order))
          (record { position = refl; first = refl; second = refl; block = refl }));
      window =
          ap (λ (k : KeptPushes). pushed k w.hits) is.window
          ∙ ap (window_with shape) (pushes-more shape (records E) (record_of p w)
          ∙ ap (pushes_of shape) writes);
      applied = let at = next.at in omega (arith, at, length-append E (p ∷ []));
      last = last ∙ sym (marks-write E p w at);
      counted = counted;
      some = is.some;
      kept = λ i d low.
          epoch-more shape E p (s.floor + i) (slice_index_or s.kept i d) is.order next
          (omega (arith, low, counted, last)) (is.kept i d low);
    }

pub stands-mark : (shape : Shape) (E : List Placed) (s : ReplicaView) (p : Placed) (n : ℕ)
    (epoch : Epoch) → StandsFor shape E s →
    IsNextAt s.shape (s.applied + 1) (s.last + 1) p → p.entry ≡ Mark n →
    IsTaken s.shape n p.position s.table s.window epoch →
    StandsFor shape (E ++ p ∷ [])
    (record s { applied = p.position; last = n; kept = s.kept ++ epoch ∷ [] })
stands-mark shape E s p n epoch is may at taken =
    let next = next-entry shape E s p is may in
    let counted = is.counted in
    let last = is.last in
    let long = length-append s.kept (epoch ∷ []) in
    let none = sym (records-mark E p n at) in
    let new : n ≡ mark_count E + 1 = subst (HasNumber (mark_count E + 1)) at next.number in
    record {
      same = is.same;
      order = order-push shape E p is.order next;
      table_same = is.table_same;
      table = subst (TableStandsFor s.table) none is.table;
      window = is.window ∙ ap (λ rs. window_with shape (pushes_of shape rs)) none;
      applied = let at = next.at in omega (arith, at, length-append E (p ∷ []));
      last = new ∙ sym (marks-mark E p n at);
      counted = omega (arith, counted, long, new, last);
      some = let low = is.some in omega (arith, low, new, last);
      kept = λ i d low. elim (cases_lt i (length s.kept)) [
        | inl old ↦
            subst (IsEpochOf shape (E ++ p ∷ []) (s.floor + i))
            (sym (get_or-append s.kept (epoch ∷ []) d i old))
            (epoch-more shape E p (s.floor + i) (slice_index_or s.kept i d) is.order next
            (omega (arith, old, counted, last)) (is.kept i d old))
        | inr past ↦
            let here : i ≡ length s.kept = omega (arith, low, past, long) in
            let number : n ≡ s.floor + i = omega (arith, here, counted, new, last) in
            subst (IsEpochOf shape (E ++ p ∷ []) (s.floor + i))
            (sym (get_or-append_seam s.kept epoch [] d)
            ∙ ap (λ k. slice_index_or (s.kept ++ epoch ∷ []) k d) (sym here))
            (subst (λ e. IsEpochOf shape (E ++ p ∷ []) e epoch) number
            (epoch-new shape E s p n epoch is at new taken))
      ];
    }

-- ---- what is let go, and what is kept

pub stands-released : (shape : Shape) (E : List Placed) (s : ReplicaView) (e : ℕ) →
    StandsFor shape E s → s.floor ≤ e → e ≤ s.last →
    StandsFor shape E (record s { floor = e; kept = drop (e - s.floor) s.kept })
stands-released shape E s e is low high =
    let gone = e - s.floor in
    let counted = is.counted in
    let long = length-drop gone s.kept in
    record {
      same = is.same;
      order = is.order;
      table_same = is.table_same;
      table = is.table;
      window = is.window;
      applied = is.applied;
      last = is.last;
      counted = omega (arith, counted, long, low, high);
      some = high;
      kept = λ i d within.
          let there : gone + i < length s.kept = omega (arith, within, long) in
          let same : s.floor + (gone + i) ≡ e + i = omega (arith, low) in
          subst (IsEpochOf shape E (e + i)) (sym (get_or-drop gone s.kept i d))
          (subst (λ n. IsEpochOf shape E n (slice_index_or s.kept (gone + i) d)) same
          (is.kept (gone + i) d there));
    }

pub kept-epoch : (shape : Shape) (E : List Placed) (s : ReplicaView) (e : ℕ) (epoch : Epoch) →
    StandsFor shape E s → s.floor ≤ e → e ≤ s.last →
    ((d : Epoch) → epoch ≡ slice_index_or s.kept (e - s.floor) d) → IsEpochOf shape E e epoch
kept-epoch shape E s e epoch is low high at =
    let counted = is.counted in
    let there : e - s.floor < length s.kept = omega (arith, counted, low, high) in
    let same : s.floor + (e - s.floor) ≡ e = omega (arith, low) in
    subst (IsEpochOf shape E e) (sym (at epoch))
    (subst (λ n. IsEpochOf shape E n (slice_index_or s.kept (e - s.floor) epoch)) same
    (is.kept (e - s.floor) epoch there))

-- it has the shape of the others
pub kept-shape : (s : ReplicaView) (k : ℕ) (epoch : Epoch) → All (λ x. x.shape ≡ s.shape) s.kept →
    k < length s.kept → ((d : Epoch) → epoch ≡ slice_index_or s.kept k d) → epoch.shape ≡ s.shape
kept-shape s k epoch same there at =
    ap (λ (x : Epoch). x.shape) (at epoch)
    ∙ All-get_or (λ (x : Epoch). x.shape ≡ s.shape) s.kept k epoch there same

-- ---- the state before any entry

pub stands-opened : (shape : Shape) (s : Stored) (epoch : Epoch) → IsNewStore shape s →
    IsTaken s.shape 0 0 s.table s.window epoch →
    StandsFor shape [] (replica_with 0 s (record { floor = 0; last = 0; epochs = epoch ∷ [] }))
stands-opened shape s epoch new taken =
    record {
      same = new.same;
      order = tt;
      table_same = new.table_same;
      table = new.table;
      window = pushes;
      applied = refl;
      last = refl;
      counted = refl;
      some = omega arith;
      kept = kept;
    }
  where
    pushes : s.window ≡ window_with shape (pushes_of shape [])
    pushes = new.window ∙ ap (window_with shape) (sym (pushes-none shape))

    first : epoch.number ≡ 0 → IsEpochOf shape [] 0 epoch
    first number =
        record {
          number = number;
          upto = taken.upto_is;
          stands =
              same-writes shape [] (before [] 0) epoch (sym (before-none []))
              (taken-stands shape [] 0 0 s.table s.window epoch new.table_same new.table pushes
              (subst (λ sh. IsTaken sh 0 0 s.table s.window epoch) new.same taken));
        }

    kept : (i : ℕ) (d : Epoch) → i < 1 →
        IsEpochOf shape [] (0 + i) (slice_index_or (epoch ∷ []) i d)
    kept zero d low = first taken.number_is
    kept (suc i) d low = absurd (omega (arith, low))
