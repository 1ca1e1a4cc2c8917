-- A state that is made of what bytes have.
use Rattle.std.proofs.Common.{◌≡◌, ℕ, ◌/◌, List, length, sym, ap, ap₂, ◌∙◌, subst, arith}
use Rattle.std.proofs.Math.Nat.{mul-div_left}
use Rattle.tk_shape.specs.declared.shape.Shape.{Shape}
use Rattle.tk_kernel.proofs.Offers.{length-pieces}
use Rattle.tk_frames.specs.declared.entry.Placed.{Placed}
use Rattle.tk_frames.specs.InOrder.{IsOrder}
use Rattle.tk_bloom.specs.Windows.{Kept as KeptPushes, pushes_in}
use Rattle.tk_table.specs.Stands.{Kept}
use Rattle.tk_table.specs.Restoring.{table_spelled}
use Rattle.tk_replica.specs.Store.{window_with}
use Rattle.tk_replica.specs.Replica.{ReplicaView}
use Rattle.tk_replica.specs.Restoring.{IsRestored, EndsWithMark, HasLeft}
use Rattle.tk_checkpoint.specs.Saved.{saved}
use Rattle.tk_checkpoint.specs.Reading.{applied_in, last_in, count_in, window_part, table_part}
use Rattle.tk_checkpoint.specs.Reading.{positions_in, hits_in, saved_in}
use Rattle.tk_checkpoint.specs.Restored.{GoesOnFrom}
use Rattle.tk_checkpoint.proofs.Standing.{table_with, saved_with, left-saved}
use Rattle.tk_checkpoint.proofs.Written.{restored-at_mark, restored-spelled}
use Rattle.tk_checkpoint.proofs.Places.{length-positions}
use Rattle.tk_checkpoint.proofs.Sounds.{length-hits}

module _ (shape : Shape) (bytes : List ℕ) where
  pub table_made : (positions table : List ℕ) → positions ≡ positions_in shape bytes → table ≡ table_part shape bytes →
      (t : Kept) → t ≡ record { shape = shape; slots = table_spelled shape table; positions = positions } →
      t ≡ table_with shape (saved_in shape bytes)
  unfolding saved_in
  table_made positions table same spelled t is =
      is ∙ ap₂ (λ ps ys. record { shape = shape; slots = table_spelled shape ys; positions = ps }) same spelled

  pub window_made : (hits : List ℕ) → hits ≡ hits_in shape bytes → (w : KeptPushes) →
      w ≡ window_with shape (pushes_in shape.hits hits) → w ≡ window_with shape (saved_in shape bytes).pushes
  unfolding saved_in
  window_made hits same w is = is ∙ ap (λ hs. window_with shape (pushes_in shape.hits hs)) same

  module _ (applied last : ℕ) (table : Kept) (window : KeptPushes) (started : applied ≡ applied_in bytes)
      (ended : last ≡ last_in bytes) (made : table ≡ table_with shape (saved_in shape bytes))
      (shown : window ≡ window_with shape (saved_in shape bytes).pushes) where
    pub goes_on : (s : ReplicaView) → IsRestored shape applied last table window s → GoesOnFrom shape bytes s
    unfolding saved_in
    goes_on s is =
        let count = count_in bytes in
        let window_bytes = window_part bytes in
        let all = length-pieces shape.hits (length (hits_in shape bytes) / shape.hits) (hits_in shape bytes) in
        let whole = ap (λ n. n / shape.hits) (length-hits shape.hits count window_bytes)
        ∙ mul-div_left count (omega (arith, shape.in_range.hits_low)) in
        let beside : length window.pushes ≡ length table.positions =
        ap (λ (w : KeptPushes). length w.pushes) shown ∙ all ∙ whole
        ∙ sym (ap (λ (t : Kept). length t.positions) made ∙ length-positions shape.hits count window_bytes) in
        record {
          same = is.same;
          parts =
              ap₂ (λ a l. saved_with a l s.table.positions s.window.pushes s.table.slots)
              (is.applied_is ∙ started) (is.last_is ∙ ended)
              ∙ ap (λ (t : Kept). saved_with (applied_in bytes) (last_in bytes) t.positions s.window.pushes t.slots)
              (is.table_is ∙ made)
              ∙ ap (λ (w : KeptPushes). saved_with (applied_in bytes) (last_in bytes) (positions_in shape bytes) w.pushes
              (table_spelled shape (table_part shape bytes))) (is.window_is ∙ shown);
          floor = is.floor_is ∙ sym is.last_is;
          written = restored-spelled shape applied last table window s is beside;
          at_mark = restored-at_mark shape applied last table window s is;
        }

    pub has_left : (E : List Placed) → IsOrder shape E → EndsWithMark E → bytes ≡ saved shape E →
        HasLeft shape E applied last table window
    unfolding saved_in
    has_left E order ends is =
        subst (λ (l : ℕ). HasLeft shape E applied l table window) (sym ended)
        (subst (λ (a : ℕ). HasLeft shape E a (last_in bytes) table window) (sym started)
        (left-saved shape E bytes table window order ends is made shown))
