-- What sets stand for when more entries come.
use Rattle.std.proofs.Common.{◌≡◌, ◌⊎◌, inl, inr, ⊎_elim, ℕ, zero, suc, ◌≤◌, refl, ap, sym, ◌∙◌, subst, arith}
use Rattle.std.proofs.Common.{List, [], ◌∷◌, ◌++◌, length, take, Some, slice_get}
use Rattle.std.proofs.lemmas.List.{take-append-le}
use mathlib.Core.List.{IsPrefix}
use Rattle.tk_shape.specs.declared.shape.Shape.{Shape}
use Rattle.tk_frames.specs.declared.entry.Placed.{Placed}
use Rattle.tk_frames.specs.Order.{Record}
use Rattle.tk_frames.specs.InOrder.{mark_count, IsOrder}
use Rattle.tk_frames.proofs.Offers.{before-more, order-front, marks-append}
use Rattle.tk_replica.specs.declared.epoch.Epoch.{Epoch}
use Rattle.tk_replica.specs.Epochs.{EpochStandsFor, IsEpochOf}
use Rattle.tk_replica.specs.Following.{marks_among}
use Rattle.tk_replica.proofs.Offers.{position-same}
use Rattle.tk_cluster.specs.declared.set.EpochSet.{EpochSet}
use Rattle.tk_cluster.specs.Sets.{StandsAtMark, AreShown}

-- an epoch is that of the same mark when more entries come
epoch-more : (shape : Shape) (E F : List Placed) (e : ℕ) (epoch : Epoch) → IsOrder shape (E ++ F) →
    e ≤ mark_count E → IsEpochOf shape E e epoch → IsEpochOf shape (E ++ F) e epoch
epoch-more shape E F e epoch order within is =
    record {
      number = is.number;
      upto = is.upto ∙ sym (position-same shape E F e order within);
      stands =
          subst (λ (R : List Record). EpochStandsFor shape R epoch)
          (sym (before-more shape E F e (order-front shape E F order) within)) is.stands;
    }

stands-append : (shape : Shape) (E F : List Placed) (e : ℕ) (set : EpochSet) →
    IsOrder shape (E ++ F) → StandsAtMark shape E e set → StandsAtMark shape (E ++ F) e set
stands-append shape E F e set order is =
    record {
      same = is.same;
      number = is.number;
      marked = omega (arith, is.marked, marks-append E F);
      servers = λ k d lt. epoch-more shape E F e _ order is.marked (is.servers k d lt);
    }

pub stands-more : (shape : Shape) (E F : List Placed) (e : ℕ) (set : EpochSet) → IsPrefix E F →
    IsOrder shape F → StandsAtMark shape E e set → StandsAtMark shape F e set
stands-more shape E F e set more order is =
    subst (λ G. StandsAtMark shape G e set) more.1
    (stands-append shape E more.0 e set (subst (IsOrder shape) (sym more.1) order) is)

pub shows-more : (shape : Shape) (E F : List Placed) (sets : List EpochSet) → IsPrefix E F →
    IsOrder shape F → AreShown shape sets E → AreShown shape sets F
shows-more shape E F sets more order shows e set at =
    stands-more shape E F e set more order (shows e set at)

-- what stands in a list with one more at its end
get_snoc : {A : Type 0} (xs : List A) (y : A) (k : ℕ) (x : A) →
    slice_get (xs ++ y ∷ []) k ≡ Some x →
    (slice_get xs k ≡ Some x) ⊎ ((k ≡ length xs) × (y ≡ x))
get_snoc [] y zero x h = inr (refl, cc h)
get_snoc [] y (suc k) x h = absurd (cc h)
get_snoc (z ∷ xs) y zero x h = inl h
get_snoc (z ∷ xs) y (suc k) x h =
    ⊎_elim (λ i. inl i) (λ i. inr (ap suc i.0, i.1)) (get_snoc xs y k x h)

-- one set more
pub shows-next : (shape : Shape) (E : List Placed) (sets : List EpochSet) (set : EpochSet) →
    AreShown shape sets E → StandsAtMark shape E (length sets) set → AreShown shape (sets ++ set ∷ []) E
shows-next shape E sets set shows next e x at =
    ⊎_elim (λ was. shows e x was)
    (λ (new : (e ≡ length sets) × (set ≡ x)).
    subst (λ n. StandsAtMark shape E n x) (sym new.0) (subst (StandsAtMark shape E (length sets)) new.1 next))
    (get_snoc sets set e x at)

-- the marks among the first entries, when more come
pub among-more : (upto : ℕ) (E F : List Placed) → IsPrefix E F → upto ≤ length E →
    marks_among upto F ≡ marks_among upto E
among-more upto E F more within =
    ap mark_count (sym (sym (take-append-le upto E more.0 within) ∙ ap (take upto) more.1))
