-- The epoch of the last mark among the first entries.
use Rattle.std.proofs.Common.{◌≡◌, ℕ, zero, suc, ◌<◌, ◌≤◌, refl, ap, sym, ◌∙◌, subst, arith}
use Rattle.std.proofs.Common.{List, [], ◌∷◌, ◌++◌, length, take, true, false, ◌||◌, cond, inl, inr}
use Rattle.std.proofs.lemmas.Bool.{cases_lt}
use Rattle.std.proofs.lemmas.List.{take-append-le}
use mathlib.Core.List.{IsPrefix}
use Rattle.tk_shape.specs.declared.shape.Shape.{Shape}
use Rattle.tk_frames.specs.declared.entry.Placed.{Placed}
use Rattle.tk_frames.specs.Order.{Record, before, has_mark, is_mark_of}
use Rattle.tk_frames.specs.InOrder.{mark_count, mark_position, IsOrder}
use Rattle.tk_frames.proofs.Offers.{has-mark, before-more, mark_position-none, order-front}
use Rattle.tk_replica.specs.declared.epoch.Epoch.{Epoch}
use Rattle.tk_replica.specs.Epochs.{EpochStandsFor, IsEpochOf}
use Rattle.tk_replica.specs.Following.{marks_among, IsEpochAt}
use Rattle.tk_replica.proofs.MarksAmong.{mark-within, mark-among, marks_among-most}

-- ---- which of the epochs that are kept it is

-- an epoch whose mark stands after the first entries has a greater number
pub epoch-behind : (shape : Shape) (E : List Placed) (e upto : ℕ) (epoch : Epoch) →
    IsOrder shape E → IsEpochOf shape E e epoch → marks_among upto E ≤ e → upto < epoch.upto →
    marks_among upto E < e
epoch-behind shape E e upto epoch order is most behind =
    elim (cases_lt (marks_among upto E) e) [
      | inl less ↦ less
      | inr past ↦
          let at = is.upto in
          absurd (omega (arith, behind, at, mark-within shape upto e E order past))
    ]

-- and one whose mark stands among them has their number, if no greater one does
pub epoch-among : (shape : Shape) (E : List Placed) (e upto : ℕ) (epoch : Epoch) →
    IsOrder shape E → IsEpochOf shape E e epoch → e ≤ mark_count E → marks_among upto E ≤ e →
    epoch.upto ≤ upto → e ≡ marks_among upto E
epoch-among shape E e upto epoch order is stands most within =
    let at = is.upto in
    let low = mark-among shape upto e E order stands (omega (arith, at, within)) in
    omega (arith, most, low)

-- ---- it is the same in a longer list

position-stays : (e : ℕ) (E F : List Placed) → has_mark e E ≡ true →
    mark_position (E ++ F) e ≡ mark_position E e
position-stays e [] F has = absurd cc
position-stays e (x ∷ E) F has =
    elim (is_mark_of e x) as (λ b. (b || has_mark e E) ≡ true →
    cond b x.position (mark_position (E ++ F) e) ≡ cond b x.position (mark_position E e))
    [ true ↦ λ h. refl | false ↦ λ rest. position-stays e E F rest ] has

-- a mark that stands stays where it is
pub position-same : (shape : Shape) (E F : List Placed) (e : ℕ) → IsOrder shape (E ++ F) →
    e ≤ mark_count E → mark_position (E ++ F) e ≡ mark_position E e
position-same shape E F zero order within =
    mark_position-none shape (E ++ F) order
    ∙ sym (mark_position-none shape E (order-front shape E F order))
position-same shape E F (suc e) order within =
    position-stays (suc e) E F
    (has-mark shape E (suc e) (order-front shape E F order) (omega arith) within)

-- the epoch of a mark is that of another list which has the same before the mark
same-epoch : (shape : Shape) (E F : List Placed) (e n : ℕ) (epoch : Epoch) → e ≡ n →
    mark_position E e ≡ mark_position F e → before E e ≡ before F e →
    IsEpochOf shape E e epoch → IsEpochOf shape F n epoch
same-epoch shape E F e n epoch number place writes is =
    subst (λ k. IsEpochOf shape F k epoch) number
    (record {
      number = is.number;
      upto = is.upto ∙ place;
      stands = subst (λ (R : List Record). EpochStandsFor shape R epoch) writes is.stands;
    })

pub take-front : (n : ℕ) (E F : List Placed) → IsPrefix E F → n ≤ length E → take n E ≡ take n F
take-front n E F front within = sym (take-append-le n E front.0 within) ∙ ap (take n) front.1

pub epoch-whole : (shape : Shape) (E F : List Placed) (upto : ℕ) (epoch : Epoch) →
    IsPrefix E F → IsOrder shape F → upto ≤ length E →
    IsEpochAt shape E upto epoch → IsEpochAt shape F upto epoch
epoch-whole shape E F upto epoch front order within is =
    let whole : IsOrder shape (E ++ front.0) = subst (IsOrder shape) (sym front.1) order in
    let e = marks_among upto E in
    let stands = marks_among-most upto E in
    same-epoch shape E F e (marks_among upto F) epoch
    (ap mark_count (take-front upto E F front within))
    (sym (position-same shape E front.0 e whole stands) ∙ ap (λ G. mark_position G e) front.1)
    (sym (before-more shape E front.0 e (order-front shape E front.0 whole) stands)
    ∙ ap (λ G. before G e) front.1)
    is

pub epoch-front : (shape : Shape) (E F : List Placed) (upto : ℕ) (epoch : Epoch) →
    IsPrefix E F → IsOrder shape F → upto ≤ length E →
    IsEpochAt shape F upto epoch → IsEpochAt shape E upto epoch
epoch-front shape E F upto epoch front order within is =
    let whole : IsOrder shape (E ++ front.0) = subst (IsOrder shape) (sym front.1) order in
    let number : marks_among upto F ≡ marks_among upto E =
    ap mark_count (sym (take-front upto E F front within)) in
    let e = marks_among upto F in
    let most = marks_among-most upto E in
    let stands : e ≤ mark_count E = omega (arith, number, most) in
    same-epoch shape F E e (marks_among upto E) epoch number
    (ap (λ G. mark_position G e) (sym front.1) ∙ position-same shape E front.0 e whole stands)
    (ap (λ G. before G e) (sym front.1)
    ∙ before-more shape E front.0 e (order-front shape E front.0 whole) stands)
    is
