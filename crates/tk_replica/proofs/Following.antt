-- A state goes on with the list that its seat has seen.
use Rattle.std.proofs.Common.{◌≡◌, ℕ, ◌+◌, ◌-◌, ◌<◌, ◌≤◌, ap, sym, ◌∙◌, subst, arith}
use Rattle.std.proofs.Common.{List, [], ◌∷◌, ◌++◌, length, map, take, drop, Some, None, get_or}
use Rattle.std.proofs.Common.{Result, Ok, Err, OnOk, OnErr, IfOk, Option, MatchOption}
use Rattle.std.proofs.Common.{length-append, length-drop, append_assoc}
use Rattle.std.specs.Prelude.{slice_get, option_map}
use Rattle.std.proofs.lemmas.List.{take_more, take-append-drop, take-take, length-take-le}
use Rattle.std.proofs.lemmas.List.{get_or-drop, drop-append-le, length-map}
use Rattle.std.proofs.lemmas.Option.{slice_get_within, get_or_from_slice_get, slice_get-get_or, slice_get-map}
use mathlib.Core.List.{IsPrefix}
use Rattle.tk_shape.specs.declared.shape.Shape.{Shape}
use Rattle.tk_frames.specs.declared.entry.Placed.{Placed}
use Rattle.tk_frames.specs.InOrder.{mark_count, IsNextAt, IsOrder}
use Rattle.tk_frames.proofs.Offers.{order-entry}
use Rattle.tk_order.specs.Seats.{Seated, BeginOne}
use Rattle.tk_order.proofs.Offers.{prefix_get, prefix_trans}
use Rattle.tk_replica.specs.declared.epoch.Epoch.{Epoch}
use Rattle.tk_replica.specs.Replica.{ReplicaView, StandsFor}
use Rattle.tk_replica.specs.Following.{marks_among, IsFollowing, IsEpochAt}
use Rattle.tk_replica.proofs.LastMarks.{epoch-whole, epoch-front}
use Rattle.tk_replica.proofs.Standing.{entry-next}

-- the first entries of a list begin it
pub take-begins : (n : ℕ) (E : List Placed) → IsPrefix (take n E) E
take-begins n E = (drop n E, take-append-drop n E)

-- ---- the seat

-- ---- the next entry

taken-more : (n : ℕ) (E : List Placed) (p : Placed) → slice_get E n ≡ Some p →
    take n E ++ p ∷ [] ≡ take (n + 1) E
taken-more n E p at =
    ap (λ (q : Placed). take n E ++ q ∷ []) (sym (get_or_from_slice_get E n p p at))
    ∙ sym (take_more E n p (slice_get_within E n p at))

-- may come next to the state
pub following-next : (shape : Shape) (s : ReplicaView) (seat : Seated) (p : Placed) →
    IsFollowing shape s seat → IsOrder shape seat.seen → slice_get seat.seen s.applied ≡ Some p →
    IsNextAt s.shape (s.applied + 1) (s.last + 1) p
following-next shape s seat p is order at =
    let E = take s.applied seat.seen in
    let inside = slice_get_within seat.seen s.applied p at in
    let next : IsNextAt shape (s.applied + 1) (mark_count E + 1) p =
    subst (IsNextAt shape (s.applied + 1) (mark_count E + 1))
    (get_or_from_slice_get seat.seen s.applied p p at)
    (order-entry shape seat.seen s.applied p order inside)
    in
    entry-next shape E s p is.stands
    (subst (λ n. IsNextAt shape (n + 1) (mark_count E + 1) p) (is.stands).applied next)

-- and then it was applied
pub following-applied : (shape : Shape) (s t : ReplicaView) (seat : Seated) (p : Placed) →
    IsFollowing shape s seat → slice_get seat.seen s.applied ≡ Some p →
    StandsFor shape (take s.applied seat.seen ++ p ∷ []) t →
    IsFollowing shape t seat × (t.applied ≡ s.applied + 1)
following-applied shape s t seat p is at stands =
    let E = take s.applied seat.seen in
    let old = (is.stands).applied in
    let inside = slice_get_within seat.seen s.applied p at in
    let count : t.applied ≡ s.applied + 1 =
    omega (arith, stands.applied, length-append E (p ∷ []), old) in
    let now : E ++ p ∷ [] ≡ take t.applied seat.seen =
    taken-more s.applied seat.seen p at ∙ ap (λ n. take n seat.seen) (sym count) in (
      record {
        unnumbered = is.unnumbered;
        within = omega (arith, count, inside);
        stands = subst (λ (F : List Placed). StandsFor shape F t) now stands;
      },
      count,
    )

-- whether or not there was memory for it
pub following-either : {A E : Type 0} (shape : Shape) (s t : ReplicaView) (seat : Seated)
    (p : Placed) (r : Result A E) → IsFollowing shape s seat →
    slice_get seat.seen s.applied ≡ Some p →
    OnOk r (StandsFor shape (take s.applied seat.seen ++ p ∷ []) t) → OnErr r (t ≡ s) →
    IsFollowing shape t seat
following-either shape s t seat p (Ok a) is at stands same =
    (following-applied shape s t seat p is at stands).0
following-either shape s t seat p (Err e) is at stands same =
    subst (λ (v : ReplicaView). IsFollowing shape v seat) (sym same) is

-- ---- several entries

get-drop : (n i : ℕ) (E : List Placed) (p : Placed) → slice_get (drop n E) i ≡ Some p →
    slice_get E (n + i) ≡ Some p
get-drop n i E p at =
    let inside = slice_get_within (drop n E) i p at in
    let there : n + i < length E = omega (arith, inside, length-drop n E) in
    let is : get_or E (n + i) p ≡ p =
    sym (get_or-drop n E i p) ∙ get_or_from_slice_get (drop n E) i p p at in
    slice_get-get_or E (n + i) p there ∙ ap (λ (q : Placed). Some q) is

-- the entry at a place among those that come next
pub entry-at : {A : Type 0} (f : A → Placed) (xs : List A) (n i : ℕ) (x : A) (p : Placed)
    (E : List Placed) → IsPrefix (map f xs) (drop n E) → i < length xs → x ≡ get_or xs i x →
    p ≡ f x → slice_get E (n + i) ≡ Some p
entry-at f xs n i x p E next inside at is =
    let there : slice_get (map f xs) i ≡ Some p =
    slice_get-map f xs i
    ∙ (ap (option_map f) (slice_get-get_or xs i x inside)
    ∙ ap (λ (q : Placed). Some q) (sym (is ∙ ap f at)))
    in
    get-drop n i E p (prefix_get (map f xs) (drop n E) i p next there)

-- what was fetched comes next
pub fetched-next : (from upto : ℕ) (E F G : List Placed) → G ≡ drop (from + 1 - 1) (take upto E) →
    IsPrefix E F → from ≤ upto → upto ≤ length E → IsPrefix G (drop from F)
fetched-next from upto E F G is more low high =
    let behind = drop upto E ++ more.0 in
    let long = length-take-le upto E high in
    let one : from + 1 - 1 ≡ from = omega arith in
    let whole : take upto E ++ behind ≡ F =
    sym (append_assoc (take upto E) (drop upto E) more.0)
    ∙ (ap (λ (H : List Placed). H ++ more.0) (take-append-drop upto E) ∙ more.1)
    in (
      behind,
      ap (λ (H : List Placed). H ++ behind) (is ∙ ap (λ n. drop n (take upto E)) one)
          ∙ (sym (drop-append-le from (take upto E) behind (omega (arith, low, long)))
          ∙ ap (drop from) whole),
    )

-- and is as much as was asked for
pub fetched-enough : {A R E : Type 0} (f : A → Placed) (xs : List A) (from upto now : ℕ)
    (F : List Placed) (r : Result R E) → map f xs ≡ drop (from + 1 - 1) (take upto F) →
    from ≤ upto → upto ≤ length F → OnOk r (now ≡ from + length xs) → OnOk r (upto ≤ now)
fetched-enough f xs from upto now F (Ok a) is low high count =
    let long = length-take-le upto F high in
    let part = ap length is ∙ length-drop (from + 1 - 1) (take upto F) in
    omega (arith, low, long, part, length-map xs f, count)
fetched-enough f xs from upto now F (Err e) is low high count = tt

-- ---- what is kept

-- the epoch of the last mark among the first entries, in the whole list
pub following-epoch : (shape : Shape) (s : ReplicaView) (seat : Seated) (upto : ℕ)
    (epoch : Epoch) → IsFollowing shape s seat → IsOrder shape seat.seen → upto ≤ s.applied →
    IsEpochAt shape (take s.applied seat.seen) upto epoch → IsEpochAt shape seat.seen upto epoch
following-epoch shape s seat upto epoch is order within epoch_is =
    let long = length-take-le s.applied seat.seen is.within in
    epoch-whole shape (take s.applied seat.seen) seat.seen upto epoch
    (take-begins s.applied seat.seen) order (omega (arith, within, long)) epoch_is

-- and the answer that it was let go
pub following-kept : {X E : Type 0} (value : X → Epoch) (shape : Shape) (s : ReplicaView)
    (seat : Seated) (upto : ℕ) (r : Result (Option X) E) → IsFollowing shape s seat →
    IsOrder shape seat.seen → upto ≤ s.applied →
    IfOk r (λ o. MatchOption o (marks_among upto (take s.applied seat.seen) < s.floor)
    (λ x. IsEpochAt shape (take s.applied seat.seen) upto (value x))) →
    IfOk r (λ o. MatchOption o (marks_among upto seat.seen < s.floor)
    (λ x. IsEpochAt shape seat.seen upto (value x)))
following-kept value shape s seat upto (Ok (Some x)) is order within found =
    following-epoch shape s seat upto (value x) is order within found
following-kept value shape s seat upto (Ok None) is order within few =
    subst (λ n. n < s.floor) (ap mark_count (take-take upto s.applied seat.seen within)) few
following-kept value shape s seat upto (Err e) is order within found = tt

-- and what is so of a longer list that was seen since
pub following-back : {X Q : Type 0} (value : X → Epoch) (shape : Shape) (E F G : List Placed)
    (upto : ℕ) (r : Result X Q) → IsPrefix E F → IsPrefix F G → IsOrder shape G →
    upto ≤ length E → IfOk r (λ x. IsEpochAt shape G upto (value x)) →
    IfOk r (λ x. IsEpochAt shape E upto (value x))
following-back value shape E F G upto (Ok x) more most order within found =
    epoch-front shape E G upto (value x) (prefix_trans E F G more most) order within found
following-back value shape E F G upto (Err e) more most order within found = tt

-- what was applied begins one list with what begins one with the seat's list
pub following-begins : (n : ℕ) (E F : List Placed) → BeginOne E F → BeginOne (take n E) F
following-begins n E F both =
    record {
      whole = both.whole;
      one = prefix_trans (take n E) E both.whole (take-begins n E) both.one;
      two = both.two;
    }
