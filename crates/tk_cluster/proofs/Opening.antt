-- The seats and the passes of a new cluster.
use Rattle.std.proofs.Common.{◌≡◌, ℕ, zero, suc, ◌+◌, List, [], ◌∷◌, ◌++◌, length}
use Rattle.std.proofs.Common.{map, Some, refl, ap, sym, ◌∙◌, subst, arith, All, length-append}
use Rattle.std.specs.List.{range_with_len}
use Rattle.std.proofs.lemmas.List.{map-append}
use Rattle.std.proofs.lemmas.List.FromFn.{map-range_with_len_more}
use Rattle.std.proofs.Math.Nat.{zero-add}
use Rattle.atomic_table.specs.Seated.{TableId}
use Rattle.tk_order.specs.Seats.{seated, opened}
use Rattle.tk_board.specs.Boards.{Known}
use Rattle.tk_cluster.specs.declared.set.EpochSet.{EpochSet}
use Rattle.tk_cluster.specs.Passes.{Passing, fresh, seat_for, seats_for}
use Rattle.tk_lists.proofs.Offers.{numbers-more, front-at, last-at}

opened_range : (n : ℕ) → opened n ≡ map (λ k. seated [] (Some k)) (range_with_len 0 n)
opened_range zero = refl
opened_range (suc n) =
    let on : n + 1 ≡ suc n = omega arith in
    ap (λ ys. ys ++ seated [] (Some n) ∷ []) (opened_range n)
    ∙ sym (map-range_with_len_more (λ k. seated [] (Some k)) 0 n n (zero-add n))
    ∙ ap (λ m. map (λ k. seated [] (Some k)) (range_with_len 0 m)) on

shift : (a n : ℕ) → map (λ k. seated [] (Some k)) (range_with_len (a + 1) n) ≡ seats_for a n
shift a zero = refl
shift a (suc n) = ap (λ ys. seat_for a ∷ ys) (shift (a + 1) n)

-- the publisher's seat, and those of the clients
pub opened_is : (n m : ℕ) → n ≡ m + 1 → opened n ≡ seated [] (Some 0) ∷ seats_for 0 m
opened_is n m is =
    (let e : n ≡ suc m = omega (arith, is) in ap opened e)
    ∙ (opened_range (suc m)
    ∙ ap (λ ys. seated [] (Some 0) ∷ ys)
    (let e : 0 + 1 ≡ 1 = omega arith in shift 0 m))

-- the seats from a on, where some are left
pub seats_next : (a n k : ℕ) → n ≡ k + 1 → seats_for a n ≡ seat_for a ∷ seats_for (a + 1) k
seats_next a n k is = let e : n ≡ suc k = omega (arith, is) in ap (seats_for a) e

pub same_boards : (rs : List (Known EpochSet)) (w : Known EpochSet) → All (λ k. k ≡ w) rs →
    All (λ r. r.board ≡ w.board) rs
same_boards rs w h = λ k d lt. ap (λ r. r.board) (h k d lt)

pub same_lists : (rs : List (Known EpochSet)) (w : Known EpochSet) (xs : List EpochSet) →
    w.list ≡ xs → All (λ k. k ≡ w) rs → All (λ r. r.list ≡ xs) rs
same_lists rs w xs is h = λ k d lt. ap (λ r. r.list) (h k d lt) ∙ is

-- ---- all of a list, and of the list without its last element

pub all_front : {A : Type 0} (P : A → Type 0) (all xs : List A) (y : A) → all ≡ xs ++ y ∷ [] →
    All P all → All P xs
all_front P all xs y is h = λ k d lt.
    let i : All P (xs ++ y ∷ []) = subst (All P) is h in
    subst P (front-at xs y d k lt) (i k d (omega (arith, lt, length-append xs (y ∷ []))))

pub all_last : {A : Type 0} (P : A → Type 0) (all xs : List A) (y : A) → all ≡ xs ++ y ∷ [] →
    All P all → P y
all_last P all xs y is h =
    let i : All P (xs ++ y ∷ []) = subst (All P) is h in
    subst P (last-at xs y y) (i (length xs) y (omega (arith, length-append xs (y ∷ []))))

pub passes_more : (board : TableId) (set : EpochSet) (n : ℕ) (xs ys : List Passing) (y : Passing) →
    xs ≡ map (fresh board set) (range_with_len 0 n) → ys ≡ xs ++ y ∷ [] → y ≡ fresh board set n →
    ys ≡ map (fresh board set) (range_with_len 0 (n + 1))
passes_more board set n xs ys y is more new =
    more
    ∙ ((λ i. is i ++ new i ∷ [])
    ∙ (sym (map-append (fresh board set) (range_with_len 0 n) (n ∷ []))
    ∙ ap (map (fresh board set)) (sym (numbers-more n))))
