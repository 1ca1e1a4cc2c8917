-- What is known of all passes at the end.
use Rattle.std.proofs.Common.{◌≡◌, ℕ, zero, suc, ◌+◌, ◌<◌, List, [], ◌∷◌, ◌++◌, length, map, All}
use Rattle.std.proofs.Common.{Some, slice_get, slice_set, refl, ap, subst, arith}
use Rattle.std.specs.Prelude.{slice_index_or, replicate}
use Rattle.std.proofs.lemmas.List.{map-set, length-set, replicate-append-replicate}
use mathlib.Core.List.{IsPrefix}
use Rattle.tk_frames.specs.declared.entry.Placed.{Placed}
use Rattle.tk_order.specs.Seats.{Seated, IsWhole}
use Rattle.tk_board.specs.Boards.{Known, AllBegin}
use Rattle.tk_cluster.specs.declared.set.EpochSet.{EpochSet}
use Rattle.tk_cluster.specs.Passes.{Passing, seat_of, reader_of}
use Rattle.tk_cluster.specs.Closings.{EndsPass, by_client}

seat_at : (xs : List Passing) (y : Seated) (k : ℕ) (d : Passing) → k < length xs →
    slice_get (map seat_of xs ++ y ∷ []) k ≡ Some (seat_of (slice_index_or xs k d))
seat_at [] y k d lt = absurd (omega (arith, lt))
seat_at (x ∷ xs) y zero d lt = refl
seat_at (x ∷ xs) y (suc k) d lt = seat_at xs y k d (omega (arith, lt))

-- the publisher's seat stands after those of the passes
pub seat_behind : (xs : List Passing) (y : Seated) →
    slice_get (map seat_of xs ++ y ∷ []) (length xs) ≡ Some y
seat_behind [] y = refl
seat_behind (x ∷ xs) y = seat_behind xs y

reader_at : (xs : List Passing) (k : ℕ) (d : Passing) → k < length xs →
    slice_index_or (map reader_of xs) k (reader_of d) ≡ reader_of (slice_index_or xs k d)
reader_at [] k d lt = absurd (omega (arith, lt))
reader_at (x ∷ xs) zero d lt = refl
reader_at (x ∷ xs) (suc k) d lt = reader_at xs k d (omega (arith, lt))

readers_counted : (xs : List Passing) → length (map reader_of xs) ≡ length xs
readers_counted [] = refl
readers_counted (x ∷ xs) = ap suc (readers_counted xs)

pub all_end : (shown : List EpochSet) (order : List Placed) (xs : List Passing) (y : Seated) →
    IsWhole (map seat_of xs ++ y ∷ []) order → AllBegin (map reader_of xs) shown →
    All (EndsPass shown order) xs
all_end shown order xs y whole begins k d lt =
    let a = slice_index_or xs k d in
    let seat = whole k (seat_of a) (seat_at xs y k d lt) in
    record {
      seen = seat.0;
      own = seat.1;
      known =
          subst (λ (r : Known EpochSet). IsPrefix r.list shown) (reader_at xs k d lt)
          (begins.each k (reader_of d) (omega (arith, lt, readers_counted xs)));
    }

-- the readers are of the board that the passes are of
pub readers_of_board : {T : Type 0} (board : T) (of : Known EpochSet → T) (xs : List Passing) →
    All (λ a. of (reader_of a) ≡ board) xs → All (λ r. of r ≡ board) (map reader_of xs)
readers_of_board board of [] h k d lt = absurd (omega (arith, lt))
readers_of_board board of (x ∷ xs) h zero d lt = h 0 x (omega arith)
readers_of_board board of (x ∷ xs) h (suc k) d lt =
    readers_of_board board of xs (λ j e less. h (suc j) e (omega (arith, less))) k d
    (omega (arith, lt))

-- one pass more
pub by_client_more : (epochs : List (List ℕ)) (xs : List Passing) (a : Passing) →
    by_client epochs (xs ++ a ∷ [])
    ≡ slice_set (by_client epochs xs) a.client a.reads.pinned
by_client_more epochs [] a = refl
by_client_more epochs (x ∷ xs) a = by_client_more (slice_set epochs x.client x.reads.pinned) xs a

-- one list replaced
pub map_set : {A B : Type 0} (f : A → B) (xs : List A) (i : ℕ) (x : A) →
    map f (slice_set xs i x) ≡ slice_set (map f xs) i (f x)
map_set f xs i x = map-set f xs i x

pub set_counted : {A : Type 0} (xs : List A) (i : ℕ) (x : A) →
    length (slice_set xs i x) ≡ length xs
set_counted xs i x = length-set xs i x

-- one empty list more
pub replicate_more : {A : Type 0} (n : ℕ) (x : A) → replicate n x ++ x ∷ [] ≡ replicate (n + 1) x
replicate_more n x = replicate-append-replicate n 1 x
