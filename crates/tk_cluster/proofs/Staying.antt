-- Whose the passes are, which no call changes.
use Rattle.std.proofs.Common.{◌≡◌, ℕ, zero, suc, ◌+◌, ◌<◌, List, [], ◌∷◌, length, map, All}
use Rattle.std.proofs.Common.{refl, ap, sym, ◌∙◌, subst, arith}
use Rattle.std.specs.List.{range_with_len}
use Rattle.atomic_table.specs.Seated.{TableId}
use Rattle.tk_shape.specs.declared.shape.Shape.{Shape}
use Rattle.tk_frames.specs.declared.entry.Placed.{Placed}
use Rattle.tk_cluster.specs.declared.set.EpochSet.{EpochSet}
use Rattle.tk_cluster.specs.Passes.{Passing, Stays, MeetsAt, fresh}
use Rattle.tk_cluster.specs.Tellings.{Telling}
use Rattle.tk_cluster.specs.Clusters.{Each, Opened}
use Rattle.tk_cluster.specs.Closings.{Apart, AllOnce}

pub stays_self : (a : Passing) → Stays a a
stays_self a = record { client = refl; board = refl }

pub each_self : (xs : List Passing) → Each Stays xs xs
each_self [] = tt
each_self (a ∷ xs) = (stays_self a, each_self xs)

pub met_stays : (L : List Placed) (xs ys : List Passing) → Each (MeetsAt L) xs ys → Each Stays xs ys
met_stays L [] [] h = tt
met_stays L (a ∷ xs) (b ∷ ys) h =
    (record { client = h.0.client; board = ap (λ r. r.board) h.0.reads }, met_stays L xs ys h.1)
met_stays L [] (b ∷ ys) h = absurd h
met_stays L (a ∷ xs) [] h = absurd h

-- ---- all passes, each once

same_count : (xs ys : List Passing) → Each Stays xs ys → length ys ≡ length xs
same_count [] [] h = refl
same_count (a ∷ xs) (b ∷ ys) h = ap suc (same_count xs ys h.1)
same_count [] (b ∷ ys) h = absurd h
same_count (a ∷ xs) [] h = absurd h

same_board : (board : TableId) (xs ys : List Passing) → Each Stays xs ys →
    All (λ a. a.reads.board ≡ board) xs → All (λ a. a.reads.board ≡ board) ys
same_board board [] [] h of k d lt = absurd (omega (arith, lt))
same_board board (a ∷ xs) (b ∷ ys) h of zero d lt = h.0.board ∙ of 0 a (omega arith)
same_board board (a ∷ xs) (b ∷ ys) h of (suc k) d lt =
    same_board board xs ys h.1 (λ j e less. of (suc j) e (omega (arith, less))) k d (omega (arith, lt))
same_board board [] (b ∷ ys) h of k d lt = absurd h
same_board board (a ∷ xs) [] h of k d lt = absurd h

none_is : (c : ℕ) (xs ys : List Passing) → Each Stays xs ys →
    All (λ b. ¬ (b.client ≡ c)) xs → All (λ b. ¬ (b.client ≡ c)) ys
none_is c [] [] h apart k d lt = absurd (omega (arith, lt))
none_is c (a ∷ xs) (b ∷ ys) h apart zero d lt =
    λ same. apart 0 a (omega arith) (sym h.0.client ∙ same)
none_is c (a ∷ xs) (b ∷ ys) h apart (suc k) d lt =
    none_is c xs ys h.1 (λ j e less. apart (suc j) e (omega (arith, less))) k d (omega (arith, lt))
none_is c [] (b ∷ ys) h apart k d lt = absurd h
none_is c (a ∷ xs) [] h apart k d lt = absurd h

same_apart : (xs ys : List Passing) → Each Stays xs ys → Apart xs → Apart ys
same_apart [] [] h apart = tt
same_apart (a ∷ xs) (b ∷ ys) h apart = (
  subst (λ c. All (λ x. ¬ (x.client ≡ c)) ys) (sym h.0.client)
      (none_is a.client xs ys h.1 apart.0),
  same_apart xs ys h.1 apart.1,
)
same_apart [] (b ∷ ys) h apart = absurd h
same_apart (a ∷ xs) [] h apart = absurd h

pub once_stays : (shape : Shape) (board : TableId) (xs ys : List Passing) → Each Stays xs ys →
    AllOnce shape board xs → AllOnce shape board ys
once_stays shape board xs ys h once = record {
  counted = same_count xs ys h ∙ once.counted;
  of_board = same_board board xs ys h once.of_board;
  apart = same_apart xs ys h once.apart;
}

-- ---- the passes of a new cluster

fresh_count : (board : TableId) (set : EpochSet) (c n : ℕ) →
    length (map (fresh board set) (range_with_len c n)) ≡ n
fresh_count board set c zero = refl
fresh_count board set c (suc n) = ap suc (fresh_count board set (c + 1) n)

fresh_board : (board : TableId) (set : EpochSet) (c n : ℕ) →
    All (λ a. a.reads.board ≡ board) (map (fresh board set) (range_with_len c n))
fresh_board board set c zero k d lt = absurd (omega (arith, lt))
fresh_board board set c (suc n) zero d lt = refl
fresh_board board set c (suc n) (suc k) d lt =
    fresh_board board set (c + 1) n k d (omega (arith, lt))

fresh_other : (board : TableId) (set : EpochSet) (e c n : ℕ) → e < c →
    All (λ b. ¬ (b.client ≡ e)) (map (fresh board set) (range_with_len c n))
fresh_other board set e c zero less k d lt = absurd (omega (arith, lt))
fresh_other board set e c (suc n) less zero d lt = λ same. omega (arith, same, less)
fresh_other board set e c (suc n) less (suc k) d lt =
    fresh_other board set e (c + 1) n (omega (arith, less)) k d (omega (arith, lt))

fresh_apart : (board : TableId) (set : EpochSet) (c n : ℕ) →
    Apart (map (fresh board set) (range_with_len c n))
fresh_apart board set c zero = tt
fresh_apart board set c (suc n) =
    (fresh_other board set c (c + 1) n (omega arith), fresh_apart board set (c + 1) n)

pub opened_once : (shape : Shape) (p : Telling) (xs : List Passing) → Opened shape p xs →
    AllOnce shape p.board xs
opened_once shape p xs o =
    subst (AllOnce shape p.board) (sym o.all) (record {
      counted = fresh_count p.board o.first 0 shape.clients;
      of_board = fresh_board p.board o.first 0 shape.clients;
      apart = fresh_apart p.board o.first 0 shape.clients;
    })
