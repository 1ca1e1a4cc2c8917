-- Lists of which the elements before a place were changed, and those from it on weren't yet.
use Rattle.std.proofs.Common.{◌≡◌, ◌≢◌, sym, subst, arith, inl, inr, ℕ, ◌+◌, ◌<◌, ◌≤◌, List, length, set, length-set}
use Rattle.std.proofs.Common.{get_or-set_same, get_or-set_other}
use Rattle.std.specs.Prelude.{slice_index_or}
use Rattle.std.proofs.lemmas.Bool.{cases_lt}

-- an element before the place is as done tells for its own place, the others are as due tells
pub record IsSplit {X : Type 0} (place : ℕ) (done due : ℕ → X → Type 0) (xs : List X)
    : Type 0 where
  pub done_are : (k : ℕ) (d : X) → k < place → k < length xs → done k (slice_index_or xs k d)
  pub due_are : (k : ℕ) (d : X) → place ≤ k → k < length xs → due k (slice_index_or xs k d)

pub split-none : {X : Type 0} {done due : ℕ → X → Type 0} {xs : List X} →
    ((k : ℕ) (d : X) → k < length xs → due k (slice_index_or xs k d)) → IsSplit 0 done due xs
split-none all =
    record {
      done_are = λ k d low within. absurd (omega (arith, low));
      due_are = λ k d from within. all k d within;
    }

-- the element at the place is changed
pub split-next : {X : Type 0} {place : ℕ} {done due : ℕ → X → Type 0} {xs : List X} (x : X) →
    IsSplit place done due xs → place < length xs → done place x →
    IsSplit (place + 1) done due (set xs place x)
split-next {X} {place} {done} {due} {xs} x split low is =
    let counted = length-set xs place x in
    record {
      done_are = λ k d below within. elim (cases_lt k place) [
        | inl earlier ↦
            subst (done k) (sym (get_or-set_other xs place k x d (omega (arith, earlier))))
            (split.done_are k d earlier (omega (arith, within, counted)))
        | inr later ↦
            let same : k ≡ place = omega (arith, below, later) in
            subst (λ n. done n (slice_index_or (set xs place x) n d)) (sym same)
            (subst (done place) (sym (get_or-set_same xs place x d low)) is)
      ];
      due_are = λ k d from within.
          let other : k ≢ place = omega (arith, from) in
          subst (due k) (sym (get_or-set_other xs place k x d other))
          (split.due_are k d (omega (arith, from)) (omega (arith, within, counted)));
    }

-- all are changed
pub split-all : {X : Type 0} {place : ℕ} {done due : ℕ → X → Type 0} {xs : List X} →
    IsSplit place done due xs → length xs ≤ place →
    (k : ℕ) (d : X) → k < length xs → done k (slice_index_or xs k d)
split-all split past k d within =
    split.done_are k d (omega (arith, within, past)) within
