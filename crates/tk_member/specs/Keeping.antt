-- What a member keeps of epochs: the marks that servers agree on, and how far each server told them.
use Rattle.std.specs.Prelude.{◌≡◌, ℕ, ◌*◌, ◌<◌, ◌≤◌, nat_lt, All, cond, List, [], ◌∷◌}
use Rattle.std.specs.Prelude.{◌++◌, length, map, take, replicate, slice_index, slice_index_or}
use Rattle.std.specs.Prelude.{Result, Ok, Err, MatchResult, ◌⊎◌}
use Rattle.std.specs.Str.{bytes_eq}
use Rattle.tk_shape.specs.declared.shape.Shape.{Shape}
use Rattle.tk_member.specs.declared.fault.Fault.{Fault}
use Rattle.tk_member.specs.declared.fault.Fault.TheVariants.{Memory, Differ}
use Rattle.tk_member.specs.Epochs.{Marks, ToldMarks, no_marks}

pub record EpochsState : Type 0 where
  pub shape : Shape
  pub told : List ToldMarks

abbrev pub new_epochs : Shape → EpochsState
new_epochs shape = record { shape = shape; told = replicate shape.servers [] }

-- what servers told that told these marks up to the epochs of these numbers
abbrev pub told_so_far : List Marks → List ℕ → List ToldMarks
told_so_far marks last = map (λ n. take n marks) last

-- some server told all of them
pub record IsToldByOne (last : List ℕ) (count : ℕ) : Type 0 where
  pub place : ℕ
  pub low : place < length last
  pub whole : slice_index last place ≡ count

-- The marks are of the shape, of some of its epochs, of which some server told all and none told
-- more.
pub record AreToldByServers (shape : Shape) (last : List ℕ) (none : Marks) (marks : List Marks) : Type 0
  where
    pub counted : length last ≡ shape.servers
    pub within : All (λ n. n ≤ length marks) last
    pub longest : IsToldByOne last (length marks)
    pub few : length marks ≤ shape.phases
    pub none_is : none ≡ no_marks shape
    pub sized : All (λ (m : Marks). 8 * length m ≡ shape.filter_bits) marks

-- the marks of the epoch behind n others, where they aren't there yet, come behind those
abbrev pub kept_with : List Marks → ℕ → Marks → Result (List Marks) Fault
kept_with all n marks =
    cond (nat_lt n (length all))
    (cond (bytes_eq (slice_index_or all n []) marks) (Ok all) (Err Differ))
    (Ok (all ++ marks ∷ []))

-- what is kept is then as it is defined, or the call ends as it is defined, or because memory ran out
abbrev pub KeepsAs : {X Y : Type 0} → Result X Fault → X → Result Y Fault → Type 0
KeepsAs defined now result =
    MatchResult result (λ _. defined ≡ Ok now) (λ e. (e ≡ Memory) ⊎ (defined ≡ Err e))
