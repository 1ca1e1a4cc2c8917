-- Answers that are made part by part.
use Rattle.std.specs.Prelude.{◌≡◌, ℕ, ◌*◌, ◌<◌, ◌≤◌, List, [], ◌∷◌, ◌++◌, length, map}
use Rattle.std.specs.Prelude.{slice_index_or, Vec, Result, Ok, Err, IfOk}
use Rattle.std.specs.Global.{Global}
use Rattle.std.specs.Fork.{slice_chunk}
use Rattle.tk_shape.specs.declared.memory.Memory.{Memory}

-- the answers to some of the vectors, if there was memory
abbrev pub Part : Type 0
Part = Result (Vec (List ℕ) Global) Memory

-- there was memory for every part, and these are all answers, in order
abbrev pub Joins : List Part → List (List ℕ) → Type 0
Joins [] all = all ≡ []
Joins (Ok part ∷ parts) all =
    (behind : List (List ℕ)) × (all ≡ part.items ++ behind) × Joins parts behind
Joins (Err refusal ∷ parts) all = ⊥

-- Each part that was made has the answers to its chunk of the rows, and the chunks reach over all
-- of them.
pub record HasChunks (answer : List ℕ → List ℕ) (size : ℕ) (rows : List (Vec ℕ Global))
    (parts : List Part) : Type 0 where
  pub reach : length rows ≤ length parts * size
  pub each : (n : ℕ) (d : Part) → n < length parts →
      IfOk (slice_index_or parts n d)
      (λ sums. sums.items ≡ map answer (map (λ row. row.items) (slice_chunk rows size n)))
