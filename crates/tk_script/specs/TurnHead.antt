-- What stands in front of a line's items or epochs.
use Rattle.std.specs.Prelude.{◌≡◌, ℕ, List, ◌∷◌, Some}
use Rattle.tk_script.specs.Reading.{number_spelled}

-- a word, a phase and a tick, and then the rest
pub record HasHead (parts : List (List ℕ)) (word : List ℕ) (phase tick : ℕ)
    (rest : List (List ℕ)) : Type 0 where
  pub phase_text : List ℕ
  pub tick_text : List ℕ
  pub whole : parts ≡ word ∷ phase_text ∷ tick_text ∷ rest
  pub phase_is : number_spelled phase_text ≡ Some phase
  pub tick_is : number_spelled tick_text ≡ Some tick
