-- The parts of an input of two scripts.
use Rattle.std.specs.Prelude.{◌≡◌, ℕ, length, None, Some, IsSome}
use Rattle.tk_shape.specs.Lengths.{tape_len}
use Rattle.tk_schedule.specs.Schedule.{IsLegal}
use Rattle.tk_script.specs.Book.{HasTape}
use Rattle.tk_script.specs.declared.input.Input.{Input}
use Rattle.tk_cli.specs.declared.hiding.Hiding.{Hiding}
use Rattle.tk_cli.specs.Inputs.{HasHistory, hiding_refusal, kept_in}

-- an input of two scripts of drawn words with a history and a tape
pub record IsOfTwo (input : Input) : Type 0 where
  pub drawn : input.first.keys ≡ None
  pub tape : HasTape input.first.shape None input.tape
  pub second : IsSome input.second
  pub history : IsSome input.history

-- its parts, where nothing refuses it for a hidden server
pub record IsHiding (hidden : ℕ) (input : Input) (x : Hiding) : Type 0 where
  pub accepted : hiding_refusal hidden input ≡ None
  pub first : x.first ≡ input.first
  pub second : input.second ≡ Some x.second
  pub told : HasHistory input.first.shape input.history x.history
  pub replies : x.replies ≡ input.replies
  pub kept : x.tape ≡ kept_in input.tape
  pub legal : IsLegal x.first.shape x.history
  pub whole : length x.tape ≡ tape_len x.first.shape
