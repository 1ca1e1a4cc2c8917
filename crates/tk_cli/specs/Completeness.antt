-- Where a form isn't refused and no object fails, all is done or memory runs out.
use Rattle.std.specs.Prelude.{◌≡◌, ◌⊎◌, ◌≤◌, ℕ, List, length, Some, None}
use Rattle.tk_io.specs.Content.{Rose}
use Rattle.tk_script.specs.declared.input.Input.{Input}
use Rattle.tk_script.specs.Grammar.{Spells}
use Rattle.tk_cli.specs.Limits.{input_limit}
use Rattle.tk_cli.specs.declared.request.Request.{Request}
use Rattle.tk_cli.specs.declared.request.Request.TheVariants as request
use Rattle.tk_cli.specs.declared.status.Status.TheVariants as status
use Rattle.tk_cli.specs.declared.ended.Ended.{Ended}
use Rattle.tk_cli.specs.Inputs.{form_of, refusal_of}
use Rattle.tk_cli.specs.Outside.{Outside}
use Rattle.tk_cli.specs.Endings.{Ends}

-- no count of faults rose
pub record NoFault (old new : Outside) : Type 0 where
  pub source : ¬ Rose old.source_faults new.source_faults
  pub sink : ¬ Rose old.sink_faults new.sink_faults
  pub taps : ¬ Rose old.tap_faults new.tap_faults

-- the source has left a text of at most the limit, which spells an input that nothing refuses
pub record HasAccepted (r : Request) (o : Outside) : Type 0 where
  pub bytes : List ℕ
  pub input : Input
  pub left : o.left ≡ Some bytes
  pub within : length bytes ≤ input_limit
  pub spelled : Spells (form_of r) bytes input
  pub accepted : refusal_of r input ≡ None

-- a request has what it reads, if it reads anything; nothing is asked of words of no form
abbrev pub MayBeDone : Request → Outside → Type 0
MayBeDone (request.Handle id root) o = Unit {0}
MayBeDone (request.Make n) o = Unit {0}
MayBeDone (request.Tally n) o = Unit {0}
MayBeDone request.Nothing o = ⊥
MayBeDone r o = HasAccepted r o

abbrev pub Completes : Type 0
Completes =
    (r : Request) (e : Ended) (old new : Outside) → Ends r e old new → MayBeDone r old →
    NoFault old new → (e.status ≡ status.Done) ⊎ (e.status ≡ status.Memory)
