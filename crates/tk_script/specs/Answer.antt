-- What a reader of a text answers: what stands there, that a line is refused, or that memory ran
-- out.
use Rattle.std.specs.Prelude.{◌≡◌, Result, Ok, Err}
use Rattle.tk_script.specs.declared.error.ScriptError.{ScriptError}
use Rattle.tk_script.specs.declared.error.ScriptError.TheVariants.{Line, Memory}
use Rattle.tk_script.specs.Reading.{Refusal}

-- not for a line
abbrev pub IsMemory : ScriptError → Type 0
IsMemory (Line line c) = ⊥
IsMemory Memory = Unit {0}

-- this is answered, unless memory ran out
abbrev pub Gives : {X : Type 0} → Result X ScriptError → (X → Type 0) → Type 0
Gives (Ok x) P = P x
Gives (Err e) P = IsMemory e

-- a refused line is the one that the definition refuses, for the same cause
abbrev pub IsRefusal : {Y : Type 0} → ScriptError → Result Y Refusal → Type 0
IsRefusal (Line line c) said = said ≡ Err (line, c)
IsRefusal Memory said = Unit {0}

-- the answer tells of the lines what their definition says, unless memory ran out
abbrev pub Agrees : {X Y : Type 0} → (X → Y) → Result X ScriptError → Result Y Refusal → Type 0
Agrees f (Ok x) said = said ≡ Ok (f x)
Agrees f (Err e) said = IsRefusal e said
