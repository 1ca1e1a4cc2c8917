-- The kind of a script, and the lines of its keys, one by one.
use Rattle.std.specs.Prelude.{◌≤◌, ℕ, Bool, true, false, List, codes}
use Rattle.tk_handle.specs.declared.handle.Handle.{Handle}
use Rattle.tk_handle.specs.Handle.{handle_bytes}
use Rattle.tk_shape.specs.Lengths.{tape_len}
use Rattle.tk_shape.specs.declared.shape.Shape.{Shape}
use Rattle.tk_script.specs.Grammar.{Line, SpellsBytes, IsHandle, IsSeed}

-- what the line of a script's kind says
abbrev pub kind_words : Bool → Line
kind_words true = codes "keyed"
kind_words false = codes "drawn"

-- a drawn script's tape is not too long
abbrev pub MayBeOfKind : Shape → Bool → Type 0
MayBeOfKind shape true = Unit {0}
MayBeOfKind shape false = tape_len shape ≤ 2097152

-- the line of a handle
abbrev pub IsHandleLine : Line → Handle → Type 0
IsHandleLine line handle = SpellsBytes line (codes "handle", handle_bytes handle) × IsHandle handle

-- the line of a client's seed
abbrev pub IsSeedLine : Line → List ℕ → Type 0
IsSeedLine line seed = SpellsBytes line (codes "seed", seed) × IsSeed seed
