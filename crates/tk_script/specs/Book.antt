-- Where the words of an input come from.
use Rattle.std.specs.Prelude.{◌≡◌, ◌≢◌, ℕ, [], length, Option, Some, None}
use Rattle.tk_shape.specs.declared.shape.Shape.{Shape}
use Rattle.tk_shape.specs.Lengths.{tape_len}
use Rattle.tk_words.specs.Words.{WordBook, keyed, drawn}
use Rattle.tk_script.specs.declared.keys.Keys.{Keys}
use Rattle.tk_script.specs.declared.input.RawTape.{RawTape}
use Rattle.tk_script.specs.declared.input.Input.{Input}

-- where words come from: keys, or a tape
abbrev pub book_from : Option Keys → Option RawTape → WordBook
book_from (Some keys) tape = keyed keys.handles keys.seeds
book_from None (Some tape) = drawn tape.bytes
book_from None None = drawn []

-- where an input's words come from
abbrev pub book_of : Input → WordBook
book_of input = book_from input.first.keys input.tape

-- of a tape, no byte is missing and none was too many; a keyed input has none
abbrev pub IsWholeTape : Shape → Option RawTape → Type 0
IsWholeTape shape None = Unit {0}
IsWholeTape shape (Some tape) =
    (length tape.bytes ≡ tape_len shape) × (tape.got ≡ tape_len shape)

-- a drawn script has a tape, of which all is kept where as much was read as the shape wants
abbrev pub HasTape : Shape → Option Keys → Option RawTape → Type 0
HasTape shape (Some keys) tape = Unit {0}
HasTape shape None None = ⊥
HasTape shape None (Some tape) =
    tape.got ≡ tape_len shape → length tape.bytes ≡ tape_len shape

-- the tape has another length than the shape wants
pub record IsOtherTape (shape : Shape) (tape : Option RawTape) (want got : ℕ) : Type 0 where
  pub read : RawTape
  pub there : tape ≡ Some read
  pub wanted : want ≡ tape_len shape
  pub gotten : got ≡ read.got
  pub other : want ≢ got
