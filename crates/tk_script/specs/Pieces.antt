-- The bytes of a piece of a tape.
use Rattle.std.specs.Prelude.{ℕ, List, replicate}
use Rattle.tk_script.specs.declared.piece.Piece.{Piece}
use Rattle.tk_script.specs.declared.piece.Piece.TheVariants.{Bytes, Fill}

-- the bytes of a piece
abbrev pub piece_bytes : Piece → List ℕ
piece_bytes (Bytes bytes) = bytes.items
piece_bytes (Fill byte count) = replicate count byte
