-- Bytes as digits, and the line of a handle.
use Rattle.std.specs.Prelude.{ℕ, List, [], ◌∷◌, ◌++◌, flat_map}
use Rattle.hex.specs.Hex.{encode_lower}
use Rattle.tk_handle.specs.Handle.{handle_from, handle_bytes}

-- bytes as digits in lower case, and a line feed; many, one a line
abbrev pub hex_line : List ℕ → List ℕ
hex_line bytes = encode_lower bytes ++ 0x0a ∷ []

abbrev pub hex_lines : List (List ℕ) → List ℕ
hex_lines rows = flat_map hex_line rows

-- the bytes of a handle
abbrev pub handle_text : ℕ → List ℕ → List ℕ
handle_text id root = hex_line (handle_bytes (handle_from id root))
