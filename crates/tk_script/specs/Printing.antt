-- The one form in which a script, a history and a tape are printed: the digits of bytes are in
-- lower case.
use Rattle.std.specs.Prelude.{ℕ, zero, suc, List, [], ◌∷◌, ◌++◌, length, map, take, drop, codes}
use Rattle.std.specs.Prelude.{decimal, flat_map, Option, Some, None}
use Rattle.std.specs.List.{AllByRecursion}
use Rattle.hex.specs.Hex.{encode_lower, IsBytes}
use Rattle.tk_handle.specs.declared.handle.Handle.{Handle}
use Rattle.tk_handle.specs.Handle.{handle_bytes}
use Rattle.tk_script.specs.declared.script.Script.{Script}
use Rattle.tk_script.specs.declared.keys.Keys.{Keys}
use Rattle.tk_schedule.specs.declared.raw.RawKind.{RawKind}
use Rattle.tk_script.specs.Grammar.{Line, fields, format_line, shape_line, kind_line, role_line, say_line}
use Rattle.tk_script.specs.Grammar.{raw_line, IsHandle, IsSeed}

-- lines, each ended by a line feed
abbrev pub text_of : List Line → List ℕ
text_of [] = []
text_of (line ∷ lines) = line ++ 0x0A ∷ text_of lines

-- a word and bytes
abbrev pub bytes_line : List ℕ → List ℕ → Line
bytes_line word bytes = fields (word ∷ encode_lower bytes ∷ [])

-- numbers, each with a space in front
abbrev pub number_fields : List ℕ → List ℕ
number_fields ns = flat_map (λ n. 0x20 ∷ decimal n) ns

-- ---- the script section

abbrev pub handle_line : Handle → Line
handle_line handle = bytes_line (codes "handle") (handle_bytes handle)

abbrev pub seed_line : List ℕ → Line
seed_line seed = bytes_line (codes "seed") seed

-- the handles, then the seeds
abbrev pub lines_of_keys : Option Keys → List Line
lines_of_keys None = []
lines_of_keys (Some keys) = map handle_line keys.handles ++ map seed_line keys.seeds

abbrev pub lines_of_script : Script → List Line
lines_of_script S =
    format_line S.shape ∷ shape_line S.shape ∷ kind_line S.keys
    ∷ (map role_line S.roles ++ lines_of_keys S.keys ++ map say_line S.says ++ codes "end" ∷ [])

unfoldable pub printed : Script → List ℕ
printed S = text_of (lines_of_script S)

-- ---- the history section

-- the lines of the turns, as a report has them, between the word and the end
abbrev pub lines_of_turns : List RawKind → List Line
lines_of_turns turns = codes "history" ∷ (map raw_line turns ++ codes "end" ∷ [])

unfoldable pub printed_turns : List RawKind → List ℕ
printed_turns turns = text_of (lines_of_turns turns)

-- ---- the tape section

-- pieces of a size, of which the last may be shorter, up to a number of them
abbrev pub pieces_upto : ℕ → ℕ → List ℕ → List (List ℕ)
pieces_upto zero size bytes = []
pieces_upto (suc most) size [] = []
pieces_upto (suc most) size (b ∷ bytes) =
    take size (b ∷ bytes) ∷ pieces_upto most size (drop size (b ∷ bytes))

-- there are no more pieces than bytes
abbrev pub pieces : ℕ → List ℕ → List (List ℕ)
pieces size bytes = pieces_upto (length bytes) size bytes

abbrev pub piece_line : List ℕ → Line
piece_line bytes = bytes_line (codes "x") bytes

-- the lines of a tape's pieces
abbrev pub lines_of_pieces : List ℕ → List Line
lines_of_pieces bytes = map piece_line (pieces 32 bytes)

abbrev pub lines_of_tape : List ℕ → List Line
lines_of_tape bytes = codes "tape" ∷ (lines_of_pieces bytes ++ codes "end" ∷ [])

unfoldable pub printed_tape : List ℕ → List ℕ
printed_tape bytes = text_of (lines_of_tape bytes)

-- a tape after a script: a keyed one has none
abbrev pub tape_behind : Option Keys → List ℕ → List ℕ
tape_behind None bytes = printed_tape bytes
tape_behind (Some keys) bytes = []

-- ---- bytes

-- what the arrays of a handle hold, which are bytes
pub record HasHandle (handle : Handle) : Type 0 where
  pub is : IsHandle handle
  pub bytes : IsBytes (handle_bytes handle)

-- 32 bytes
pub record HasSeed (seed : List ℕ) : Type 0 where
  pub is : IsSeed seed
  pub bytes : IsBytes seed

-- what the arrays of keys hold
abbrev pub HasKeys : Option Keys → Type 0
HasKeys None = Unit {0}
HasKeys (Some keys) = AllByRecursion HasHandle keys.handles × AllByRecursion HasSeed keys.seeds
