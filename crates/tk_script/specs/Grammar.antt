-- Which texts spell which inputs.
-- A text is lines of fields with one space between; numbers are plain decimal, and hexadecimal
-- digits are in either case.
use Rattle.std.specs.Prelude.{◌≡◌, ℕ, ◌+◌, ◌<◌, ◌≤◌, ◌^◌, ◌-◌, min, ◌⊎◌, ◌==◌, cond, List, [], ◌∷◌}
use Rattle.std.specs.Prelude.{◌++◌, length, map, take, replicate, codes, decimal, flat_map, Option}
use Rattle.std.specs.Prelude.{Some, None, Ok, IsTrue}
use Rattle.std.specs.List.{join_with_byte, onto_first, AllByRecursion, AllZip}
use Rattle.hex.specs.Hex.{decode_of}
use Rattle.tk_shape.specs.declared.shape.Shape.{Shape}
use Rattle.tk_schedule.specs.declared.item.Item.{Item}
use Rattle.tk_schedule.specs.declared.item.Item.TheVariants.{Client, Publish}
use Rattle.tk_schedule.specs.declared.raw.RawLine.{RawLine}
use Rattle.tk_schedule.specs.declared.raw.RawKind.{RawKind}
use Rattle.tk_schedule.specs.declared.raw.RawKind.TheVariants.{Order, Reads, End}
use Rattle.tk_script.specs.declared.form.Form.{Form}
use Rattle.tk_script.specs.declared.form.Form.TheVariants.{Run, Relay, View, Mirror, Wrong}
use Rattle.tk_shape.specs.Numbers.{numbers_of}
use Rattle.tk_handle.specs.declared.handle.Handle.{Handle}
use Rattle.tk_script.specs.declared.script.Script.{Script}
use Rattle.tk_script.specs.declared.role.Role.{Role}
use Rattle.tk_script.specs.declared.say.Say.{Say}
use Rattle.tk_script.specs.declared.keys.Keys.{Keys}
use Rattle.tk_script.specs.declared.input.RawTape.{RawTape}
use Rattle.tk_script.specs.declared.reply.RawReply.{RawReply}
use Rattle.tk_script.specs.declared.input.Input.{Input}
use Rattle.tk_script.specs.SoundReplies.{IsReply, are_ascending}
use Rattle.tk_shape.specs.Lengths.{tape_len}
use Rattle.tk_handle.specs.Handle.{handle_bytes}

-- ---- lines

abbrev pub Line : Type 0
Line = List ℕ

-- the lines of a text, each ended by a line feed; the last line feed may be missing
unfoldable pub lines_of : List ℕ → List Line
lines_of [] = []
lines_of (b ∷ bs) = cond (b == 0x0A) ([] ∷ lines_of bs) (onto_first b (lines_of bs))

-- fields with one space between
abbrev pub fields : List (List ℕ) → Line
fields = join_with_byte 0x20

-- ---- the script section

-- the line that names the format
abbrev pub format_line : Shape → Line
format_line shape = fields (codes "talek" ∷ decimal shape.format ∷ [])

abbrev pub shape_line : Shape → Line
shape_line shape = fields (codes "shape" ∷ map decimal (numbers_of shape))

abbrev pub kind_line : Option Keys → Line
kind_line None = codes "drawn"
kind_line (Some keys) = codes "keyed"

abbrev pub role_line : Role → Line
role_line role = fields (codes "log" ∷ decimal role.writer ∷ map decimal role.followers)

-- the text is all after the space that follows the log's number
abbrev pub say_line : Say → Line
say_line say =
    fields (codes "say" ∷ decimal say.phase ∷ decimal say.tick ∷ decimal say.log ∷ say.text ∷ [])

-- a word, and bytes in hexadecimal
abbrev pub SpellsBytes : Line → List ℕ × List ℕ → Type 0
SpellsBytes line x =
    (digits : List ℕ) × (line ≡ fields (x.0 ∷ digits ∷ [])) × (decode_of digits ≡ Ok x.1)

-- a word in front of each list of bytes
abbrev pub worded : List ℕ → List (List ℕ) → List (List ℕ × List ℕ)
worded word = map (λ bytes. (word, bytes))

-- what the arrays of a handle hold
pub record IsHandle (h : Handle) : Type 0 where
  pub id : h.id < 2 ^ 64
  pub seed1 : length h.seed1 ≡ 32
  pub seed2 : length h.seed2 ≡ 32
  pub key : length h.key ≡ 32

abbrev pub IsSeed : List ℕ → Type 0
IsSeed seed = length seed ≡ 32

-- the lines of the keys: the handles, then the seeds; a drawn script has none
abbrev pub SpellsKeys : List Line → Option Keys → Type 0
SpellsKeys lines None = lines ≡ []
SpellsKeys lines (Some keys) =
    AllZip SpellsBytes lines
    (worded (codes "handle") (map handle_bytes keys.handles) ++ worded (codes "seed") keys.seeds)
    × AllByRecursion IsHandle keys.handles
    × AllByRecursion IsSeed keys.seeds

-- the lines begin with a script, of the format that the first of them names, and go on with the rest
pub record BeginsWithScript (lines : List Line) (S : Script) (rest : List Line) : Type 0 where
  pub key_lines : List Line
  pub keys : SpellsKeys key_lines S.keys
  pub whole : lines ≡ format_line S.shape ∷ shape_line S.shape ∷ kind_line S.keys
      ∷ (map role_line S.roles ++ key_lines ++ map say_line S.says ++ codes "end" ∷ rest)

-- ---- the tape section

-- 1 to 2,048 bytes in hexadecimal, or one byte a number of times
abbrev pub SpellsPiece : Line → List ℕ → Type 0
SpellsPiece line bytes =
    (SpellsBytes line (codes "x", bytes) × (1 ≤ length bytes) × (length bytes ≤ 2048))
    ⊎ ((b : ℕ) × (digits : List ℕ) × (n : ℕ)
    × (line ≡ fields (codes "fill" ∷ digits ∷ decimal n ∷ [])) × (decode_of digits ≡ Ok (b ∷ []))
    × (1 ≤ n) × (n ≤ 2097152) × (bytes ≡ replicate n b))

pub record BeginsWithTape (lines : List Line) (tape : List ℕ) (rest : List Line) : Type 0 where
  pub piece_lines : List Line
  pub parts : List (List ℕ)
  pub each : AllZip SpellsPiece piece_lines parts
  pub joined : tape ≡ flat_map (λ p. p) parts
  pub whole : lines ≡ codes "tape" ∷ (piece_lines ++ codes "end" ∷ rest)

-- ---- the history section

abbrev pub item_word : Item → List ℕ
item_word (Client c) = decimal c
item_word Publish = codes "mark"

abbrev pub raw_line : RawKind → Line
raw_line (Order phase tick items) =
    fields (codes "order" ∷ decimal phase ∷ decimal tick ∷ map item_word items)
raw_line (Reads phase tick epochs) =
    fields (codes "reads" ∷ decimal phase ∷ decimal tick ∷ map decimal epochs)
raw_line End = codes "end"

abbrev pub IsNumber : ℕ → Type 0
IsNumber n = n < 2 ^ 32

abbrev pub IsItem : Item → Type 0
IsItem (Client c) = IsNumber c
IsItem Publish = Unit {0}

-- numbers of 32 bits, and one thing at least on each line
abbrev pub IsTurn : RawKind → Type 0
IsTurn (Order phase tick items) =
    IsNumber phase × IsNumber tick × AllByRecursion IsItem items × (1 ≤ length items)
IsTurn (Reads phase tick epochs) =
    IsNumber phase × IsNumber tick × AllByRecursion IsNumber epochs × (1 ≤ length epochs)
IsTurn End = ⊥

abbrev pub IsEnd : RawKind → Type 0
IsEnd (Order phase tick items) = ⊥
IsEnd (Reads phase tick epochs) = ⊥
IsEnd End = Unit {0}

-- lines by number from this one on, of which the last one alone is an end
abbrev pub AreRawFrom : ℕ → List RawLine → Type 0
AreRawFrom at [] = ⊥
AreRawFrom at (l ∷ []) = (l.line ≡ at) × IsEnd l.kind
AreRawFrom at (l ∷ m ∷ ls) = (l.line ≡ at) × IsTurn l.kind × AreRawFrom (at + 1) (m ∷ ls)

-- at is the number of the first of these lines
pub record BeginsWithHistory (at : ℕ) (lines : List Line) (raw : List RawLine)
    (rest : List Line) : Type 0 where
  pub numbered : AreRawFrom (at + 1) raw
  pub whole : lines ≡ codes "history" ∷ (map (λ (l : RawLine). raw_line l.kind) raw ++ rest)

-- ---- the section of the replies

-- both sums in hexadecimal, the first in front
pub record SpellsReply (line : Line) (reply : RawReply) : Type 0 where
  pub digits : List ℕ
  pub whole : line ≡ fields (codes "reply" ∷ decimal reply.turn ∷ decimal reply.client
      ∷ decimal reply.server ∷ digits ∷ [])
  pub sums : decode_of digits ≡ Ok (reply.first ++ reply.second)

abbrev pub IsReplyLine : Shape → Line → RawReply → Type 0
IsReplyLine shape line reply = SpellsReply line reply × IsReply shape reply

pub record BeginsWithReplies (shape : Shape) (lines : List Line) (replies : List RawReply)
    (rest : List Line) : Type 0 where
  pub reply_lines : List Line
  pub each : AllZip (IsReplyLine shape) reply_lines replies
  pub ascend : IsTrue (are_ascending replies)
  pub whole : lines ≡ codes "replies" ∷ (reply_lines ++ codes "end" ∷ rest)

-- ---- inputs

-- the number of the first of these lines, which stand at the end of all
abbrev pub number_of_first : List Line → List Line → ℕ
number_of_first lines rest = length lines - length rest + 1

-- what is kept of a tape: no more bytes than are wanted, and how many there were, as far as 64 bits
-- count
abbrev pub kept : ℕ → List ℕ → RawTape
kept want bytes = record { bytes = take want bytes; got = min (length bytes) (2 ^ 64 - 1) }

-- a script's shape wants its tape's length
abbrev pub kept_of : Shape → List ℕ → RawTape
kept_of shape bytes = kept (tape_len shape) bytes

-- a drawn script's tape; a keyed script has none
abbrev pub TapeFor : Shape → Option Keys → List Line → Option RawTape → Type 0
TapeFor shape (Some keys) lines tape = (lines ≡ []) × (tape ≡ None)
TapeFor shape None lines tape =
    (bytes : List ℕ) × BeginsWithTape lines bytes [] × (tape ≡ Some (kept_of shape bytes))

abbrev pub EndsWithTape : Script → List Line → Option RawTape → Type 0
EndsWithTape S lines tape = TapeFor S.shape S.keys lines tape

-- a script, and its tape
pub record IsRunInput (lines : List Line) (input : Input) : Type 0 where
  pub rest : List Line
  pub script : BeginsWithScript lines input.first rest
  pub no_second : input.second ≡ None
  pub no_history : input.history ≡ None
  pub no_replies : input.replies ≡ None
  pub tape : EndsWithTape input.first rest input.tape

-- a keyed script alone
pub record IsRelayInput (lines : List Line) (input : Input) : Type 0 where
  pub keys : Keys
  pub keyed : input.first.keys ≡ Some keys
  pub run : IsRunInput lines input

-- a script, a history, and the script's tape
pub record IsViewInput (lines : List Line) (input : Input) : Type 0 where
  pub behind_script : List Line
  pub rest : List Line
  pub raw : List RawLine
  pub script : BeginsWithScript lines input.first behind_script
  pub history : BeginsWithHistory (number_of_first lines behind_script) behind_script raw rest
  pub no_second : input.second ≡ None
  pub has_history : input.history ≡ Some raw
  pub no_replies : input.replies ≡ None
  pub tape : EndsWithTape input.first rest input.tape

-- two scripts of drawn words, and a history
pub record BeginsWithTwo (lines : List Line) (first second : Script) (raw : List RawLine)
    (rest : List Line) : Type 0 where
  pub behind_script : List Line
  pub behind_scripts : List Line
  pub script : BeginsWithScript lines first behind_script
  pub other : BeginsWithScript behind_script second behind_scripts
  pub history : BeginsWithHistory (number_of_first lines behind_scripts) behind_scripts raw rest
  pub first_drawn : first.keys ≡ None
  pub second_drawn : second.keys ≡ None

-- two scripts of drawn words, a history, and a tape
pub record IsMirrorInput (lines : List Line) (input : Input) : Type 0 where
  pub other : Script
  pub raw : List RawLine
  pub rest : List Line
  pub two : BeginsWithTwo lines input.first other raw rest
  pub has_second : input.second ≡ Some other
  pub has_history : input.history ≡ Some raw
  pub no_replies : input.replies ≡ None
  pub tape : EndsWithTape input.first rest input.tape

-- two scripts of drawn words, a history, replies of the first script's shape, and a tape
pub record IsWrongInput (lines : List Line) (input : Input) : Type 0 where
  pub other : Script
  pub raw : List RawLine
  pub behind_history : List Line
  pub answers : List RawReply
  pub rest : List Line
  pub two : BeginsWithTwo lines input.first other raw behind_history
  pub replies : BeginsWithReplies input.first.shape behind_history answers rest
  pub has_second : input.second ≡ Some other
  pub has_history : input.history ≡ Some raw
  pub has_replies : input.replies ≡ Some answers
  pub tape : EndsWithTape input.first rest input.tape

-- the bytes are a text of the form that spells this input
abbrev pub Spells : Form → List ℕ → Input → Type 0
Spells Run bytes input = IsRunInput (lines_of bytes) input
Spells Relay bytes input = IsRelayInput (lines_of bytes) input
Spells View bytes input = IsViewInput (lines_of bytes) input
Spells Mirror bytes input = IsMirrorInput (lines_of bytes) input
Spells Wrong bytes input = IsWrongInput (lines_of bytes) input
