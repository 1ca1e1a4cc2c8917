-- What the lines of a text say, or else the first of them that is refused, and its cause.
-- Within a line the causes are tried in the order of the definitions below.
use Rattle.std.specs.Prelude.{◌≡◌, ℕ, zero, suc, ◌+◌, ◌-◌, ◌*◌, ◌/◌, nat_le, nat_lt, ◌==◌, ◌&&◌}
use Rattle.std.specs.Prelude.{◌||◌, not, Bool, true, false, cond, List, [], ◌∷◌, ◌++◌, length, find}
use Rattle.std.specs.Prelude.{take, drop, replicate, codes, decimal, flat_map, Option, Some, None, Result, Ok, Err}
use Rattle.std.specs.Int.{w64, from_be_bytes}
use Rattle.std.specs.Option.{option_map}
use Rattle.std.specs.List.{join_with_byte, slice_split}
use Rattle.std.specs.Str.{bytes_eq}
use Rattle.std.specs.Str.Parse.{digits_value}
use Rattle.hex.specs.Hex.{decode_of}
use Rattle.hex.specs.declared.error.FromHexError.{FromHexError}
use Rattle.tk_shape.specs.declared.field.Field.TheVariants as field
use Rattle.tk_shape.specs.declared.shape.Shape.{Shape}
use Rattle.tk_shape.specs.Limits.{Numbers, Limit, broken, is_between, numbers_in}
use Rattle.tk_shape.specs.Numbers.{numbers_of}
use Rattle.tk_seal.specs.Texts.{is_allowed, allowed_front}
use Rattle.tk_script.specs.declared.cause.Cause.{Cause}
use Rattle.tk_script.specs.declared.cause.Cause.TheVariants as cause
use Rattle.tk_script.specs.declared.say.Say.{Say}
use Rattle.tk_script.specs.SoundScript.{is_ascending}
use Rattle.tk_script.specs.SoundReplies.{may_follow}
use Rattle.tk_script.specs.declared.role.Role.{Role}
use Rattle.tk_script.specs.declared.keys.Keys.{Keys}
use Rattle.tk_script.specs.declared.script.Script.{Script}
use Rattle.tk_script.specs.declared.input.RawTape.{RawTape}
use Rattle.tk_script.specs.declared.reply.RawReply.{RawReply}
use Rattle.tk_script.specs.declared.input.Input.{Input}
use Rattle.tk_script.specs.declared.two_scripts.TwoScripts.{TwoScripts}
use Rattle.tk_handle.specs.declared.handle.Handle.{Handle}
use Rattle.tk_schedule.specs.declared.item.Item.{Item}
use Rattle.tk_schedule.specs.declared.item.Item.TheVariants.{Client, Publish}
use Rattle.tk_schedule.specs.declared.raw.RawLine.{RawLine}
use Rattle.tk_schedule.specs.declared.raw.RawKind.{RawKind}
use Rattle.tk_schedule.specs.declared.raw.RawKind.TheVariants.{Order, Reads, End}
use Rattle.tk_script.specs.declared.form.Form.{Form}
use Rattle.tk_script.specs.declared.form.Form.TheVariants.{Run, Relay, View, Mirror, Wrong}
use Rattle.tk_script.specs.declared.kinds.Kinds.{Kinds}
use Rattle.tk_script.specs.declared.kinds.Kinds.TheVariants.{Keyed, Drawn, Either}
use Rattle.tk_script.specs.Grammar.{Line, kept}

-- what a line gives, or the cause for which it is refused
abbrev pub Verdict : Type 0 → Type 0
Verdict X = Result X Cause

-- a reader's answer says of the line what its definition says
abbrev pub IsRead : {X Y : Type 0} → (X → Y) → Result X Cause → Verdict Y → Type 0
IsRead f (Ok x) said = said ≡ Ok (f x)
IsRead f (Err c) said = said ≡ Err c

-- the same, where a line is refused for its form alone
abbrev pub IsTaken : {X : Type 0} → Option X → Verdict X → Type 0
IsTaken (Some x) said = said ≡ Ok x
IsTaken None said = said ≡ Err cause.Form

-- this, unless there is a cause against it
abbrev pub unless : {X : Type 0} → Option Cause → X → Verdict X
unless None x = Ok x
unless (Some c) x = Err c

-- what a line gives, seen so
abbrev pub seen_as : {X Y : Type 0} → (X → Y) → Verdict X → Verdict Y
seen_as f (Ok x) = Ok (f x)
seen_as f (Err c) = Err c

-- ---- fields

-- the parts of a line between single spaces
abbrev pub parts_of : Line → List (List ℕ)
parts_of line = slice_split (λ b. b == 0x20) line

-- this number, if it is of 32 bits and the text is its plain decimal
abbrev pub number_if : ℕ → List ℕ → Option ℕ
number_if n text = cond (nat_lt n 4294967296 && bytes_eq (decimal n) text) (Some n) None

-- the number of 32 bits whose plain decimal a text is
abbrev pub number_spelled : List ℕ → Option ℕ
number_spelled text = number_if (digits_value 10 text) text

abbrev pub number_before : Option ℕ → Option (List ℕ) → Option (List ℕ)
number_before None ns = None
number_before (Some n) None = None
number_before (Some n) (Some ns) = Some (n ∷ ns)

-- the numbers that these spell, each of them one
abbrev pub numbers_spelled : List (List ℕ) → Option (List ℕ)
numbers_spelled [] = Some []
numbers_spelled (t ∷ ts) = number_before (number_spelled t) (numbers_spelled ts)

-- the numbers after a word
abbrev pub word_then : List ℕ → List (List ℕ) → Option (List ℕ)
word_then word [] = None
word_then word (w ∷ ts) = cond (bytes_eq w word) (numbers_spelled ts) None

-- the numbers of a line that is a word and numbers
abbrev pub numbers_after : List ℕ → Line → Option (List ℕ)
numbers_after word line = word_then word (parts_of line)

-- three numbers, and a text
abbrev pub ThreeAndText : Type 0
ThreeAndText = ℕ × ℕ × ℕ × List ℕ

abbrev pub three_with : List ℕ → Option (List ℕ) → Option ThreeAndText
three_with text None = None
three_with text (Some []) = None
three_with text (Some (a ∷ [])) = None
three_with text (Some (a ∷ b ∷ [])) = None
three_with text (Some (a ∷ b ∷ c ∷ [])) = Some (a, b, c, text)
three_with text (Some (a ∷ b ∷ c ∷ more ∷ ns)) = None

abbrev pub three_in : List ℕ → List (List ℕ) → Option ThreeAndText
three_in word [] = None
three_in word (w ∷ []) = None
three_in word (w ∷ a ∷ []) = None
three_in word (w ∷ a ∷ b ∷ []) = None
three_in word (w ∷ a ∷ b ∷ c ∷ []) = None
three_in word (w ∷ a ∷ b ∷ c ∷ x ∷ parts) =
    cond (bytes_eq w word)
    (three_with (join_with_byte 0x20 (x ∷ parts)) (numbers_spelled (a ∷ b ∷ c ∷ []))) None

-- three numbers after a word, and all after the space that follows them
abbrev pub three_after : List ℕ → Line → Option ThreeAndText
three_after word line = three_in word (parts_of line)

-- ---- the line of the format

-- the format that a line names
abbrev pub read_format : Line → Verdict ℕ
read_format line =
    cond (bytes_eq line (codes "talek 1")) (Ok 1)
    (cond (bytes_eq line (codes "talek 2")) (Ok 2) (Err cause.Form))

-- ---- the shape line

-- a shape's format and numbers by their names
abbrev pub named : Shape → Numbers
named shape = numbers_in shape.format (numbers_of shape)

-- the first limit that is broken refuses the line
abbrev pub unbroken : Numbers → Option Limit → Verdict Numbers
unbroken n None = Ok n
unbroken n (Some l) = Err (cause.Shape l.field l.value)

-- twelve numbers, which keep the limits of a format
abbrev pub read_numbers : ℕ → Option (List ℕ) → Verdict Numbers
read_numbers format None = Err cause.Form
read_numbers format (Some ns) =
    cond (length ns == 12) (unbroken (numbers_in format ns) (broken (numbers_in format ns)))
    (Err cause.Form)

abbrev pub read_shape : ℕ → Line → Verdict Numbers
read_shape format line = read_numbers format (numbers_after (codes "shape") line)

-- ---- the line of the kind

-- bytes of the tape of a drawn script of these numbers
abbrev pub tape_in : Numbers → ℕ
tape_in n =
    let cell = 8 + 4 * n.hits + n.block in
    let seed = cond (n.format == 2) 32 0 in
    let read = 8 + 2 * (n.servers - 1) * (seed + n.buckets / 8) in
    n.phases * n.ticks * (n.clients * (cell + read) + n.logs * cell)

abbrev pub drawn_if : ℕ → Verdict Bool
drawn_if size =
    cond (nat_le size 2097152) (Ok false) (Err (cause.Shape field.Tape size))

-- whether a keyed script may stand there, or a drawn one
abbrev pub may_be : Kinds → Bool → Bool
may_be Keyed keyed = keyed
may_be Drawn keyed = not keyed
may_be Either keyed = true

-- whether the script is keyed, where it may be of these kinds
abbrev pub read_kind : Kinds → Numbers → Line → Verdict Bool
read_kind kinds n line =
    cond (bytes_eq line (codes "drawn") && may_be kinds false) (drawn_if (tape_in n))
    (cond (bytes_eq line (codes "keyed") && may_be kinds true) (Ok true) (Err cause.Form))

-- ---- the lines of the logs

-- the first of these that isn't below n
abbrev pub first_from : ℕ → List ℕ → Option ℕ
first_from n ns = find (λ k. nat_le n k) ns

-- a client out of range, else followers that don't ascend
abbrev pub in_order : Role → Option ℕ → Verdict Role
in_order role (Some k) = Err (cause.Number k)
in_order role None = cond (is_ascending role.followers) (Ok role) (Err cause.Order)

abbrev pub read_clients : Numbers → Option (List ℕ) → Verdict Role
read_clients n None = Err cause.Form
read_clients n (Some []) = Err cause.Form
read_clients n (Some (writer ∷ followers)) =
    in_order (record { writer = writer; followers = followers })
    (first_from n.clients (writer ∷ followers))

abbrev pub read_role : Numbers → Line → Verdict Role
read_role n line = read_clients n (numbers_after (codes "log") line)

-- ---- the lines of the keys

abbrev pub bytes_found : Result (List ℕ) FromHexError → Option (List ℕ)
bytes_found (Ok bytes) = Some bytes
bytes_found (Err e) = None

-- the bytes that a text spells in hexadecimal
abbrev pub bytes_in : List ℕ → Option (List ℕ)
bytes_in text = bytes_found (decode_of text)

abbrev pub counted : ℕ → Option (List ℕ) → Verdict (List ℕ)
counted count None = Err cause.Form
counted count (Some bytes) = cond (length bytes == count) (Ok bytes) (Err cause.Form)

-- a word, and this many bytes in hexadecimal
abbrev pub read_hex : List ℕ → ℕ → List (List ℕ) → Verdict (List ℕ)
read_hex word count [] = Err cause.Form
read_hex word count (w ∷ []) = Err cause.Form
read_hex word count (w ∷ digits ∷ []) =
    cond (bytes_eq w word) (counted count (bytes_in digits)) (Err cause.Form)
read_hex word count (w ∷ digits ∷ more ∷ parts) = Err cause.Form

abbrev pub read_bytes : List ℕ → ℕ → Line → Verdict (List ℕ)
read_bytes word count line = read_hex word count (parts_of line)

-- the handle of these bytes: its number, two seeds, and the key
abbrev pub handle_in : List ℕ → Handle
handle_in bytes =
    record {
      id = from_be_bytes w64 (take 8 bytes);
      seed1 = take 32 (drop 8 bytes);
      seed2 = take 32 (drop 32 (drop 8 bytes));
      key = drop 32 (drop 32 (drop 8 bytes));
    }

abbrev pub read_handle : Line → Verdict Handle
read_handle line = seen_as handle_in (read_bytes (codes "handle") 104 line)

abbrev pub read_seed : Line → Verdict (List ℕ)
read_seed line = read_bytes (codes "seed") 32 line

-- ---- the lines of a tape

abbrev pub in_piece : Option (List ℕ) → Verdict (List ℕ)
in_piece None = Err cause.Form
in_piece (Some bytes) = cond (is_between 1 2048 (length bytes)) (Ok bytes) (Err cause.Form)

-- bytes in hexadecimal
abbrev pub read_digits : List (List ℕ) → Verdict (List ℕ)
read_digits [] = Err cause.Form
read_digits (digits ∷ []) = in_piece (bytes_in digits)
read_digits (digits ∷ more ∷ parts) = Err cause.Form

abbrev pub repeats : ℕ → ℕ → Verdict (List ℕ)
repeats b n = cond (is_between 1 2097152 n) (Ok (replicate n b)) (Err (cause.Number n))

abbrev pub repeated : Option (List ℕ) → Option ℕ → Verdict (List ℕ)
repeated None count = Err cause.Form
repeated (Some []) count = Err cause.Form
repeated (Some (b ∷ [])) None = Err cause.Form
repeated (Some (b ∷ [])) (Some n) = repeats b n
repeated (Some (b ∷ more ∷ bytes)) count = Err cause.Form

-- a byte, and how many times it is repeated
abbrev pub read_fill : List (List ℕ) → Verdict (List ℕ)
read_fill [] = Err cause.Form
read_fill (digits ∷ []) = Err cause.Form
read_fill (digits ∷ n ∷ []) = repeated (bytes_in digits) (number_spelled n)
read_fill (digits ∷ n ∷ more ∷ parts) = Err cause.Form

abbrev pub piece_parts : List (List ℕ) → Verdict (List ℕ)
piece_parts [] = Err cause.Form
piece_parts (w ∷ parts) =
    cond (bytes_eq w (codes "x")) (read_digits parts)
    (cond (bytes_eq w (codes "fill")) (read_fill parts) (Err cause.Form))

abbrev pub read_piece : Line → Verdict (List ℕ)
read_piece line = piece_parts (parts_of line)

-- ---- the lines of a history

-- a client's number, or the mark
abbrev pub item_spelled : List ℕ → Option Item
item_spelled text =
    cond (bytes_eq text (codes "mark")) (Some Publish) (option_map Client (number_spelled text))

abbrev pub item_before : Option Item → Option (List Item) → Option (List Item)
item_before None items = None
item_before (Some x) None = None
item_before (Some x) (Some items) = Some (x ∷ items)

-- the items that these spell, each of them one
abbrev pub items_spelled : List (List ℕ) → Option (List Item)
items_spelled [] = Some []
items_spelled (t ∷ ts) = item_before (item_spelled t) (items_spelled ts)

abbrev pub order_said : Option ℕ → Option ℕ → Option (List Item) → Verdict RawKind
order_said (Some phase) (Some tick) (Some items) = Ok (Order phase tick items)
order_said phase tick items = Err cause.Form

abbrev pub reads_said : Option ℕ → Option ℕ → Option (List ℕ) → Verdict RawKind
reads_said (Some phase) (Some tick) (Some epochs) = Ok (Reads phase tick epochs)
reads_said phase tick epochs = Err cause.Form

abbrev pub turn_said : List ℕ → Option ℕ → Option ℕ → List (List ℕ) → Verdict RawKind
turn_said word phase tick rest =
    cond (bytes_eq word (codes "order")) (order_said phase tick (items_spelled rest))
    (cond (bytes_eq word (codes "reads")) (reads_said phase tick (numbers_spelled rest))
    (Err cause.Form))

abbrev pub no_turn : Verdict RawKind
no_turn = Err cause.Form

-- an order or the epochs of a turn, by a phase, a tick, and one item or epoch or more
abbrev pub turn_parts : List (List ℕ) → Verdict RawKind
turn_parts (word ∷ phase ∷ tick ∷ t ∷ ts) =
    turn_said word (number_spelled phase) (number_spelled tick) (t ∷ ts)
turn_parts parts = Err cause.Form

abbrev pub read_turn : Line → Verdict RawKind
read_turn line = turn_parts (parts_of line)

-- ---- the lines of the texts

-- a phase and a tick: when a text is said
abbrev pub When : Type 0
When = ℕ × ℕ

-- the first comes before the second, or they are the same
abbrev pub is_by : When → When → Bool
is_by a b = nat_lt a.0 b.0 || (a.0 == b.0 && nat_le a.1 b.1)

-- when the last text is said
abbrev pub last_when : List Say → When
last_when [] = (0, 0)
last_when (y ∷ []) = (y.phase, y.tick)
last_when (y ∷ z ∷ says) = last_when (z ∷ says)

-- the first of phase, tick and log that is out of range
abbrev pub out_of_range : Numbers → ℕ → ℕ → ℕ → Option ℕ
out_of_range n phase tick log =
    cond (is_between 1 n.phases phase)
    (cond (is_between 1 n.ticks tick) (cond (nat_lt log n.logs) None (Some log)) (Some tick))
    (Some phase)

-- a text that is too long for its room, else one that may not be sent
abbrev pub why_text : ℕ → List ℕ → Option Cause
why_text room text =
    cond (nat_le (length text) room)
    (cond (is_allowed text) None (Some (cause.Text (allowed_front (length text) text))))
    (Some (cause.Room room))

-- a number out of range, else a text said too early
abbrev pub why_behind : Numbers → When → When → List ℕ → Option ℕ → Option Cause
why_behind n last when text (Some k) = Some (cause.Number k)
why_behind n last when text None =
    cond (is_by last when) (why_text (n.block - 18) text) (Some cause.Order)

-- why a text may not be said in a phase, a tick and a log, after one that is said at the last
abbrev pub why_not : Numbers → When → ℕ → ℕ → ℕ → List ℕ → Option Cause
why_not n last phase tick log text =
    why_behind n last (phase, tick) text (out_of_range n phase tick log)

-- the text of three numbers and bytes, after one that is said at the last
abbrev pub say_fields : Numbers → When → Option ThreeAndText → Verdict Say
say_fields n last None = Err cause.Form
say_fields n last (Some x) =
    unless (why_not n last x.0 x.1 x.2 x.3)
    (record { phase = x.0; tick = x.1; log = x.2; text = x.3 })

-- the text of a line, after one that is said at the last
abbrev pub read_say : Numbers → When → Line → Verdict Say
read_say n last line = say_fields n last (three_after (codes "say") line)

-- ---- the lines of the replies

-- a turn, a client and a server
abbrev pub Whose : Type 0
Whose = ℕ × ℕ × ℕ

-- bytes of a sum
abbrev pub width_in : Numbers → ℕ
width_in n = n.depth * (16 + n.block)

-- the first of turn, client and server that is out of range
abbrev pub whose_out : Numbers → Whose → Option ℕ
whose_out n whose =
    cond (nat_lt whose.0 (n.phases * n.ticks))
    (cond (nat_lt whose.1 n.clients)
    (cond (is_between 1 n.servers whose.2) None (Some whose.2)) (Some whose.1))
    (Some whose.0)

-- a number out of range, else a reply that doesn't ascend
abbrev pub why_unanswered : Bool → Option ℕ → Option Cause
why_unanswered ascends (Some k) = Some (cause.Number k)
why_unanswered ascends None = cond ascends None (Some cause.Order)

-- the reply of two sums, the first in front
abbrev pub reply_with : Numbers → Whose → List ℕ → RawReply
reply_with n whose sums =
    record {
      turn = whose.0;
      client = whose.1;
      server = whose.2;
      first = take (width_in n) sums;
      second = drop (width_in n) sums;
    }

-- the sums are read before the numbers are tried
abbrev pub reply_sums : Numbers → List RawReply → Whose → Verdict (List ℕ) → Verdict RawReply
reply_sums n before whose (Err c) = Err c
reply_sums n before whose (Ok sums) =
    let reply = reply_with n whose sums in
    unless (why_unanswered (may_follow before reply) (whose_out n whose)) reply

abbrev pub reply_fields : Numbers → List RawReply → Option ThreeAndText → Verdict RawReply
reply_fields n before None = Err cause.Form
reply_fields n before (Some x) =
    reply_sums n before (x.0, x.1, x.2) (counted (2 * width_in n) (bytes_in x.3))

-- the reply of a line, which comes after those before it
abbrev pub read_reply : Numbers → List RawReply → Line → Verdict RawReply
read_reply n before line = reply_fields n before (three_after (codes "reply") line)

-- ---- lines in a row

-- where a reader stands: the number of the next line, and the lines from it on
pub record Place : Type 0 where
  pub line : ℕ
  pub rest : List Line

-- a refused line, and its cause
abbrev pub Refusal : Type 0
Refusal = ℕ × Cause

infixl 10 ◌>>=◌
abbrev pub ◌>>=◌ : {A B : Type 0} → Result A Refusal → (A → Result B Refusal) → Result B Refusal
(Ok x) >>= f = f x
(Err e) >>= f = Err e

abbrev pub taken : {X : Type 0} → ℕ → List Line → Verdict X → Result (X × Place) Refusal
taken line rest (Ok x) = Ok (x, record { line = line + 1; rest = rest })
taken line rest (Err c) = Err (line, c)

-- the line of this number, if there is one
abbrev pub line_at : {X : Type 0} → (Line → Verdict X) → ℕ → List Line → Result (X × Place) Refusal
line_at read line [] = Err (line, cause.Early)
line_at read line (l ∷ ls) = taken line ls (read l)

abbrev pub next_line : {X : Type 0} → (Line → Verdict X) → Place → Result (X × Place) Refusal
next_line read p = line_at read p.line p.rest

-- a line that is read alone, whatever stands before it
abbrev pub alone : {X : Type 0} → (Line → Verdict X) → List X → Line → Verdict X
alone read before line = read line

-- what the next count lines give, after what was read before: each may look at all before it
abbrev pub next_lines : {X : Type 0} → ℕ → (List X → Line → Verdict X) → List X → Place →
    Result (List X × Place) Refusal
next_lines zero read before p = Ok (before, p)
next_lines (suc count) read before p =
    next_line (read before) p >>= λ x. next_lines count read (before ++ x.0 ∷ []) x.1

-- what the lines up to an `end` give, likewise
abbrev pub to_end : {X : Type 0} → (List X → Line → Verdict X) → List X → ℕ → List Line →
    Result (List X × Place) Refusal
to_end read before line [] = Err (line, cause.Early)
to_end {X} read before line (l ∷ ls) =
    let on = λ (x : X × Place). to_end read (before ++ x.0 ∷ []) (line + 1) ls in
    cond (bytes_eq l (codes "end")) (Ok (before, record { line = line + 1; rest = ls }))
    (taken line ls (read before l) >>= on)

-- ---- sections

-- a line of these words alone
abbrev pub read_words : List ℕ → Line → Verdict (Unit {0})
read_words words line = cond (bytes_eq line words) (Ok tt) (Err cause.Form)

-- the three lines at the front of a script: its format and numbers, and whether it is keyed
unfoldable pub read_head : Kinds → Place → Result (Numbers × Bool × Place) Refusal
read_head kinds p = do
  format ← next_line read_format p
  shape ← next_line (read_shape format.0) format.1
  kind ← next_line (read_kind kinds shape.0) shape.1
  Ok (shape.0, kind.0, kind.1)

-- the handles and the seeds of a keyed script
unfoldable pub read_keys : Numbers → Bool → Place → Result (Option Keys × Place) Refusal
read_keys n false p = Ok (None, p)
read_keys n true p = do
  handles ← next_lines n.logs (alone read_handle) [] p
  seeds ← next_lines n.clients (alone read_seed) [] handles.1
  Ok (Some (record { handles = handles.0; seeds = seeds.0 }), seeds.1)

-- a text may be said no earlier than the last before it
abbrev pub read_next_say : Numbers → List Say → Line → Verdict Say
read_next_say n says line = read_say n (last_when says) line

-- what the lines of a script say: its numbers, the keys of a keyed one, the roles and the texts
pub record ScriptLines : Type 0 where
  pub numbers : Numbers
  pub keys : Option Keys
  pub roles : List Role
  pub says : List Say

-- a script of one of these kinds
unfoldable pub read_script : Kinds → Place → Result (ScriptLines × Place) Refusal
read_script kinds p = do
  head ← read_head kinds p
  roles ← next_lines head.0.logs (alone (read_role head.0)) [] head.2
  keys ← read_keys head.0 head.1 roles.1
  says ← to_end (read_next_say head.0) [] keys.1.line keys.1.rest
  Ok (
    record { numbers = head.0; keys = keys.0; roles = roles.0; says = says.0 },
    says.1,
  )

-- what lines say, numbered from this number on, and the end after them
abbrev pub numbered : ℕ → List RawKind → List RawLine
numbered n [] = record { line = n; kind = End } ∷ []
numbered n (k ∷ ks) = record { line = n; kind = k } ∷ numbered (n + 1) ks

abbrev pub numbered_behind : ℕ → List RawKind × Place → Result (List RawLine × Place) Refusal
numbered_behind line x = Ok (numbered line x.0, x.1)

abbrev pub read_turns : ℕ → List Line → Result (List RawLine × Place) Refusal
read_turns line lines = to_end (alone read_turn) [] line lines >>= numbered_behind line

unfoldable pub read_history : Place → Result (List RawLine × Place) Refusal
read_history p = do
  first ← next_line (read_words (codes "history")) p
  read_turns first.1.line first.1.rest

abbrev pub read_pieces : List (List ℕ) → ℕ → List Line → Result (List (List ℕ) × Place) Refusal
read_pieces = to_end (alone read_piece)

-- what is kept of pieces of which so many bytes are wanted
abbrev pub kept_behind : ℕ → List (List ℕ) × Place → Result (RawTape × Place) Refusal
kept_behind want x = Ok (kept want (flat_map (λ piece. piece) x.0), x.1)

abbrev pub read_kept : ℕ → ℕ → List Line → Result (RawTape × Place) Refusal
read_kept want line lines = read_pieces [] line lines >>= kept_behind want

unfoldable pub read_tape : ℕ → Place → Result (RawTape × Place) Refusal
read_tape want p = do
  first ← next_line (read_words (codes "tape")) p
  read_kept want first.1.line first.1.rest

-- nothing stands after the last section
abbrev pub no_line : ℕ → List Line → Result (Unit {0}) Refusal
no_line line [] = Ok tt
no_line line (l ∷ ls) = Err (line, cause.After)

-- what follows a script: the tape of one that isn't keyed, and nothing more
unfoldable pub read_end : Option Keys → ℕ → Place → Result (Option RawTape) Refusal
read_end (Some keys) want p = do
  none ← no_line p.line p.rest
  Ok None
read_end None want p = do
  tape ← read_tape want p
  none ← no_line tape.1.line tape.1.rest
  Ok (Some tape.0)

-- the replies of a run of these numbers
unfoldable pub read_replies : Numbers → Place → Result (List RawReply × Place) Refusal
read_replies n p = do
  first ← next_line (read_words (codes "replies")) p
  to_end (read_reply n) [] first.1.line first.1.rest

-- what the lines of an input say
pub record InputLines : Type 0 where
  pub first : ScriptLines
  pub second : Option ScriptLines
  pub history : Option (List RawLine)
  pub replies : Option (List RawReply)
  pub tape : Option RawTape

-- the tape after a script's form
abbrev pub read_tape_of : ScriptLines → Place → Result (Option RawTape) Refusal
read_tape_of script p = read_end script.keys (tape_in script.numbers) p

abbrev pub front : List Line → Place
front lines = record { line = 1; rest = lines }

-- a script of one of these kinds, and its tape
unfoldable pub read_run : Kinds → List Line → Result InputLines Refusal
read_run kinds lines = do
  script ← read_script kinds (front lines)
  tape ← read_tape_of script.0 script.1
  Ok (record { first = script.0; second = None; history = None; replies = None; tape = tape })

-- a script, a history, and the script's tape
unfoldable pub read_view : List Line → Result InputLines Refusal
read_view lines = do
  script ← read_script Either (front lines)
  history ← read_history script.1
  tape ← read_tape_of script.0 history.1
  Ok (record {
    first = script.0;
    second = None;
    history = Some history.0;
    replies = None;
    tape = tape;
  })

-- what the lines of two scripts and a history say
pub record TwoLines : Type 0 where
  pub first : ScriptLines
  pub second : ScriptLines
  pub history : List RawLine

-- two scripts of drawn words, and a history
unfoldable pub read_two : List Line → Result (TwoLines × Place) Refusal
read_two lines = do
  first ← read_script Drawn (front lines)
  second ← read_script Drawn first.1
  history ← read_history second.1
  Ok (record { first = first.0; second = second.0; history = history.0 }, history.1)

-- the lines of an input that begins with these
abbrev pub lines_with : Option (List RawReply) → Option RawTape → TwoLines → InputLines
lines_with replies tape two =
    record {
      first = two.first;
      second = Some two.second;
      history = Some two.history;
      replies = replies;
      tape = tape;
    }

-- two scripts of drawn words, a history, and a tape
unfoldable pub read_mirror : List Line → Result InputLines Refusal
read_mirror lines = do
  two ← read_two lines
  tape ← read_tape_of two.0.first two.1
  Ok (lines_with None tape two.0)

-- two scripts of drawn words, a history, replies of the first script's shape, and a tape
unfoldable pub read_wrong : List Line → Result InputLines Refusal
read_wrong lines = do
  two ← read_two lines
  replies ← read_replies two.0.first.numbers two.1
  tape ← read_tape_of two.0.first replies.1
  Ok (lines_with (Some replies.0) tape two.0)

-- what the lines of an input of a form say, or else the first that is refused, with its cause
abbrev pub read_input : Form → List Line → Result InputLines Refusal
read_input Run lines = read_run Either lines
read_input Relay lines = read_run Keyed lines
read_input View lines = read_view lines
read_input Mirror lines = read_mirror lines
read_input Wrong lines = read_wrong lines

-- ---- values and what their lines say

abbrev pub script_lines : Script → ScriptLines
script_lines S =
    record { numbers = named S.shape; keys = S.keys; roles = S.roles; says = S.says }

abbrev pub two_lines : TwoScripts → TwoLines
two_lines two =
    record {
      first = script_lines two.first;
      second = script_lines two.second;
      history = two.history;
    }

abbrev pub input_lines : Input → InputLines
input_lines input =
    record {
      first = script_lines input.first;
      second = option_map script_lines input.second;
      history = input.history;
      replies = input.replies;
      tape = input.tape;
    }
