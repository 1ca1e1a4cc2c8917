-- Refused lines and their causes, computed.
use Rattle.std.specs.Prelude.{◌≡◌, ℕ, ⊤, List, ◌++◌, replicate, codes, Ok, Err, Result}
use Rattle.std.specs.Int.Count.{ones}
use Rattle.std.specs.Fmt.{digits}
use Rattle.std.specs.Str.{is_utf8, chars}
use Rattle.std.specs.Char.{encode_utf8}
use Rattle.std.proofs.Common.{refl}
use Rattle.hex.proofs.OnLiterals.{hex_on_literals}
use Rattle.tk_shape.specs.declared.field.Field.TheVariants.{Servers, Buckets, Tape}
use Rattle.tk_script.specs.declared.cause.Cause.{Cause}
use Rattle.tk_script.specs.declared.cause.Cause.TheVariants.{Early, Form, Shape, Number, Order, Room, Text, After}
use Rattle.tk_script.specs.declared.form.Form.{Form as InputForm}
use Rattle.tk_script.specs.declared.form.Form.TheVariants.{Run, Relay, View, Mirror, Wrong}
use Rattle.tk_script.specs.Grammar.{lines_of}
use Rattle.tk_script.specs.Reading.{Refusal, InputLines, read_head, read_keys, read_script, read_history, read_replies, read_tape, read_end, read_run, read_view, read_two, read_mirror, read_wrong, read_input}

unfoldable reading : ⊤
unfolding read_head read_keys read_script read_history read_replies read_tape read_end
reading = tt

unfoldable forms : ⊤
unfolding read_run read_view read_two read_mirror read_wrong reading
forms = tt

unfoldable computing : ⊤
unfolding ones digits chars encode_utf8 is_utf8 hex_on_literals lines_of forms
computing = tt

abbrev accepted : Result (Unit {0}) Refusal
accepted = Ok tt

abbrev refused : ℕ → Cause → Result (Unit {0}) Refusal
refused line c = Err (line, c)

-- whether a line is refused
abbrev judged : Result InputLines Refusal → Result (Unit {0}) Refusal
judged (Ok input) = Ok tt
judged (Err refusal) = Err refusal

-- what is said of a text in a form, and of one that begins with these three lines
abbrev said_in : InputForm → List ℕ → Result (Unit {0}) Refusal
said_in form text = judged (read_input form (lines_of text))

abbrev said : List ℕ → Result (Unit {0}) Refusal
said text = said_in Run text

abbrev drawn : List ℕ
drawn = codes "talek 1\nshape 2 8 4 4 24 64 1 0 2 2 1 1\ndrawn\n"

abbrev said_drawn : List ℕ → Result (Unit {0}) Refusal
said_drawn text = said (drawn ++ text)

-- a script of two drawn words, and what follows it in a form
abbrev said_behind : InputForm → List ℕ → Result (Unit {0}) Refusal
said_behind form text = said_in form (drawn ++ codes "log 0 1\nend\n" ++ text)

whole : said_drawn (codes "log 0 1\nsay 1 1 0 hi\nend\ntape\nfill 11 36\nx aB\nend\n") ≡ accepted
unfolding computing
whole = refl

nothing : said (codes "") ≡ refused 1 Early
unfolding computing
nothing = refl

cut : said_drawn (codes "log 0 1\nsay 1 1 0 hi\n") ≡ refused 6 Early
unfolding computing
cut = refl

word : said (codes "talek 1\nshape 2 8 4 4 24 64 1 0 2 2 1 1\ndruwn\nlog 0 1\n") ≡ refused 3 Form
unfolding computing
word = refl

long_number : said_drawn (codes "log 4294967296\n") ≡ refused 4 Form
unfolding computing
long_number = refl

-- ---- the format

format_2 : said (codes "talek 2\nshape 2 8 4 4 24 64 1 0 2 2 1 1\ndrawn\nlog 0 1\nend\ntape\nfill 11 512\nend\n")
    ≡ accepted
unfolding computing
format_2 = refl

format_3 : said (codes "talek 3\nshape 2 8 4 4 24 64 1 0 2 2 1 1\ndrawn\n") ≡ refused 1 Form
unfolding computing
format_3 = refl

-- format 1 has fewer buckets
many_buckets : said (codes "talek 1\nshape 2 16384 1 4 24 64 1 0 2 2 1 1\nkeyed\n")
    ≡ refused 2 (Shape Buckets 16384)
unfolding computing
many_buckets = refl

many_of_format_2 : said (codes "talek 2\nshape 2 16384 1 4 24 64 1 0 2 2 1 1\nkeyed\n")
    ≡ refused 4 Early
unfolding computing
many_of_format_2 = refl

-- ---- the lines after it

few_servers : said (codes "talek 1\nshape 1 8 4 4 24 64 1 0 2 2 1 1\ndrawn\nlog 0 1\n")
    ≡ refused 2 (Shape Servers 1)
unfolding computing
few_servers = refl

long_tape : said (codes "talek 1\nshape 2 8 4 4 24 64 1 0 64 256 3 1\ndrawn\nlog 0 1\n")
    ≡ refused 3 (Shape Tape 2288640)
unfolding computing
long_tape = refl

client : said_drawn (codes "log 0 2\n") ≡ refused 4 (Number 2)
unfolding computing
client = refl

repeated : said_drawn (codes "log 0 1 1\n") ≡ refused 4 Order
unfolding computing
repeated = refl

phase : said_drawn (codes "log 0 1\nsay 3 9 9 abcdefg\n") ≡ refused 5 (Number 3)
unfolding computing
phase = refl

early : said_drawn (codes "log 0 1\nsay 2 1 0 a\nsay 1 1 0 abcdefg\n") ≡ refused 6 Order
unfolding computing
early = refl

room : said_drawn (codes "log 0 1\nsay 1 1 0 abcdefg\n") ≡ refused 5 (Room 6)
unfolding computing
room = refl

control : said_drawn (codes "log 0 1\nsay 1 1 0 ab\tc\n") ≡ refused 5 (Text 2)
unfolding computing
control = refl

repeats : said_drawn (codes "log 0 1\nend\ntape\nfill 11 0\n") ≡ refused 7 (Number 0)
unfolding computing
repeats = refl

after : said_drawn (codes "log 0 1\nend\ntape\nfill 11 36\nx aB\nend\n\n") ≡ refused 10 After
unfolding computing
after = refl

keyed : said (codes "talek 1\nshape 2 8 4 4 24 64 1 0 2 2 1 1\nkeyed\nlog 0 1\nhandle 00\n")
    ≡ refused 5 Form
unfolding computing
keyed = refl

-- ---- keys alone

drawn_relay : said_in Relay (drawn ++ codes "log 0 1\nend\n") ≡ refused 3 Form
unfolding computing
drawn_relay = refl

-- a tape that is too long isn't looked at
long_relay : said_in Relay (codes "talek 1\nshape 2 8 4 4 24 64 1 0 64 256 3 1\ndrawn\n")
    ≡ refused 3 Form
unfolding computing
long_relay = refl

keyed_relay : said_in Relay
    (codes "talek 1\nshape 2 8 4 4 24 64 1 0 2 2 1 1\nkeyed\nlog 0 1\nhandle 00\n")
    ≡ refused 5 Form
unfolding computing
keyed_relay = refl

-- ---- a history, and a second script

view : said_behind View
    (codes "history\norder 1 1 mark 0 1\nreads 1 1 0 0\nend\ntape\nfill 11 36\nend\n") ≡ accepted
unfolding computing
view = refl

no_history : said_behind View (codes "tape\nfill 11 36\nend\n") ≡ refused 6 Form
unfolding computing
no_history = refl

history_of_run : said_behind Run (codes "history\nend\n") ≡ refused 6 Form
unfolding computing
history_of_run = refl

no_items : said_behind View (codes "history\norder 1 1\nend\n") ≡ refused 7 Form
unfolding computing
no_items = refl

epochs_of_marks : said_behind View (codes "history\nreads 1 1 mark\nend\n") ≡ refused 7 Form
unfolding computing
epochs_of_marks = refl

history_cut : said_behind View (codes "history\norder 1 1 0\n") ≡ refused 8 Early
unfolding computing
history_cut = refl

mirror : said_behind Mirror
    (drawn ++ codes "log 1\nend\nhistory\norder 1 1 0\nend\ntape\nfill 11 36\nend\n") ≡ accepted
unfolding computing
mirror = refl

one_script : said_behind Mirror (codes "history\nend\n") ≡ refused 6 Form
unfolding computing
one_script = refl

keyed_mirror : said_in Mirror
    (codes "talek 1\nshape 2 8 4 4 24 64 1 0 2 2 1 1\nkeyed\nlog 0 1\n") ≡ refused 3 Form
unfolding computing
keyed_mirror = refl

-- ---- replies

-- two scripts of which a sum has 40 bytes, a history, and these lines of replies
abbrev said_replies : List ℕ → Result (Unit {0}) Refusal
said_replies text =
    let script = codes "talek 1\nshape 2 8 1 4 24 64 1 0 2 2 1 1\ndrawn\nlog 0 1\nend\n" in
    said_in Wrong (script ++ script ++ codes "history\nend\nreplies\n" ++ text)

abbrev zeros : List ℕ
zeros = replicate 160 0x30

replies : said_replies (codes "reply 0 1 2 " ++ zeros ++ codes "\nreply 1 0 1 " ++ zeros
    ++ codes "\nend\ntape\nend\n") ≡ accepted
unfolding computing
replies = refl

-- the digits are looked at before the numbers
short_sums : said_replies (codes "reply 9 9 9 " ++ replicate 158 0x30 ++ codes "\n")
    ≡ refused 14 Form
unfolding computing
short_sums = refl

turn_first : said_replies (codes "reply 2 9 9 " ++ zeros) ≡ refused 14 (Number 2)
unfolding computing
turn_first = refl

server_0 : said_replies (codes "reply 0 0 0 " ++ zeros) ≡ refused 14 (Number 0)
unfolding computing
server_0 = refl

said_twice : said_replies (codes "reply 0 0 1 " ++ zeros ++ codes "\nreply 0 0 1 " ++ zeros)
    ≡ refused 15 Order
unfolding computing
said_twice = refl

no_replies : said_replies (codes "reply 0 0 1 " ++ zeros ++ codes "\n") ≡ refused 15 Early
unfolding computing
no_replies = refl
