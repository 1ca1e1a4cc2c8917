-- What a request reads, what refuses it, and for which history it is done.
use Rattle.std.specs.Prelude.{◌≡◌, ℕ, ◌==◌, nat_lt, ◌||◌, cond, List, [], Option, Some, None, Err}
use Rattle.tk_io.specs.Content.{Rose, before_taking, emptied}
use Rattle.tk_shape.specs.declared.shape.Shape.{Shape}
use Rattle.tk_shape.specs.declared.differs.Differs.{Differs}
use Rattle.tk_shape.specs.Lengths.{tape_len}
use Rattle.tk_shape.specs.Lifting.{lifted_shape}
use Rattle.tk_shape.specs.Differences.{first_difference}
use Rattle.tk_schedule.specs.declared.history.History.{History}
use Rattle.tk_schedule.specs.declared.raw.RawLine.{RawLine}
use Rattle.tk_schedule.specs.Due.{bad_line}
use Rattle.tk_schedule.specs.Schedule.{serial_history, IsLegal}
use Rattle.tk_schedule.specs.Told.{Tells}
use Rattle.tk_script.specs.declared.cause.Cause.{Cause}
use Rattle.tk_script.specs.declared.form.Form.{Form}
use Rattle.tk_script.specs.declared.form.Form.TheVariants as form
use Rattle.tk_script.specs.declared.input.RawTape.{RawTape}
use Rattle.tk_script.specs.declared.input.Input.{Input}
use Rattle.tk_script.specs.declared.script.Script.{Script}
use Rattle.tk_script.specs.declared.keys.Keys.{Keys}
use Rattle.tk_script.specs.Book.{IsWholeTape, book_of}
use Rattle.tk_script.specs.Grammar.{lines_of, Spells}
use Rattle.tk_script.specs.Reading.{read_input}
use Rattle.tk_words.specs.declared.book.Book.{Book}
use Rattle.tk_words.specs.Book.{shape_of, words_in}
use Rattle.tk_words.specs.Words.{WordBook, keyed}
use Rattle.tk_cli.specs.declared.request.Request.{Request}
use Rattle.tk_cli.specs.declared.request.Request.TheVariants as request
use Rattle.tk_cli.specs.declared.status.Status.{Status}
use Rattle.tk_cli.specs.declared.status.Status.TheVariants as status

-- ---- the bytes

-- the form of a request's input
abbrev pub form_of : Request → Form
form_of (request.View server) = form.View
form_of (request.Mirror hidden) = form.Mirror
form_of (request.Wrong hidden) = form.Wrong
form_of request.Relay = form.Relay
form_of _ = form.Run

-- these bytes were taken, and they were all that was left
pub record TakesAll (bytes : List ℕ) (left left' : Option (List ℕ)) : Type 0 where
  pub taken : left ≡ before_taking bytes left'
  pub emptied : left' ≡ emptied left

-- all was taken, and it spells this input
pub record ReadsWhole (f : Form) (left left' : Option (List ℕ)) (input : Input) : Type 0 where
  pub bytes : List ℕ
  pub all : TakesAll bytes left left'
  pub spelled : Spells f bytes input

-- all was taken, this line of it is the first that is refused, for this cause, and it spells no
-- input
pub record RefusesLine (f : Form) (left left' : Option (List ℕ)) (line : ℕ) (c : Cause) : Type 0
  where
    pub bytes : List ℕ
    pub all : TakesAll bytes left left'
    pub first : read_input f (lines_of bytes) ≡ Err (line, c)
    pub none : (input : Input) → Spells f bytes input → ⊥

-- the bytes of its tape that are kept
abbrev pub kept_in : Option RawTape → List ℕ
kept_in None = []
kept_in (Some tape) = tape.bytes

-- ---- what refuses an input, each asked where nothing before it does

-- the tape has another length than the shape wants
abbrev pub tape_refusal : Shape → Option RawTape → Option Status → Option Status
tape_refusal shape None behind = behind
tape_refusal shape (Some tape) behind =
    cond (tape.got == tape_len shape) behind (Some (status.Tape (tape_len shape) tape.got))

-- the tape of drawn words would be longer in format 2 than a tape may be
abbrev pub wide_refusal : Shape → Option RawTape → Option Status → Option Status
wide_refusal shape None behind = behind
wide_refusal shape (Some tape) behind =
    let want = tape_len (lifted_shape shape) in
    cond (nat_lt 2097152 want) (Some (status.Wide want)) behind

-- the scripts' shapes differ
abbrev pub difference : Shape → Option Script → Option Differs
difference shape None = None
difference shape (Some other) = first_difference shape other.shape

abbrev pub shapes_refusal : Option Differs → Option Status → Option Status
shapes_refusal None behind = behind
shapes_refusal (Some d) behind = Some (status.Shapes d.field d.a d.b)

-- a line of the history isn't the one due
abbrev pub bad_history_line : Shape → Option (List RawLine) → Option ℕ
bad_history_line shape None = None
bad_history_line shape (Some raw) = bad_line shape raw

abbrev pub history_refusal : Option ℕ → Option Status → Option Status
history_refusal None behind = behind
history_refusal (Some at) behind = Some (status.History at)

-- it isn't a server, of those that are numbered from 1
abbrev pub server_refusal : ℕ → ℕ → Option Status
server_refusal got servers =
    cond (got == 0 || nat_lt servers got) (Some (status.Hidden got servers)) None

-- it is an epoch past the last
abbrev pub phase_refusal : ℕ → ℕ → Option Status
phase_refusal got phases = cond (nat_lt phases got) (Some (status.Phase got phases)) None

-- the first that refuses an input of two scripts where a server is hidden
abbrev pub hiding_refusal : ℕ → Input → Option Status
hiding_refusal hidden input =
    let shape = input.first.shape in
    tape_refusal shape input.tape
    (shapes_refusal (difference shape input.second)
    (history_refusal (bad_history_line shape input.history)
    (server_refusal hidden shape.servers)))

-- the first that refuses an input of a request
abbrev pub refusal_of : Request → Input → Option Status
refusal_of (request.View server) input =
    let shape = input.first.shape in
    tape_refusal shape input.tape
    (history_refusal (bad_history_line shape input.history)
    (server_refusal server shape.servers))
refusal_of (request.Mirror hidden) input = hiding_refusal hidden input
refusal_of (request.Wrong hidden) input = hiding_refusal hidden input
refusal_of request.Lift input =
    let shape = input.first.shape in
    tape_refusal shape input.tape (wide_refusal shape input.tape None)
refusal_of (request.Resume epoch) input =
    let shape = input.first.shape in
    tape_refusal shape input.tape (phase_refusal epoch shape.phases)
refusal_of _ input = tape_refusal input.first.shape input.tape None

-- all was taken, and what it spells is refused with this status
pub record IsRefusedWith (r : Request) (s : Status) (left left' : Option (List ℕ)) : Type 0 where
  pub input : Input
  pub read : ReadsWhole (form_of r) left left' input
  pub refused : refusal_of r input ≡ Some s

-- How a request ends of which the input isn't had: because memory ran out; as the source failed, or had
-- too much; or refused.
abbrev pub Stops :
    Request → Status → (left left' : Option (List ℕ)) → (faults faults' : ℕ) → Type 0
Stops r status.Done left left' faults faults' = ⊥
Stops r status.Memory left left' faults faults' = Unit {0}
Stops r status.Usage left left' faults faults' = ⊥
Stops r (status.Script line c) left left' faults faults' =
    RefusesLine (form_of r) left left' line c
Stops r status.Read left left' faults faults' = Rose faults faults'
Stops r status.Write left left' faults faults' = ⊥
Stops r status.TooLong left left' faults faults' = Unit {0}
Stops r s left left' faults faults' = IsRefusedWith r s left left'

-- so for each request of a form
abbrev pub StopsForm :
    Form → Status → (left left' : Option (List ℕ)) → (faults faults' : ℕ) → Type 0
StopsForm f s left left' faults faults' =
    (r : Request) → form_of r ≡ f → Stops r s left left' faults faults'

-- some bytes spell this input
pub record IsSpelled (f : Form) (input : Input) : Type 0 where
  pub bytes : List ℕ
  pub spelled : Spells f bytes input

-- the status is that of what refuses an input, or memory runs out
abbrev pub IsOfRefusal : Option Status → Status → Type 0
IsOfRefusal refusal status.Done = ⊥
IsOfRefusal refusal status.Memory = Unit {0}
IsOfRefusal refusal status.Usage = ⊥
IsOfRefusal refusal (status.Script line c) = ⊥
IsOfRefusal refusal status.Read = ⊥
IsOfRefusal refusal status.Write = ⊥
IsOfRefusal refusal status.TooLong = ⊥
IsOfRefusal refusal s = refusal ≡ Some s

-- how a request ends that an input refuses, or for which memory runs out
abbrev pub Refuses : Request → Input → Status → Type 0
Refuses r input = IsOfRefusal (refusal_of r input)

-- All was taken, and it spells an input that its tape doesn't refuse: this is its script, and these
-- are its words.
pub record HasScript (f : Form) (left left' : Option (List ℕ)) (script : Script) (book : Book)
    : Type 0 where
  pub input : Input
  pub read : ReadsWhole f left left' input
  pub whole : IsWholeTape input.first.shape input.tape
  pub of_input : script ≡ input.first
  pub shape : shape_of book ≡ script.shape
  pub words : words_in book ≡ book_of input

-- a book of a script's keys
pub record HasBookOfKeys (S : Script) (b : WordBook) : Type 0 where
  pub keys : Keys
  pub own : S.keys ≡ Some keys
  pub book : b ≡ keyed keys.handles keys.seeds

-- ---- the history

-- the history that an input has
abbrev pub HasHistory : Shape → Option (List RawLine) → History → Type 0
HasHistory shape None H = ⊥
HasHistory shape (Some raw) H = Tells shape raw H

-- a request is done for this history of the input; a script is lifted whatever the history
abbrev pub IsHistoryFor : Request → Input → History → Type 0
IsHistoryFor request.Serial input H = H ≡ serial_history input.first.shape
IsHistoryFor request.Relay input H = H ≡ serial_history input.first.shape
IsHistoryFor (request.Resume epoch) input H = H ≡ serial_history input.first.shape
IsHistoryFor (request.Run workers shards) input H = IsLegal input.first.shape H
IsHistoryFor (request.View server) input H = HasHistory input.first.shape input.history H
IsHistoryFor (request.Mirror hidden) input H = HasHistory input.first.shape input.history H
IsHistoryFor (request.Wrong hidden) input H = HasHistory input.first.shape input.history H
IsHistoryFor request.Lift input H = Unit {0}
IsHistoryFor _ input H = ⊥

-- All was taken, and it spells this input, which nothing refuses; and this is a history for which
-- the request is done.
pub record IsDoneWith (r : Request) (left left' : Option (List ℕ)) (input : Input) (H : History)
    : Type 0 where
  pub read : ReadsWhole (form_of r) left left' input
  pub accepted : refusal_of r input ≡ None
  pub history : IsHistoryFor r input H
