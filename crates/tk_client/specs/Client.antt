-- What a client is seen as, and what holds of each.
use Rattle.std.specs.Prelude.{◌≡◌, ◌<◌, ℕ, Bool, List, length, Option, Some, None}
use Rattle.tk_shape.specs.declared.shape.Shape.{Shape}
use Rattle.tk_words.specs.Words.{BookWords}
pub use Rattle.tk_client.specs.declared.open_read.OpenRead.{OpenRead}
use Rattle.tk_client.specs.Reader.{Reader, Target, new_reader, at_epoch, target, after_read}
use Rattle.tk_client.specs.Writing.{Writing, new_writing}
use Rattle.tk_client.specs.Asked.{shown_by}
use Rattle.tk_client.specs.Searching.{AreBelow, IsTargetOrNone}
use Rattle.tk_client.specs.declared.take_error.TakeError.{TakeError}
use Rattle.tk_client.specs.Replies.{frames_in, answer_in, refusal}

-- a client by its number: what it has to write, what it knows as a reader, and the read that is
-- open, if one is
pub record ClientState : Type 0 where
  pub shape : Shape
  pub number : ℕ
  pub writing : Writing
  pub reader : Reader
  pub read : Option OpenRead

-- a client that has said nothing and knows nothing
abbrev pub new_client : Shape → ℕ → List ℕ → List ℕ → ClientState
new_client shape number writes follows =
    record {
      shape = shape;
      number = number;
      writing = new_writing writes;
      reader = new_reader follows;
      read = None;
    }

-- what a client's read over an epoch is for, where a filter with these marks shows what is worth
-- reading
abbrev pub target_over : BookWords → List Bool → ℕ → ClientState → Option Target
target_over w marks e s = target s.shape (shown_by marks w) (at_epoch e s.reader)

-- the client with a read open whose replies are awaited
abbrev pub opened : ℕ → ℕ → Option Target → ClientState → ClientState
opened g e t s = record s { read = Some (record { turn = g; epoch = e; target = t }) }

-- the reader after the replies to the read that is open
abbrev pub reader_after : Shape → BookWords → List (List ℕ) → Reader → Option OpenRead → Reader
reader_after shape w replies r None = r
reader_after shape w replies r (Some o) =
    let answer = answer_in shape w (frames_in shape replies) o.target in
    after_read shape (at_epoch o.epoch r) o.target answer

-- the client after them: the read is open no longer
abbrev pub after_replies : BookWords → List (List ℕ) → ClientState → ClientState
after_replies w replies s =
    record s { reader = reader_after s.shape w replies s.reader s.read; read = None }

-- why replies to the read that is open are refused, if they are
abbrev pub refusal_of : Shape → ℕ → List (List ℕ) → Option OpenRead → Option TakeError
refusal_of shape number replies None = None
refusal_of shape number replies (Some o) = refusal shape number o.turn o.epoch replies

abbrev pub refusal_in : List (List ℕ) → ClientState → Option TakeError
refusal_in replies s = refusal_of s.shape s.number replies s.read

-- ---- what a client keeps

-- a read that is open is for a number of one of so many logs, or a dummy
abbrev pub IsOpenOrNone : Shape → ℕ → Option OpenRead → Type 0
IsOpenOrNone shape count None = Unit {0}
IsOpenOrNone shape count (Some o) = IsTargetOrNone shape count o.target

-- the client is one of the shape's, and so are the logs that it follows
pub record IsClient (shape outbox_shape : Shape) (number : ℕ) (reader : Reader)
    (read : Option OpenRead) : Type 0 where
  pub one_shape : outbox_shape ≡ shape
  pub number_in : number < shape.clients
  pub follows_in : AreBelow shape.logs reader.follows
  pub read_in : IsOpenOrNone shape (length reader.follows) read
