-- What a client has to write: the texts that wait, in the order in which they were said.
use Rattle.std.specs.Prelude.{ℕ, ◌+◌, ◌==◌, cond, List, [], ◌∷◌, ◌++◌, map, drop, Option, slice_get}
use Rattle.tk_client.specs.declared.written.Written.{Written}
use Rattle.tk_client.specs.declared.waiting.Waiting.{Waiting}

-- the logs that are written, each with how many texts it was given, and the texts that wait
pub record Writing : Type 0 where
  pub logs : List Written
  pub waiting : List Waiting

abbrev pub unwritten : ℕ → Written
unwritten log = record { log = log; count = 0 }

-- nothing was said yet
abbrev pub new_writing : List ℕ → Writing
new_writing logs = record { logs = map unwritten logs; waiting = [] }

-- how many texts a log was given
abbrev pub count_of : ℕ → List Written → ℕ
count_of log [] = 0
count_of log (f ∷ logs) = cond (f.log == log) f.count (count_of log logs)

-- the same logs after one more text of a log
abbrev pub one_more_of : ℕ → Written → Written
one_more_of log f = cond (f.log == log) (record f { count = f.count + 1 }) f

-- A text is said: it waits after the others, and its number is how many texts its log was given
-- before it.
abbrev pub with_text : ℕ → List ℕ → Writing → Writing
with_text log text w =
    record {
      logs = map (one_more_of log) w.logs;
      waiting = w.waiting ++ record { log = log; number = count_of log w.logs; text = text } ∷ [];
    }

-- the text that is written next, if one waits
abbrev pub first_waiting : Writing → Option Waiting
first_waiting w = slice_get w.waiting 0

-- the next turn's write was made: its text waits no longer
abbrev pub after_write : Writing → Writing
after_write w = record w { waiting = drop 1 w.waiting }
