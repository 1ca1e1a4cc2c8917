-- The cells of writes, exchanged one way or the other.
use Rattle.std.specs.Prelude.{ℕ, List, Option}
use Rattle.tk_shape.specs.declared.shape.Shape.{Shape}
use Rattle.tk_shape.specs.Lengths.{turn_count}
use Rattle.tk_script.specs.declared.script.Script.{Script}
use Rattle.tk_script.specs.Sent.{Sending, sent, sent_as, writer_of}
use Rattle.tk_privacy.specs.declared.way.Way.{Way}
use Rattle.tk_privacy.specs.declared.way.Way.TheVariants.{Show, Regain}
use Rattle.tk_privacy.specs.Privacy.{cells, shown_write_cell, shown_keyed_cell, hidden_write_cell, hidden_keyed_cell}

-- a write cell, where this is sent in its turn
abbrev pub write_exchanged : Way → Shape → List ℕ → ℕ → ℕ → Option Sending → List ℕ
write_exchanged Show shape u g c o = shown_write_cell shape u g c o
write_exchanged Regain shape u g c o = hidden_write_cell shape u g c o

-- the cell of a number, where client c sends this as it
abbrev pub keyed_exchanged : Way → Shape → List ℕ → ℕ → ℕ → ℕ → Option Sending → List ℕ
keyed_exchanged Show shape u c log s o = shown_keyed_cell shape u c log s o
keyed_exchanged Regain shape u c log s o = hidden_keyed_cell shape u c log s o

-- the write cell of client c in turn g, those of the turn, and those of all turns
abbrev pub write_of_client : Way → Script → List ℕ → ℕ → ℕ → List ℕ
write_of_client way S u g c = write_exchanged way S.shape u g c (sent S g c)

abbrev pub writes_of_turn : Way → Script → List ℕ → ℕ → List ℕ
writes_of_turn way S u g = cells S.shape.clients (write_of_client way S u g)

abbrev pub writes_exchanged : Way → Script → List ℕ → List ℕ
writes_exchanged way S u = cells (turn_count S.shape) (writes_of_turn way S u)

-- the cell of a log's number s, those of the log, and those of all logs
abbrev pub number_of_log : Way → Script → List ℕ → ℕ → ℕ → List ℕ
number_of_log way S u log s =
    keyed_exchanged way S.shape u (writer_of S log) log s (sent_as S log s)

abbrev pub numbers_of_log : Way → Script → List ℕ → ℕ → List ℕ
numbers_of_log way S u log = cells (turn_count S.shape) (number_of_log way S u log)

abbrev pub keyeds_exchanged : Way → Script → List ℕ → List ℕ
keyeds_exchanged way S u = cells S.shape.logs (numbers_of_log way S u)
