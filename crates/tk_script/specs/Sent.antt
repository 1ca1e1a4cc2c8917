-- What each client sends in each turn: it depends on the script alone.
use Rattle.std.specs.Prelude.{ℕ, ◌+◌, ◌==◌, ◌&&◌, nat_le, nat_lt, Bool, max, List, [], ◌∷◌, filter}
use Rattle.std.specs.Prelude.{find, count_by, slice_index_or, Option}
use Rattle.tk_shape.specs.declared.shape.Shape.{Shape}
use Rattle.tk_script.specs.declared.script.Script.{Script}
use Rattle.tk_script.specs.declared.role.Role.{Role}
use Rattle.tk_script.specs.declared.say.Say.{Say}
use Rattle.tk_shape.specs.Lengths.{turn_count}
use Rattle.tk_schedule.specs.Schedule.{turn_at}

-- a text with its log and number, and the turn that is its own, which may lie past the end of the
-- run
pub record Sending : Type 0 where
  pub turn : ℕ
  pub log : ℕ
  pub number : ℕ
  pub text : List ℕ

abbrev pub blank_role : Role
blank_role = record { writer = 0; followers = [] }

-- who writes a log
abbrev pub writer_of : Script → ℕ → ℕ
writer_of S log = (slice_index_or S.roles log blank_role).writer

-- The texts of one client in order, after the earlier ones, where free is the first turn without a
-- text. Each is sent in the turn in which it is said, or in the first free one, whichever is later;
-- its number is how many of its log came before it.
unfoldable pub sendings_from : Shape → ℕ → List Say → List Say → List Sending
sendings_from shape free earlier [] = []
sendings_from shape free earlier (y ∷ ys) =
    let turn = max (turn_at shape y.phase y.tick) free in
    record {
      turn = turn;
      log = y.log;
      number = count_by (λ z. z.log == y.log) earlier;
      text = y.text;
    }
    ∷ sendings_from shape (turn + 1) (y ∷ earlier) ys

-- the texts of a client's logs, each with its turn and number
abbrev pub sendings : Script → ℕ → List Sending
sendings S c = sendings_from S.shape 0 [] (filter (λ y. writer_of S y.log == c) S.says)

-- the turn is one of the run
abbrev pub in_run : Shape → Sending → Bool
in_run shape y = nat_lt y.turn (turn_count shape)

-- what a client sends in a turn, if it sends a text: after the last turn nothing is sent
unfoldable pub sent : Script → ℕ → ℕ → Option Sending
sent S g c = find (λ y. y.turn == g) (filter (in_run S.shape) (sendings S c))

-- how many texts are left over
abbrev pub unsent_count : Script → ℕ → ℕ
unsent_count S c = count_by (λ y. nat_le (turn_count S.shape) y.turn) (sendings S c)

-- whether it is this number of this log
abbrev pub is_numbered : ℕ → ℕ → Sending → Bool
is_numbered log s y = y.log == log && y.number == s

-- what is sent as a number of a log, in whichever turn, if it is sent
unfoldable pub sent_as : Script → ℕ → ℕ → Option Sending
sent_as S log s =
    find (is_numbered log s) (filter (in_run S.shape) (sendings S (writer_of S log)))
