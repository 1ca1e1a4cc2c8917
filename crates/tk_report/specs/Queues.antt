-- What each client has to write: the texts that are said wait in a queue, and each turn takes the
-- first.
use Rattle.std.specs.Prelude.{◌≡◌, ℕ, zero, suc, ◌<◌, ◌==◌, nat_lt, cond, List, [], ◌∷◌, filter, length, count_by}
use Rattle.std.specs.Option.{option_map, ForSome}
use Rattle.std.specs.List.{range_with_len}
use Rattle.tk_shape.specs.declared.shape.Shape.{Shape}
use Rattle.tk_shape.specs.Lengths.{turn_count}
use Rattle.tk_schedule.specs.Schedule.{turn_at}
use Rattle.tk_script.specs.declared.script.Script.{Script}
use Rattle.tk_script.specs.declared.say.Say.{Say}
use Rattle.tk_script.specs.Sent.{Sending, writer_of, sent, unsent_count}
use Rattle.tk_client.specs.declared.waiting.Waiting.{Waiting}
use Rattle.tk_client.specs.Writing.{Writing, new_writing, with_text, first_waiting, after_write}

-- a text that is sent, as one that waited
abbrev pub waiting_of : Sending → Waiting
waiting_of y = record { log = y.log; number = y.number; text = y.text }

-- the logs that a client writes, ascending
abbrev pub writes_of : Script → ℕ → List ℕ
writes_of S c = filter (λ log. writer_of S log == c) (range_with_len 0 S.shape.logs)

-- the turn in which a text is said
abbrev pub turn_said : Shape → Say → ℕ
turn_said shape y = turn_at shape y.phase y.tick

-- the texts that are said in turn g, and how many are said before it
abbrev pub says_in : Script → ℕ → List Say
says_in S g = filter (λ y. turn_said S.shape y == g) S.says

abbrev pub said_before : Script → ℕ → ℕ
said_before S g = count_by (λ y. nat_lt (turn_said S.shape y) g) S.says

-- texts are said one after the other, and a client takes those of the logs that it writes
unfoldable pub with_says : Script → ℕ → List Say → Writing → Writing
with_says S c [] w = w
with_says S c (y ∷ ys) w =
    with_says S c ys (cond (writer_of S y.log == c) (with_text y.log y.text w) w)

-- what client c has to write before turn g: in each turn the texts of the turn are said, and then
-- the first that waits is written
unfoldable pub writing_before : Script → ℕ → ℕ → Writing
writing_before S c zero = new_writing (writes_of S c)
writing_before S c (suc g) = after_write (with_says S c (says_in S g) (writing_before S c g))

-- the same after the texts of turn g were said
abbrev pub writing_said : Script → ℕ → ℕ → Writing
writing_said S c g = with_says S c (says_in S g) (writing_before S c g)

-- the queues send what is defined to be sent
pub record QueuesSend : Type 0 where
  pub sends : (S : Script) (c g : ℕ) → g < turn_count S.shape →
      first_waiting (writing_said S c g) ≡ option_map waiting_of (sent S g c)
  pub in_range : (S : Script) (c g : ℕ) → g < turn_count S.shape →
      ForSome (first_waiting (writing_said S c g)) (λ y. y.number < turn_count S.shape)
  pub left_over : (S : Script) (c : ℕ) →
      length (writing_before S c (turn_count S.shape)).waiting ≡ unsent_count S c
