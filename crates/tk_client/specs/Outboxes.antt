-- What an outbox is seen as, and what holds of each.
use Rattle.std.specs.Prelude.{ℕ, ◌+◌, ◌^◌, ◌<◌, ◌≤◌, IsTrue, All, List, length, map}
use Rattle.std.specs.List.Sorted.{IsStrictlyIncreasing}
use Rattle.tk_shape.specs.declared.shape.Shape.{Shape}
use Rattle.tk_seal.specs.Texts.{is_allowed}
use Rattle.tk_client.specs.declared.written.Written.{Written}
use Rattle.tk_client.specs.declared.waiting.Waiting.{Waiting}
use Rattle.tk_client.specs.Writing.{Writing}
use Rattle.tk_client.specs.Saying.{is_written}

-- what a client of a shape has to write
pub record OutboxState : Type 0 where
  pub shape : Shape
  pub writing : Writing

-- a text of one of these logs that can be sent: it is allowed and has room in a block
pub record CanWait (shape : Shape) (logs : List Written) (y : Waiting) : Type 0 where
  pub log : IsTrue (is_written y.log logs)
  pub fits : length y.text + 18 ≤ shape.block
  pub allowed : IsTrue (is_allowed y.text)

abbrev pub logs_of : List Written → List ℕ
logs_of logs = map (λ f. f.log) logs

-- the logs ascend and are logs of the shape, each text that waits can be sent, and a word counts
-- those that wait
pub record IsOutbox (shape : Shape) (logs : List Written) (waiting : List Waiting) : Type 0 where
  pub ascending : IsStrictlyIncreasing (logs_of logs)
  pub logs_in : All (λ log. log < shape.logs) (logs_of logs)
  pub texts : All (CanWait shape logs) waiting
  pub countable : length waiting < 2 ^ 32
