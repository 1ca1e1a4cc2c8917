-- What holds of what is sent.
use Rattle.std.specs.Prelude.{◌≡◌, ℕ, ◌+◌, ◌<◌, ◌≤◌, IsTrue, List, length, Some}
use Rattle.tk_shape.specs.declared.shape.Shape.{Shape}
use Rattle.tk_shape.specs.Lengths.{turn_count}
use Rattle.tk_seal.specs.Texts.{is_allowed}
use Rattle.tk_script.specs.declared.script.Script.{Script}
use Rattle.tk_script.specs.Sent.{Sending, writer_of, sent, sent_as}

-- the text may be sealed: it is allowed, and has room in a block
pub record IsSealable (shape : Shape) (text : List ℕ) : Type 0 where
  pub allowed : IsTrue (is_allowed text)
  pub fits : length text + 18 ≤ shape.block

-- client c sends it in turn g: the client writes the log, and the number is one of a run
pub record IsSent (S : Script) (g c : ℕ) (y : Sending) : Type 0 where
  pub turn : y.turn ≡ g
  pub turn_in : y.turn < turn_count S.shape
  pub writer : writer_of S y.log ≡ c
  pub log_in : y.log < S.shape.logs
  pub number_in : y.number < turn_count S.shape
  pub sealable : IsSealable S.shape y.text

-- what is sent is a number of a log, below the count of turns, and may be sealed
abbrev pub SendsInRange : Type 0
SendsInRange = (S : Script) (g c : ℕ) (y : Sending) → sent S g c ≡ Some y → IsSent S g c y

-- no number of a log is sent twice: what is sent as the same number is sent by the same client in
-- the same turn
abbrev pub SendsOnce : Type 0
SendsOnce =
    (S : Script) (g c h d : ℕ) (y z : Sending) → sent S g c ≡ Some y → sent S h d ≡ Some z →
    y.log ≡ z.log → y.number ≡ z.number → (g ≡ h) × (c ≡ d) × (y ≡ z)

-- what is sent as a number of a log: that number, sent in its turn by the log's writer
pub record IsSentAs (S : Script) (log s : ℕ) (y : Sending) : Type 0 where
  pub of_log : y.log ≡ log
  pub of_number : y.number ≡ s
  pub sends : sent S y.turn (writer_of S log) ≡ Some y

-- what is sent in a turn is found by its log and number, and what is found so is sent
pub record FindsByNumber : Type 0 where
  pub by_turn : (S : Script) (g c : ℕ) (y : Sending) → sent S g c ≡ Some y →
      sent_as S y.log y.number ≡ Some y
  pub by_number : (S : Script) (log s : ℕ) (y : Sending) → sent_as S log s ≡ Some y →
      IsSentAs S log s y
