-- What is written where no input is read.
use Rattle.std.specs.Prelude.{◌≡◌, ℕ, List, None}
use Rattle.tk_schedule.specs.Schedule.{serial_history}
use Rattle.tk_script.specs.declared.script.Script.{Script}
use Rattle.tk_script.specs.Book.{book_from}
use Rattle.tk_script.specs.Printing.{printed}
use Rattle.tk_words.specs.Words.{words_of}
use Rattle.tk_make.specs.Making.{IsMade}
use Rattle.tk_make.specs.Tallies.{tally_of}
use Rattle.tk_cli.specs.declared.request.Request.{Request}
use Rattle.tk_cli.specs.declared.request.Request.TheVariants as request
use Rattle.tk_cli.specs.Handles.{handle_text}

-- the script that is made from a number, in its one printed form
pub record IsScriptText (n : ℕ) (text : List ℕ) : Type 0 where
  pub script : Script
  pub made : IsMade n script
  pub is : text ≡ printed script

-- the counts of its serial run
abbrev pub serial_tally : Script → List ℕ
serial_tally S =
    tally_of S (words_of S.shape (book_from S.keys None)) (serial_history S.shape)

pub record IsTallyText (n : ℕ) (text : List ℕ) : Type 0 where
  pub script : Script
  pub made : IsMade n script
  pub is : text ≡ serial_tally script

-- the text that a request gives
abbrev pub IsTextOf : Request → List ℕ → Type 0
IsTextOf (request.Handle id root) text = text ≡ handle_text id root
IsTextOf (request.Make n) text = IsScriptText n text
IsTextOf (request.Tally n) text = IsTallyText n text
IsTextOf _ text = ⊥
