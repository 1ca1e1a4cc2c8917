-- What a serial run doesn't give was rightly passed over.
use Rattle.std.specs.Prelude.{◌≡◌, ℕ, List, slice_get, Some, None}
use Rattle.tk_schedule.specs.Schedule.{serial_history}
use Rattle.tk_script.specs.declared.input.Input.{Input}
use Rattle.tk_script.specs.declared.form.Form.TheVariants.{Run}
use Rattle.tk_script.specs.Book.{book_of}
use Rattle.tk_script.specs.Grammar.{Spells}
use Rattle.tk_words.specs.Words.{words_of}
use Rattle.tk_client.specs.declared.got.Got.TheVariants.{Absent}
use Rattle.tk_report.specs.PassingOver.{IsRightlyPassed}
use Rattle.tk_report.specs.Report.{got_of}
use Rattle.tk_cli.specs.declared.request.Request.TheVariants.{Serial}
use Rattle.tk_cli.specs.Inputs.{refusal_of}

-- in the serial run of whatever input bytes spell that isn't refused, each number that a log didn't
-- give to a client was rightly passed over
abbrev pub SerialRunsPassOverHonestly : Type 0
SerialRunsPassOverHonestly =
    (bytes : List ℕ) (input : Input) (c log s : ℕ) → Spells Run bytes input →
    refusal_of Serial input ≡ None →
    let S = input.first in
    let w = words_of S.shape (book_of input) in
    let H = serial_history S.shape in
    let got = got_of S w H c log in
    slice_get got s ≡ Some Absent → IsRightlyPassed S w H c log got s
