-- The status that an error below ends with.
use Rattle.tk_io.specs.declared.reading.ReadError.{ReadError}
use Rattle.tk_io.specs.declared.reading.ReadError.TheVariants as read_error
use Rattle.tk_schedule.specs.declared.error.HistoryError.{HistoryError}
use Rattle.tk_schedule.specs.declared.error.HistoryError.TheVariants as history_error
use Rattle.tk_script.specs.declared.book.BookError.{BookError}
use Rattle.tk_script.specs.declared.book.BookError.TheVariants as book_error
use Rattle.tk_script.specs.declared.error.ScriptError.{ScriptError}
use Rattle.tk_script.specs.declared.error.ScriptError.TheVariants as script_error
use Rattle.tk_words.specs.declared.lifting.LiftError.{LiftError}
use Rattle.tk_words.specs.declared.lifting.LiftError.TheVariants as lift_error
use Rattle.tk_run.specs.declared.run_error.RunError.{RunError}
use Rattle.tk_run.specs.declared.run_error.RunError.TheVariants as run_error
use Rattle.tk_cli.specs.declared.status.Status.{Status}
use Rattle.tk_cli.specs.declared.status.Status.TheVariants as status

abbrev pub read_status : ReadError → Status
read_status read_error.Memory = status.Memory
read_status read_error.Fault = status.Read
read_status read_error.TooLong = status.TooLong

abbrev pub script_status : ScriptError → Status
script_status (script_error.Line line c) = status.Script line c
script_status script_error.Memory = status.Memory

abbrev pub book_status : BookError → Status
book_status (book_error.Tape want got) = status.Tape want got
book_status book_error.Memory = status.Memory

abbrev pub lift_status : LiftError → Status
lift_status (lift_error.Wide want) = status.Wide want
lift_status lift_error.Memory = status.Memory

abbrev pub history_status : HistoryError → Status
history_status (history_error.Line at) = status.History at
history_status history_error.Memory = status.Memory

abbrev pub run_status : RunError → Status
run_status run_error.Taps = status.Write
run_status run_error.Memory = status.Memory
