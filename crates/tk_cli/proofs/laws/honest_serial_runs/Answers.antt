-- An input's words fit its shape.
use Rattle.std.specs.Prelude.{None}
use Rattle.tk_schedule.specs.Schedule.{serial_history}
use Rattle.tk_script.specs.declared.form.Form.TheVariants.{Run}
use Rattle.tk_script.specs.Book.{book_of}
use Rattle.tk_script.proofs.Offers.{spelled-IsBook}
use Rattle.tk_cli.proofs.InputLaws.{accepted-whole}
use Rattle.tk_cli.proofs.laws.honest_serial_runs.Goals as goal

pub returns : goal.returns
returns c bytes input client log s spelled accepted absent =
    let S = input.first in
    c.honest_passing_over.ensures S (book_of input) (serial_history S.shape) client log s
    (spelled-IsBook Run bytes input spelled (accepted-whole Run bytes input None spelled accepted))
    absent
