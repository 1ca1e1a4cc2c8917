-- The input of a text has the tape that its words want.
use Rattle.tk_script.specs.declared.form.Form.TheVariants.{Run}
use Rattle.tk_script.proofs.Offers.{spelled-HasTape}
use Rattle.tk_script_tests.proofs.print_tests.no_book.Goals as goal

pub book-requires : goal.book-requires
book-requires c = spelled-HasTape Run _ _ c.in_ok-first.ensures.found
