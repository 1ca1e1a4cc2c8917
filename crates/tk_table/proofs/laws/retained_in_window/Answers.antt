use Rattle.tk_table.proofs.InWindow.{retained-in_window}
use Rattle.tk_table.proofs.laws.retained_in_window.Goals as goal

pub returns : goal.returns
returns c = retained-in_window
