-- The clients so far have written, and their frames lie on desks.
use Rattle.tk_words.specs.Words.{words_of}
use Rattle.tk_report.specs.Entries.{write_at}
use Rattle.tk_run.proofs.DeskLaws.{DesksUpTo}
use Rattle.tk_run.proofs.desks.desks_for.Given as goal

abbrev pub invariant-writing : goal.invariant-writing
invariant-writing g l =
    let S = l.script in
    DesksUpTo S.shape (write_at S (words_of S.shape (g.D.Draws.book l.draws)) l.turn)
    l.client-index l.fn.clients l.clients l.desks.items
