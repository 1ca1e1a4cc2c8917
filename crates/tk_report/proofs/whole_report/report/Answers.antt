-- The clients at the end of a history are those of an outcome, whose text is the report.
use Rattle.std.proofs.Common.{◌≡◌, ◌++◌, List, ℕ, subst}
use Rattle.std.specs.Prelude.{OnOk}
use Rattle.tk_words.specs.Words.{words_of}
use Rattle.tk_report.specs.Clients.{joined}
use Rattle.tk_report.proofs.LeavingLaws.{ends-leave, ends-text}
use Rattle.tk_report.proofs.whole_report.report.Goals as goal

pub invariant_of-told : goal.invariant_of-told
invariant_of-told g c =
    let S = c.args.script.now in
    let H = c.args.history.now in
    let words = words_of S.shape (g.D.Draws.book c.args.draws.now) in
    let fold = c.in_ok-fold.fold in
    record {
      sound = ends-leave S words H (joined fold.group.clients.items fold.followers.items)
          c.in_ok-fold.ensures.clients c.requires.legal;
    }

pub returns-clause-ok : goal.returns-clause-ok
returns-clause-ok g c =
    let S = c.args.script.now in
    let H = c.args.history.now in
    let words = words_of S.shape (g.D.Draws.book c.args.draws.now) in
    let fold = c.in_ok-fold.fold in
    subst (λ (text : List ℕ). OnOk c.print_told.result
    (c.print_told.new.out.items ≡ c.args.out.now.items ++ text))
    (ends-text S words H (joined fold.group.clients.items fold.followers.items) c.in_ok-fold.ensures.clients)
    c.print_told.ensures.ok
