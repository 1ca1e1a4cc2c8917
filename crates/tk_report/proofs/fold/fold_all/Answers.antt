-- After the last turn the clients, with what those in their place know, are as at the end of the
-- history, and the ledger keeps all its entries.
use Rattle.std.proofs.Common.{◌≡◌, ℕ, subst, arith}
use Rattle.tk_shape.specs.Lengths.{turn_count}
use Rattle.tk_words.specs.Words.{words_of}
use Rattle.tk_report.specs.Clients.{AreClients, client_before, joined}
use Rattle.tk_report.specs.Ledgers.{Keeps}
use Rattle.tk_report.specs.Turns.{placed_before}
use Rattle.tk_report.proofs.ClientsLaws.{joined-are}
use Rattle.tk_report.proofs.fold.fold_all.Goals as goal

pub turns-init : goal.turns-init
turns-init g c =
    c.in_ok-fold.ensures (g.D.Draws.book c.args.plan.now.draws.now) c.args.plan.now.history.now

pub returns-clause-clients : goal.returns-clause-clients
returns-clause-clients g c =
    let S = c.args.plan.now.script.now in
    let words = words_of S.shape (g.D.Draws.book c.args.plan.now.draws.now) in
    let H = c.args.plan.now.history.now in
    let clients = c.turns.fold.group.clients.items in
    let followers = c.turns.fold.followers.items in
    let all : c.turns.turn ≡ turn_count S.shape = omega arith in
    subst (λ (n : ℕ). AreClients S.shape.clients (client_before S words H n)
    (joined clients followers)) all
    (joined-are S words H c.turns.turn clients followers c.turns.invariant.group.clients
    c.turns.invariant.followers)

pub returns-clause-ledger : goal.returns-clause-ledger
returns-clause-ledger g c =
    let S = c.args.plan.now.script.now in
    let words = words_of S.shape (g.D.Draws.book c.args.plan.now.draws.now) in
    let H = c.args.plan.now.history.now in
    let all : c.turns.turn ≡ turn_count S.shape = omega arith in
    subst (λ (n : ℕ). Keeps S.shape (placed_before S words H n) c.turns.fold.ledger) all
    c.turns.invariant.ledger
