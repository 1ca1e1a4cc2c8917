-- The clients know what they knew, and have heard the texts of the turn.
use Rattle.std.proofs.Common.{arith, sym, subst}
use Rattle.std.proofs.lemmas.List.{with_items_is}
use Rattle.tk_report.specs.Clients.{AreClients, client_knowing, client_told}
use Rattle.tk_report.proofs.group.Group.say.Goals as goal

pub returns-clause-clients : goal.returns-clause-clients
returns-clause-clients c = λ knows are.
    let S = c.args.script.now in
    let same = with_items_is c.args.self.now.clients c.say_turn.new.clients
    (omega (arith, c.say_turn.auto.clients, c.as_mut_slice.ensures.len))
    in
    subst (AreClients S.shape.clients (client_told S knows c.args.turn)) (sym same)
    (c.in_ok-self.ensures.clients knows
    (subst (AreClients S.shape.clients (client_knowing S knows c.args.turn))
    (sym c.as_mut_slice.ensures.value) are))
