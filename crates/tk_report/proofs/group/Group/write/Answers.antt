-- The clients have heard the texts of the turn, and then each writes.
use Rattle.std.proofs.Common.{◌≡◌, ◌+◌, arith, sym, subst, length}
use Rattle.std.proofs.lemmas.List.{with_items_is}
use Rattle.tk_report.specs.Clients.{AreClients, client_knowing, client_told}
use Rattle.tk_report.proofs.group.Group.write.Goals as goal

pub write_turn-requires-clause-clients : goal.write_turn-requires-clause-clients
write_turn-requires-clause-clients g c κs within =
    let S = c.args.plan.now.script.now in
    let some = c.requires.group in
    record {
      knows = some.knows;
      are = subst (AreClients S.shape.clients (client_told S some.knows c.args.turn))
          (sym c.as_mut_slice-clients.ensures.value)
          (c.in_ok-say.ensures.clients some.knows some.is.clients);
    }

pub returns-clause-group : goal.returns-clause-group
returns-clause-group g c = λ knows is.
    let S = c.args.plan.now.script.now in
    let old = c.say.new.self.clients in
    let new = c.write_turn.new.clients in
    let counted : length new ≡ old.len =
    omega (arith, c.write_turn.auto.clients, c.as_mut_slice-clients.ensures.len)
    in
    record {
      said = c.in_ok-say.ensures.said;
      clients = subst (AreClients S.shape.clients (client_knowing S knows (c.args.turn + 1)))
          (sym (with_items_is old new counted))
          (c.in_ok-write_turn.ensures.clients knows
          (subst (AreClients S.shape.clients (client_told S knows c.args.turn))
          (sym c.as_mut_slice-clients.ensures.value) (c.in_ok-say.ensures.clients knows is.clients)));
    }
