-- What is said, written and read makes the run as it is before the next turn.
use Rattle.std.proofs.Common.{◌≡◌, ◌∙◌, ◌+◌, ◌++◌, ℕ, ap, arith, sym, subst, length, List}
use Rattle.std.proofs.lemmas.List.{with_items_is}
use Rattle.tk_words.specs.Words.{words_of}
use Rattle.tk_frames.specs.declared.entry.Placed.{Placed}
use Rattle.tk_report.specs.Clients.{AreClients}
use Rattle.tk_report.specs.Entries.{entries_at, write_at}
use Rattle.tk_report.specs.Serving.{reader_under}
use Rattle.tk_report.specs.Turns.{placed_before}
use Rattle.tk_report.proofs.Offers.{turn-done}
use Rattle.tk_run.specs.Servers.{AreReady, AreServers, with_more}
use Rattle.tk_run.specs.Turns.{entries_seen}
use Rattle.tk_run.specs.Under.{AreIdle, client_under, turn_under, wrote_under}
use Rattle.tk_run.proofs.PlacingLaws.{taken-none}
use Rattle.tk_run.proofs.UnderLaws.{group-idle, idle-group}
use Rattle.tk_run.proofs.ErrorLaws.{both_ok}
use Rattle.tk_run.proofs.turns.meet.Goals as goal

pub write-requires-clause-group : goal.write-requires-clause-group
write-requires-clause-group g c κs within = c.requires.running.group

pub write-requires-clause-taker : goal.write-requires-clause-taker
write-requires-clause-taker g c κs within =
    let S = c.args.plan.now.script.now in
    let words = words_of S.shape (g.D.Draws.book c.args.plan.now.draws.now) in
    taken-none S.shape (placed_before S words c.args.plan.now.history.now c.args.turn)
    c.args.run.now.servers c.requires.running.taken c.requires.running.servers

pub read_turn-requires-clause-clients : goal.read_turn-requires-clause-clients
read_turn-requires-clause-clients g c κs within =
    let S = c.args.plan.now.script.now in
    let some = c.requires.running.group in
    subst (AreIdle S (c.args.turn + 1)) (sym c.as_mut_slice-clients.ensures.value)
    (group-idle S (c.args.turn + 1) some.knows c.write.new.self.clients.items
    (c.in_ok-write.ensures.group some.knows some.is).clients)

pub read_turn-requires-clause-servers : goal.read_turn-requires-clause-servers
read_turn-requires-clause-servers g c κs within =
    let S = c.args.plan.now.script.now in
    let words = words_of S.shape (g.D.Draws.book c.args.plan.now.draws.now) in
    let H = c.args.plan.now.history.now in
    subst (λ (E : List Placed). AreReady S.shape E c.as_mut_slice-servers.result.now)
    (turn-done S words H c.args.turn)
    (subst (AreReady S.shape (placed_before S words H c.args.turn
    ++ entries_at (write_at S words) H c.args.turn))
    (sym c.as_mut_slice-servers.ensures.value) c.in_ok-write.ensures.taker.ready)

pub returns-clause-running : goal.returns-clause-running
returns-clause-running g c =
    let S = c.args.plan.now.script.now in
    let words = words_of S.shape (g.D.Draws.book c.args.plan.now.draws.now) in
    let H = c.args.plan.now.history.now in
    let turn = c.args.turn in
    let old = c.write.new.self.clients in
    let clients = c.read_turn.new.clients in
    let servers = c.read_turn.new.servers in
    let list = c.write.new.taker.list in
    let clients_counted : length clients ≡ old.len =
    omega (arith, c.read_turn.auto.clients, c.as_mut_slice-clients.ensures.len)
    in
    let servers_counted : length servers ≡ list.len =
    omega (arith, c.read_turn.auto.servers, c.as_mut_slice-servers.ensures.len)
    in
    let some = c.requires.running.group in
    both_ok c.read_turn.result
    (λ idle ready. record {
      group = idle-group S (turn + 1) _ (c.in_ok-write.ensures.group some.knows some.is).said
          (subst (AreIdle S (turn + 1)) (sym (with_items_is old clients clients_counted)) idle);
      servers = subst (AreReady S.shape (placed_before S words H (turn + 1)))
          (sym (with_items_is list servers servers_counted)) ready;
      taken = c.in_ok-write.ensures.taker.taken ∙ ap length (turn-done S words H turn);
    })
    c.read_turn.ensures.clients c.read_turn.ensures.servers

pub returns-clause-run : goal.returns-clause-run
returns-clause-run g c V Es tells is =
    let S = c.args.plan.now.script.now in
    let book = g.D.Draws.book c.args.plan.now.draws.now in
    let words = words_of S.shape book in
    let H = c.args.plan.now.history.now in
    let turn = c.args.turn in
    let more = entries_at (write_at S words) H turn in
    let old = c.write.new.self.clients in
    let clients = c.read_turn.new.clients in
    let servers = c.read_turn.new.servers in
    let list = c.write.new.taker.list in
    let clients_counted : length clients ≡ old.len =
    omega (arith, c.read_turn.auto.clients, c.as_mut_slice-clients.ensures.len)
    in
    let servers_counted : length servers ≡ list.len =
    omega (arith, c.read_turn.auto.servers, c.as_mut_slice-servers.ensures.len)
    in
    let knows = λ (k : ℕ). reader_under S book H V k turn in
    let wrote = subst (AreClients S.shape.clients (wrote_under S book H V turn))
    (sym c.as_mut_slice-clients.ensures.value)
    (c.in_ok-write.ensures.group knows
    (record { said = c.requires.running.group.is.said; clients = is.clients })).clients
    in
    let took = subst (AreServers S.shape (with_more Es more) (entries_seen S words H turn))
    (sym c.as_mut_slice-servers.ensures.value) (c.in_ok-write.ensures.taker.are Es is.servers)
    in
    both_ok c.read_turn.result
    (λ are stand. record {
      clients = subst (AreClients S.shape.clients (client_under S book H V (turn + 1)))
          (sym (with_items_is old clients clients_counted)) are;
      servers = subst (AreServers S.shape (with_more Es more) (turn_under S book H V turn))
          (sym (with_items_is list servers servers_counted)) stand;
    })
    (c.read_turn.ensures.clients_under V (with_more Es more) tells wrote took)
    (c.read_turn.ensures.servers_under V (with_more Es more) tells wrote took)
