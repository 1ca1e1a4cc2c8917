-- What the taps gain of a turn: all that the servers saw in it, or fronts.
use Rattle.std.proofs.Common.{◌≡◌, ◌+◌, ap, arith, length, sym, subst}
use Rattle.std.proofs.lemmas.List.{with_items_is}
use Rattle.tk_words.specs.Words.{words_of}
use Rattle.tk_report.specs.Entries.{entries_at, write_at}
use Rattle.tk_report.specs.Turns.{placed_before}
use Rattle.tk_run.specs.Servers.{AreReady, AreServers, nothing_seen, with_more}
use Rattle.tk_run.specs.Under.{turn_under}
use Rattle.tk_io.proofs.Offers.{fronts-none, on_err}
use Rattle.tk_run.proofs.turns.take_turn.Goals as goal

pub give_all-requires : goal.give_all-requires
give_all-requires g c =
    let S = c.args.plan.now.script.now in
    let high = S.shape.in_range.servers_high in
    let lent = ap length c.as_mut_slice.ensures.value in
    omega (arith, high, lent, c.in_ok-meet.ensures.running.servers.counted)

pub returns-clause-running : goal.returns-clause-running
returns-clause-running g c =
    let S = c.args.plan.now.script.now in
    let words = words_of S.shape (g.D.Draws.book c.args.plan.now.draws.now) in
    let E = placed_before S words c.args.plan.now.history.now (c.args.turn + 1) in
    let met = c.in_ok-meet.ensures.running in
    let servers = c.meet.new.run.servers.list in
    let given = c.give_all.new.servers in
    let counted : length given ≡ servers.len =
    omega (arith, c.give_all.auto.servers, c.as_mut_slice.ensures.len)
    in
    record {
      group = met.group;
      servers = subst (AreReady S.shape E) (sym (with_items_is servers given counted))
          (c.in_ok-give_all.ensures.ready S.shape E
          (subst (AreReady S.shape E) (sym c.as_mut_slice.ensures.value) met.servers));
      taken = met.taken;
    }

pub returns-clause-run : goal.returns-clause-run
returns-clause-run g c V Es tells is =
    let S = c.args.plan.now.script.now in
    let book = g.D.Draws.book c.args.plan.now.draws.now in
    let H = c.args.plan.now.history.now in
    let all = with_more Es (entries_at (write_at S (words_of S.shape book)) H c.args.turn) in
    let seen = turn_under S book H V c.args.turn in
    let met = c.in_ok-meet.ensures.run V Es tells is in
    let servers = c.meet.new.run.servers.list in
    let given = c.give_all.new.servers in
    let counted : length given ≡ servers.len =
    omega (arith, c.give_all.auto.servers, c.as_mut_slice.ensures.len)
    in
    record {
      clients = met.clients;
      servers = subst (AreServers S.shape all nothing_seen) (sym (with_items_is servers given counted))
          (c.in_ok-give_all.ensures.servers S.shape all seen
          (subst (AreServers S.shape all seen) (sym c.as_mut_slice.ensures.value) met.servers));
    }

pub returns-clause-ok : goal.returns-clause-ok
returns-clause-ok g c V Es tells is =
    let S = c.args.plan.now.script.now in
    let book = g.D.Draws.book c.args.plan.now.draws.now in
    let H = c.args.plan.now.history.now in
    let all = with_more Es (entries_at (write_at S (words_of S.shape book)) H c.args.turn) in
    let seen = turn_under S book H V c.args.turn in
    c.in_ok-give_all.ensures.ok S.shape all seen
    (subst (AreServers S.shape all seen) (sym c.as_mut_slice.ensures.value)
    (c.in_ok-meet.ensures.run V Es tells is).servers)

pub returns-in_err-meet-clause-err : goal.returns-in_err-meet-clause-err
returns-in_err-meet-clause-err g c V Es tells is =
    let S = c.args.plan.now.script.now in
    let book = g.D.Draws.book c.args.plan.now.draws.now in
    on_err _ c.from_residual.result
    (fronts-none S.shape.servers (turn_under S book c.args.plan.now.history.now V c.args.turn)
    (g.T.Taps.tap c.args.taps.now))

pub returns-in_err-give_all-clause-err : goal.returns-in_err-give_all-clause-err
returns-in_err-give_all-clause-err g c V Es tells is =
    let S = c.args.plan.now.script.now in
    let book = g.D.Draws.book c.args.plan.now.draws.now in
    let H = c.args.plan.now.history.now in
    let all = with_more Es (entries_at (write_at S (words_of S.shape book)) H c.args.turn) in
    let seen = turn_under S book H V c.args.turn in
    on_err _ c.from_residual-in_err-give_all.result
    (c.in_err-give_all.ensures.err S.shape all seen
    (subst (AreServers S.shape all seen) (sym c.as_mut_slice.ensures.value)
    (c.in_ok-meet.ensures.run V Es tells is).servers))
