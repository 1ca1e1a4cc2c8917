-- Servers that have taken the entries of a turn are asked what the clients ask in it.
use Rattle.std.proofs.Common.{◌∙◌, ap, arith, length, sym, subst}
use Rattle.tk_run.specs.Rows.{AreRows}
use Rattle.tk_run.specs.Under.{posed, replied_under}
use Rattle.tk_io.proofs.Offers.{always}
use Rattle.tk_run.proofs.PlacingLaws.{servers-order}
use Rattle.tk_run.proofs.turn_reads.read_turn.Goals as goal

pub answer_all-requires-clause-asked : goal.answer_all-requires-clause-asked
answer_all-requires-clause-asked g c κs within =
    ap length c.as_slice.ensures.value ∙ c.in_ok-asked.ensures.counted

pub take_replies-requires-clause-replies : goal.take_replies-requires-clause-replies
take_replies-requires-clause-replies g c κs within =
    ap length c.as_slice-2.ensures.value ∙ c.in_ok-replies.ensures.counted

pub returns-clause-servers : goal.returns-clause-servers
returns-clause-servers g c = always c.take_replies.result c.in_ok-replies.ensures.servers

pub returns-clause-clients_under : goal.returns-clause-clients_under
returns-clause-clients_under g c V Es tells clients servers =
    let S = c.args.plan.now.script.now in
    let book = g.D.Draws.book c.args.plan.now.draws.now in
    let H = c.args.plan.now.history.now in
    let low = S.shape.in_range.servers_low in
    let stands =
    (servers.each 0 c.index-servers-0.result (omega (arith, low, servers.counted))).state
    in
    let posed_all =
    subst (AreRows S.shape.servers (posed S book H V c.args.turn S.shape.clients))
    (sym c.as_slice.ensures.value) (c.in_ok-asked.ensures.posed V Es tells stands clients)
    in
    c.take_replies.ensures.clients_under V Es tells
    (servers-order S.shape Es _ c.args.servers.now servers)
    (subst (AreRows S.shape.clients (replied_under S book H V c.args.turn S.shape.servers))
    (sym c.as_slice-2.ensures.value) (c.in_ok-replies.ensures.replies V Es tells posed_all servers))
    (c.in_ok-asked.ensures.asked V Es tells stands clients)

pub returns-clause-servers_under : goal.returns-clause-servers_under
returns-clause-servers_under g c V Es tells clients servers =
    let S = c.args.plan.now.script.now in
    let book = g.D.Draws.book c.args.plan.now.draws.now in
    let H = c.args.plan.now.history.now in
    let low = S.shape.in_range.servers_low in
    let stands =
    (servers.each 0 c.index-servers-0.result (omega (arith, low, servers.counted))).state
    in
    always c.take_replies.result
    (c.in_ok-replies.ensures.servers_under V Es tells
    (subst (AreRows S.shape.servers (posed S book H V c.args.turn S.shape.clients))
    (sym c.as_slice.ensures.value) (c.in_ok-asked.ensures.posed V Es tells stands clients))
    servers)
