-- It is found in the client's list.
use Rattle.std.proofs.Common.{◌∙◌, arith}
use Rattle.tk_report.proofs.Offers.{sent_each, finds}
use Rattle.tk_privacy.proofs.exchange.Exchange.sent_in.Goals as goal

pub bounds-self-client : goal.bounds-self-client
bounds-self-client c =
    let e = c.args.self.now in
    omega (arith, sent_each e.script.now e.sent.now e.all_sent, c.requires)

pub returns : goal.returns
returns c =
    let e = c.args.self.now in
    c.in_turn.ensures
    ∙ finds e.script.now e.sent.now c.args.turn c.args.client c.index-self-client.result e.all_sent
    c.requires
