-- What a log gave to one who looks it gave to the client.
use Rattle.std.proofs.Common.{arith}
use Rattle.tk_report.proofs.ClientsLaws.{joined-within, got-joined}
use Rattle.tk_report.proofs.left.FoldLeft.got.Goals as goal

pub index-requires : goal.index-requires
index-requires c =
    let fold = c.args.self.now in
    let within =
    (joined-within fold.group.clients.items fold.followers.items c.args.client c.requires).1 in
    omega (arith, within, fold.followers.ok.0)

pub returns : goal.returns
returns c =
    let fold = c.args.self.now in
    got-joined fold.group.clients.items fold.followers.items c.args.log c.args.client c.index.result.now
    c.log.result.now c.requires c.index.ensures c.log.ensures
