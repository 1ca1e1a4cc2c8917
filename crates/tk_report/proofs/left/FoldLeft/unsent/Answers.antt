-- How many texts a client that writes has left.
use Rattle.std.proofs.Common.{arith}
use Rattle.tk_report.proofs.ClientsLaws.{joined-within, unsent-joined}
use Rattle.tk_report.proofs.left.FoldLeft.unsent.Goals as goal

pub index-requires : goal.index-requires
index-requires c =
    let fold = c.args.self.now in
    let within =
    (joined-within fold.group.clients.items fold.followers.items c.args.client c.requires).0 in
    omega (arith, within, fold.group.clients.ok.0)

pub returns : goal.returns
returns c =
    let fold = c.args.self.now in
    unsent-joined fold.group.clients.items fold.followers.items c.args.client c.index.result.now
    c.unsent.result c.requires c.index.ensures c.unsent.ensures
