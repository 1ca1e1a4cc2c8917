-- Nothing was taken, and nothing is kept.
use Rattle.std.proofs.Common.{refl, rules}
use Rattle.tk_serve.proofs.OpenLaws.{stands-open}
use Rattle.tk_serve.proofs.server.Server.open.Goals as goal

pub returns : goal.returns
returns c = stands-open c.args.shape.now _ refl refl (search rules) (search rules) (search rules)
