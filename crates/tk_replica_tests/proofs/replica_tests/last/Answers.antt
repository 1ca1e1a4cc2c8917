-- The last seat has the last number.
use Rattle.std.proofs.Common.{◌∙◌, sym}
use Rattle.tk_order.proofs.Offers.{last_opened}
use Rattle.tk_replica_tests.proofs.replica_tests.last.Goals as goal

pub returns : goal.returns
returns g c =
    last_opened c.args.number c.pop.new.self.items c.pop.result
    (sym c.requires ∙ c.pop.ensures.items)
