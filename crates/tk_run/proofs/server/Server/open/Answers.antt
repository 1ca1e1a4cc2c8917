-- A server before any entry has seen nothing, and no write was displaced.
use Rattle.std.proofs.Common.{arith}
use Rattle.tk_report.proofs.Offers.{none-displaced}
use Rattle.tk_run.proofs.server.Server.open.Goals as goal

pub returns : goal.returns
returns c =
    record {
      state = c.in_ok-open.ensures.stands;
      floor = omega arith;
      seen = c.new.ensures.items;
      displaced = none-displaced c.args.shape.now;
    }
