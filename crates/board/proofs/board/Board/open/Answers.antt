-- One more server is open.
use Rattle.std.proofs.Common.{[], sym, subst}
use Rattle.std.specs.Prelude.{All}
use Rattle.std.proofs.lemmas.List.Elements.{All-push}
use Rattle.tk_replica.specs.Replica.{StandsFor}
use Rattle.board.proofs.board.Board.open.Goals as goal
use Rattle.tk_lists.proofs.Offers.{length-next}

pub loop-preserved : goal.loop-preserved
loop-preserved c =
    let so_far = c.loop.invariant in
    let pushed = c.in_ok-push.ensures.items in
    let opened = StandsFor c.args.shape.now [] in
    record {
      counted =
          length-next c.loop.servers.items c.push.new.self.items c.in_ok-open.field-0
          c.loop.counter pushed so_far.counted;
      opened =
          subst (All opened) (sym pushed)
          (All-push opened c.loop.servers.items c.in_ok-open.field-0 so_far.opened
          c.in_ok-open.ensures.stands);
    }
