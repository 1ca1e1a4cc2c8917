-- One more server is made anew.
use Rattle.std.proofs.Common.{sym, subst}
use Rattle.std.specs.Prelude.{All}
use Rattle.std.proofs.lemmas.List.Elements.{All-push}
use Rattle.tk_replica.specs.Replica.{StandsFor}
use Rattle.board.proofs.board.all_restarted.Goals as goal
use Rattle.tk_lists.proofs.Offers.{length-next}

pub loop-server-preserved : goal.loop-server-preserved
loop-server-preserved c =
    let so_far = c.loop-server.invariant in
    let pushed = c.in_ok-push.ensures.items in
    let i = c.loop-server.server-index in
    let server = c.server-item.result in
    record {
      counted =
          length-next c.loop-server.made.items c.push.new.self.items c.in_ok-restarted.field-0 i
          pushed so_far.counted;
      stand = λ E stand ends.
          let stands = StandsFor c.args.shape.now E in
          let here =
          c.in_ok-restarted.ensures E
          (subst stands (sym c.server-item.is) (stand i server c.loop-server-test.true)) ends
          in
          subst (All stands) (sym pushed)
          (All-push stands c.loop-server.made.items c.in_ok-restarted.field-0
          (so_far.stand E stand ends) here);
    }
