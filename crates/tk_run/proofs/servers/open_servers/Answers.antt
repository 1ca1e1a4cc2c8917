-- One more server is open.
use Rattle.std.proofs.Common.{[], sym, subst}
use Rattle.std.specs.Prelude.{All}
use Rattle.std.proofs.lemmas.List.Elements.{All-push}
use Rattle.tk_run.specs.Servers.{IsServerAt, IsReadyServer}
use Rattle.tk_report.proofs.Offers.{length-next}
use Rattle.tk_run.proofs.ServerLaws.{ready-opened}
use Rattle.tk_run.proofs.servers.open_servers.Goals as goal

pub loop-preserved : goal.loop-preserved
loop-preserved c =
    let so_far = c.loop.invariant in
    let pushed = c.in_ok-push.ensures.items in
    let opened = IsServerAt c.args.shape.now [] [] in
    let ready = IsReadyServer c.args.shape.now [] in
    let server = c.in_ok-open.field-0 in
    record {
      counted =
          length-next c.loop.servers.items c.push.new.self.items server
          c.loop.counter pushed so_far.counted;
      opened =
          subst (All opened) (sym pushed)
          (All-push opened c.loop.servers.items server so_far.opened c.in_ok-open.ensures);
      ready =
          subst (All ready) (sym pushed)
          (All-push ready c.loop.servers.items server so_far.ready
          (ready-opened c.args.shape.now server c.in_ok-open.ensures));
    }
