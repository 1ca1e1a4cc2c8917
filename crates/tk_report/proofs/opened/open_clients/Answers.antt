-- One more client is open, and at the end all are.
use Rattle.std.proofs.Common.{◌≡◌, ◌∙◌, ap, sym, subst, length, arith}
use Rattle.tk_lists.proofs.Offers.{length-next}
use Rattle.tk_report.proofs.ClientsLaws.{AreSoFar, opened, none-yet, one-next, open-all}
use Rattle.tk_report.proofs.opened.open_clients.Goals as goal

pub loop-number-init : goal.loop-number-init
loop-number-init c =
    let state = opened c.args.script.now in
    let none = c.new-clients.ensures.items in
    record {
      counted = ap length none;
      each = subst (AreSoFar state) (sym none) (none-yet state);
    }

pub loop-number-preserved : goal.loop-number-preserved
loop-number-preserved c =
    let so_far = c.loop-number.invariant in
    let clients = c.loop-number.clients.items in
    let more = c.push.new.self.items in
    let pushed = c.in_ok-push.ensures.items in
    record {
      counted =
          length-next clients more c.in_ok-open_client.field-0 c.loop-number.number pushed
          so_far.counted;
      each =
          one-next (opened c.args.script.now) clients more c.in_ok-open_client.field-0
          c.loop-number.number pushed so_far.counted c.in_ok-open_client.ensures so_far.each;
    }

pub returns : goal.returns
returns c =
    let so_far = c.loop-number.invariant in
    let all : c.loop-number.number ≡ c.args.script.now.shape.clients = omega arith in
    open-all c.args.script.now c.loop-number.clients.items (so_far.counted ∙ all) so_far.each
