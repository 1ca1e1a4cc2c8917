-- From the last mark back to the first that stands among the entries.
use Rattle.std.proofs.Common.{◌<◌, ◌≤◌, ap, arith}
use Rattle.tk_replica.proofs.MarksAmong.{marks_among-most}
use Rattle.tk_replica.proofs.LastMarks.{epoch-behind, epoch-among}
use Rattle.tk_replica.proofs.state.ReplicaState.marks_among.Goals as goal

pub loop-upto-init : goal.loop-upto-init
loop-upto-init c =
    let last = c.last-number.ensures.last in
    let some = c.last-number.ensures.some in
    let floor_is = ap (λ s. s.floor) c.self.view_is in
    let last_is = ap (λ s. s.last) c.self.view_is in
    record {
      held =
          record {
            low = omega (arith, last, some, floor_is, last_is);
            high = omega (arith, last, last_is);
          };
      most = λ shape E is.
          let count = is.last in
          omega (arith, marks_among-most c.args.upto E, count, last, last_is);
    }

pub returns-then-number-floor-clause-count : goal.returns-then-number-floor-clause-count
returns-then-number-floor-clause-count c = λ shape E is.
    let behind : c.args.upto < c.epoch.result.now.upto =
    omega (arith, c.upto.ensures, c.loop-upto-test.true) in
    let less =
    epoch-behind shape E c.loop-upto.number c.args.upto c.epoch.result.now is.order
    (c.epoch.ensures.stands shape E is) (c.loop-upto.invariant.most shape E is) behind
    in
    omega (arith, less, c.if-number-floor.true, c.floor.ensures)

pub loop-upto-preserved : goal.loop-upto-preserved
loop-upto-preserved c =
    let behind : c.args.upto < c.epoch.result.now.upto =
    omega (arith, c.upto.ensures, c.loop-upto-test.true) in
    let low = (c.loop-upto.invariant.held).low in
    let high = (c.loop-upto.invariant.held).high in
    record {
      held =
          record {
            low = omega (arith, low, c.if-number-floor.false, c.floor.ensures);
            high = omega (arith, high);
          };
      most = λ shape E is.
          let less =
          epoch-behind shape E c.loop-upto.number c.args.upto c.epoch.result.now is.order
          (c.epoch.ensures.stands shape E is) (c.loop-upto.invariant.most shape E is) behind
          in
          omega (arith, less);
    }

pub returns-clause-count : goal.returns-clause-count
returns-clause-count c = λ shape E is.
    let within : c.epoch.result.now.upto ≤ c.args.upto =
    omega (arith, c.upto.ensures, c.loop-upto-test.false) in
    let high = (c.loop-upto.invariant.held).high in
    let count = is.last in
    epoch-among shape E c.loop-upto.number c.args.upto c.epoch.result.now is.order
    (c.epoch.ensures.stands shape E is) (omega (arith, high, count))
    (c.loop-upto.invariant.most shape E is) within
