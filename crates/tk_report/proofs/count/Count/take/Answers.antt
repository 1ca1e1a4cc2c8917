-- A write is counted where the table displaces it, and a mark is passed over.
use Rattle.std.proofs.Common.{◌+◌, arith}
use Rattle.tk_report.proofs.CountedLaws.{count-room, counted-write, counted-mark, placed-adds, displaced-adds}
use Rattle.tk_report.proofs.count.Count.take.Goals as goal

pub overflow_add-self : goal.overflow_add-self
overflow_add-self c =
    omega (arith, count-room c.args.placed.now c.args.self.now c.requires)

pub returns-in_default : goal.returns-in_default
returns-in_default c shape E counted next =
    counted-mark shape E c.args.self.now c.args.placed.now c.in_default.field-0 counted next
    c.in_default.is

pub returns-in-Placed : goal.returns-in-Placed
returns-in-Placed c shape E counted next =
    counted-write shape E c.args.self.now c.put.new.self c.args.self.now.displaced c.put.result
    c.args.placed.now c.in-Write.write c.as_slice.result.now c.as_slice.ensures counted next c.in-Write.is c.put.ensures.shape
    c.put.ensures.latest c.put.ensures.stands c.put.ensures.displaced
    (λ d means. placed-adds c.put.result d c.args.self.now.displaced means c.in-Placed.is)

pub returns-in-Displaced : goal.returns-in-Displaced
returns-in-Displaced c shape E counted next =
    counted-write shape E c.args.self.now c.put.new.self (c.args.self.now.displaced + 1)
    c.put.result c.args.placed.now c.in-Write.write c.as_slice.result.now c.as_slice.ensures counted next c.in-Write.is c.put.ensures.shape
    c.put.ensures.latest c.put.ensures.stands c.put.ensures.displaced
    (λ d means. displaced-adds c.put.result d c.args.self.now.displaced means c.in-Displaced.is)
