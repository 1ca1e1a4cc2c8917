use Rattle.std.proofs.Common.{arith}
use Rattle.tk_place.proofs.Stamps.{met}
use Rattle.tk_place.proofs.queue.take_place.Goals as goal

pub overflow_add-result : goal.overflow_add-result
overflow_add-result c =
    let a = c.args in
    let m = met a.places.now a.len a.stamps.now a.stamp _ c.requires.stamped a.place c.requires.bucket c.requires.link _ c.from.ensures in
    omega (arith, m.stamped.line.within, m.stamped.few)

pub returns-clause-stamped : goal.returns-clause-stamped
returns-clause-stamped c =
    let a = c.args in
    (met a.places.now a.len a.stamps.now a.stamp _ c.requires.stamped a.place c.requires.bucket c.requires.link _ c.from.ensures).stamped

pub returns-clause-places : goal.returns-clause-places
returns-clause-places c =
    let a = c.args in
    (met a.places.now a.len a.stamps.now a.stamp _ c.requires.stamped a.place c.requires.bucket c.requires.link _ c.from.ensures).places
