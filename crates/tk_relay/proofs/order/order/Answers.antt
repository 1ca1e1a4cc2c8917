-- The pass of the write's client orders it, or the publisher the mark.
use Rattle.std.proofs.Common.{subst}
use Rattle.std.specs.Prelude.{OnOk}
use Rattle.tk_cluster.specs.Passes.{Learns, ReadsOnly}
use Rattle.tk_relay.specs.Ordered.{EachChanged}
use Rattle.tk_relay.proofs.OrderedLaws.{may-write, write-ordered, mark-ordered}
use Rattle.tk_relay.proofs.order.order.Goals as goal

pub returns-in-Write : goal.returns-in-Write
returns-in-Write g c = λ E have next.
    let shape = g.B.Naming.shape in
    let w = c.in-Write.write in
    let e = c.args.placed.now in
    let xs = c.args.passes.now in
    let p = c.args.publisher.now in
    let wrote = c.order_write.ensures in
    write-ordered c.order_write.result shape E w e xs p c.order_write.new.pass
    c.index-passes-write.result have next c.in-Write.is
    (may-write shape e w xs p c.requires c.in-Write.is).1 wrote.client wrote.reads wrote.own

pub returns-in_ok-told-in-Mark : goal.returns-in_ok-told-in-Mark
returns-in_ok-told-in-Mark g c = λ E have next.
    let xs = c.args.passes.now in
    let ys = c.learn_all.new.passes in
    let told = c.in_ok-told-in-Mark.ensures in
    mark-ordered c.learn_all.result g.B.Naming.shape E c.in-Mark.field-0 c.args.placed.now xs ys
    c.args.publisher.now c.publish.new.publisher have next c.in-Mark.is told.published
    (subst (λ k. OnOk c.learn_all.result (EachChanged (ReadsOnly (λ a b. Learns a k b)) xs ys)) told.told
    c.learn_all.ensures)
