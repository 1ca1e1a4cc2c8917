use Rattle.std.proofs.Common.{◌<◌, length, ap, arith}
use Rattle.tk_place.specs.Views.{Line}
use Rattle.tk_place.proofs.Lines.{length-places, read_of_line}
use Rattle.tk_place.proofs.queue.Queue.link.Goals as goal

pub index-requires : goal.index-requires
index-requires c =
    let line = c.self.invariant.line in
    omega (arith, length-places _ _ _ _ line, line.room, line.within, c.self.inside.places.ok.0, ap (λ (v : Line). length v.places) c.self.view_is)

pub returns-clause-through : goal.returns-clause-through
returns-clause-through c =
    let line = c.self.invariant.line in
    let within : c.args.place < c.self.inside.len = omega (arith, length-places _ _ _ _ line, ap (λ (v : Line). length v.places) c.self.view_is) in
    let read = read_of_line _ _ _ _ line c.args.place c.index.result.now within c.index.ensures in
    rw (← c.self.view_is) (ap (λ p. p.through) read.place)

pub returns-clause-earlier : goal.returns-clause-earlier
returns-clause-earlier c =
    let line = c.self.invariant.line in
    let within : c.args.place < c.self.inside.len = omega (arith, length-places _ _ _ _ line, ap (λ (v : Line). length v.places) c.self.view_is) in
    (read_of_line _ _ _ _ line c.args.place c.index.result.now within c.index.ensures).earlier
