use Rattle.std.proofs.Common.{◌<◌, length, sym, ap, ◌∙◌, arith}
use Rattle.tk_place.specs.Views.{Line, place_at}
use Rattle.tk_place.proofs.Lines.{length-places, read_of_line, below_of_line}
use Rattle.tk_place.proofs.queue.Queue.bucket.Goals as goal

pub index-requires : goal.index-requires
index-requires c =
    let line = c.self.invariant.line in
    omega (arith, length-places _ _ _ _ line, line.room, line.within, c.self.inside.places.ok.0, ap (λ (v : Line). length v.places) c.self.view_is)

pub returns-clause-bucket : goal.returns-clause-bucket
returns-clause-bucket c =
    let line = c.self.invariant.line in
    let within : c.args.place < c.self.inside.len = omega (arith, length-places _ _ _ _ line, ap (λ (v : Line). length v.places) c.self.view_is) in
    let read = read_of_line _ _ _ _ line c.args.place c.index.result.now within c.index.ensures in
    sym (ap (λ (v : Line). (place_at v.places c.args.place).bucket) (sym c.self.view_is) ∙ ap (λ p. p.bucket) read.place)

pub returns-clause-within : goal.returns-clause-within
returns-clause-within c =
    let line = c.self.invariant.line in
    let within : c.args.place < c.self.inside.len = omega (arith, length-places _ _ _ _ line, ap (λ (v : Line). length v.places) c.self.view_is) in
    omega (arith, below_of_line _ _ _ _ line c.args.place c.index.result.now within c.index.ensures, ap (λ (v : Line). v.buckets) c.self.view_is)

pub returns-clause-few : goal.returns-clause-few
returns-clause-few c =
    let line = c.self.invariant.line in
    rw (← c.self.view_is) (omega (arith, length-places _ _ _ _ line, line.within))

pub returns-clause-small : goal.returns-clause-small
returns-clause-small c = omega (arith, c.self.invariant.few, ap (λ (v : Line). v.buckets) c.self.view_is)
