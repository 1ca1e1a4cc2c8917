-- The entries are counted one after the other.
use Rattle.std.proofs.Common.{◌≡◌, ◌∙◌, ◌<◌, ◌≤◌, List, ap, sym, subst, arith, map, take, length}
use Rattle.std.specs.Arc.{arc_value}
use Rattle.std.specs.Prelude.{slice_index_or}
use Rattle.std.proofs.lemmas.List.{take_all, length-map, get_or-map}
use Rattle.tk_frames.specs.declared.entry.Placed.{Placed}
use Rattle.tk_report.specs.Counts.{HasCounted}
use Rattle.tk_report.specs.Displaced.{displaced_in}
use Rattle.tk_report.proofs.OrderCounts.{front-none, front-next, front-more}
use Rattle.tk_report.proofs.displacement.displaced_in_order.Goals as goal

pub entries-init : goal.entries-init
entries-init c =
    let E = map (λ a. arc_value a) c.args.order.now in
    subst (λ (ps : List Placed). HasCounted c.args.shape.now ps c.in_ok-count.count) (front-none E)
    c.in_ok-count.ensures

-- the entry of the loop is the one at its place
pub take-requires : goal.take-requires
take-requires c =
    let shape = c.args.shape.now in
    let order = c.args.order.now in
    let E = map (λ a. arc_value a) order in
    let i = c.entries.placed-index in
    let p = c.deref.result.now in
    let low : i < length E = omega (arith, c.entries-test.true, length-map order (λ a. arc_value a)) in
    let at : p ≡ slice_index_or E i p =
    c.deref.ensures ∙ ap (λ a. arc_value a) c.placed-item.is
    ∙ sym (get_or-map (λ a. arc_value a) order i c.placed-item.result p c.entries-test.true)
    in
    record {
      shape = shape;
      E = take i E;
      counted = c.entries.invariant;
      next = front-next shape E c.requires i p low at;
    }

pub entries-preserved : goal.entries-preserved
entries-preserved c =
    let shape = c.args.shape.now in
    let order = c.args.order.now in
    let E = map (λ a. arc_value a) order in
    let i = c.entries.placed-index in
    let p = c.deref.result.now in
    let low : i < length E = omega (arith, c.entries-test.true, length-map order (λ a. arc_value a)) in
    let at : p ≡ slice_index_or E i p =
    c.deref.ensures ∙ ap (λ a. arc_value a) c.placed-item.is
    ∙ sym (get_or-map (λ a. arc_value a) order i c.placed-item.result p c.entries-test.true)
    in
    subst (λ (ps : List Placed). HasCounted shape ps c.take.new.self)
    (front-more shape E c.requires i p low at)
    (c.take.ensures shape (take i E) c.entries.invariant (front-next shape E c.requires i p low at))

pub returns : goal.returns
returns c =
    let shape = c.args.shape.now in
    let order = c.args.order.now in
    let E = map (λ a. arc_value a) order in
    let i = c.entries.placed-index in
    let all : length E ≤ i =
    omega (arith, c.entries-test.false, length-map order (λ a. arc_value a))
    in
    c.entries.invariant.displaced ∙ ap (displaced_in shape) (take_all i E all)
