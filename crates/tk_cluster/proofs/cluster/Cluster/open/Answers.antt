-- The first seat is the publisher's, and the others are the clients', by number.
use Rattle.std.proofs.Common.{◌≡◌, ◌∷◌, [], Some, length, map, ap, sym, ◌∙◌, subst, arith}
use Rattle.std.specs.Prelude.{slice_index_or}
use Rattle.std.specs.Arc.{arc_value}
use Rattle.std.specs.List.{range_with_len, remove}
use Rattle.tk_shape.specs.declared.shape.Shape.{Shape}
use Rattle.tk_order.specs.Seats.{Seated, seated}
use Rattle.tk_board.specs.Boards.{Known}
use Rattle.tk_cluster.specs.declared.set.EpochSet.{EpochSet}
use Rattle.tk_cluster.specs.Sets.{StandsAtMark}
use Rattle.tk_cluster.specs.Passes.{fresh, seats_for}
use Rattle.tk_cluster.proofs.Opening.{opened_is, same_boards, same_lists}
use Rattle.tk_cluster.proofs.cluster.Cluster.open.Goals as goal

pub remove-seat-requires : goal.remove-seat-requires
remove-seat-requires g c =
    let shape = g.B.Naming.shape in
    let s : c.in_ok-order.seats.items ≡ seated [] (Some 0) ∷ seats_for 0 shape.clients =
    c.in_ok-order.ensures ∙ opened_is c.args.blank.seats shape.clients c.requires.seats in
    omega (arith, ap length s, c.in_ok-order.seats.ok.0)

pub passes_of-requires-clause-seats : goal.passes_of-requires-clause-seats
passes_of-requires-clause-seats g c =
    let shape = g.B.Naming.shape in
    let s : c.in_ok-order.seats.items ≡ seated [] (Some 0) ∷ seats_for 0 shape.clients =
    c.in_ok-order.ensures ∙ opened_is c.args.blank.seats shape.clients c.requires.seats in
    let n : c.shape-shape.result.clients ≡ shape.clients =
    ap (λ (x : Shape). x.clients) (c.shape-shape.ensures ∙ c.requires.shape) in
    c.remove-seat.ensures.items ∙ (ap (λ xs. remove xs 0) s ∙ ap (seats_for 0) (sym n))

pub passes_of-requires-clause-readers : goal.passes_of-requires-clause-readers
passes_of-requires-clause-readers g c =
    let o = c.in_ok-board.ensures in
    same_lists c.in_ok-board.readers.items c.in_ok-board.board
    (arc_value c.in_ok-first.first ∷ []) o.list o.readers

pub new-publisher-requires-clause-seat : goal.new-publisher-requires-clause-seat
new-publisher-requires-clause-seat g c =
    let shape = g.B.Naming.shape in
    let s : c.in_ok-order.seats.items ≡ seated [] (Some 0) ∷ seats_for 0 shape.clients =
    c.in_ok-order.ensures ∙ opened_is c.args.blank.seats shape.clients c.requires.seats in
    c.in_ok-first.ensures.same
    ∙ (c.in_ok-replicas.ensures.same
    ∙ (c.remove-seat.ensures.value ∙ ap (λ xs. slice_index_or xs 0 c.remove-seat.result) s))

pub new-publisher-requires-clause-first : goal.new-publisher-requires-clause-first
new-publisher-requires-clause-first g c =
    let shape = g.B.Naming.shape in
    let s : c.in_ok-order.seats.items ≡ seated [] (Some 0) ∷ seats_for 0 shape.clients =
    c.in_ok-order.ensures ∙ opened_is c.args.blank.seats shape.clients c.requires.seats in
    let seat : c.replicas_of.new.seat ≡ seated [] (Some 0) =
    c.in_ok-replicas.ensures.same
    ∙ (c.remove-seat.ensures.value ∙ ap (λ xs. slice_index_or xs 0 c.remove-seat.result) s) in
    let first = arc_value c.in_ok-first.first in (
      first,
      c.in_ok-board.ensures.list,
      subst (λ (x : Seated). StandsAtMark shape x.seen 0 first) seat c.in_ok-first.ensures.stands,
    )

pub returns : goal.returns
returns g c =
    let shape = g.B.Naming.shape in
    let s : c.in_ok-order.seats.items ≡ seated [] (Some 0) ∷ seats_for 0 shape.clients =
    c.in_ok-order.ensures ∙ opened_is c.args.blank.seats shape.clients c.requires.seats in
    let seat : c.replicas_of.new.seat ≡ seated [] (Some 0) =
    c.in_ok-replicas.ensures.same
    ∙ (c.remove-seat.ensures.value ∙ ap (λ xs. slice_index_or xs 0 c.remove-seat.result) s) in
    let n : c.shape-shape.result.clients ≡ shape.clients =
    ap (λ (x : Shape). x.clients) (c.shape-shape.ensures ∙ c.requires.shape) in
    let first = arc_value c.in_ok-first.first in
    let o = c.in_ok-board.ensures in
    let p = c.new-publisher.ensures in
    record {
      seen = p.0;
      first = first;
      shown = ap (λ (k : Known EpochSet). k.list) p.1 ∙ o.list;
      stands =
          subst (λ (x : Seated). StandsAtMark shape x.seen 0 first) seat c.in_ok-first.ensures.stands;
      all =
          c.in-Ok.ensures c.in_ok-board.board.board
          (same_boards c.in_ok-board.readers.items c.in_ok-board.board o.readers)
          ∙ (λ i. map (fresh (sym (ap (λ (k : Known EpochSet). k.board) p.1) i) first)
          (range_with_len 0 (n i)));
    }
