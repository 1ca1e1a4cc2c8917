-- The next seat, and any reader.
use Rattle.std.proofs.Common.{◌≡◌, ◌+◌, ◌-◌, ◌∷◌, [], length, ap, sym, ◌∙◌, arith}
use Rattle.std.specs.Prelude.{slice_index_or}
use Rattle.std.specs.Arc.{arc_value}
use Rattle.std.specs.List.{remove}
use Rattle.tk_board.specs.Boards.{Known}
use Rattle.tk_cluster.specs.declared.set.EpochSet.{EpochSet}
use Rattle.tk_cluster.specs.Passes.{fresh, seat_for, seats_for}
use Rattle.tk_cluster.proofs.Opening.{seats_next, all_front, all_last, passes_more}
use Rattle.tk_cluster.proofs.open.passes_of.Goals as goal

pub remove-seat-requires : goal.remove-seat-requires
remove-seat-requires g c =
    let n = c.args.clients in
    let k = c.loop-client.client in
    let s : c.loop-client.seats.items ≡ seat_for k ∷ seats_for (k + 1) (n - (k + 1)) =
    c.loop-client.invariant.seats
    ∙ seats_next k (n - k) (n - (k + 1)) (omega (arith, c.loop-client-test.true)) in
    omega (arith, ap length s, c.loop-client.seats.ok.0)

pub new-requires-clause-seat : goal.new-requires-clause-seat
new-requires-clause-seat g c =
    let n = c.args.clients in
    let k = c.loop-client.client in
    let s : c.loop-client.seats.items ≡ seat_for k ∷ seats_for (k + 1) (n - (k + 1)) =
    c.loop-client.invariant.seats
    ∙ seats_next k (n - k) (n - (k + 1)) (omega (arith, c.loop-client-test.true)) in
    c.remove-seat.ensures.value ∙ ap (λ xs. slice_index_or xs 0 c.remove-seat.result) s

pub new-requires-clause-reader : goal.new-requires-clause-reader
new-requires-clause-reader g c =
    all_last (λ (r : Known EpochSet). r.list ≡ arc_value c.args.first.now ∷ [])
    c.loop-client.readers.items c.pop.new.self.items c.in-Some.reader c.in-Some.ensures.items
    c.loop-client.invariant.lists
    ∙ ap (λ x. x ∷ []) (sym c.in_ok-held.ensures)

pub loop-client-preserved : goal.loop-client-preserved
loop-client-preserved g c =
    let n = c.args.clients in
    let k = c.loop-client.client in
    let first = arc_value c.args.first.now in
    let s : c.loop-client.seats.items ≡ seat_for k ∷ seats_for (k + 1) (n - (k + 1)) =
    c.loop-client.invariant.seats
    ∙ seats_next k (n - k) (n - (k + 1)) (omega (arith, c.loop-client-test.true)) in
    let items = c.loop-client.readers.items in
    let left = c.pop.new.self.items in
    let last = c.in-Some.ensures.items in
    record {
      seats = c.remove-seat.ensures.items ∙ ap (λ xs. remove xs 0) s;
      lists =
          all_front (λ (r : Known EpochSet). r.list ≡ first ∷ []) items left c.in-Some.reader last
          c.loop-client.invariant.lists;
      passes =
          λ board h.
          let i = c.loop-client.invariant.passes board h in
          let here : c.in-Some.reader.board ≡ board =
          all_last (λ (r : Known EpochSet). r.board ≡ board) items left c.in-Some.reader last i.0
          in (
            all_front (λ (r : Known EpochSet). r.board ≡ board) items left c.in-Some.reader last i.0,
            passes_more board first k c.loop-client.passes.items c.push.new.self.items c.new.result
                i.1 c.in_ok-push.ensures.items
                (c.new.ensures ∙ (λ j. fresh (here j) (c.in_ok-held.ensures j) k)),
          );
    }
