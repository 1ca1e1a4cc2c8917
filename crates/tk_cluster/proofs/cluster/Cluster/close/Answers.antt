-- The order begins with what each seat had seen, and the list with what each reader knew.
use Rattle.std.proofs.Common.{◌≡◌, ◌∷◌, ◌++◌, [], All, Some, map, List, length, subst, ap, sym, ◌∙◌}
use Rattle.std.specs.Prelude.{replicate}
use Rattle.tk_shape.specs.declared.shape.Shape.{Shape}
use Rattle.tk_board.specs.Boards.{Known, AllBegin}
use Rattle.tk_order.specs.Seats.{seated, IsWhole}
use Rattle.tk_cluster.specs.declared.set.EpochSet.{EpochSet}
use Rattle.tk_cluster.specs.Passes.{reader_of, seat_of}
use Rattle.tk_cluster.specs.Closings.{by_client}
use Rattle.tk_cluster.proofs.Standing.{shows-more}
use Rattle.tk_cluster.proofs.Closing.{all_end, seat_behind, readers_of_board}
use Rattle.tk_cluster.proofs.cluster.Cluster.close.Goals as goal

pub close-requires-after_bounds : goal.close-requires-after_bounds
close-requires-after_bounds g c κs within =
    let board = ap (λ (k : Known EpochSet). k.board) c.into_parts-seat.ensures.board in
    let xs = c.args.passes.items in
    subst
    (λ (rs : List (Known EpochSet)). All (λ r. r.board ≡ c.into_parts-seat.result.1.board) rs)
    (sym c.in-Ok.ensures.readers)
    (subst (λ b. All (λ (r : Known EpochSet). r.board ≡ b) (map reader_of xs)) (sym board)
    (readers_of_board c.args.publisher.board (λ r. r.board) xs c.requires.of_board))

pub returns : goal.returns
returns g c =
    let i = c.in-Ok.ensures in
    let p = c.args.publisher in
    let xs = c.args.passes.items in
    let order = c.close-order.result in
    let j = c.close-order.ensures in
    let seat = seated p.seen (Some 0) in
    let whole : IsWhole (map seat_of xs ++ seat ∷ []) order =
    subst (λ ss. IsWhole ss order)
    (i.seats ∙ ap (λ z. map seat_of xs ++ z ∷ []) c.into_parts-seat.ensures.seat) j.whole in
    let begins : AllBegin (map reader_of xs) p.shown =
    subst (λ rs. AllBegin rs p.shown) i.readers
    (subst (λ ys. AllBegin c.in-Ok.parts.readers.items ys)
    (ap (λ k. k.list) c.into_parts-seat.ensures.board) c.in-Ok-close.ensures) in
    let mine = whole (length xs) seat (seat_behind xs seat) in
    record {
      legal = j.legal;
      shows = shows-more g.B.Naming.shape p.seen order p.shown mine.0 j.legal.order c.into_parts-seat.ensures.shows;
      each = all_end p.shown order xs seat whole begins;
      begins = mine.0;
      marks = mine.1;
      epochs =
          i.epochs
          ∙ ap (λ (shape : Shape). by_client (replicate shape.clients []) xs) c.args.self.same;
    }
