-- One pass more is taken apart.
use Rattle.std.proofs.Common.{◌++◌, ◌∷◌, [], ℕ, List, ap, sym, ◌∙◌}
use Rattle.std.specs.Prelude.{replicate, slice_set}
use Rattle.std.proofs.lemmas.List.{map-append}
use Rattle.tk_order.specs.Seats.{Seated}
use Rattle.tk_board.specs.Boards.{Known}
use Rattle.tk_cluster.specs.declared.set.EpochSet.{EpochSet}
use Rattle.tk_cluster.specs.Passes.{reader_of, seat_of}
use Rattle.tk_cluster.proofs.Closing.{by_client_more}
use Rattle.tk_cluster.proofs.close.taken_apart.Goals as goal

pub loop-pass-preserved : goal.loop-pass-preserved
loop-pass-preserved g c =
    let pass = c.in-Some.pass in
    let done = c.loop-pass.yielded in
    let so_far = c.loop-pass.invariant in
    let more = c.in_ok-take.ensures in
    record {
      counted = more.counted;
      seats =
          more.seats
          ∙ (ap (λ (ys : List Seated). ys ++ seat_of pass ∷ []) so_far.seats
          ∙ sym (map-append seat_of done (pass ∷ [])));
      readers =
          more.readers
          ∙ (ap (λ (ys : List (Known EpochSet)). ys ++ reader_of pass ∷ []) so_far.readers
          ∙ sym (map-append reader_of done (pass ∷ [])));
      epochs =
          more.epochs
          ∙ (ap (λ (es : List (List ℕ)). slice_set es pass.client pass.reads.pinned) so_far.epochs
          ∙ sym (by_client_more (replicate c.args.clients []) done pass));
    }
