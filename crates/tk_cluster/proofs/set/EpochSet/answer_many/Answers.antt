-- The replies over the server's epoch are those over the writes before its mark.
use Rattle.std.proofs.Common.{◌≡◌, ◌∙◌, ◌*◌, ap, sym, subst, List, ℕ, length}
use Rattle.std.specs.List.{All}
use Rattle.tk_shape.specs.declared.shape.Shape.{Shape}
use Rattle.tk_shape.specs.Lengths.{vector_len}
use Rattle.tk_replica.specs.declared.asker.Asker.{Asker}
use Rattle.tk_replica.specs.Replies.{sum_over, frames_with}
use Rattle.tk_cluster.specs.Many.{AreReads}
use Rattle.tk_cluster.proofs.Replying.{epoch-wide}
use Rattle.tk_cluster.proofs.Together.{reads-long, reads-asked, two-sums, replies-due}
use Rattle.tk_cluster.proofs.set.EpochSet.answer_many.Goals as goal

pub sums-requires-clause-vectors : goal.sums-requires-clause-vectors
sums-requires-clause-vectors g c κs within =
    let s = c.args.self.now in
    let vectors = c.in_ok-askers.vectors.items in
    subst (λ (shape : Shape). All (λ (v : List ℕ). length v ≡ vector_len shape) vectors)
    (sym c.epoch.ensures.same)
    (reads-long s.shape s.number c.args.frames.now c.in_ok-askers.askers.items vectors
    c.in_ok-askers.ensures.reads)

pub replies-requires : goal.replies-requires
replies-requires g c =
    record {
      two_for_each = two-sums c.args.self.now.shape c.args.self.now.number (sum_over c.epoch.result.now)
          c.args.frames.now c.in_ok-askers.askers.items c.in_ok-askers.vectors.items c.in_ok-sums.sums.items
          c.in_ok-askers.ensures.reads c.in_ok-sums.ensures
          ∙ ap (λ (left : List Asker). 2 * length left) (sym c.as_slice.ensures.value);
    }

pub returns-clause-asked : goal.returns-clause-asked
returns-clause-asked g c =
    reads-asked c.args.self.now c.args.frames.now c.in_ok-askers.askers.items
    c.in_ok-askers.vectors.items c.in_ok-askers.ensures.reads

pub returns-clause-replies : goal.returns-clause-replies
returns-clause-replies g c = λ shape E stands.
    let s = c.args.self.now in
    let epoch = c.epoch.result.now in
    let is = c.epoch.ensures.is shape E stands in
    let frames = c.args.frames.now in
    let askers = c.in_ok-askers.askers.items in
    let vectors = c.in_ok-askers.vectors.items in
    let sums = c.in_ok-sums.sums.items in
    c.in_ok-replies.ensures
    ∙ ap (λ (xs : List Asker). frames_with xs sums) c.as_slice.ensures.value
    ∙ replies-due shape E s.number epoch.blocks.width epoch.blocks.blocks
    (epoch-wide shape E s.number epoch is) is.stands.blocks frames askers vectors sums
    (subst (λ (sh : Shape). AreReads sh s.number frames askers vectors) stands.same
    c.in_ok-askers.ensures.reads)
    c.in_ok-sums.ensures
