-- The sums over the server's blocks make the replies.
use Rattle.std.proofs.Common.{◌≡◌, ◌∙◌, ◌*◌, ap, sym, subst, arith, List, ℕ, length, map}
use Rattle.std.specs.Prelude.{IfOk}
use Rattle.std.specs.List.{All}
use Rattle.tk_shape.specs.declared.shape.Shape.{Shape}
use Rattle.tk_shape.specs.Lengths.{width, vector_len}
use Rattle.tk_shape.proofs.Offers.{vector_bits}
use Rattle.tk_frames.specs.Order.{before}
use Rattle.tk_replica.specs.declared.asker.Asker.{Asker}
use Rattle.tk_replica.specs.Replies.{frames_with}
use Rattle.tk_cluster.specs.Many.{AreReads}
use Rattle.tk_cluster.proofs.Offers.{reads-long, two-sums}
use Rattle.tk_shards.specs.Shards.{Sharded}
use Rattle.tk_run.specs.Rows.{Frame}
use Rattle.tk_run.proofs.RangingLaws.{set-is, replies-made}
use Rattle.tk_run.proofs.ranged_batch.batch_in_ranges.Goals as goal

pub of-requires-clause-vectors : goal.of-requires-clause-vectors
of-requires-clause-vectors g c k d low =
    let s = c.args.set.now in
    let long : All (λ (v : List ℕ). length v ≡ vector_len s.shape) c.as_slice.result.now =
    subst (All (λ (v : List ℕ). length v ≡ vector_len s.shape)) (sym c.as_slice.ensures.value)
    (reads-long s.shape s.number c.args.frames.now c.in-Ok.reads.0.items c.in-Ok.reads.1.items
    c.in-Ok.ensures.reads)
    in
    let here = long k d low in
    let count = ap (λ (x : Sharded). length x.blocks) c.in_ok-now.ensures in
    omega (arith, here, vector_bits s.shape, c.blocks-2.ensures.count, count)

pub replies-requires : goal.replies-requires
replies-requires g c =
    let s = c.args.set.now in
    let sum = g.A.Sums.sum c.args.sums.now c.in_ok-now.now.set in
    record {
      two_for_each = two-sums s.shape s.number sum c.args.frames.now
          c.in-Ok.reads.0.items c.in-Ok.reads.1.items c.in_ok-sums.sums.items c.in-Ok.ensures.reads
          (c.in_ok-sums.ensures ∙ ap (map sum) c.as_slice.ensures.value)
          ∙ ap (λ (left : List Asker). 2 * length left) (sym c.as_slice-2.ensures.value);
    }

pub returns : goal.returns
returns g c shape E stands =
    let s = c.args.set.now in
    let blocks = c.blocks-2.result.now in
    let frames = c.args.frames.now in
    let askers = c.in-Ok.reads.0.items in
    let vectors = c.in-Ok.reads.1.items in
    let sums = c.in_ok-sums.sums.items in
    let sum = g.A.Sums.sum c.args.sums.now in
    let shards = c.args.crew.shards in
    let set = c.in_ok-now.now.set in
    let divided = set-is shape (before E s.number) shards blocks.width blocks.blocks set
    (c.blocks-2.ensures.width ∙ ap width stands.same) (c.blocks-2.ensures.stands shape E stands)
    (c.blocks-2.ensures.count ∙ ap (λ (sh : Shape). sh.buckets) stands.same) c.in_ok-now.ensures
    in
    subst (λ (fs : List Frame). IfOk c.replies.result (λ replies. replies.items ≡ fs))
    (ap (λ (left : List Asker). frames_with left sums) c.as_slice-2.ensures.value
    ∙ replies-made sum shards shape E s.number set divided frames askers vectors sums
    (subst (λ (sh : Shape). AreReads sh s.number frames askers vectors) stands.same
    c.in-Ok.ensures.reads)
    (c.in_ok-sums.ensures ∙ ap (map (sum set)) c.as_slice.ensures.value))
    c.replies.ensures
