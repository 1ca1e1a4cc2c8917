-- The clients of a row are replied, from the set of the first of them.
use Rattle.std.proofs.Common.{◌≡◌, ◌<◌, ◌≤◌, List, All, length, ap, sym, ◌∙◌, subst, arith, take, drop, rules}
use Rattle.std.proofs.lemmas.List.Elements.{All-drop}
use Rattle.std.specs.Prelude.{slice_index_or}
use Rattle.tk_shape.specs.declared.shape.Shape.{Shape}
use Rattle.tk_cluster.specs.declared.set.EpochSet.{EpochSet}
use Rattle.tk_cluster.specs.Refusals.{IsAsked}
use Rattle.tk_cluster.specs.Sets.{StandsAtMark}
use Rattle.tk_run.specs.declared.talk.Reading.{Reading}
use Rattle.tk_run.specs.Answering.{MayReply, set_of, epoch_of}
use Rattle.tk_run.specs.Ranging.{bytes_made}
use Rattle.tk_run.proofs.BatchLaws.{reply-rest, row-asked, rows-next, rows-end}
use Rattle.tk_run.proofs.replies.replies_from.Goals as goal

pub split_at-requires : goal.split_at-requires
split_at-requires g c =
    let may = c.rows.invariant.asked c.requires.asked.0 c.requires.asked.1 in
    omega (arith, c.in_a_row.ensures.within, may.counted)

pub batch-requires-clause-server : goal.batch-requires-clause-server
batch-requires-clause-server g c κs within =
    let shape = c.requires.asked.0 in
    let may = c.rows.invariant.asked shape c.requires.asked.1 in
    let d = c.index-clients-0.result in
    let first = slice_index_or c.rows.clients.now 0 d in
    let same : c.as_ref-set.result.now ≡ set_of first = c.as_ref-set.ensures in
    let some : 0 < length c.rows.clients.now =
    omega (arith, c.in_a_row.ensures.some, c.in_a_row.ensures.within)
    in
    let shape_is : c.as_ref-set.result.now.shape ≡ shape =
    ap (λ (s : EpochSet). s.shape) same ∙ may.same 0 d some
    in
    let wide : c.as_ref-set.result.now.shape.servers ≡ shape.servers =
    ap (λ (x : Shape). x.servers) shape_is
    in
    (may.low, omega (arith, may.high, wide))

pub batch-requires-clause-asked : goal.batch-requires-clause-asked
batch-requires-clause-asked g c κs within =
    let shape = c.requires.asked.0 in
    let may = c.rows.invariant.asked shape c.requires.asked.1 in
    let d = c.index-clients-0.result in
    let first = slice_index_or c.rows.clients.now 0 d in
    let same : c.as_ref-set.result.now ≡ set_of first = c.as_ref-set.ensures in
    let n = c.in_a_row.result in
    let low : n ≤ length c.rows.asked.now =
    omega (arith, c.in_a_row.ensures.within, may.counted)
    in
    let asked : All (IsAsked (set_of first)) (take n c.rows.asked.now) =
    row-asked n d may low c.in_a_row.ensures.some c.in_a_row.ensures.same
    in
    subst (λ (s : EpochSet). All (IsAsked s) c.split_at.result.0.now) (sym same)
    (subst (All (IsAsked (set_of first))) (sym c.split_at.ensures.front) asked)

pub rows-smaller : goal.rows-smaller
rows-smaller g c =
    omega (
      arith,
      c.in_a_row.ensures.some,
      c.in_a_row.ensures.within,
      c.split_at.ensures.front_len,
      c.split_at-in-rows.ensures.back_len,
    )

pub rows-preserved : goal.rows-preserved
rows-preserved g c =
    let so_far = c.rows.invariant in
    let clients = c.rows.clients.now in
    let frames = c.rows.asked.now in
    let n = c.in_a_row.result in
    let others : c.split_at-in-rows.result.1.now ≡ drop n clients =
    c.split_at-in-rows.ensures.back ∙ ap (λ m. drop m clients) c.split_at.ensures.front_len
    in
    let behind : c.split_at.result.1.now ≡ drop n frames = c.split_at.ensures.back in
    record {
      asked = λ shape all.
          let may = so_far.asked shape all in
          subst (λ (rs : List Reading). MayReply shape c.args.server rs c.split_at.result.1.now)
          (sym others)
          (subst (MayReply shape c.args.server (drop n clients)) (sym behind)
          (reply-rest n (omega (arith, c.in_a_row.ensures.within, may.counted)) may));
      stand = λ shape E all.
          subst (All (λ (r : Reading). StandsAtMark shape E (epoch_of r) (set_of r))) (sym others)
          (All-drop (λ (r : Reading). StandsAtMark shape E (epoch_of r) (set_of r)) n clients
          (so_far.stand shape E all));
      replied = λ shape E all.
          let d = c.index-clients-0.result in
          let first = slice_index_or clients 0 d in
          let same : c.as_ref-set.result.now ≡ set_of first = c.as_ref-set.ensures in
          let some : 0 < length clients =
          omega (arith, c.in_a_row.ensures.some, c.in_a_row.ensures.within)
          in
          let stands : StandsAtMark shape E c.as_ref-set.result.now.number c.as_ref-set.result.now =
          subst (λ (s : EpochSet). StandsAtMark shape E s.number s) (sym same)
          (so_far.stand shape E all 0 d some)
          in
          rows-next (bytes_made (g.A.Sums.sum c.args.sums.now) c.args.crew.shards shape E) c.args.frames.now frames c.rows.replies.items
          c.split_at.result.0.now c.split_at.result.1.now c.in_ok-more.more.items
          c.append.new.self.items n c.split_at.ensures.front behind
          (c.in_ok-more.ensures shape E stands) c.in_ok-append.ensures.items
          (so_far.replied shape E all);
    }

pub returns : goal.returns
returns g c shape E stands =
    let so_far = c.rows.invariant in
    let may = so_far.asked c.requires.asked.0 c.requires.asked.1 in
    let none : length c.rows.clients.now ≡ 0 = search rules in
    rows-end (bytes_made (g.A.Sums.sum c.args.sums.now) c.args.crew.shards shape E) c.args.frames.now c.rows.asked.now c.rows.replies.items
    (omega (arith, none, may.counted)) (so_far.replied shape E stands)
