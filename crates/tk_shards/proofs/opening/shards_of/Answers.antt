use Rattle.std.proofs.Common.{◌≡◌, ◌+◌, ◌<◌, ◌≤◌, ◌∷◌, [], ◌++◌, ℕ, List, length, ap, sym, subst, ◌∙◌, arith}
use Rattle.std.specs.Prelude.{slice_index_or}
use Rattle.tk_kernel.specs.Pieces.{AllSized}
use Rattle.tk_shards.specs.Ranged.{Ranged, range_in}
use Rattle.tk_shards.specs.Shards.{AreDivided}
use Rattle.tk_shards.proofs.Dividing.{IsDividing, dividing-none, cut-next, dividing-more, divided}
use Rattle.tk_shards.proofs.opening.shards_of.Goals as goal

pub loop-cut-init : goal.loop-cut-init
loop-cut-init g c =
    let B = g.B.Blocks in
    rw c.in_ok-shards.ensures.items
    (dividing-none (B.width c.args.blocks.now) (B.blocks c.args.blocks.now) c.args.division.now
    c.cuts-cuts.ensures.kept)

pub of-requires-clause-order : goal.of-requires-clause-order
of-requires-clause-order g c κs within =
    let B = g.B.Blocks in
    let at = c.loop-cut in
    let d = c.args.division.now in
    let low : at.cut-index < length d.cuts =
    omega (arith, ap length c.cuts-cuts.ensures.cuts, c.loop-cut-test.true) in
    let cut = slice_index_or c.cuts-cuts.result.now at.cut-index 0 in
    let is : cut ≡ slice_index_or d.cuts at.cut-index 0 =
    ap (λ (xs : List ℕ). slice_index_or xs at.cut-index 0) c.cuts-cuts.ensures.cuts in
    (cut-next (B.width c.args.blocks.now) (B.blocks c.args.blocks.now) d at.cut-index at.first at.shards.items
    cut at.invariant low is).order

pub of-requires-clause-within : goal.of-requires-clause-within
of-requires-clause-within g c κs within =
    let B = g.B.Blocks in
    let at = c.loop-cut in
    let d = c.args.division.now in
    let low : at.cut-index < length d.cuts =
    omega (arith, ap length c.cuts-cuts.ensures.cuts, c.loop-cut-test.true) in
    let cut = slice_index_or c.cuts-cuts.result.now at.cut-index 0 in
    let is : cut ≡ slice_index_or d.cuts at.cut-index 0 =
    ap (λ (xs : List ℕ). slice_index_or xs at.cut-index 0) c.cuts-cuts.ensures.cuts in
    let next =
    cut-next (B.width c.args.blocks.now) (B.blocks c.args.blocks.now) d at.cut-index at.first at.shards.items
    cut at.invariant low is in
    omega (arith, next.within, c.requires.count)

pub loop-cut-preserved : goal.loop-cut-preserved
loop-cut-preserved g c =
    let B = g.B.Blocks in
    let at = c.loop-cut in
    let d = c.args.division.now in
    let width = B.width c.args.blocks.now in
    let blocks = B.blocks c.args.blocks.now in
    let low : at.cut-index < length d.cuts =
    omega (arith, ap length c.cuts-cuts.ensures.cuts, c.loop-cut-test.true) in
    let cut = slice_index_or c.cuts-cuts.result.now at.cut-index 0 in
    let is : cut ≡ slice_index_or d.cuts at.cut-index 0 =
    ap (λ (xs : List ℕ). slice_index_or xs at.cut-index 0) c.cuts-cuts.ensures.cuts in
    let shard : c.in_ok-of.field-0 ≡ range_in width at.first cut blocks = c.in_ok-of.ensures.blocks in
    let each : AllSized width (range_in width at.first cut blocks).blocks =
    subst (λ (r : Ranged). AllSized r.width r.blocks) shard c.in_ok-of.ensures.sized in
    subst (IsDividing width blocks d (at.cut-index + 1) cut)
    (sym (c.in_ok-push.ensures.items ∙ ap (λ (r : Ranged). at.shards.items ++ r ∷ []) shard))
    (dividing-more width blocks d c.requires.count at.cut-index at.first at.shards.items cut at.invariant low is each)

pub returns : goal.returns
returns g c =
    let B = g.B.Blocks in
    let at = c.loop-cut in
    let d = c.args.division.now in
    let width = B.width c.args.blocks.now in
    let blocks = B.blocks c.args.blocks.now in
    let last : length d.cuts ≤ at.cut-index =
    omega (arith, ap length c.cuts-cuts.ensures.cuts, c.loop-cut-test.false) in
    let shard : c.in_ok-last.last ≡ range_in width at.first d.buckets blocks =
    c.in_ok-last.ensures.blocks ∙ ap (λ (n : ℕ). range_in width at.first n blocks) c.buckets.ensures in
    let each : AllSized width (range_in width at.first d.buckets blocks).blocks =
    subst (λ (r : Ranged). AllSized r.width r.blocks) shard c.in_ok-last.ensures.sized in
    subst (AreDivided width blocks d)
    (sym (c.in_ok-push-2.ensures.items ∙ ap (λ (r : Ranged). at.shards.items ++ r ∷ []) shard))
    (divided width blocks d c.requires.count at.cut-index at.first at.shards.items at.invariant last each)
