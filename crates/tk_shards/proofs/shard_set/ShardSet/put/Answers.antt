use Rattle.std.proofs.Common.{◌≡◌, ◌-◌, ◌≤◌, [], length, take, map, set, ap, sym, subst, ◌∙◌, arith}
use Rattle.std.specs.Prelude.{slice_index_or}
use Rattle.std.proofs.lemmas.List.{length-take-le}
use Rattle.tk_shards.specs.Ranged.{Ranged, range_of}
use Rattle.tk_shards.specs.Shards.{Sharded, IsIn, blocks_of}
use Rattle.tk_shards.proofs.Gathered.{first-fits, first-block}
use Rattle.tk_shards.proofs.Row.{written, shown_as, written-in}
use Rattle.tk_shards.proofs.shard_set.ShardSet.put.Goals as goal

pub slice_bounds-put-end : goal.slice_bounds-put-end
slice_bounds-put-end g c =
    let told = c.width-width.ensures in
    let run = c.run-run.result.now in
    let fits : c.width-width.result ≤ length run =
    omega (arith, told.width, first-fits _ _ told.some told.each c.args.i run c.run-run.ensures) in
    sym (length-take-le c.width-width.result run fits)

pub put-requires-clause-width : goal.put-requires-clause-width
put-requires-clause-width g c =
    let told = c.width-width.ensures in
    let s = c.self.inside in
    let rs = s.shards.items in
    let k = c.place_of-place.result in
    let d = c.index_mut-shard.result.now in
    let run = c.run-run.result.now in
    let fits : c.width-width.result ≤ length run =
    omega (arith, told.width, first-fits _ _ told.some told.each c.args.i run c.run-run.ensures) in
    let long : length (take c.width-width.result run) ≡ s.width =
    length-take-le c.width-width.result run fits ∙ told.width ∙ c.requires.width
    ∙ sym (ap (λ (v : Sharded). v.width) c.self.view_is) in
    let is : IsIn rs c.args.i k = subst (λ xs. IsIn xs c.args.i k) c.as_slice.ensures.value
    c.place_of-place.ensures in
    long ∙ sym (ap (λ (q : Ranged). q.width) c.index_mut-shard.ensures.value
    ∙ (c.self.invariant.sized k d is.within).wide)

pub invariant_of-self : goal.invariant_of-self
invariant_of-self g c =
    let told = c.width-width.ensures in
    let s = c.self.inside in
    let rs = s.shards.items in
    let i = c.args.i in
    let k = c.place_of-place.result in
    let d = c.index_mut-shard.result.now in
    let run = c.run-run.result.now in
    let block = take c.width-width.result run in
    let fits : c.width-width.result ≤ length run =
    omega (arith, told.width, first-fits _ _ told.some told.each i run c.run-run.ensures) in
    let long : length block ≡ s.width =
    length-take-le c.width-width.result run fits ∙ told.width ∙ c.requires.width
    ∙ sym (ap (λ (v : Sharded). v.width) c.self.view_is) in
    let is : IsIn rs i k = subst (λ xs. IsIn xs i k) c.as_slice.ensures.value c.place_of-place.ensures in
    let new : c.put.new.self ≡ written d (i - d.first) block =
    c.put.ensures ∙ ap (λ n. written d (i - n) block) c.first-first.ensures in
    (written-in s.width s.count i k rs d c.put.new.self block c.self.invariant is long
    c.index_mut-shard.ensures.value new).kept

pub returns : goal.returns
returns g c =
    let told = c.width-width.ensures in
    let s = c.self.inside in
    let rs = s.shards.items in
    let i = c.args.i in
    let k = c.place_of-place.result in
    let d = c.index_mut-shard.result.now in
    let run = c.run-run.result.now in
    let block = take c.width-width.result run in
    let fits : c.width-width.result ≤ length run =
    omega (arith, told.width, first-fits _ _ told.some told.each i run c.run-run.ensures) in
    let long : length block ≡ s.width =
    length-take-le c.width-width.result run fits ∙ told.width ∙ c.requires.width
    ∙ sym (ap (λ (v : Sharded). v.width) c.self.view_is) in
    let is : IsIn rs i k = subst (λ xs. IsIn xs i k) c.as_slice.ensures.value c.place_of-place.ensures in
    let new : c.put.new.self ≡ written d (i - d.first) block =
    c.put.ensures ∙ ap (λ n. written d (i - n) block) c.first-first.ensures in
    let found : block ≡ slice_index_or (g.B.Blocks.blocks c.args.blocks.now) i [] =
    ap (λ n. take n run) told.width ∙ first-block _ _ told.some told.each i run c.run-run.ensures in
    rw (← c.self.view_is)
    ((written-in s.width s.count i k rs d c.put.new.self block c.self.invariant is long
    c.index_mut-shard.ensures.value new).shown
    ∙ ap (λ b. shown_as s.width (set (blocks_of rs) i b) (map range_of rs)) found)
