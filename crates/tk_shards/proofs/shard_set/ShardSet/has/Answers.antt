-- The bytes of both blocks are compared.
use Rattle.std.proofs.Common.{◌≡◌, ◌≤◌, [], length, take, ap, sym, ◌∙◌, arith}
use Rattle.std.specs.Prelude.{slice_index_or}
use Rattle.std.specs.Cmp.Lexicographic.{same_text}
use Rattle.std.proofs.lemmas.List.{length-take-le}
use Rattle.tk_shards.proofs.Gathered.{first-fits, first-block}
use Rattle.tk_shards.proofs.shard_set.ShardSet.has.Goals as goal

pub slice_bounds-eq-end : goal.slice_bounds-eq-end
slice_bounds-eq-end g c =
    let told = c.width-width.ensures in
    let run = c.run.result.now in
    let fits : c.width-width.result ≤ length run =
    omega (arith, told.width, first-fits _ _ told.some told.each c.args.i run c.run.ensures) in
    sym (length-take-le c.width-width.result run fits)

pub slice_bounds-eq-end-2 : goal.slice_bounds-eq-end-2
slice_bounds-eq-end-2 g c =
    let told = c.width-own.ensures in
    let run = c.run-2.result.now in
    let fits : c.width-own.result ≤ length run =
    omega (arith, told.width, first-fits _ _ told.some told.each c.args.i run c.run-2.ensures) in
    sym (length-take-le c.width-own.result run fits)

pub returns : goal.returns
returns g c equal =
    let its = c.width-width.ensures in
    let own = c.width-own.ensures in
    let run = c.run.result.now in
    let own_run = c.run-2.result.now in
    let first : take c.width-width.result run ≡ slice_index_or (g.B.Blocks.blocks c.args.blocks.now) c.args.i [] =
    ap (λ n. take n run) its.width
    ∙ first-block _ _ its.some its.each c.args.i run c.run.ensures in
    let second : take c.width-own.result own_run ≡ slice_index_or c.args.self.now.blocks c.args.i [] =
    ap (λ n. take n own_run) own.width
    ∙ first-block _ _ own.some own.each c.args.i own_run c.run-2.ensures in
    sym first
    ∙ same_text (take c.width-width.result run) (take c.width-own.result own_run) (sym equal ∙ c.eq.ensures)
    ∙ second
