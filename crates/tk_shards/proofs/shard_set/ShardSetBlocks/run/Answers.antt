use Rattle.std.proofs.Common.{◌-◌, subst}
use Rattle.tk_answer.specs.Runs.{IsRun}
use Rattle.tk_shards.specs.Ranged.{Ranged}
use Rattle.tk_shards.specs.Shards.{IsIn}
use Rattle.tk_shards.proofs.Row.{run-of-all}
use Rattle.tk_shards.proofs.shard_set.ShardSetBlocks.run.Goals as goal

pub returns : goal.returns
returns c =
    let rs = c.self.inside.shards.items in
    let i = c.args.i in
    let k = c.place_of.result in
    let d = c.index-shard.result.now in
    let bytes = c.blocks_from.result.now in
    let is : IsIn rs i k = subst (λ xs. IsIn xs i k) c.as_slice.ensures.value c.place_of.ensures in
    let run : IsRun d.blocks (i - d.first) bytes =
    subst (λ n. IsRun d.blocks (i - n) bytes) c.first.ensures c.blocks_from.ensures in
    rw (← c.self.view_is)
    (run-of-all rs d i k bytes c.self.invariant.row is
    (subst (λ (q : Ranged). IsRun q.blocks (i - q.first) bytes) c.index-shard.ensures run))
