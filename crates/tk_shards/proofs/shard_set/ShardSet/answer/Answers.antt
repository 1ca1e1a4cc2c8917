use Rattle.std.proofs.Common.{◌≡◌, List, ℕ, length, ap, sym, subst, ◌∙◌}
use Rattle.std.specs.Prelude.{slice_index_or}
use Rattle.tk_kernel.specs.Chosen.{chosen_sum}
use Rattle.tk_shards.specs.Shards.{Sharded}
use Rattle.tk_shards.proofs.Totals.{length-sum}
use Rattle.tk_shards.proofs.shard_set.ShardSet.answer.Goals as goal

pub copy_from_slice-requires : goal.copy_from_slice-requires
copy_from_slice-requires g c =
    let s = c.self.inside in
    let vector = c.in_ok-from_slice.field-0 in
    let first = c.index.result.now in
    let sum : c.as_slice.result.now ≡ chosen_sum c.args.self.now.width c.args.self.now.blocks vector =
    c.as_slice.ensures ∙ c.index.ensures
    ∙ ap (λ (xs : List (List ℕ)). slice_index_or xs 0 first) c.in_ok-sums.ensures.sums in
    let long : length (chosen_sum c.args.self.now.width c.args.self.now.blocks vector) ≡ c.args.self.now.width =
    subst (λ (v : Sharded). length (chosen_sum v.width v.blocks vector) ≡ v.width) c.self.view_is
    (length-sum s.width s.shards.items vector c.self.invariant.sized) in
    c.requires.width ∙ sym (ap length sum ∙ long)
