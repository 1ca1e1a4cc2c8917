-- All numbers are listed.
use Rattle.std.proofs.Common.{List, ℕ, sym, ◌∙◌, subst}
use Rattle.tk_shards.specs.Shards.{AreSameBut}
use Rattle.tk_run.proofs.NumbersLaws.{same-but_all}
use Rattle.tk_run.proofs.kept.brought.Goals as goal

pub update-requires-clause-same : goal.update-requires-clause-same
update-requires-clause-same c κs =
    let set = c.args.kept.set in
    subst (λ (xs : List ℕ). AreSameBut xs c.args.blocks.now.blocks set.blocks)
    (sym c.as_slice.ensures.value)
    (same-but_all c.count.result c.in_ok-all.all.items c.args.blocks.now.blocks set.blocks
    c.in_ok-all.ensures (sym c.requires.count ∙ sym c.count.ensures) (sym c.requires.count))
