use Rattle.std.proofs.Common.{◌<◌, length, sym, subst, All}
use Rattle.tk_place.specs.Table.{IsBelow}
use Rattle.tk_place.proofs.Ends.{slots_below, all_below}
use Rattle.tk_place.proofs.search.add_others.Goals as goal

pub add_each-requires-clause-others : goal.add_each-requires-clause-others
add_each-requires-clause-others g c =
    let T = g.V.Slots.others c.args.slots.now in
    subst (λ n. All (λ b. b < n) c.others.result.now) (sym c.requires.size)
    (all_below (length T) c.others.result.now
    (subst (All (IsBelow (length T))) c.others.ensures
    (slots_below (length T) T c.bucket-bucket.result c.requires.table.named)))
