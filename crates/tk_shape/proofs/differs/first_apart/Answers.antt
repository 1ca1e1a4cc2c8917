use Rattle.std.proofs.Common.{rules, tests, ◌∙◌}
use Rattle.std.proofs.lemmas.Iterator.{YieldsList-from_slice}
use Rattle.std.proofs.lemmas.Iterator.Search.{find_from_yields_List}
use Rattle.tk_shape.specs.Differences.{are_apart}
use Rattle.tk_shape.proofs.differs.first_apart.Goals as goal

pub returns : goal.returns
returns c =
    c.copied.ensures
    ∙ find_from_yields_List are_apart _ _ c.find.result c.find.ensures.ran
    (YieldsList-from_slice c.args.pairs.now cc) (λ x b q k. search (rules, tests))
