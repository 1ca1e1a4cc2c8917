use Rattle.std.proofs.Common.{ap, ◌∙◌}
use Rattle.std.specs.Prelude.{find}
use Rattle.tk_shape.specs.Differences.{are_apart}
use Rattle.tk_shape.proofs.Differing.{equal-first}
use Rattle.tk_shape.proofs.shape.Shape.differs.Goals as goal

pub returns-clause-equal : goal.returns-clause-equal
returns-clause-equal c =
    equal-first _ _ _ (c.first_apart.ensures ∙ ap (find are_apart) c.beside.ensures)

pub returns-clause-first : goal.returns-clause-first
returns-clause-first c = c.first_apart.ensures ∙ ap (find are_apart) c.beside.ensures
