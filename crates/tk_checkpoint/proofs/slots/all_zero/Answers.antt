use Rattle.std.proofs.Common.{rules, tests}
use Rattle.std.specs.Prelude.{◌==◌}
use Rattle.std.proofs.lemmas.Iterator.{YieldsList-from_slice}
use Rattle.std.proofs.lemmas.Iterator.Search.{all_from_yields_List}
use Rattle.tk_checkpoint.proofs.slots.all_zero.Goals as goal

pub returns : goal.returns
returns c =
    all_from_yields_List (λ b. b == 0) _ _ c.all.result c.all.ensures.ran
    (YieldsList-from_slice c.args.bytes.now cc) (λ x b q k. search (rules, tests))
