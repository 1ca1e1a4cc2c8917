-- A pair that doesn't ascend decides; one that does leaves it to the rest.
use Rattle.std.proofs.Common.{◌≡◌, ◌∙◌, sym, ap, rules, get_or, false, true}
use Rattle.std.specs.Prelude.{nat_lt}
use Rattle.std.proofs.lemmas.List.{take_rest}
use Rattle.tk_script.specs.SoundScript.{is_ascending}
use Rattle.tk_script.proofs.SoundLaws.{is_ascending-step, is_ascending-broken, is_ascending-short}
use Rattle.tk_script.proofs.role_lines.ascends.Goals as goal

pub returns-then-rest : goal.returns-then-rest
returns-then-rest c =
    let broken : nat_lt (get_or c.pairs.rest.now 0 0) (get_or c.pairs.rest.now 1 0) ≡ false =
    search rules in
    sym (c.pairs.invariant ∙ is_ascending-broken c.pairs.rest.now c.pairs-test.true broken)

pub pairs-preserved : goal.pairs-preserved
pairs-preserved c =
    let ascend : nat_lt (get_or c.pairs.rest.now 0 0) (get_or c.pairs.rest.now 1 0) ≡ true =
    search rules in
    c.pairs.invariant ∙ is_ascending-step c.pairs.rest.now c.pairs-test.true ascend
    ∙ ap is_ascending (sym (take_rest c.pairs.rest.now 1))

pub returns : goal.returns
returns c = sym (c.pairs.invariant ∙ is_ascending-short c.pairs.rest.now (search rules))
