-- The three parts are the tape.
use Rattle.tk_privacy.specs.Privacy.{normal_for, tape_of}
use Rattle.tk_privacy.proofs.ExchangingLaws.{three_parts}
use Rattle.tk_privacy.proofs.steps.Steps.normal.Goals as goal

pub returns : goal.returns
unfolding normal_for tape_of
returns c = λ H pairs are.
    three_parts _ _ _ _ _ _ _ c.new-out.ensures.items c.in_ok-push_writes.ensures
    (c.in_ok-push_reads.ensures H pairs are) c.in_ok-push_keyeds.ensures
