-- The three parts are the tape.
use Rattle.std.proofs.Common.{◌∙◌, ap, sym, List, ℕ, ◌++◌}
use Rattle.tk_privacy.specs.Privacy.{regained, tape_of}
use Rattle.tk_privacy.proofs.ExchangingLaws.{three_parts}
use Rattle.tk_privacy.proofs.Tapes.{same-read_part}
use Rattle.tk_privacy.proofs.steps.Steps.regained.Goals as goal

pub returns : goal.returns
unfolding regained tape_of
returns c =
    let S = c.args.self.now.script.now in
    let reads = c.read_part.ensures ∙ sym (same-read_part S.shape c.args.tape.now c.requires) in
    three_parts _ _ _ _ _ _ _ c.new-out.ensures.items c.in_ok-push_writes.ensures
    (c.in_ok-push.ensures ∙ ap (λ (bytes : List ℕ). c.push_writes.new.out.items ++ bytes) reads)
    c.in_ok-push_keyeds.ensures
