-- The three parts are the tape.
use Rattle.std.proofs.Common.{◌∙◌, ap, sym, List, ℕ, ◌++◌}
use Rattle.tk_privacy.specs.Privacy.{with_reads_for, tape_of}
use Rattle.tk_privacy.proofs.ExchangingLaws.{three_parts}
use Rattle.tk_privacy.proofs.Tapes.{same-write_part, same-keyed_part}
use Rattle.tk_privacy.proofs.steps.Steps.with_reads_changed.Goals as goal

pub returns : goal.returns
unfolding with_reads_for tape_of
returns c = λ H pairs are.
    let S = c.args.self.now.script.now in
    let writes =
    c.write_part.ensures ∙ sym (same-write_part S.shape c.args.tape.now c.requires.whole)
    in
    let keyeds =
    c.keyed_part.ensures ∙ sym (same-keyed_part S.shape c.args.tape.now c.requires.whole)
    in
    three_parts _ _ _ _ _ _ _ c.new-out.ensures.items
    (c.in_ok-push.ensures ∙ ap (λ (bytes : List ℕ). c.new-out.result.items ++ bytes) writes)
    (c.in_ok-push_reads.ensures H pairs are)
    (c.in_ok-push-2.ensures ∙ ap (λ (bytes : List ℕ). c.push_reads.new.out.items ++ bytes) keyeds)
