-- One more byte in each turn.
use Rattle.std.proofs.Common.{◌≡◌, ◌∙◌, ◌++◌, ◌∷◌, [], replicate, ap, append_assoc, arith, rules}
use Rattle.tk_script.proofs.PieceLaws.{replicate-push}
use Rattle.tk_script.proofs.piece.append_repeats.Goals as goal

pub repeats-preserved : goal.repeats-preserved
repeats-preserved c =
    let pushed : c.push.new.self.items ≡ c.repeats.kept.items ++ c.args.byte ∷ [] = search rules in
    pushed ∙ ap (λ t. t ++ c.args.byte ∷ []) c.repeats.invariant
    ∙ append_assoc c.args.kept.now.items (replicate c.repeats.counter c.args.byte)
    (c.args.byte ∷ [])
    ∙ ap (λ t. c.args.kept.now.items ++ t) (replicate-push c.repeats.counter c.args.byte)

pub returns : goal.returns
returns c =
    let all : c.repeats.counter ≡ c.args.count =
    omega (arith, c.repeats-test.false, c.repeats.auto.counter-end) in
    record {
      ok = c.repeats.invariant ∙ ap (λ n. c.args.kept.now.items ++ replicate n c.args.byte)
          all;
    }
