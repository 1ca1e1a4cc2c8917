-- A keyed script has no tape.
use Rattle.std.proofs.Common.{rules}
use Rattle.std.specs.Prelude.{IsSome}
use Rattle.tk_cli.proofs.LiftLaws.{keyed-answer}
use Rattle.tk_cli.proofs.lift_word.lifted.Goals as goal

pub returns-then-is_some-clause-answer : goal.returns-then-is_some-clause-answer
returns-then-is_some-clause-answer c =
    let input = c.args.input in
    let keyed : IsSome input.first.keys = search rules in
    keyed-answer input c.requires.bytes c.in_ok-keyed_text.field-0.items c.requires.spelled keyed c.in_ok-keyed_text.ensures
