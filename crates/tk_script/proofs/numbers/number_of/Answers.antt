-- A number of 64 bits that is one of 32.
use Rattle.std.proofs.Common.{◌<◌, ◌^◌, sym, arith}
use Rattle.tk_script.proofs.TurnParts.{some-spelled}
use Rattle.tk_script.proofs.numbers.number_of.Goals as goal

pub returns-in-Some-clause-spelled : goal.returns-in-Some-clause-spelled
returns-in-Some-clause-spelled c =
    let small : c.in-Some.number < 2 ^ 32 = omega arith in
    sym (some-spelled c.args.text.now c.in-Some.number c.in-Some.ensures.found small)
