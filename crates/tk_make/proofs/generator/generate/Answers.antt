-- What is made is a script.
use Rattle.tk_make.proofs.SoundLaws.{made-sound}
use Rattle.tk_make.proofs.generator.generate.Goals as goal

pub invariant_of-result : goal.invariant_of-result
invariant_of-result c =
    record {
      sound = made-sound c.make_shape.result c.in_ok-make_keys.field-0 c.in_ok-make_roles.field-0
          c.in_ok-make_says.field-0 c.args.number c.make_shape.ensures.numbers c.in_ok-make_keys.ensures
          c.in_ok-make_roles.ensures c.in_ok-make_says.ensures;
    }
