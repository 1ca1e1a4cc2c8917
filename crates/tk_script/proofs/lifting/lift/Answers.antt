-- The parts are the script's, and the shape is in format 2.
use Rattle.tk_shape.specs.Lifting.{lifted_shape}
use Rattle.tk_script.proofs.LiftLaws.{fits-where, lifted-gives, parts-sound}
use Rattle.tk_script.proofs.lifting.lift.Goals as goal

pub invariant_of-result : goal.invariant_of-result
invariant_of-result c =
    let S = c.args.script.now in
    let fit = fits-where (lifted_shape S.shape) S.keys c.requires.fits in
    record {
      sound =
          parts-sound S c.lifted.result c.in_ok-same_keys.field-0 c.in_ok-clone.field-0
          c.in_ok-clone-2.field-0 fit c.lifted.ensures c.in_ok-same_keys.ensures
          c.in_ok-clone.ensures.cases c.in_ok-clone-2.ensures.cases;
    }

pub returns : goal.returns
returns c =
    let S = c.args.script.now in
    let fit = fits-where (lifted_shape S.shape) S.keys c.requires.fits in
    lifted-gives S _ fit c.lifted.ensures c.in_ok-same_keys.ensures
    c.in_ok-clone.ensures.cases c.in_ok-clone-2.ensures.cases
