use Rattle.std.proofs.Common.{ap, sym, ◌∙◌, arith, set, true}
use Rattle.std.specs.Prelude.{◌&&◌, not}
use Rattle.tk_checkpoint.specs.Reading.{positions_from}
use Rattle.tk_checkpoint.specs.Sound.{has_slot}
use Rattle.tk_checkpoint.proofs.Places.{length-positions}
use Rattle.tk_checkpoint.proofs.Flags.{is_unnamed, flags_noted}
use Rattle.tk_checkpoint.proofs.finding.note.Goals as goal

pub returns-in_default-clause-new : goal.returns-in_default-clause-new
returns-in_default-clause-new c earlier told =
    let positions = positions_from c.args.shape.now.hits c.args.count c.args.window.now in
    sym (ap (λ b. b && not (has_slot earlier c.args.position)) (is_unnamed positions c.args.position c.in_default.ensures))

pub bounds-found-place : goal.bounds-found-place
bounds-found-place c =
    let long = length-positions c.args.shape.now.hits c.args.count c.args.window.now in
    omega (arith, c.in-Some.ensures.0, long, c.requires.beside)

pub bounds-found-place-2 : goal.bounds-found-place-2
bounds-found-place-2 c =
    let long = length-positions c.args.shape.now.hits c.args.count c.args.window.now in
    omega (arith, c.in-Some.ensures.0, long, c.requires.beside)

pub returns-clause-noted : goal.returns-clause-noted
returns-clause-noted c earlier s told is _ =
    let positions = positions_from c.args.shape.now.hits c.args.count c.args.window.now in
    ap (λ fs. set fs c.in-Some.place true) told
    ∙ flags_noted earlier s 1 positions c.in-Some.place c.requires.ascending c.in-Some.ensures.0
    (c.in-Some.ensures.1 ∙ sym is)
