use Rattle.std.proofs.Common.{◌∙◌}
use Rattle.tk_bloom.proofs.Showing.{all_marked-marks_of, each_is_shown}
use Rattle.tk_bloom.proofs.Windowing.{positions_of-pushes_in}
use Rattle.tk_bloom.proofs.window.Window.filter.Goals as goal

pub returns-clause-marks : goal.returns-clause-marks
returns-clause-marks c =
    let counted = positions_of-pushes_in _ _ c.self.inside.tally c.self.invariant in
    rw (← c.self.view_is, counted) (c.in_ok-of_marks.ensures ∙ c.in_ok-marks.ensures)

pub returns-clause-shown : goal.returns-clause-shown
returns-clause-shown c hits =
    let tally = c.self.inside.tally in
    let counted = positions_of-pushes_in _ _ tally c.self.invariant in
    rw (← c.self.view_is, counted, c.in_ok-of_marks.ensures, c.in_ok-marks.ensures)
    (all_marked-marks_of tally.bits tally.positions c.self.invariant.in_range hits)

pub returns-clause-pushes_shown : goal.returns-clause-pushes_shown
returns-clause-pushes_shown c k d within =
    returns-clause-shown c _ ∙ each_is_shown c.args.self.now.pushes k d within
