-- The lines of the frames so far.
use Rattle.std.proofs.Common.{◌≡◌, take}
use Rattle.tk_cli.specs.Handles.{hex_lines}
use Rattle.tk_cli.proofs.view_word.lines_of.Given as goal

abbrev pub invariant-loop-frame : goal.invariant-loop-frame
invariant-loop-frame l = l.text.items ≡ hex_lines (take l.frame-index l.frames)
