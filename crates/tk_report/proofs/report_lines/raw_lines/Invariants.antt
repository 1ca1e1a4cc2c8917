-- The lines so far and what is left tell what all tell.
use Rattle.std.proofs.Common.{◌≡◌, ◌+◌, ◌<◌, ◌^◌, ◌++◌, length}
use Rattle.tk_script.specs.Grammar.{lines_of}
use Rattle.tk_report.specs.ReportLines.{raw_from}
use Rattle.tk_report.proofs.report_lines.raw_lines.Given as goal

abbrev pub invariant-lines : goal.invariant-lines
invariant-lines l = record {
  told : l.lines.items ++ raw_from l.number (lines_of l.rest) ≡ raw_from 2 (lines_of l.text);
  small : l.number + length l.rest + 1 < 2 ^ 64;
}

abbrev pub decreases-lines : goal.decreases-lines
decreases-lines l = length l.rest
