-- The lines of what is printed are read one by one.
use Rattle.tk_script.proofs.PrintedForms.{prints_views, prints_mirrors}
use Rattle.tk_script.proofs.PrintedLaws.{prints_scripts, prints_tapes, prints_keyed, prints_relayed, prints_drawn}
use Rattle.tk_script.proofs.print_laws.printed_reads.Goals as goal

pub returns : goal.returns
returns c = record {
  script = prints_scripts;
  tape = prints_tapes;
  keyed = prints_keyed;
  relayed = prints_relayed;
  drawn = prints_drawn;
  views = prints_views;
  mirrors = prints_mirrors;
}
