-- The lines of the seeds so far stand after what was there, and their arrays are of bytes.
use Rattle.std.proofs.Common.{◌≡◌, ◌++◌, map, take}
use Rattle.std.specs.List.{AllByRecursion}
use Rattle.tk_script.specs.Printing.{text_of, seed_line, HasSeed}
use Rattle.tk_script.proofs.key_text.push_seeds.Given as goal

abbrev pub invariant-loop-seed : goal.invariant-loop-seed
invariant-loop-seed l = record {
  text : l.out.items ≡ l.fn.out.items ++ text_of (map seed_line (take l.seed-index l.seeds));
  has : AllByRecursion HasSeed (take l.seed-index l.seeds);
}
