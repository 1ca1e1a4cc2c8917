-- Those so far that are of the kind are counted.
use Rattle.std.proofs.Common.{◌≡◌, take, count_by}
use Rattle.tk_make.specs.Tallies.{is_of}
use Rattle.tk_make.proofs.given.count_of.Given as goal

abbrev pub invariant-loop-got : goal.invariant-loop-got
invariant-loop-got l = l.count ≡ count_by (is_of l.kind) (take l.got-index l.all)
