-- What the seeds so far expand to is written, and what those that are left expand to is still to come.
use Rattle.std.proofs.Common.{◌≡◌, ◌-◌, ◌*◌, ◌++◌, length, take}
use Rattle.std.specs.List.{flat_map}
use Rattle.tk_kernel.specs.Pieces.{pieces}
use Rattle.tk_handle.specs.Handle.{expanded}
use Rattle.tk_words.proofs.keyed.expand_each.Given as goal

abbrev pub invariant-seeds : goal.invariant-seeds
invariant-seeds l =
    (length l.rest ≡ (l.count - l.i) * 32)
    × (take (l.i * l.size) l.out ++ flat_map (expanded l.size) (pieces 32 (l.count - l.i) l.rest)
    ≡ flat_map (expanded l.size) (pieces 32 l.count l.seeds))
