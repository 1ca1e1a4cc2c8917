-- As many frames as vectors so far, all along one.
use Rattle.std.proofs.Common.{◌≡◌, length}
use Rattle.std.specs.List.{AllByRecursion}
use Rattle.tk_relay.specs.Bundles.{IsAlong}
use Rattle.tk_relay_tests.proofs.RelayedReads.{read_over}
use Rattle.tk_relay_tests.proofs.reads.frames_of.Given as goal

abbrev pub invariant-loop-vector : goal.invariant-loop-vector
invariant-loop-vector l =
    record {
      counted : length l.frames.items ≡ l.vector-index;
      along : AllByRecursion (IsAlong l.shape (read_over l.epoch)) l.frames.items;
    }
