-- The window keeps three pushes of one position.
use Rattle.std.proofs.Common.{◌≡◌, length}
use Rattle.tk_bucket_tests.proofs.bloom_tests.a_restored_window_expires_and_moves_down.Given as goal

abbrev pub invariant-loop-hit : goal.invariant-loop-hit
invariant-loop-hit g l =
    record {
      hits : l.window.hits ≡ 1;
      bits : l.window.bits ≡ 64;
      retained : l.window.retained ≡ 3;
      full : length l.window.pushes ≡ 3;
    }
