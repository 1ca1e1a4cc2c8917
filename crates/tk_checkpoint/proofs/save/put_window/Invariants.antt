-- The writes so far and those that are left are all of them.
use Rattle.std.proofs.Common.{◌≡◌, ◌+◌, ◌*◌, ◌≤◌, ◌++◌, drop, vec_len, vec_capacity}
use Rattle.tk_checkpoint.specs.Saved.{window_bytes}
use Rattle.tk_checkpoint.proofs.save.put_window.Given as goal

abbrev pub invariant-loop-i : goal.invariant-loop-i
invariant-loop-i l =
    record {
      items : l.out.items ++ window_bytes (drop l.i l.positions) (drop l.i l.window.pushes)
          ≡ l.fn.out.items ++ window_bytes l.positions l.window.pushes;
      len : vec_len l.out ≡ vec_len l.fn.out + l.i * (8 + 4 * l.window.hits);
      capacity : vec_capacity l.fn.out ≤ vec_capacity l.out;
    }
