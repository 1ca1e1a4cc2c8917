-- The reads so far are seen, each with its reply.
use Rattle.std.proofs.Common.{◌≡◌, ◌++◌, take}
use Rattle.tk_run.specs.Rows.{in_pairs}
use Rattle.tk_run.proofs.server.Server.see.Given as goal

abbrev pub invariant-loop-i : goal.invariant-loop-i
invariant-loop-i l =
    record {
      state : l.self.state ≡ l.fn.self.state;
      displaced : l.self.displaced ≡ l.fn.self.displaced;
      seen : l.self.seen.items
          ≡ l.fn.self.seen.items ++ in_pairs (take l.i l.frames) (take l.i l.replies);
    }
