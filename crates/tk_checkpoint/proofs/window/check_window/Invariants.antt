use Rattle.std.proofs.Common.{◌≡◌, ◌*◌, ◌-◌, ◌≤◌, length}
use Rattle.tk_checkpoint.specs.Saved.{entry_len}
use Rattle.tk_checkpoint.specs.Sound.{first_refusal, window_checks_from}
use Rattle.tk_checkpoint.proofs.window.check_window.Given as goal

abbrev pub invariant-loop-at : goal.invariant-loop-at
invariant-loop-at l =
    record {
      long : (l.count - l.at) * entry_len l.shape ≤ length l.rest;
      left : first_refusal (window_checks_from l.shape l.applied 0 0 l.count l.bytes) ≡ first_refusal (window_checks_from l.shape l.applied l.before l.at (l.count - l.at) l.rest);
    }
