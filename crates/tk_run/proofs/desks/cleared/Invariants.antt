-- The desks so far are cleared.
use Rattle.std.proofs.Common.{◌≡◌, map}
use Rattle.std.specs.Prelude.{Some}
use Rattle.tk_run.specs.Acting.{frames_on, deeds_on}
use Rattle.tk_run.proofs.desks.cleared.Given as goal

abbrev pub invariant-clearing : goal.invariant-clearing
invariant-clearing l =
    record {
      frames : l.frames.items ≡ frames_on l.yielded;
      deeds : deeds_on l.yielded ≡ map Some l.deeds.items;
    }
