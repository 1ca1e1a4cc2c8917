-- The readings so far are taken apart.
use Rattle.std.proofs.Common.{◌≡◌}
use Rattle.tk_run.specs.Reading.{readers, talks_of}
use Rattle.tk_run.proofs.talk.parted.Given as goal

abbrev pub invariant-parting : goal.invariant-parting
invariant-parting l =
    record {
      clients : l.clients.items ≡ readers l.yielded;
      talks : l.talks.items ≡ talks_of l.yielded;
    }
