-- The reads so far are seen after the entries.
use Rattle.std.proofs.Common.{◌≡◌, ◌++◌, take}
use Rattle.std.specs.Prelude.{flat_map}
use Rattle.tk_run.specs.Courses.{talk_seen}
use Rattle.tk_run.proofs.tap_bytes.sight_from.Given as goal

abbrev pub invariant-talks : goal.invariant-talks
invariant-talks l =
    l.bytes.items ≡ l.entries ++ flat_map (talk_seen l.server) (take l.talk-index l.talks)
