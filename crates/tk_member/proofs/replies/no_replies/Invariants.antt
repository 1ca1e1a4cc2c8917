-- None so far.
use Rattle.std.proofs.Common.{◌≡◌}
use Rattle.std.specs.Prelude.{replicate, None}
use Rattle.tk_member.proofs.replies.no_replies.Given as goal

abbrev pub invariant-servers : goal.invariant-servers
invariant-servers l = l.replies.items ≡ replicate l.server None
