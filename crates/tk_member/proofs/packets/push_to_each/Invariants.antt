-- What was sent so far, and what is left to be sent.
use Rattle.std.proofs.Common.{◌≡◌, ◌++◌, ◌+◌, ◌-◌}
use Rattle.std.specs.Prelude.{replicate}
use Rattle.tk_member.specs.Acting.{packets_from}
use Rattle.tk_member.proofs.packets.push_to_each.Given as goal

abbrev pub invariant-servers : goal.invariant-servers
invariant-servers l =
    l.out.items ++ packets_from (l.server + 1) (replicate (l.servers - l.server) l.frame)
    ≡ l.fn.out.items ++ packets_from 1 (replicate l.servers l.frame)
