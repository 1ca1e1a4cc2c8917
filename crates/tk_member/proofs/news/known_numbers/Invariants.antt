-- Those of the logs so far.
use Rattle.std.proofs.Common.{◌≡◌, map, length}
use Rattle.std.specs.List.{range_with_len}
use Rattle.tk_client.specs.Reader.{got_in}
use Rattle.tk_member.proofs.news.known_numbers.Given as goal

abbrev pub invariant-logs : goal.invariant-logs
invariant-logs l =
    l.known.items
    ≡ map (λ log. length (got_in l.fn.client.reader.follows log)) (range_with_len 0 l.log)
