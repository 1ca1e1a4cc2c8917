-- So many words are passed over.
use Rattle.std.proofs.Common.{◌≡◌, ◌+◌}
use Rattle.tk_handle.proofs.stream.Stream.skip.Given as goal

abbrev pub invariant-loop : goal.invariant-loop
invariant-loop l = l.self ≡ record l.fn.self { place = l.fn.self.place + l.counter }
