-- The reads of the clients so far were seen.
use Rattle.std.proofs.Common.{◌≡◌, ◌++◌, flat_map}
use Rattle.std.specs.List.{range_with_len}
use Rattle.tk_privacy.specs.Views.{frame_in}
use Rattle.tk_privacy.proofs.server_sights.Seen.ask.Given as goal

abbrev pub invariant-loop-client : goal.invariant-loop-client
invariant-loop-client l =
    record {
      entries : l.self.entries ≡ l.fn.self.entries;
      frames : l.self.frames.items
          ≡ l.fn.self.frames.items
          ++ flat_map (frame_in l.shape l.reads l.turn) (range_with_len 0 l.client);
    }
