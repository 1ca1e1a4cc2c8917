-- The vectors of the servers before this one, and room for those of the others.
use Rattle.std.proofs.Common.{◌≡◌, ◌+◌, ◌-◌, ◌*◌, ◌≤◌, ◌++◌, vec_len, vec_capacity}
use Rattle.std.specs.List.{flat_map, range_with_len}
use Rattle.tk_shape.specs.Lengths.{vector_len}
use Rattle.tk_frames.specs.Spelling.{asked_frame}
use Rattle.tk_relay.specs.Bundles.{frame_of}
use Rattle.tk_relay.proofs.Bundling.{bytes_for}
use Rattle.tk_relay.proofs.bundles.bundle.Given as goal

abbrev pub invariant-loop-server : goal.invariant-loop-server
invariant-loop-server l =
    let first = frame_of l.frames 1 in
    record {
      items : l.out.items ≡ l.fn.out.items
          ++ asked_frame 8 first.client first.turn first.epoch
          (flat_map (bytes_for l.pads.pads l.frames) (range_with_len 1 (l.server - 1)));
      room : vec_len l.out + (l.shape.servers + 1 - l.server) * (2 * vector_len l.shape)
          ≤ vec_capacity l.out;
    }
