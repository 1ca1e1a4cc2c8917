-- The pads of the servers before this one.
use Rattle.std.proofs.Common.{◌≡◌, ◌+◌, ◌-◌, vec_len}
use Rattle.std.specs.List.{flat_map, range_with_len}
use Rattle.tk_relay.specs.Pads.{request_bytes, reply_bytes, request_len, reply_pad_len}
use Rattle.tk_relay.proofs.pads.Pads.keyed.Given as goal

abbrev pub invariant-loop-server : goal.invariant-loop-server
invariant-loop-server l =
    record {
      room : vec_len l.both ≡ request_len l.shape + reply_pad_len l.shape;
      requests : l.bytes.items
          ≡ flat_map (request_bytes l.shape l.seed l.turn) (range_with_len 2 (l.server - 2));
      replies : l.replies.items
          ≡ flat_map (reply_bytes l.shape l.seed l.turn) (range_with_len 2 (l.server - 2));
    }
