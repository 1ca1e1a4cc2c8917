-- What holds of the replies of an input.
use Rattle.std.specs.Prelude.{◌≡◌, ◌<◌, ◌≤◌, Bool, ◌&&◌, ◌||◌, ◌==◌, nat_lt, List, length}
use Rattle.tk_shape.specs.declared.shape.Shape.{Shape}
use Rattle.tk_shape.specs.Lengths.{turn_count, width}
use Rattle.tk_script.specs.declared.reply.RawReply.{RawReply}
use Rattle.tk_script.specs.Ordered.{are_ordered, follows}

-- a turn, a client and a server of the run, and two sums as wide as a bucket
pub record IsReply (shape : Shape) (reply : RawReply) : Type 0 where
  pub turn : reply.turn < turn_count shape
  pub client : reply.client < shape.clients
  pub server_low : 1 ≤ reply.server
  pub server_high : reply.server ≤ shape.servers
  pub first : length reply.first ≡ width shape
  pub second : length reply.second ≡ width shape

-- the first is of an earlier turn; or of the same, and of a client with a lower number; or of the same,
-- and of a server with one
abbrev pub is_before : RawReply → RawReply → Bool
is_before a b =
    nat_lt a.turn b.turn
    || (a.turn == b.turn && (nat_lt a.client b.client
    || (a.client == b.client && nat_lt a.server b.server)))

-- each comes before the next
abbrev pub are_ascending : List RawReply → Bool
are_ascending = are_ordered is_before

-- this reply may come after those before it
abbrev pub may_follow : List RawReply → RawReply → Bool
may_follow = follows is_before
