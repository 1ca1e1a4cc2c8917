-- A member: a client whose servers are on other machines, and what it has of them.
use Rattle.std.specs.Prelude.{ℕ, ◌==◌, Bool, ◌&&◌, List, [], replicate, Option, None}
use Rattle.std.specs.Option.{is_none}
use Rattle.tk_shape.specs.declared.shape.Shape.{Shape}
use Rattle.tk_shape.specs.Lengths.{turn_count}
use Rattle.tk_client.specs.Client.{ClientState}
use Rattle.tk_member.specs.Epochs.{ToldMarks, known}

-- The client; in how many turns it wrote, and in how many it asked; how many ticks wait, and how
-- many writes may go ahead of their turns; what servers told of epochs; and, by server, the reply to
-- the read that is open.
pub record MemberState : Type 0 where
  pub client : ClientState
  pub written : ℕ
  pub asked : ℕ
  pub ticks : ℕ
  pub ahead : ℕ
  pub told : List ToldMarks
  pub replies : List (Option (List ℕ))

-- no reply of any server
abbrev pub no_replies : Shape → List (Option (List ℕ))
no_replies shape = replicate shape.servers None

-- a client that has written and asked nothing
abbrev pub new_member : ClientState → MemberState
new_member client =
    record {
      client = client;
      written = 0;
      asked = 0;
      ticks = 0;
      ahead = 0;
      told = replicate client.shape.servers [];
      replies = no_replies client.shape;
    }

-- the last epoch that all servers told
abbrev pub known_to : MemberState → ℕ
known_to m = known m.client.shape m.told

-- whether it has written and read in all turns
abbrev pub is_over : MemberState → Bool
is_over m =
    let turns = turn_count m.client.shape in
    m.written == turns && m.asked == turns && is_none m.client.read
