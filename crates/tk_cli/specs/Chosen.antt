-- What the lines of an input's replies choose.
use Rattle.std.specs.Prelude.{List, [], ◌∷◌, Option, Some, None}
use Rattle.std.specs.List.{AllByRecursion}
use Rattle.tk_shape.specs.declared.shape.Shape.{Shape}
use Rattle.tk_script.specs.SoundReplies.{IsReply}
use Rattle.tk_script.specs.declared.reply.RawReply.{RawReply}
use Rattle.tk_hostile.specs.declared.sums.Sums.{Sums}
use Rattle.tk_hostile.specs.Choice.{Choice}
use Rattle.tk_hostile.specs.Given.{none_chosen, with_sums}

abbrev pub sums_of : RawReply → Sums
sums_of reply = record { first = reply.first; second = reply.second }

-- the sums of the line, and zeros where there is none
abbrev pub sums_chosen : Shape → List RawReply → Choice
sums_chosen shape [] = none_chosen shape
sums_chosen shape (reply ∷ replies) =
    with_sums reply.turn reply.client reply.server (sums_of reply) (sums_chosen shape replies)

-- an input's replies are of a shape
abbrev pub HasReplies : Shape → Option (List RawReply) → Type 0
HasReplies shape None = ⊥
HasReplies shape (Some replies) = AllByRecursion (IsReply shape) replies

-- what an input's replies choose
abbrev pub chosen : Shape → Option (List RawReply) → Choice
chosen shape None = sums_chosen shape []
chosen shape (Some replies) = sums_chosen shape replies
