-- Of what two slots gave the earlier.
use Rattle.std.specs.Prelude.{Option, Some, None}
use Rattle.tk_frames.specs.Slots.{Accepted, earlier_of}

-- the earlier of two that may be there, and of two at one position the first
abbrev pub earlier_of_both : Option Accepted → Option Accepted → Option Accepted
earlier_of_both None y = y
earlier_of_both (Some x) y = Some (earlier_of x y)
