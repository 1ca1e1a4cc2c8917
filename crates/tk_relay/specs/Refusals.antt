-- Which parts are refused, and why.
use Rattle.std.specs.Prelude.{◌≡◌, ℕ, ◌+◌, ◌==◌, cond, List, [], ◌∷◌, Option, Some, None}
use Rattle.std.specs.Option.{option_or}
use Rattle.tk_relay.specs.declared.part.Part.{Part}
use Rattle.tk_relay.specs.declared.gather_error.GatherError.{GatherError}
use Rattle.tk_relay.specs.declared.gather_error.GatherError.TheVariants as gathering
use Rattle.tk_relay.specs.declared.part_error.PartError.{PartError}
use Rattle.tk_relay.specs.declared.part_error.PartError.TheVariants as serving
use Rattle.tk_relay.specs.Parts.{first_part}

-- The fault that there is decides; only where there is none memory may have run out.
abbrev pub IsRefused : {E : Type 0} → E → Option E → E → Type 0
IsRefused memory None e = e ≡ memory
IsRefused memory (Some fault) e = e ≡ fault

-- a part of another epoch than the set's
abbrev pub other_epoch : ℕ → Part → Option PartError
other_epoch number p = cond (number == p.epoch) None (Some (serving.Epoch number p.epoch))

-- the first of parts that is
abbrev pub first_other_epoch : ℕ → List Part → Option PartError
first_other_epoch number [] = None
first_other_epoch number (p ∷ ps) =
    option_or (other_epoch number p) (first_other_epoch number ps)

-- a number of a server's part that isn't the first server's
abbrev pub other_number : ℕ → ℕ → ℕ → Option GatherError
other_number server want got =
    cond (want == got) None (Some (gathering.Named server want got))

-- its client, turn or epoch, tried in this order
abbrev pub other_name : Part → ℕ → Part → Option GatherError
other_name first server p =
    option_or (other_number server first.client p.client)
    (option_or (other_number server first.turn p.turn) (other_number server first.epoch p.epoch))

-- the first of parts that names another read, where servers are counted from this one on
abbrev pub first_other_from : Part → ℕ → List Part → Option GatherError
first_other_from first server [] = None
first_other_from first server (p ∷ ps) =
    option_or (other_name first server p) (first_other_from first (server + 1) ps)

abbrev pub first_other : List Part → Option GatherError
first_other parts = first_other_from (first_part parts) 1 parts
