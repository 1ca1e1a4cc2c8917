-- Which texts may be said, and why others may not.
use Rattle.std.specs.Prelude.{◌≡◌, ℕ, ◌+◌, ◌-◌, nat_lt, ◌==◌, Bool, List, length, Option, Some, None, if◌then◌else◌}
use Rattle.std.specs.List.{list_any}
use Rattle.tk_shape.specs.declared.shape.Shape.{Shape}
use Rattle.tk_seal.specs.Texts.{is_allowed, allowed_front}
use Rattle.tk_client.specs.declared.written.Written.{Written}
use Rattle.tk_client.specs.declared.say_error.SayError.{SayError}
use Rattle.tk_client.specs.declared.say_error.SayError.TheVariants.{NotWriter, TooLong, Text, Memory}

-- one of these logs
abbrev pub is_written : ℕ → List Written → Bool
is_written log logs = list_any (λ f. f.log == log) logs

-- Why a text may not be said on a log of its client: it is longer than a block has room for, or it
-- has bytes that are not allowed. The first of these is named.
abbrev pub text_fault : Shape → List ℕ → Option SayError
text_fault shape text =
    if nat_lt shape.block (length text + 18) then Some (TooLong (shape.block - 18))
    else (if is_allowed text then None else Some (Text (allowed_front (length text) text)))

-- The same for any log: that it is another client's is named first.
abbrev pub fault_of : Shape → List Written → ℕ → List ℕ → Option SayError
fault_of shape logs log text =
    if is_written log logs then text_fault shape text else Some (NotWriter log)

-- A text with a fault is refused for it; only a text without one is refused because memory ran out.
abbrev pub IsRefusedFor : Option SayError → SayError → Type 0
IsRefusedFor None e = e ≡ Memory
IsRefusedFor (Some f) e = e ≡ f
