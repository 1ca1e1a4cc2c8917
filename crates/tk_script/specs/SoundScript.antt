-- What holds of every script.
use Rattle.std.specs.Prelude.{◌≡◌, ℕ, ◌+◌, Bool, true, ◌&&◌, ◌||◌, ◌==◌, nat_le, nat_lt, List, []}
use Rattle.std.specs.Prelude.{◌∷◌, length, IsTrue, Option, Some, None}
use Rattle.std.specs.List.{list_all}
use Rattle.tk_shape.specs.Lengths.{tape_len}
use Rattle.tk_seal.specs.Texts.{is_allowed}
use Rattle.tk_shape.specs.declared.shape.Shape.{Shape}
use Rattle.tk_script.specs.declared.keys.Keys.{Keys}
use Rattle.tk_script.specs.declared.role.Role.{Role}
use Rattle.tk_script.specs.declared.say.Say.{Say}

-- each number is below the next
abbrev pub is_ascending : List ℕ → Bool
is_ascending [] = true
is_ascending (a ∷ []) = true
is_ascending (a ∷ b ∷ xs) = nat_lt a b && is_ascending (b ∷ xs)

abbrev pub is_role : Shape → Role → Bool
is_role shape role =
    nat_lt role.writer shape.clients && list_all (λ c. nat_lt c shape.clients) role.followers
    && is_ascending role.followers

abbrev pub is_say : Shape → Say → Bool
is_say shape say =
    nat_le 1 say.phase && nat_le say.phase shape.phases
    && nat_le 1 say.tick && nat_le say.tick shape.ticks
    && nat_lt say.log shape.logs
    && nat_le (length say.text + 18) shape.block && is_allowed say.text

-- the first comes in the phase and tick of the second, or before
abbrev pub is_said_by : Say → Say → Bool
is_said_by a b = nat_lt a.phase b.phase || (a.phase == b.phase && nat_le a.tick b.tick)

abbrev pub are_in_order : List Say → Bool
are_in_order [] = true
are_in_order (a ∷ []) = true
are_in_order (a ∷ b ∷ says) = is_said_by a b && are_in_order (b ∷ says)

-- a keyed script has a handle for each log and a seed for each client
abbrev pub has_keys : Shape → Option Keys → Bool
has_keys shape None = true
has_keys shape (Some keys) = (length keys.handles == shape.logs) &&
    (length keys.seeds == shape.clients)

-- a drawn script's tape is not too long
abbrev pub tape_fits : Shape → Option Keys → Bool
tape_fits shape (Some keys) = true
tape_fits shape None = nat_le (tape_len shape) 2097152

pub record IsScript (shape : Shape) (keys : Option Keys) (roles : List Role) (says : List Say)
    : Type 0 where
  pub keys_counted : IsTrue (has_keys shape keys)
  pub tape_fits : IsTrue (tape_fits shape keys)
  pub roles_counted : length roles ≡ shape.logs
  pub roles_sound : IsTrue (list_all (is_role shape) roles)
  pub says_sound : IsTrue (list_all (is_say shape) says)
  pub says_ordered : IsTrue (are_in_order says)
