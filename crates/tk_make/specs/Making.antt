-- The script that is made from a number.
use Rattle.std.specs.Prelude.{◌≡◌, ℕ, ◌+◌, ◌*◌, ◌%◌, ◌==◌, Bool, List, [], ◌∷◌, ◌++◌, map, filter}
use Rattle.std.specs.Prelude.{flat_map, codes, decimal, replicate, Some}
use Rattle.std.specs.List.{range_with_len}
use Rattle.std.specs.Int.{w64, to_be_bytes}
use Rattle.tk_shape.specs.Numbers.{numbers_of}
use Rattle.tk_handle.specs.declared.handle.Handle.{Handle}
use Rattle.tk_handle.specs.Handle.{handle_from, key_bytes}
use Rattle.tk_script.specs.Grammar.{fields}
use Rattle.tk_script.specs.declared.role.Role.{Role}
use Rattle.tk_script.specs.declared.say.Say.{Say}
use Rattle.tk_script.specs.declared.keys.Keys.{Keys}
use Rattle.tk_script.specs.declared.script.Script.{Script}

-- the shape's numbers, in their order
abbrev pub made_numbers : List ℕ
made_numbers = 3 ∷ 256 ∷ 4 ∷ 512 ∷ 256 ∷ 4096 ∷ 3 ∷ 4 ∷ 12 ∷ 8 ∷ 4 ∷ 4 ∷ []

-- ---- keys

-- the number after 24 zeros, high byte first
abbrev pub root_of : ℕ → List ℕ
root_of n = replicate 24 0 ++ to_be_bytes w64 n

abbrev pub made_handle : List ℕ → ℕ → Handle
made_handle root log = handle_from log root

abbrev pub made_handles : List ℕ → List Handle
made_handles root = map (made_handle root) (range_with_len 0 4)

-- the seed of a client: the front of a stream after those of the handles
abbrev pub made_seed : List ℕ → ℕ → List ℕ
made_seed root client = key_bytes root (4294967296 + client) 0 32

abbrev pub made_seeds : List ℕ → List (List ℕ)
made_seeds root = map (made_seed root) (range_with_len 0 12)

abbrev pub made_keys : ℕ → Keys
made_keys n = record { handles = made_handles (root_of n); seeds = made_seeds (root_of n) }

-- ---- roles

-- three clients for each log: the first of them writes it, the others follow it
abbrev pub made_role : ℕ → Role
made_role log = record { writer = 3 * log; followers = (3 * log + 1) ∷ (3 * log + 2) ∷ [] }

abbrev pub made_roles : List Role
made_roles = map made_role (range_with_len 0 4)

-- ---- texts

-- a text tells its place
abbrev pub made_note : ℕ → ℕ → ℕ → List ℕ
made_note phase tick log =
    fields (codes "note" ∷ decimal log ∷ decimal phase ∷ decimal tick ∷ [])

abbrev pub made_say : ℕ → ℕ → ℕ → Say
made_say phase tick log =
    record { phase = phase; tick = tick; log = log; text = made_note phase tick log }

-- something is said on every second log, by turns
abbrev pub is_said : ℕ → ℕ → ℕ → ℕ → Bool
is_said n phase tick log = (n + phase + tick + log) % 2 == 0

abbrev pub said_in_tick : ℕ → ℕ → ℕ → List Say
said_in_tick n phase tick =
    map (made_say phase tick) (filter (is_said n phase tick) (range_with_len 0 4))

abbrev pub said_in_phase : ℕ → ℕ → List Say
said_in_phase n phase = flat_map (said_in_tick n phase) (range_with_len 1 4)

abbrev pub made_says : ℕ → List Say
made_says n = flat_map (said_in_phase n) (range_with_len 1 8)

-- ---- the script

-- the script is the one made from this number
pub record IsMade (n : ℕ) (S : Script) : Type 0 where
  pub format : S.shape.format ≡ 1
  pub shape : numbers_of S.shape ≡ made_numbers
  pub keys : S.keys ≡ Some (made_keys n)
  pub roles : S.roles ≡ made_roles
  pub says : S.says ≡ made_says n
