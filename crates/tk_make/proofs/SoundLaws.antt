-- What is made is a script.
use Rattle.std.proofs.Common.{◌≡◌, ◌∙◌, ℕ, ◌+◌, ◌==◌, Bool, true, ◌&&◌, List, length, ap, ap₂, sym, refl}
use Rattle.std.specs.Prelude.{nat_le, nat_lt, slice_index, Some}
use Rattle.std.specs.List.{list_all}
use Rattle.std.specs.Fmt.{digits}
use Rattle.std.specs.Str.{is_utf8, chars}
use Rattle.std.specs.Char.{encode_utf8}
use Rattle.tk_shape.specs.declared.shape.Shape.{Shape}
use Rattle.tk_shape.specs.Numbers.{numbers_of}
use Rattle.tk_seal.specs.Texts.{is_allowed}
use Rattle.tk_script.specs.declared.keys.Keys.{Keys}
use Rattle.tk_script.specs.declared.role.Role.{Role}
use Rattle.tk_script.specs.declared.say.Say.{Say}
use Rattle.tk_script.specs.SoundScript.{is_role, is_ascending, is_say, are_in_order, has_keys, IsScript}
use Rattle.tk_make.specs.Making.{made_numbers, made_keys, made_roles, made_says}
use Rattle.tk_make.proofs.ByTurns.{for-each}

-- ---- texts

-- a text fits a run of so many phases, ticks and logs, with blocks of this length
abbrev is_fit : ℕ → ℕ → ℕ → ℕ → Say → Bool
is_fit phases ticks logs block say =
    nat_le 1 say.phase && nat_le say.phase phases
    && nat_le 1 say.tick && nat_le say.tick ticks
    && nat_lt say.log logs
    && nat_le (length say.text + 18) block && is_allowed say.text

even-fit : list_all (is_fit 8 4 4 256) (made_says 0) ≡ true
unfolding digits is_utf8 chars encode_utf8
even-fit = refl

odd-fit : list_all (is_fit 8 4 4 256) (made_says 1) ≡ true
unfolding digits is_utf8 chars encode_utf8
odd-fit = refl

made-fit : (n : ℕ) → list_all (is_fit 8 4 4 256) (made_says n) ≡ true
made-fit n =
    for-each (λ (says : List Say). list_all (is_fit 8 4 4 256) says ≡ true) even-fit odd-fit n

even-ordered : are_in_order (made_says 0) ≡ true
unfolding digits
even-ordered = refl

odd-ordered : are_in_order (made_says 1) ≡ true
unfolding digits
odd-ordered = refl

made-ordered : (n : ℕ) → are_in_order (made_says n) ≡ true
made-ordered n = for-each (λ (says : List Say). are_in_order says ≡ true) even-ordered odd-ordered n

-- ---- roles

abbrev is_role_of : ℕ → Role → Bool
is_role_of clients role =
    nat_lt role.writer clients && list_all (λ c. nat_lt c clients) role.followers
    && is_ascending role.followers

made-roles-sound : list_all (is_role_of 12) made_roles ≡ true
made-roles-sound = refl

-- ---- the script

field : (shape : Shape) (i : ℕ) → numbers_of shape ≡ made_numbers →
    slice_index (numbers_of shape) i ≡ slice_index made_numbers i
field shape i is = ap (λ (ns : List ℕ). slice_index ns i) is

says-sound : (phases ticks logs block : ℕ) (says : List Say) → phases ≡ 8 → ticks ≡ 4 →
    logs ≡ 4 → block ≡ 256 → list_all (is_fit 8 4 4 256) says ≡ true →
    list_all (is_fit phases ticks logs block) says ≡ true
says-sound phases ticks logs block says p t g b fit =
    ap (λ (n : ℕ). list_all (is_fit n ticks logs block) says) p
    ∙ ap (λ (n : ℕ). list_all (is_fit 8 n logs block) says) t
    ∙ ap (λ (n : ℕ). list_all (is_fit 8 4 n block) says) g
    ∙ ap (λ (n : ℕ). list_all (is_fit 8 4 4 n) says) b
    ∙ fit

pub made-sound : (shape : Shape) (keys : Keys) (roles : List Role) (says : List Say) (n : ℕ) →
    numbers_of shape ≡ made_numbers → keys ≡ made_keys n → roles ≡ made_roles →
    says ≡ made_says n → IsScript shape (Some keys) roles says
made-sound shape keys roles says n numbers keys_are roles_are says_are =
    let clients : shape.clients ≡ 12 = field shape 8 numbers in
    let phases : shape.phases ≡ 8 = field shape 9 numbers in
    let ticks : shape.ticks ≡ 4 = field shape 10 numbers in
    let logs : shape.logs ≡ 4 = field shape 11 numbers in
    let block : shape.block ≡ 256 = field shape 4 numbers in
    record {
      keys_counted = ap (λ (k : Keys). has_keys shape (Some k)) keys_are
          ∙ ap₂ (λ (a b : ℕ). (4 == a) && (12 == b)) logs clients;
      tape_fits = refl;
      roles_counted = ap (λ (rs : List Role). length rs) roles_are ∙ sym logs;
      roles_sound = ap (λ (rs : List Role). list_all (is_role shape) rs) roles_are
          ∙ ap (λ (n : ℕ). list_all (is_role_of n) made_roles) clients ∙ made-roles-sound;
      says_sound = ap (λ (ys : List Say). list_all (is_say shape) ys) says_are
          ∙ says-sound shape.phases shape.ticks shape.logs shape.block (made_says n)
          phases ticks logs block (made-fit n);
      says_ordered = ap are_in_order says_are ∙ made-ordered n;
    }
