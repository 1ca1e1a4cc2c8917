-- The texts that may be sent.
use Rattle.std.specs.Prelude.{ℕ, zero, suc, ◌<◌, Bool, cond, ◌&&◌, not, ◌==◌, nat_le, IsTrue, List, length, take}
use Rattle.std.specs.List.{list_all}
use Rattle.std.specs.Str.{is_utf8}

-- no control byte
abbrev pub is_printable : ℕ → Bool
is_printable b = nat_le 0x20 b && not (b == 0x7F)

-- UTF-8 without bytes below 0x20 and without 0x7F
abbrev pub is_allowed : List ℕ → Bool
is_allowed text = is_utf8 text && list_all is_printable text

-- the first n bytes are the longest front of the text that is allowed, and more bytes follow
pub record IsAllowedUpTo (text : List ℕ) (n : ℕ) : Type 0 where
  pub short : n < length text
  pub front : IsTrue (is_allowed (take n text))
  pub longest : (m : ℕ) → n < m → ¬ (IsTrue (is_allowed (take m text)))

-- the length of the longest allowed front, of at most n bytes
abbrev pub allowed_front : ℕ → List ℕ → ℕ
allowed_front zero text = 0
allowed_front (suc n) text =
    let shorter = allowed_front n text in
    cond (is_allowed (take (suc n) text)) (suc n) shorter
