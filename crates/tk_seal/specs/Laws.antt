-- Which text a sealed block opens to.
use Rattle.std.specs.Prelude.{◌≡◌, ℕ, ◌+◌, ◌≤◌, ◌↔◌, IsTrue, List, length, Some}
use Rattle.tk_handle.specs.declared.handle.Handle.{Handle}
use Rattle.tk_seal.specs.Texts.{is_allowed}
use Rattle.tk_seal.specs.Seal.{keyed_sealed, keyed_opened}

-- the text may be sent, it fits, and it seals to the block
pub record Opens (h : Handle) (s : ℕ) (block text : List ℕ) : Type 0 where
  pub allowed : IsTrue (is_allowed text)
  pub fits : length text + 18 ≤ length block
  pub seals : keyed_sealed (length block) h s text ≡ block

-- a block opens to the text that may be sent, fits and seals to it, and to no other
abbrev pub OpensWhatSeals : Type 0
OpensWhatSeals =
    (h : Handle) (s : ℕ) (block text : List ℕ) → 24 ≤ length block → length block ≤ 1024 →
    (keyed_opened h s block ≡ Some text) ↔ (Opens h s block text)
