-- Keyed words (RFC 8439's block function with a 64-bit counter and a 64-bit stream).
use Rattle.std.specs.Prelude.{ℕ, List, ◌++◌, take}
use Rattle.std.specs.List.{flat_map, range_with_len}
use Rattle.std.specs.Int.{w32, w64, div_ceil, to_le_bytes, to_be_bytes}
use Rattle.rand_chacha.specs.ChaCha.{word_at, key_of}
use Rattle.tk_handle.specs.declared.handle.Handle.{Handle}

-- a place in a stream of words, under a key of 32 bytes
pub record Place : Type 0 where
  pub key : List ℕ
  pub stream : ℕ
  pub place : ℕ

-- the word at a place of a stream, under a key of 32 bytes
unfoldable pub word : List ℕ → ℕ → ℕ → ℕ
word key stream place = word_at 10 (key_of key) stream place

-- the first n bytes of the words from a place on, each least byte first
unfoldable pub key_bytes : List ℕ → ℕ → ℕ → ℕ → List ℕ
key_bytes key stream place n =
    take n (flat_map (λ i. to_le_bytes w32 (word key stream i)) (range_with_len place (div_ceil n 4)))

-- the first n bytes that a seed of 32 bytes expands to
abbrev pub expanded : ℕ → List ℕ → List ℕ
expanded n seed = key_bytes seed 0 0 n

-- the handle of a log, from a root of 32 bytes
abbrev pub handle_from : ℕ → List ℕ → Handle
handle_from id root =
    record { id = id; seed1 = key_bytes root id 0 32; seed2 = key_bytes root id 8 32; key = key_bytes root id 16 32 }

-- the 104 bytes of a handle
abbrev pub handle_bytes : Handle → List ℕ
handle_bytes h = to_be_bytes w64 h.id ++ h.seed1 ++ h.seed2 ++ h.key
