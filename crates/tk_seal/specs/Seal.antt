-- Sealed texts: masked by a pad, and marked by a tag (RFC 2104 with SHA-256, FIPS 180-4).
use Rattle.std.specs.Prelude.{◌≡◌, ℕ, ◌+◌, ◌-◌, ◌^◌, ◌<◌, ◌≤◌, IsTrue, ◌&&◌, nat_le, cond, List, ◌++◌, length, take, drop, map, replicate, bit_xor, Option, Some, None}
use Rattle.std.specs.Int.{w16, w64, to_be_bytes, from_be_bytes}
use Rattle.std.specs.Str.{bytes_eq}
use Rattle.sha2.specs.Sha256.{sha256}
use Rattle.tk_handle.specs.declared.handle.Handle.{Handle}
use Rattle.tk_kernel.specs.Xor.{xor_bytes}
use Rattle.tk_seal.specs.Texts.{is_allowed}
use Rattle.tk_handle.specs.Handle.{key_bytes}

-- the key's 64 bytes, each with the byte b mixed in; the key has at most 64 bytes
abbrev pub mixed_key : ℕ → List ℕ → List ℕ
mixed_key b key = map (λ k. bit_xor k b) (key ++ replicate (64 - length key) 0)

-- HMAC-SHA-256 (RFC 2104)
unfoldable pub hmac : List ℕ → List ℕ → List ℕ
hmac key message = sha256 (mixed_key 0x5c key ++ sha256 (mixed_key 0x36 key ++ message))

-- the length of a text, the text, and zeros: size bytes in all
abbrev pub plain : ℕ → List ℕ → List ℕ
plain size text = to_be_bytes w16 (length text) ++ text ++ replicate (size - 2 - length text) 0

-- the bytes are the plain form of a text that may be sent
pub record IsPlainForm (bytes text : List ℕ) : Type 0 where
  pub allowed : IsTrue (is_allowed text)
  pub fits : length text + 2 ≤ length bytes
  pub short : length text < 2 ^ 16
  pub form : bytes ≡ plain (length bytes) text

-- the text that a plain form would be of
abbrev pub plain_text : List ℕ → List ℕ
plain_text bytes = take (from_be_bytes w16 (take 2 bytes)) (drop 2 bytes)

-- a text masked by a pad, and the tag of what is masked
abbrev pub sealed_with : List ℕ → (List ℕ → List ℕ) → List ℕ → List ℕ
sealed_with pad tag text = let masked = xor_bytes pad (plain (length pad) text) in masked ++ tag masked

-- The text that seals to a block under a pad and a tag: there is one at most, and it is the one to be seen
-- behind the pad. It opens the block if it is allowed and seals to it.
abbrev pub opened_with : List ℕ → (List ℕ → List ℕ) → List ℕ → Option (List ℕ)
opened_with pad tag block =
    let text = plain_text (xor_bytes pad block) in
    cond (is_allowed text && nat_le (length text + 2) (length pad) && bytes_eq (sealed_with pad tag text) block) (Some text) None

-- the pad of message number s in a block of size bytes
abbrev pub keyed_pad : ℕ → Handle → ℕ → List ℕ
keyed_pad size h s = key_bytes h.key s 16 (size - 16)

-- the tag of what is masked
abbrev pub keyed_tag : Handle → ℕ → List ℕ → List ℕ
keyed_tag h s masked = take 16 (hmac (key_bytes h.key s 0 32) (to_be_bytes w64 h.id ++ to_be_bytes w64 s ++ masked))

-- the block of size bytes that a text is sealed to as message number s
abbrev pub keyed_sealed : ℕ → Handle → ℕ → List ℕ → List ℕ
keyed_sealed size h s text = sealed_with (keyed_pad size h s) (keyed_tag h s) text

-- the text that seals to a block as message number s
abbrev pub keyed_opened : Handle → ℕ → List ℕ → Option (List ℕ)
keyed_opened h s block = opened_with (keyed_pad (length block) h s) (keyed_tag h s) block
