-- What a client's seed gives for a read.
use Rattle.std.proofs.Common.{◌≡◌, ℕ, ◌+◌, ◌-◌, ◌*◌, Bool, true, false, cond, List, [], ◌∷◌, length, refl, ap, ◌∙◌, arith}
use Rattle.std.specs.Prelude.{◌==◌}
use Rattle.std.specs.List.{flat_map}
use Rattle.tk_shape.specs.declared.shape.Shape.{Shape}
use Rattle.tk_shape.specs.Lengths.{seed_len, vector_len}
use Rattle.tk_kernel.specs.Pieces.{pieces}
use Rattle.tk_handle.specs.Handle.{key_bytes, expanded}
use Rattle.tk_handle.proofs.Offers.{length-key_bytes}
use Rattle.tk_words.specs.Words.{for_each, joined, keyed_for_both}
use Rattle.tk_words.proofs.Joined.{join-vectors}
use Rattle.tk_words.proofs.Written.{twice}

nothing : (xs ys : List ℕ) → length xs ≡ 0 → length ys ≡ 0 → xs ≡ ys
nothing [] [] h k = refl
nothing [] (y ∷ ys) h k = absurd (omega (arith, k))
nothing (x ∷ xs) ys h k = absurd (omega (arith, h))

-- no bytes of a stream are none
pub no_key_bytes : (seed xs : List ℕ) (stream place : ℕ) → length xs ≡ 0 → xs ≡ key_bytes seed stream place (length xs)
no_key_bytes seed xs stream place none =
    nothing xs (key_bytes seed stream place (length xs)) none (length-key_bytes seed stream place (length xs) ∙ none)

-- bytes of a stream are those of either bucket
pub keyed_joined : (shape : Shape) (size : ℕ) (seed : List ℕ) (g : ℕ) →
    key_bytes seed (2 * g + 1) 16 (2 * (shape.servers - 1) * size) ≡ joined (keyed_for_both shape size seed g)
keyed_joined shape size seed g =
    let all = 2 * (shape.servers - 1) * size in
    join-vectors size (shape.servers - 1) (key_bytes seed (2 * g + 1) 16 all) (length-key_bytes seed (2 * g + 1) 16 all)

-- the vectors are what the seeds expand to in format 2, and else stand in the stream themselves
pub keyed_vectors : (shape : Shape) (seed seeds : List ℕ) (g : ℕ) →
    let size = vector_len shape in
    let count = 2 * (shape.servers - 1) in
    seeds ≡ key_bytes seed (2 * g + 1) 16 (count * seed_len shape) →
    cond (shape.format == 2) (flat_map (expanded size) (pieces 32 count seeds)) (key_bytes seed (2 * g + 1) 16 (count * size))
    ≡ joined (cond (shape.format == 2) (for_each (expanded size) (keyed_for_both shape (seed_len shape) seed g))
    (keyed_for_both shape size seed g))
keyed_vectors shape seed seeds g =
    let size = vector_len shape in
    let each = shape.servers - 1 in
    let stream = 2 * g + 1 in
    elim (shape.format == 2) as (λ (two : Bool).
    seeds ≡ key_bytes seed stream 16 (2 * each * cond two 32 0) →
    cond two (flat_map (expanded size) (pieces 32 (2 * each) seeds)) (key_bytes seed stream 16 (2 * each * size))
    ≡ joined (cond two (for_each (expanded size) (keyed_for_both shape (cond two 32 0) seed g)) (keyed_for_both shape size seed g))) [
      | true ↦ λ is.
          ap (λ (xs : List ℕ). flat_map (expanded size) (pieces 32 (2 * each) xs)) is
          ∙ twice (expanded size) 32 each (key_bytes seed stream 16 (2 * each * 32))
      | false ↦ λ is. keyed_joined shape size seed g
    ]
