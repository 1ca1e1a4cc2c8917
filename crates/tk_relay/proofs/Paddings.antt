-- The pads of all clients in a turn.
use Rattle.std.proofs.Common.{◌≡◌, ap, sym, subst, ◌∙◌, arith, ℕ, ◌<◌, List, [], length}
use Rattle.std.specs.Prelude.{All, slice_index_or}
use Rattle.std.proofs.lemmas.List.{length-map}
use Rattle.tk_shape.specs.declared.shape.Shape.{Shape}
use Rattle.tk_words.specs.Words.{seed_at}
use Rattle.tk_relay.specs.Pads.{Padding, ArePads, padding_of, paddings_of}
use Rattle.tk_relay.proofs.PadLaws.{keyed-are}
use Rattle.tk_relay.proofs.ServedParts.{map-at}

module _ (shape : Shape) (seeds : List (List ℕ)) (turn : ℕ) (pads : List Padding)
    (are : pads ≡ paddings_of shape seeds turn) where
  pub paddings-counted : length pads ≡ length seeds
  paddings-counted = ap length are ∙ length-map seeds (λ seed. padding_of shape seed turn)

  pub padding-at : (i : ℕ) (d : Padding) → i < length pads →
      slice_index_or pads i d ≡ padding_of shape (seed_at seeds i) turn
  padding-at i d low =
      ap (λ (ps : List Padding). slice_index_or ps i d) are
      ∙ map-at (λ seed. padding_of shape seed turn) seeds i [] d
      (omega (arith, low, paddings-counted))

  pub paddings-shape : All (λ p. p.shape ≡ shape) pads
  paddings-shape i d low = ap (λ (p : Padding). p.shape) (padding-at i d low)

  pub padding-masks : (i : ℕ) (d : Padding) → i < length pads →
      ArePads shape (slice_index_or pads i d).pads
  padding-masks i d low =
      subst (λ (p : Padding). ArePads shape p.pads) (sym (padding-at i d low))
      (keyed-are shape (seed_at seeds i) turn)
