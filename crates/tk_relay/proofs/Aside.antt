-- Parts beside the pads of their clients.
use Rattle.std.proofs.Common.{◌≡◌, ap, sym, subst, ◌∙◌, arith, ℕ, ◌<◌, ◌≤◌, List, length}
use Rattle.std.specs.Prelude.{slice_index_or}
use Rattle.std.specs.List.{zip}
use Rattle.std.proofs.lemmas.Slice.Zip.{get_or-zip, seconds-zip}
use Rattle.std.proofs.lemmas.List.{length-map}
use Rattle.tk_shape.specs.declared.shape.Shape.{Shape}
use Rattle.tk_shape.specs.Lengths.{vector_len}
use Rattle.tk_relay.specs.declared.part.Part.{Part}
use Rattle.tk_relay.specs.Halves.{HasHalves}
use Rattle.tk_relay.specs.Pads.{Padding}
use Rattle.tk_relay.specs.Parts.{halves_of}
use Rattle.tk_relay.specs.Serving.{AreAskedParts, IsAsking}

module _ {shape : Shape} {server : ℕ} {pads : List Padding} {parts : List Part}
    (are : AreAskedParts shape server pads parts) where
  -- there are as many
  pub asked-counted : length (zip pads parts) ≡ length parts
  asked-counted =
      sym (length-map (zip pads parts) (λ (x : Padding × Part). x.1))
      ∙ ap length (seconds-zip pads parts (sym are.counted))

  -- the part and the pads of a place
  pub asked-at : (i : ℕ) (p : Padding) (q : Part) → i < length parts →
      slice_index_or (zip pads parts) i (p, q) ≡ (slice_index_or pads i p, slice_index_or parts i q)
  asked-at i p q low =
      get_or-zip pads parts i (p, q) (omega (arith, low, are.counted)) low

  module _ (i : ℕ) (p : Padding) where
    -- they are of the shape
    pub place-shape : i < length parts → p ≡ slice_index_or pads i p → p.shape ≡ shape
    place-shape low is =
        ap (λ (x : Padding). x.shape) is ∙ are.one_shape i p (omega (arith, low, are.counted))

    pub place-server : i < length parts → p ≡ slice_index_or pads i p →
        (1 ≤ server) × (server ≤ p.shape.servers)
    place-server low is = (
      are.low,
      subst (λ (s : Shape). server ≤ s.servers) (sym (place-shape low is)) are.high,
    )

    pub place-sized : (q : Part) → i < length parts → p ≡ slice_index_or pads i p →
        q ≡ slice_index_or parts i q → HasHalves (vector_len p.shape) (halves_of q)
    place-sized q low is part_is =
        subst (λ (s : Shape). IsAsking s q) (sym (place-shape low is))
        (subst (IsAsking shape) (sym part_is) (are.sized i q low))
