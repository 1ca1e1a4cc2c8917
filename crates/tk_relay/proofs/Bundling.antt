-- A bundle that is appended server by server.
use Rattle.std.proofs.Common.{◌≡◌, ℕ, suc, ◌+◌, ◌-◌, ◌*◌, ◌≤◌, List, [], ◌∷◌, ◌++◌, flat_map}
use Rattle.std.proofs.Common.{refl, ap, ap₂, sym, ◌∙◌, arith, append_assoc, append-nil}
use Rattle.std.specs.List.{range_with_len}
use Rattle.std.proofs.lemmas.List.Folds.{flat_map-map}
use Rattle.std.proofs.lemmas.List.FromFn.{get_or-map-range_with_len}
use Rattle.tk_lists.proofs.Offers.{flat_map-range_more}
use Rattle.tk_shape.specs.declared.shape.Shape.{Shape}
use Rattle.tk_frames.specs.declared.read_frame.ReadFrame.{ReadFrame}
use Rattle.tk_frames.specs.Spelling.{be32, asked_frame}
use Rattle.tk_relay.specs.Pads.{PadLists}
use Rattle.tk_relay.specs.Parts.{first_part, blank_part}
use Rattle.tk_relay.specs.Bundles.{frame_of, part_for, parts_for, part_bytes, bundle_frame}

-- ---- room

pub room-first : (servers size len most : ℕ) → 2 ≤ servers → len + (14 + 2 * servers * size) ≤ most →
    len + 14 + size + size + (servers + 1 - 2) * (2 * size) ≤ most
room-first servers size len most several enough =
    let more : servers ≡ suc (servers + 1 - 2) = omega (arith, several) in
    let each : 2 * servers * size ≡ 2 * size + (servers + 1 - 2) * (2 * size) =
    ap (λ n. 2 * n * size) more ∙ omega arith
    in
    omega (arith, enough, each)

pub room-next : (servers server size len most : ℕ) → server ≤ servers →
    len + (servers + 1 - server) * size ≤ most →
    len + size + (servers + 1 - (server + 1)) * size ≤ most
room-next servers server size len most low enough =
    let more : servers + 1 - server ≡ suc (servers + 1 - (server + 1)) = omega (arith, low) in
    let each : (servers + 1 - server) * size ≡ size + (servers + 1 - (server + 1)) * size =
    ap (λ n. n * size) more ∙ omega arith
    in
    omega (arith, enough, each)

-- ---- bytes

-- the head, and after it two vectors
pub front-appended : (c g e : ℕ) (old start headed first both head v w : List ℕ) → start ≡ old →
    headed ≡ start ++ head → first ≡ headed ++ v → both ≡ first ++ w →
    head ≡ 8 ∷ 1 ∷ flat_map be32 (c ∷ g ∷ e ∷ []) →
    both ≡ old ++ asked_frame 8 c g e ((v ++ w) ++ [])
front-appended c g e old start headed first both head v w start_is headed_is first_is both_is head_is =
    let spelled = 8 ∷ 1 ∷ flat_map be32 (c ∷ g ∷ e ∷ []) in
    both_is
    ∙ ap (λ (xs : List ℕ). xs ++ w) (first_is
    ∙ ap (λ (xs : List ℕ). xs ++ v) (headed_is ∙ ap₂ (λ (xs ys : List ℕ). xs ++ ys) start_is head_is))
    ∙ ap (λ (xs : List ℕ). xs ++ w) (append_assoc old spelled v)
    ∙ append_assoc old (spelled ++ v) w
    ∙ ap (λ (xs : List ℕ). old ++ xs) (append_assoc spelled v w
    ∙ ap (asked_frame 8 c g e) (sym (append-nil (v ++ w))))

module _ (pads : PadLists) (frames : List ReadFrame) where
  -- what stands in the bundle for a server
  unfoldable pub bytes_for : ℕ → List ℕ
  bytes_for j = part_bytes (part_for pads frames j)

  -- with the vectors of one more server
  pub vectors-appended : (c g e server : ℕ) (old out new : List ℕ) → 1 ≤ server →
      out ≡ old ++ asked_frame 8 c g e (flat_map bytes_for (range_with_len 1 (server - 1))) →
      new ≡ out ++ bytes_for server →
      new ≡ old ++ asked_frame 8 c g e (flat_map bytes_for (range_with_len 1 (server + 1 - 1)))
  vectors-appended c g e server old out new low so_far is =
      let before = flat_map bytes_for (range_with_len 1 (server - 1)) in
      let next : server - 1 + 1 ≡ server + 1 - 1 = omega (arith, low) in
      is
      ∙ ap (λ (xs : List ℕ). xs ++ bytes_for server) so_far
      ∙ append_assoc old (asked_frame 8 c g e before) (bytes_for server)
      ∙ ap (λ (xs : List ℕ). old ++ asked_frame 8 c g e xs)
      (sym (flat_map-range_more bytes_for 1 (server - 1) server (omega (arith, low)))
      ∙ ap (λ n. flat_map bytes_for (range_with_len 1 n)) next)

  -- those of all servers are the bundle
  pub bundle-appended : (shape : Shape) →
      let first = frame_of frames 1 in
      asked_frame 8 first.client first.turn first.epoch
      (flat_map bytes_for (range_with_len 1 shape.servers))
      ≡ bundle_frame (parts_for shape pads frames)
  unfolding bytes_for
  bundle-appended shape =
      let several = shape.in_range.servers_low in
      let first : first_part (parts_for shape pads frames) ≡ part_for pads frames 1 =
      get_or-map-range_with_len (part_for pads frames) 1 shape.servers 0 1 blank_part
      (omega (arith, several)) refl
      in
      λ i. asked_frame 8 (sym first i).client (sym first i).turn (sym first i).epoch
      (sym (flat_map-map part_bytes (part_for pads frames) (range_with_len 1 shape.servers)) i)
