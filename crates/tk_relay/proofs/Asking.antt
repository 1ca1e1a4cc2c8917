-- What servers are asked for two buckets, and what they reply.
use Rattle.std.proofs.Common.{◌≡◌, ℕ, ◌-◌, ◌*◌, ◌≤◌, ◌<◌, List, [], ◌∷◌, ◌++◌, length, get_or, ap, sym, ◌∙◌, arith}
use Rattle.std.specs.Prelude.{slice_index_or}
use Rattle.std.proofs.lemmas.List.{length-append, get_or_append_left, get_or_push}
use Rattle.std.proofs.lemmas.List.Elements.{All-from_recursion}
use Rattle.std.proofs.lemmas.List.FromFn.{get_or-map-range_with_len}
use Rattle.std.proofs.lemmas.Option.{get_or_from_slice_get}
use Rattle.tk_shape.specs.declared.shape.Shape.{Shape}
use Rattle.tk_shape.specs.Lengths.{vector_len, width}
use Rattle.tk_shape.proofs.Offers.{vector_bits}
use Rattle.tk_kernel.specs.Xor.{xor_bytes, xor_all}
use Rattle.tk_kernel.specs.Pieces.{AllSized}
use Rattle.tk_kernel.specs.Chosen.{chosen_sum}
use Rattle.tk_kernel.proofs.Offers.{length-xor_all, AllSized-append}
use Rattle.tk_bits.specs.Shares.{unit_vector, last_share, completed, shares}
use Rattle.tk_bits.proofs.Offers.{length-unit_vector, length-last_share, vector-at}
use Rattle.tk_bits.proofs.Offers.{length-chosen_sum, chosen_sum-joined, unit-chosen}
use Rattle.tk_words.specs.Words.{BothBuckets}
use Rattle.tk_frames.specs.declared.read_frame.ReadFrame.{ReadFrame}
use Rattle.tk_client.specs.Asked.{AreWhole, frame_with}
use Rattle.tk_report.specs.Exchange.{blank_read}
use Rattle.tk_relay.specs.Halves.{Halves, HasHalves, mixed}
use Rattle.tk_relay.specs.Pads.{PadLists, ArePads, masked}
use Rattle.tk_relay.specs.Parts.{part_with}
use Rattle.tk_relay.specs.Bundles.{vectors_of, frame_of, part_for}
use Rattle.tk_relay.specs.Serving.{sums_for, served_part}
use Rattle.tk_relay.specs.Sights.{DrawnRead, frames_for, AreBuckets, AreBlocks, units_of, blocks_at}
use Rattle.tk_relay.proofs.Masks.{masked-twice}

-- the vectors of server j in a read of two buckets
pub vectors_for : Shape → ℕ × ℕ → BothBuckets → ℕ → Halves
vectors_for shape pair drawn j =
    record {
      first = get_or (completed (vector_len shape) pair.0 drawn.first) (j - 1) [];
      second = get_or (completed (vector_len shape) pair.1 drawn.second) (j - 1) [];
    }

-- sums have the size of blocks
pub sums-sized : (shape : Shape) (blocks : List (List ℕ)) (x : Halves) → AllSized (width shape) blocks →
    HasHalves (width shape) (sums_for shape blocks x)
sums-sized shape blocks x sized =
    record {
      first = length-chosen_sum (width shape) blocks x.first sized;
      second = length-chosen_sum (width shape) blocks x.second sized;
    }

-- a server takes the mask off that the client has put on
pub served-for : (shape : Shape) (blocks : List (List ℕ)) (pads : PadLists) (frames : List ReadFrame)
    (j : ℕ) → ArePads shape pads → j ≤ shape.servers →
    HasHalves (vector_len shape) (vectors_of (frame_of frames j)) →
    served_part shape blocks pads j (part_for pads frames j)
    ≡ part_with (frame_of frames j).client (frame_of frames j).turn (frame_of frames j).epoch
    (masked pads.replies j (sums_for shape blocks (vectors_of (frame_of frames j))))
served-for shape blocks pads frames j are high sized =
    let r = frame_of frames j in
    ap (λ (x : Halves). part_with r.client r.turn r.epoch
    (masked pads.replies j (sums_for shape blocks x)))
    (masked-twice shape (vector_len shape) pads.requests are.requests_counted are.requests_sized j
    (vectors_of r) high sized)

-- ---- a read of two buckets

module _ (shape : Shape) (r : DrawnRead) (whole : AreWhole shape r.drawn) where
  -- the frame of a server
  frame-at : (pair : ℕ × ℕ) (j : ℕ) → 1 ≤ j → j ≤ shape.servers →
      let size = vector_len shape in
      frame_of (frames_for shape r pair) j
      ≡ frame_with shape r.shows r.turn r.client r.epoch
      (shares size pair.0 r.seeds.first r.drawn.first)
      (shares size pair.1 r.seeds.second r.drawn.second)
      j
  frame-at pair j low high =
      let size = vector_len shape in
      get_or-map-range_with_len
      (frame_with shape r.shows r.turn r.client r.epoch
      (shares size pair.0 r.seeds.first r.drawn.first)
      (shares size pair.1 r.seeds.second r.drawn.second))
      1 shape.servers (j - 1) j blank_read (omega (arith, low, high)) (omega (arith, low))

  -- its part in the bundle
  pub part-at : (pads : PadLists) (pair : ℕ × ℕ) (j : ℕ) → 1 ≤ j → j ≤ shape.servers →
      part_for pads (frames_for shape r pair) j
      ≡ part_with r.client r.turn r.epoch (masked pads.requests j (vectors_for shape pair r.drawn j))
  unfolding frame_with vectors_for
  part-at pads pair j low high =
      let size = vector_len shape in
      let of_frame = λ (f : ReadFrame). part_with f.client f.turn f.epoch (masked pads.requests j (vectors_of f)) in
      let of_vectors = λ (x y : List ℕ). part_with r.client r.turn r.epoch
      (masked pads.requests j (record { first = x; second = y })) in
      ap of_frame (frame-at pair j low high)
      ∙ (λ i. of_vectors (vector-at size pair.0 (j - 1) r.seeds.first r.drawn.first i)
      (vector-at size pair.1 (j - 1) r.seeds.second r.drawn.second i))

  vector-sized : (bucket : ℕ) (drawn : List (List ℕ)) (j : ℕ) → length drawn ≡ shape.servers - 1 →
      AllSized (vector_len shape) drawn → 1 ≤ j → j ≤ shape.servers →
      length (get_or (completed (vector_len shape) bucket drawn) (j - 1) []) ≡ vector_len shape
  vector-sized bucket drawn j counted sized low high =
      let size = vector_len shape in
      let last = last_share size bucket drawn in
      All-from_recursion (λ (v : List ℕ). length v ≡ size) (drawn ++ last ∷ [])
      (AllSized-append size drawn (last ∷ []) sized (length-last_share size bucket drawn sized, tt))
      (j - 1) [] (omega (arith, length-append drawn (last ∷ []), counted, low, high))

  vectors-sized : (pair : ℕ × ℕ) (j : ℕ) → 1 ≤ j → j ≤ shape.servers →
      HasHalves (vector_len shape) (vectors_for shape pair r.drawn j)
  unfolding vectors_for
  vectors-sized pair j low high =
      record {
        first = vector-sized pair.0 r.drawn.first j whole.first_each whole.first_sized low high;
        second = vector-sized pair.1 r.drawn.second j whole.second_each whole.second_sized low high;
      }

  -- what it replies
  pub served-at : (blocks : List (List ℕ)) (pads : PadLists) (pair : ℕ × ℕ) (j : ℕ) →
      ArePads shape pads → 1 ≤ j → j ≤ shape.servers →
      served_part shape blocks pads j (part_for pads (frames_for shape r pair) j)
      ≡ part_with r.client r.turn r.epoch
      (masked pads.replies j (sums_for shape blocks (vectors_for shape pair r.drawn j)))
  served-at blocks pads pair j are low high =
      ap (served_part shape blocks pads j) (part-at pads pair j low high)
      ∙ ap (λ (x : Halves). part_with r.client r.turn r.epoch
      (masked pads.replies j (sums_for shape blocks x)))
      (masked-twice shape (vector_len shape) pads.requests are.requests_counted are.requests_sized
      j (vectors_for shape pair r.drawn j) high (vectors-sized pair j low high))

  -- ---- the last server, and all others

  -- a server that isn't the last is asked with its drawn vectors, whatever is read
  pub drawn-asked : (old new : ℕ × ℕ) (j : ℕ) → 1 ≤ j → j < shape.servers →
      vectors_for shape old r.drawn j ≡ vectors_for shape new r.drawn j
  unfolding vectors_for
  drawn-asked old new j low high = λ i. record {
    first = same old.0 new.0 r.drawn.first whole.first_each i;
    second = same old.1 new.1 r.drawn.second whole.second_each i;
  }
    where
      same : (a b : ℕ) (vs : List (List ℕ)) → length vs ≡ shape.servers - 1 →
          get_or (completed (vector_len shape) a vs) (j - 1) []
          ≡ get_or (completed (vector_len shape) b vs) (j - 1) []
      same a b vs counted =
          get_or_append_left vs (last_share (vector_len shape) a vs ∷ []) [] (j - 1)
          (omega (arith, counted, low, high))
          ∙ sym (get_or_append_left vs (last_share (vector_len shape) b vs ∷ []) [] (j - 1)
          (omega (arith, counted, low, high)))

  -- the drawn vectors joined
  pub all_drawn : Halves
  all_drawn =
      record {
        first = xor_all (vector_len shape) r.drawn.first;
        second = xor_all (vector_len shape) r.drawn.second;
      }

  -- the last one is asked with the unit vectors mixed with them
  pub last-asked : (pair : ℕ × ℕ) →
      vectors_for shape pair r.drawn shape.servers ≡ mixed (units_of shape pair) all_drawn
  unfolding vectors_for all_drawn
  last-asked pair = λ i. record {
    first = get_or_push r.drawn.first (last_share (vector_len shape) pair.0 r.drawn.first) []
        (shape.servers - 1) whole.first_each i;
    second = get_or_push r.drawn.second (last_share (vector_len shape) pair.1 r.drawn.second) []
        (shape.servers - 1) whole.second_each i;
  }

-- ---- blocks

-- what a last share chooses: the bucket's block, and what the drawn vectors choose together
last-sum : (width size i : ℕ) (blocks drawn : List (List ℕ)) → AllSized width blocks →
    length blocks ≡ 8 * size → AllSized size drawn → i < length blocks →
    chosen_sum width blocks (last_share size i drawn)
    ≡ xor_bytes (slice_index_or blocks i []) (chosen_sum width blocks (xor_all size drawn))
last-sum width size i blocks drawn sized counted vectors within =
    let unit = unit_vector size i in
    let all = xor_all size drawn in
    chosen_sum-joined width blocks unit all sized
    (length-unit_vector size i ∙ sym (length-xor_all size drawn vectors))
    ∙ ap (λ x. xor_bytes x (chosen_sum width blocks all))
    (sym (get_or_from_slice_get blocks i (chosen_sum width blocks unit) []
    (unit-chosen width size i blocks sized counted within)))

-- the last server's sums are the blocks of the buckets mixed with what the drawn vectors choose
pub last-replied : (shape : Shape) (r : DrawnRead) (whole : AreWhole shape r.drawn)
    (blocks : List (List ℕ)) (pair : ℕ × ℕ) → AreBlocks shape blocks → AreBuckets shape pair →
    sums_for shape blocks (vectors_for shape pair r.drawn shape.servers)
    ≡ mixed (blocks_at blocks pair) (sums_for shape blocks (all_drawn shape r whole))
unfolding all_drawn
last-replied shape r whole blocks pair are within =
    let bits = are.counted ∙ vector_bits shape in
    ap (sums_for shape blocks) (last-asked shape r whole pair)
    ∙ (λ i. record {
      first = last-sum (width shape) (vector_len shape) pair.0 blocks r.drawn.first are.sized bits
          whole.first_sized (omega (arith, within.first, are.counted)) i;
      second = last-sum (width shape) (vector_len shape) pair.1 blocks r.drawn.second are.sized
          bits whole.second_sized (omega (arith, within.second, are.counted)) i;
    })

-- units and blocks have the sizes of vectors and sums
pub units-sized : (shape : Shape) (pair : ℕ × ℕ) → HasHalves (vector_len shape) (units_of shape pair)
units-sized shape pair =
    record {
      first = length-unit_vector (vector_len shape) pair.0;
      second = length-unit_vector (vector_len shape) pair.1;
    }

pub blocks-sized : (shape : Shape) (blocks : List (List ℕ)) (pair : ℕ × ℕ) → AreBlocks shape blocks →
    AreBuckets shape pair → HasHalves (width shape) (blocks_at blocks pair)
blocks-sized shape blocks pair are within =
    let wide = λ (v : List ℕ). length v ≡ width shape in
    record {
      first = All-from_recursion wide blocks are.sized pair.0 []
          (omega (arith, within.first, are.counted));
      second = All-from_recursion wide blocks are.sized pair.1 []
          (omega (arith, within.second, are.counted));
    }
