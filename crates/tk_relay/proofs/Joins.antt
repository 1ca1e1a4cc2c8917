-- Masked replies joined, and their masks taken off.
use Rattle.std.proofs.Common.{◌≡◌, ℕ, suc, ◌+◌, ◌-◌, ◌≤◌, ◌<◌, cond, List, [], ◌∷◌, length, map, replicate}
use Rattle.std.proofs.Common.{refl, ap, sym, subst, ◌∙◌, arith}
use Rattle.std.specs.List.{range_with_len, AllByRecursion}
use Rattle.std.proofs.lemmas.Bool.{lt-ltb}
use Rattle.std.proofs.lemmas.List.{length-map}
use Rattle.std.proofs.lemmas.List.FromFn.{get_or-map-range_with_len}
use Rattle.std.proofs.lemmas.List.Elements.{All-from_recursion, recursion_from_All, All-from_get_or}
use Rattle.tk_shape.specs.declared.shape.Shape.{Shape}
use Rattle.tk_shape.specs.Lengths.{vector_len, width}
use Rattle.tk_kernel.specs.Xor.{xor_all}
use Rattle.tk_frames.specs.declared.read_frame.ReadFrame.{ReadFrame}
use Rattle.tk_frames.specs.declared.reply_frame.ReplyFrame.{ReplyFrame}
use Rattle.tk_frames.specs.Order.{Record}
use Rattle.tk_table.specs.Table.{layout, blocks_of}
use Rattle.tk_table.specs.Ordered.{AreOrdered}
use Rattle.tk_table.specs.Laws.{IsStorable}
use Rattle.tk_table.proofs.Offers.{layout-laid_out, layout-read_back}
use Rattle.tk_report.proofs.Offers.{map-map, map-range, each-made}
use Rattle.tk_report.specs.Exchange.{blank_read}
use Rattle.tk_relay.specs.declared.part.Part.{Part}
use Rattle.tk_relay.specs.Halves.{Halves, HasHalves, blank_halves, mixed, joined}
use Rattle.tk_relay.specs.Pads.{PadLists, ArePads, pad_of, masked}
use Rattle.tk_relay.specs.Parts.{halves_of, first_part, blank_part}
use Rattle.tk_relay.specs.Bundles.{AreOneRead, IsAlong, vectors_of, frame_of, part_for}
use Rattle.tk_relay.specs.Serving.{sums_for, served_part, gathered_part}
use Rattle.tk_relay.specs.Replies.{reply_with, reply_over, unmasked, zero_halves, replies_from}
use Rattle.tk_relay.specs.Sights.{AreBlocks}
use Rattle.tk_relay.specs.Laws.{all_served, JoinAlike, RepliesJoin, HonestRepliesJoin}
use Rattle.tk_relay.proofs.Lists.{list-again, map-replicate}
use Rattle.tk_relay.proofs.Mixing.{mixed-assoc, mixed-comm, mixed-off, zeros-mixed}
use Rattle.tk_relay.proofs.Mixing.{joined-sized, joined-zeros, joined-mixed}
use Rattle.tk_relay.proofs.Masks.{masked-sized}
use Rattle.tk_relay.proofs.Asking.{sums-sized, served-for}

-- ---- masked halves of all servers

module _ (n servers : ℕ) (pads : List Halves) (s : ℕ → Halves)
    (counted : length pads ≡ servers - 1) (several : 2 ≤ servers)
    (pads_sized : AllByRecursion (HasHalves n) pads) (sized : (j : ℕ) → HasHalves n (s j)) where
  first-apart : range_with_len 1 servers ≡ 1 ∷ range_with_len 2 (servers - 1)
  first-apart = ap (range_with_len 1) more
    where
      more : servers ≡ suc (servers - 1)
      more = omega (arith, several)

  others-masked : map (λ j. masked pads j (s j)) (range_with_len 2 (servers - 1))
      ≡ map (λ j. mixed (s j) (pad_of pads j)) (range_with_len 2 (servers - 1))
  others-masked =
      map-range (λ j. masked pads j (s j)) (λ j. mixed (s j) (pad_of pads j)) 2 (servers - 1)
      (λ j low high. ap (λ b. cond b (mixed (s j) (pad_of pads j)) (s j))
      (lt-ltb 1 j (omega (arith, low))))

  pads-again : map (pad_of pads) (range_with_len 2 (servers - 1)) ≡ pads
  pads-again =
      ap (λ k. map (pad_of pads) (range_with_len 2 k)) (sym counted)
      ∙ list-again pads 2 blank_halves

  -- they join to all halves and all pads
  masked-join : joined n (map (λ j. masked pads j (s j)) (range_with_len 1 servers))
      ≡ mixed (joined n (map s (range_with_len 1 servers))) (joined n pads)
  masked-join =
      let js = range_with_len 2 (servers - 1) in
      ap (λ (ks : List ℕ). joined n (map (λ j. masked pads j (s j)) ks)) first-apart
      ∙ ap (λ (xs : List Halves). mixed (s 1) (joined n xs)) others-masked
      ∙ ap (mixed (s 1)) (joined-mixed n s (pad_of pads) js
      ∙ ap (λ (xs : List Halves). mixed (joined n (map s js)) (joined n xs)) pads-again)
      ∙ sym (mixed-assoc (s 1) (joined n (map s js)) (joined n pads))
      ∙ sym (ap (λ (ks : List ℕ). mixed (joined n (map s ks)) (joined n pads)) first-apart)

  -- so without the pads, and with zeros beside, they join to the halves
  pub unmasked-join : (k : ℕ) →
      joined n (mixed (joined n (map (λ j. masked pads j (s j)) (range_with_len 1 servers)))
      (joined n pads) ∷ replicate k (zero_halves n))
      ≡ joined n (map s (range_with_len 1 servers))
  unmasked-join k =
      let all = joined n (map s (range_with_len 1 servers)) in
      let one = joined n (map (λ j. masked pads j (s j)) (range_with_len 1 servers)) in
      let all_sized = joined-sized n (map s (range_with_len 1 servers))
      (each-made (HasHalves n) s 1 servers (λ j low high. sized j)) in
      let mask_sized = joined-sized n pads pads_sized in
      ap (mixed (mixed one (joined n pads))) (joined-zeros n k)
      ∙ ap (λ (x : Halves). mixed (mixed x (joined n pads)) (zero_halves n)) masked-join
      ∙ ap (λ (x : Halves). mixed x (zero_halves n))
      (mixed-off n all (joined n pads) all_sized mask_sized)
      ∙ mixed-comm all (zero_halves n)
      ∙ zeros-mixed n all all_sized

-- ---- replies

-- the sums of a reply
sums_in : ReplyFrame → Halves
sums_in r = record { first = r.first; second = r.second }

-- replies whose sums join to the same join alike
join-alike : (shape : Shape) (a b : List ReplyFrame) →
    joined (width shape) (map sums_in a) ≡ joined (width shape) (map sums_in b) →
    JoinAlike shape a b
unfolding sums_in
join-alike shape a b same =
    let all = xor_all (width shape) in
    record {
      first =
          sym (ap all (map-map (λ (x : Halves). x.first) sums_in a))
          ∙ ap (λ (x : Halves). x.first) same
          ∙ ap all (map-map (λ (x : Halves). x.first) sums_in b);
      second =
          sym (ap all (map-map (λ (x : Halves). x.second) sums_in a))
          ∙ ap (λ (x : Halves). x.second) same
          ∙ ap all (map-map (λ (x : Halves). x.second) sums_in b);
    }

-- ---- the one reply of a read

module _ (shape : Shape) (blocks : List (List ℕ)) (pads : PadLists) (frames : List ReadFrame)
    (whole : AreBlocks shape blocks) (are : ArePads shape pads) (one : AreOneRead shape frames) where
  js : List ℕ
  js = range_with_len 1 shape.servers

  -- a server's sums
  sums : ℕ → Halves
  sums j = sums_for shape blocks (vectors_of (frame_of frames j))

  served : ℕ → Part
  served j = served_part shape blocks pads j (part_for pads frames j)

  frame-sized : (j : ℕ) → 1 ≤ j → j ≤ shape.servers →
      HasHalves (vector_len shape) (vectors_of (frame_of frames j))
  frame-sized j low high =
      let several = shape.in_range.servers_low in
      (All-from_recursion (IsAlong shape (frame_of frames 1)) frames one.along (j - 1) blank_read
      (omega (arith, one.counted, low, high))).vectors

  -- the halves of its reply
  served-halves : (j : ℕ) → 1 ≤ j → j < 1 + shape.servers →
      halves_of (served j) ≡ masked pads.replies j (sums j)
  unfolding served sums
  served-halves j low high =
      ap halves_of (served-for shape blocks pads frames j are (omega (arith, high))
      (frame-sized j low (omega (arith, high))))

  all-served : map halves_of (all_served shape blocks pads frames)
      ≡ map (λ j. masked pads.replies j (sums j)) js
  unfolding served js
  all-served =
      map-map halves_of served js
      ∙ map-range (λ j. halves_of (served j)) (λ j. masked pads.replies j (sums j)) 1 shape.servers
      served-halves

  first-sized : HasHalves (width shape) (halves_of (served 1))
  unfolding sums
  first-sized =
      let several = shape.in_range.servers_low in
      subst (HasHalves (width shape)) (sym (served-halves 1 (omega arith) (omega (arith, several))))
      (masked-sized shape (width shape) pads.replies are.replies_counted are.replies_sized 1
      (sums 1) (omega (arith, several))
      (sums-sized shape blocks (vectors_of (frame_of frames 1)) whole.sized))

  first-served : first_part (all_served shape blocks pads frames) ≡ served 1
  unfolding served
  first-served =
      let several = shape.in_range.servers_low in
      get_or-map-range_with_len served 1 shape.servers 0 1 blank_part (omega (arith, several)) refl

  -- the halves of the one reply
  gathered-halves : halves_of (gathered_part (all_served shape blocks pads frames))
      ≡ joined (width shape) (map (λ j. masked pads.replies j (sums j)) js)
  unfolding gathered_part
  gathered-halves =
      let first = ap (λ (p : Part). length p.first) first-served ∙ first-sized.first in
      let second = ap (λ (p : Part). length p.second) first-served ∙ first-sized.second in
      λ i. record {
        first = (joined (first i) (all-served i)).first;
        second = (joined (second i) (all-served i)).second;
      }

  -- it is of the read of the frames, and has the size of sums
  pub gathered-client : (gathered_part (all_served shape blocks pads frames)).client
      ≡ (frame_of frames 1).client
  unfolding gathered_part served
  gathered-client = ap (λ (p : Part). p.client) first-served

  pub gathered-turn : (gathered_part (all_served shape blocks pads frames)).turn
      ≡ (frame_of frames 1).turn
  unfolding gathered_part served
  gathered-turn = ap (λ (p : Part). p.turn) first-served

  pub gathered-epoch : (gathered_part (all_served shape blocks pads frames)).epoch
      ≡ (frame_of frames 1).epoch
  unfolding gathered_part served
  gathered-epoch = ap (λ (p : Part). p.epoch) first-served

  served-sized : (j : ℕ) → j ≤ shape.servers →
      HasHalves (width shape) (masked pads.replies j (sums j))
  unfolding sums
  served-sized j high =
      masked-sized shape (width shape) pads.replies are.replies_counted are.replies_sized j (sums j)
      high (sums-sized shape blocks (vectors_of (frame_of frames j)) whole.sized)

  pub gathered-sized : HasHalves (width shape)
      (halves_of (gathered_part (all_served shape blocks pads frames)))
  unfolding js
  gathered-sized =
      subst (HasHalves (width shape)) (sym gathered-halves)
      (joined-sized (width shape) (map (λ j. masked pads.replies j (sums j)) js)
      (each-made (HasHalves (width shape)) (λ j. masked pads.replies j (sums j)) 1 shape.servers
      (λ j low high. served-sized j (omega (arith, high)))))

  -- and so has each reply of a server
  pub all-sized : AllByRecursion (λ (p : Part). HasHalves (width shape) (halves_of p))
      (all_served shape blocks pads frames)
  unfolding served
  all-sized =
      each-made (λ (p : Part). HasHalves (width shape) (halves_of p)) served 1 shape.servers
      (λ j low high. subst (HasHalves (width shape)) (sym (served-halves j low high))
      (served-sized j (omega (arith, high))))

  replies-join : joined (width shape) (map sums_in (replies_from shape pads
      (gathered_part (all_served shape blocks pads frames))))
      ≡ joined (width shape) (map sums js)
  unfolding sums_in replies_from sums js
  replies-join =
      let n = width shape in
      let k = shape.servers - 1 in
      let part = gathered_part (all_served shape blocks pads frames) in
      ap (λ (xs : List Halves). joined n (unmasked shape pads part ∷ xs))
      (map-replicate sums_in k (reply_with part (zero_halves n)))
      ∙ ap (λ (x : Halves). joined n (mixed x (joined n pads.replies) ∷ replicate k (zero_halves n)))
      gathered-halves
      ∙ unmasked-join n shape.servers pads.replies sums are.replies_counted
      shape.in_range.servers_low are.replies_sized
      (λ j. sums-sized shape blocks (vectors_of (frame_of frames j)) whole.sized) k

  own-join : joined (width shape) (map sums_in (map (reply_over shape blocks) frames))
      ≡ joined (width shape) (map sums js)
  unfolding sums_in sums js
  own-join =
      let of_frame = λ (r : ReadFrame). sums_for shape blocks (vectors_of r) in
      let frames-again : map (frame_of frames) js ≡ frames =
      ap (λ n. map (frame_of frames) (range_with_len 1 n)) (sym one.counted)
      ∙ list-again frames 1 blank_read
      in
      ap (joined (width shape))
      (map-map sums_in (reply_over shape blocks) frames
      ∙ ap (map of_frame) (sym frames-again)
      ∙ map-map of_frame (frame_of frames) js)

pub replies_join : RepliesJoin
replies_join shape blocks pads frames whole are one =
    join-alike shape (replies_from shape pads (gathered_part (all_served shape blocks pads frames)))
    (map (reply_over shape blocks) frames)
    (replies-join shape blocks pads frames whole are one
    ∙ sym (own-join shape blocks pads frames whole are one))

-- ---- the blocks of a run

-- what writes leave: a block for each bucket, each of a bucket's width
pub blocks-whole : (shape : Shape) (R : List Record) → AreOrdered shape R →
    AllByRecursion (IsStorable shape) R → AreBlocks shape (blocks_of (layout shape R))
blocks-whole shape R ordered storable =
    let blocks = blocks_of (layout shape R) in
    let wide = λ (v : List ℕ). length v ≡ width shape in
    let each : length blocks ≡ shape.buckets =
    length-map (layout shape R) _ ∙ (layout-laid_out shape R ordered).wide
    in
    record {
      counted = each;
      sized = recursion_from_All wide blocks (All-from_get_or wide blocks [] (λ k low.
          (layout-read_back shape R k ordered storable (omega (arith, low, each))).long));
    }

pub honest_replies_join : HonestRepliesJoin
honest_replies_join shape R pads frames ordered storable are one =
    replies_join shape (blocks_of (layout shape R)) pads frames
    (blocks-whole shape R ordered storable) are one
