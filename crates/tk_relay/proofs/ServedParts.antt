-- A server's replies to parts of several reads.
use Rattle.std.proofs.Common.{◌≡◌, refl, ap, ap₂, sym, ◌∙◌, arith, ℕ, zero, suc, ◌+◌, ◌*◌, ◌<◌, List, [], ◌∷◌, ◌++◌}
use Rattle.std.proofs.Common.{length, map, take, drop}
use Rattle.std.specs.Prelude.{All, slice_index_or}
use Rattle.std.specs.List.{zip}
use Rattle.std.proofs.lemmas.List.{length-append, length-map, map-append, map_more, take_at, drop_at}
use Rattle.std.proofs.lemmas.List.Elements.{All-from_recursion}
use Rattle.tk_shape.specs.declared.shape.Shape.{Shape}
use Rattle.tk_shape.specs.Lengths.{vector_len, width}
use Rattle.tk_shape.proofs.Offers.{vector_bits}
use Rattle.tk_kernel.specs.Chosen.{chosen_sum}
use Rattle.tk_kernel.specs.Pieces.{AllSized}
use Rattle.tk_bits.proofs.Offers.{length-chosen_sum}
use Rattle.tk_relay.specs.declared.part.Part.{Part}
use Rattle.tk_relay.specs.Pads.{Padding, masked}
use Rattle.tk_relay.specs.Parts.{part_with}
use Rattle.tk_relay.specs.Serving.{AreAskedParts, AreChosenSums, first_asked, second_asked, reply_to_asked}
use Rattle.tk_relay.proofs.Aside.{asked-counted, asked-at}

-- what a function gives at a place
pub map-at : {X Y : Type 0} (f : X → Y) (xs : List X) (i : ℕ) (x : X) (y : Y) → i < length xs →
    slice_index_or (map f xs) i y ≡ f (slice_index_or xs i x)
map-at f [] i x y low = absurd (omega (arith, low))
map-at f (z ∷ xs) zero x y low = refl
map-at f (z ∷ xs) (suc i) x y low = map-at f xs i x y (omega (arith, low))

-- vectors of a shape have a bit for each of as many blocks as it has buckets
pub bits-each : (shape : Shape) (count : ℕ) (vectors : List (List ℕ)) →
    AllSized (vector_len shape) vectors → count ≡ shape.buckets →
    All (λ v. 8 * length v ≡ count) vectors
bits-each shape count vectors sized counted k d low =
    let here = All-from_recursion (λ (v : List ℕ). length v ≡ vector_len shape) vectors sized k d low in
    omega (arith, here, counted, vector_bits shape)

pub two-each : (f h : Padding × Part → List ℕ) (asked : List (Padding × Part))
    (vectors : List (List ℕ)) → vectors ≡ map f asked ++ map h asked →
    length vectors ≡ length asked + length asked
two-each f h asked vectors are =
    ap length are ∙ length-append (map f asked) (map h asked)
    ∙ ap₂ (λ (m n : ℕ). m + n) (length-map asked f) (length-map asked h)

-- ---- one more part

module _ {shape : Shape} {server : ℕ} {pads : List Padding} {parts : List Part}
    (are : AreAskedParts shape server pads parts) where
  -- what is made of the parts so far, with what is made of the next
  pub made-more : {Y : Type 0} (f : Padding × Part → Y) (i : ℕ) (p : Padding) (q : Part)
      (old new : List Y) (y : Y) → i < length parts → p ≡ slice_index_or pads i p →
      q ≡ slice_index_or parts i q → y ≡ f (p, q) → new ≡ old ++ y ∷ [] →
      old ≡ map f (take i (zip pads parts)) → new ≡ map f (take (i + 1) (zip pads parts))
  made-more {Y} f i p q old new y low p_is q_is is pushed so_far =
      let asked = zip pads parts in
      let within : i < length asked = omega (arith, low, asked-counted are) in
      let here : f (p, q) ≡ f (slice_index_or asked i (p, q)) =
      ap₂ (λ (x : Padding) (z : Part). f (x, z)) p_is q_is
      ∙ ap f (sym (asked-at are i p q low))
      in
      pushed
      ∙ ap₂ (λ (xs : List Y) (x : Y). xs ++ x ∷ []) so_far (is ∙ here)
      ∙ sym (map_more f asked i (p, q) within)

-- ---- the sums of all vectors

-- they are cut in two
pub sums-cut : {shape : Shape} {blocks : List (List ℕ)} {server : ℕ} {asked : List (Padding × Part)}
    {vectors sums first second : List (List ℕ)} {n : ℕ} → AllSized (width shape) blocks →
    vectors ≡ map (first_asked server) asked ++ map (second_asked server) asked →
    sums ≡ map (chosen_sum (width shape) blocks) vectors → length asked ≡ n →
    first ≡ take n sums → second ≡ drop n sums →
    AreChosenSums shape blocks server asked first second
sums-cut {shape} {blocks} {server} {asked} {vectors} {sums} {n = n} sized vectors_are sums_are counted first_is second_is =
    let f = chosen_sum (width shape) blocks in
    let a = map f (map (first_asked server) asked) in
    let b = map f (map (second_asked server) asked) in
    let all = sums_are ∙ ap (map f) vectors_are
    ∙ map-append f (map (first_asked server) asked) (map (second_asked server) asked)
    in
    let long : length a ≡ n =
    length-map (map (first_asked server) asked) f ∙ length-map asked (first_asked server) ∙ counted
    in
    record {
      sized = sized;
      first_are = first_is ∙ ap (take n) all ∙ take_at a b n long;
      second_are = second_is ∙ ap (drop n) all ∙ drop_at a b n long;
    }

pub sum-long : (shape : Shape) (blocks : List (List ℕ)) (vector : List ℕ) →
    AllSized (width shape) blocks → length (chosen_sum (width shape) blocks vector) ≡ width shape
sum-long shape blocks vector sized = length-chosen_sum (width shape) blocks vector sized

module _ {shape : Shape} {blocks : List (List ℕ)} {server : ℕ} {pads : List Padding}
    {parts : List Part} {first second : List (List ℕ)} (are : AreAskedParts shape server pads parts)
    (sums : AreChosenSums shape blocks server (zip pads parts) first second) where
  pub first-counted : length first ≡ length parts
  first-counted =
      ap length sums.first_are
      ∙ length-map (map (first_asked server) (zip pads parts)) (chosen_sum (width shape) blocks)
      ∙ length-map (zip pads parts) (first_asked server)
      ∙ asked-counted are

  pub second-counted : length second ≡ length parts
  second-counted =
      ap length sums.second_are
      ∙ length-map (map (second_asked server) (zip pads parts)) (chosen_sum (width shape) blocks)
      ∙ length-map (zip pads parts) (second_asked server)
      ∙ asked-counted are

  -- the sums at a place
  sum-at : (f : Padding × Part → List ℕ) (all : List (List ℕ)) (i : ℕ) (p : Padding) (q : Part)
      (d : List ℕ) → all ≡ map (chosen_sum (width shape) blocks) (map f (zip pads parts)) →
      i < length parts → p ≡ slice_index_or pads i p → q ≡ slice_index_or parts i q →
      slice_index_or all i d ≡ chosen_sum (width shape) blocks (f (p, q))
  sum-at f all i p q d all_are low p_is q_is =
      let asked = zip pads parts in
      let within : i < length asked = omega (arith, low, asked-counted are) in
      let deep : i < length (map f asked) = omega (arith, within, length-map asked f) in
      ap (λ (xs : List (List ℕ)). slice_index_or xs i d) all_are
      ∙ map-at (chosen_sum (width shape) blocks) (map f asked) i [] d deep
      ∙ ap (chosen_sum (width shape) blocks) (map-at f asked i (p, q) [] within
      ∙ ap f (asked-at are i p q low)
      ∙ sym (ap₂ (λ (x : Padding) (z : Part). f (x, z)) p_is q_is))

  pub first-at : (i : ℕ) (p : Padding) (q : Part) (d : List ℕ) → i < length parts →
      p ≡ slice_index_or pads i p → q ≡ slice_index_or parts i q →
      slice_index_or first i d ≡ chosen_sum (width shape) blocks (first_asked server (p, q))
  first-at i p q d low p_is q_is =
      sum-at (first_asked server) first i p q d sums.first_are low p_is q_is

  pub second-at : (i : ℕ) (p : Padding) (q : Part) (d : List ℕ) → i < length parts →
      p ≡ slice_index_or pads i p → q ≡ slice_index_or parts i q →
      slice_index_or second i d ≡ chosen_sum (width shape) blocks (second_asked server (p, q))
  second-at i p q d low p_is q_is =
      sum-at (second_asked server) second i p q d sums.second_are low p_is q_is

  -- the reply with them
  pub reply-at : (p : Padding) (q reply : Part) (one other : List ℕ) →
      one ≡ chosen_sum (width shape) blocks (first_asked server (p, q)) →
      other ≡ chosen_sum (width shape) blocks (second_asked server (p, q)) →
      reply ≡ part_with q.client q.turn q.epoch
      (masked p.pads.replies server (record { first = one; second = other })) →
      reply ≡ reply_to_asked shape blocks server (p, q)
  reply-at p q reply one other one_is other_is is =
      is ∙ (λ i. part_with q.client q.turn q.epoch
      (masked p.pads.replies server (record { first = one_is i; second = other_is i })))
