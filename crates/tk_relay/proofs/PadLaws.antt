-- Pads in bytes: of which sizes they are, where each stands, and those of a seed.
use Rattle.std.proofs.Common.{◌≡◌, ℕ, zero, suc, ◌+◌, ◌-◌, ◌*◌, ◌≤◌, List, [], ◌∷◌, ◌++◌, length, map, take, drop}
use Rattle.std.proofs.Common.{flat_map, refl, ap, ap₂, sym, subst, ◌∙◌, arith, append_assoc, append-nil}
use Rattle.std.specs.List.{range_with_len, AllByRecursion}
use Rattle.std.proofs.Math.Nat.{mul-le-mul_right}
use Rattle.std.proofs.lemmas.List.Elements.{All-from_recursion}
use Rattle.std.proofs.lemmas.List.{length-append, length-take-le, length-drop, drop_at}
use Rattle.tk_lists.proofs.Offers.{flat_map-range_more}
use Rattle.tk_shape.specs.declared.shape.Shape.{Shape}
use Rattle.tk_shape.specs.Lengths.{vector_len, width}
use Rattle.tk_handle.proofs.Offers.{length-key_bytes}
use Rattle.tk_relay.specs.Halves.{Halves, HasHalves, blank_halves, halves_in}
use Rattle.tk_relay.specs.Pads.{ArePads, pads_in, pads_len, request_len, reply_pad_len, halves_list}
use Rattle.tk_relay.specs.Pads.{pad_of, secret_of, both_pads, request_bytes, reply_bytes, keyed_pads}
use Rattle.tk_relay.proofs.Cutting.{length-halves_list, each-sized, halves-at, halves-more}

sub-one : (j others : ℕ) → j ≤ others + 1 → j - 1 ≤ others
sub-one j others high = omega (arith, high)

module _ (shape : Shape) (bytes : List ℕ) (long : length bytes ≡ pads_len shape) where
  -- the request pads take so many bytes, and the reply pads have all others
  pub requests-within : (shape.servers - 1) * request_len shape ≤ length bytes
  requests-within = omega (arith, long)

  pub replies-long : length (drop ((shape.servers - 1) * request_len shape) bytes)
      ≡ (shape.servers - 1) * reply_pad_len shape
  replies-long =
      omega (arith, long, length-drop ((shape.servers - 1) * request_len shape) bytes)

  pub pads-are : ArePads shape (pads_in shape bytes)
  pads-are =
      let others = shape.servers - 1 in
      let rest = drop (others * request_len shape) bytes in
      record {
        requests_counted = length-halves_list (vector_len shape) others bytes;
        requests_sized = each-sized (vector_len shape) others bytes requests-within;
        replies_counted = length-halves_list (width shape) others rest;
        replies_sized = each-sized (width shape) others rest (omega (arith, replies-long));
      }

-- a pad of a server other than the first has the size of the others
pub pad-sized : (shape : Shape) (n : ℕ) (pads : List Halves) → length pads ≡ shape.servers - 1 →
    AllByRecursion (HasHalves n) pads → (j : ℕ) → 2 ≤ j → j ≤ shape.servers →
    HasHalves n (pad_of pads j)
pad-sized shape n pads counted sized j low high =
    All-from_recursion (HasHalves n) pads sized (j - 2) blank_halves
    (omega (arith, counted, low, high))

-- where a pad stands among others
pub pad-stands : (size count j : ℕ) (bytes : List ℕ) → 2 ≤ j → j ≤ count + 1 →
    pad_of (halves_list size count bytes) j
    ≡ halves_in size (take (2 * size) (drop ((j - 2) * (2 * size)) bytes))
pad-stands size count j bytes low high = halves-at size count (j - 2) bytes (omega (arith, low, high))

-- so many pads and the next one are within the bytes of more
pub pads-within : (j others each : ℕ) (long : ℕ) → j ≤ others + 1 → others * each ≤ long →
    (j - 1) * each ≤ long
pads-within j others each long high enough =
    let less = mul-le-mul_right each (sub-one j others high) in omega (arith, less, enough)

-- ---- pads of a seed

-- as many as there are numbers, one after the other
length-made : (f : ℕ → List ℕ) (long : ℕ) → ((j : ℕ) → length (f j) ≡ long) → (a n : ℕ) →
    length (flat_map f (range_with_len a n)) ≡ n * long
length-made f long each a zero = let none : 0 * long ≡ 0 = omega arith in sym none
length-made f long each a (suc n) =
    let more : suc n * long ≡ long + n * long = omega arith in
    length-append (f a) (flat_map f (range_with_len (a + 1) n))
    ∙ ap₂ (λ (x y : ℕ). x + y) (each a) (length-made f long each (a + 1) n)
    ∙ sym more

-- which are cut again, whatever comes after them
made-cut : (f : ℕ → List ℕ) (size : ℕ) → ((j : ℕ) → length (f j) ≡ 2 * size) → (a n : ℕ)
    (rest : List ℕ) →
    halves_list size n (flat_map f (range_with_len a n) ++ rest)
    ≡ map (λ j. halves_in size (f j)) (range_with_len a n)
made-cut f size each a zero rest = refl
made-cut f size each a (suc n) rest =
    let others = flat_map f (range_with_len (a + 1) n) in
    ap (halves_list size (suc n)) (append_assoc (f a) others rest)
    ∙ halves-more size n (f a) (others ++ rest) (each a)
    ∙ ap (λ (xs : List Halves). halves_in size (f a) ∷ xs) (made-cut f size each (a + 1) n rest)

-- what one more server gives comes after what those before it gave
pub made-next : (f : ℕ → List ℕ) (server : ℕ) (done new piece : List ℕ) → 2 ≤ server →
    done ≡ flat_map f (range_with_len 2 (server - 2)) → new ≡ done ++ piece → piece ≡ f server →
    new ≡ flat_map f (range_with_len 2 (server + 1 - 2))
made-next f server done new piece low so_far is piece_is =
    is
    ∙ ap₂ (λ (xs ys : List ℕ). xs ++ ys) so_far piece_is
    ∙ sym (flat_map-range_more f 2 (server - 2) server (omega (arith, low)))
    ∙ ap (λ n. flat_map f (range_with_len 2 n)) (omega (arith, low))

module _ (shape : Shape) (seed : List ℕ) (turn : ℕ) where
  pub both-long : (j : ℕ) →
      length (both_pads shape seed turn j) ≡ request_len shape + reply_pad_len shape
  both-long j =
      length-key_bytes (secret_of seed j) turn 0 (request_len shape + reply_pad_len shape)

  request-long : (j : ℕ) → length (request_bytes shape seed turn j) ≡ request_len shape
  request-long j =
      length-take-le (request_len shape) (both_pads shape seed turn j) (omega (arith, both-long j))

  reply-long : (j : ℕ) → length (reply_bytes shape seed turn j) ≡ reply_pad_len shape
  reply-long j =
      omega (arith, both-long j, length-drop (request_len shape) (both_pads shape seed turn j))

  -- the bytes of all pads
  pub keyed_bytes : List ℕ
  keyed_bytes =
      let servers = range_with_len 2 (shape.servers - 1) in
      flat_map (request_bytes shape seed turn) servers
      ++ flat_map (reply_bytes shape seed turn) servers

  pub length-keyed_bytes : length keyed_bytes ≡ pads_len shape
  unfolding keyed_bytes
  length-keyed_bytes =
      let others = shape.servers - 1 in
      let requests = flat_map (request_bytes shape seed turn) (range_with_len 2 others) in
      let replies = flat_map (reply_bytes shape seed turn) (range_with_len 2 others) in
      omega (
        arith,
        length-append requests replies,
        length-made (request_bytes shape seed turn) (request_len shape) request-long 2 others,
        length-made (reply_bytes shape seed turn) (reply_pad_len shape) reply-long 2 others,
      )

  pub keyed-in : pads_in shape keyed_bytes ≡ keyed_pads shape seed turn
  unfolding keyed_bytes keyed_pads
  keyed-in =
      let others = shape.servers - 1 in
      let requests = flat_map (request_bytes shape seed turn) (range_with_len 2 others) in
      let replies = flat_map (reply_bytes shape seed turn) (range_with_len 2 others) in
      let made = made-cut (reply_bytes shape seed turn) (width shape) reply-long 2 others [] in
      λ i. record {
        requests = made-cut (request_bytes shape seed turn) (vector_len shape) request-long 2
            others replies i;
        replies =
            (ap (halves_list (width shape) others)
            (drop_at requests replies (others * request_len shape)
            (length-made (request_bytes shape seed turn) (request_len shape) request-long 2 others)
            ∙ sym (append-nil replies))
            ∙ made) i;
      }

  -- what all servers' pads are one after the other
  -- they are pads of the shape
  pub keyed-are : ArePads shape (keyed_pads shape seed turn)
  keyed-are = subst (ArePads shape) keyed-in (pads-are shape keyed_bytes length-keyed_bytes)

  pub keyed-joined : (server : ℕ) (requests replies all : List ℕ) → server ≡ shape.servers + 1 →
      requests ≡ flat_map (request_bytes shape seed turn) (range_with_len 2 (server - 2)) →
      replies ≡ flat_map (reply_bytes shape seed turn) (range_with_len 2 (server - 2)) →
      all ≡ requests ++ replies → all ≡ keyed_bytes
  unfolding keyed_bytes
  keyed-joined server requests replies all last requests_are replies_are is =
      let each : server - 2 ≡ shape.servers - 1 = omega (arith, last) in
      is
      ∙ ap₂ (λ (xs ys : List ℕ). xs ++ ys)
      (requests_are ∙ ap (λ n. flat_map (request_bytes shape seed turn) (range_with_len 2 n)) each)
      (replies_are ∙ ap (λ n. flat_map (reply_bytes shape seed turn) (range_with_len 2 n)) each)
