-- What masks the parts of a relayed read.
use Rattle.std.specs.Prelude.{◌≡◌, ℕ, ◌+◌, ◌-◌, ◌*◌, ◌^◌, nat_lt, cond, List, length, take, drop, map, slice_index_or}
use Rattle.std.specs.List.{AllByRecursion, range_with_len}
use Rattle.tk_shape.specs.declared.shape.Shape.{Shape}
use Rattle.tk_shape.specs.Lengths.{vector_len, width}
use Rattle.tk_kernel.specs.Pieces.{pieces}
use Rattle.tk_handle.specs.Handle.{key_bytes}
use Rattle.tk_relay.specs.Halves.{Halves, HasHalves, blank_halves, halves_in, mixed}

-- the pads of a read, of servers 2 and up in their order: those of requests and those of replies
pub record PadLists : Type 0 where
  pub requests : List Halves
  pub replies : List Halves

-- the pad of a server of these
abbrev pub pad_of : List Halves → ℕ → Halves
pad_of pads server = slice_index_or pads (server - 2) blank_halves

-- what a server is asked or replies, with its pad put on or taken off; server 1 has none
abbrev pub masked : List Halves → ℕ → Halves → Halves
masked pads server x = cond (nat_lt 1 server) (mixed x (pad_of pads server)) x

-- pads of a shape: for each server but the first one for its vectors and one for its sums
pub record ArePads (shape : Shape) (pads : PadLists) : Type 0 where
  pub requests_counted : length pads.requests ≡ shape.servers - 1
  pub requests_sized : AllByRecursion (HasHalves (vector_len shape)) pads.requests
  pub replies_counted : length pads.replies ≡ shape.servers - 1
  pub replies_sized : AllByRecursion (HasHalves (width shape)) pads.replies

-- pads, and the shape of the run that they are for
pub record Padding : Type 0 where
  pub shape : Shape
  pub pads : PadLists

-- ---- pads in bytes

-- the bytes of a request pad, and those of a reply pad
abbrev pub request_len : Shape → ℕ
request_len shape = 2 * vector_len shape

abbrev pub reply_pad_len : Shape → ℕ
reply_pad_len shape = 2 * width shape

-- those of all pads
abbrev pub pads_len : Shape → ℕ
pads_len shape = (shape.servers - 1) * (request_len shape + reply_pad_len shape)

-- so many pads one after the other, each with halves of so many bytes
abbrev pub halves_list : ℕ → ℕ → List ℕ → List Halves
halves_list size count bytes = map (halves_in size) (pieces (2 * size) count bytes)

-- the request pads of servers 2 and up come first, and then their reply pads
abbrev pub pads_in : Shape → List ℕ → PadLists
pads_in shape bytes =
    let others = shape.servers - 1 in
    record {
      requests = halves_list (vector_len shape) others bytes;
      replies = halves_list (width shape) others (drop (others * request_len shape) bytes);
    }

-- ---- pads from a seed

-- the secret that a client shares with a server
abbrev pub secret_of : List ℕ → ℕ → List ℕ
secret_of seed server = key_bytes seed (2 ^ 32 + server) 0 32

-- both pads of a server for a turn: the request pad, and after it the reply pad
abbrev pub both_pads : Shape → List ℕ → ℕ → ℕ → List ℕ
both_pads shape seed turn server =
    key_bytes (secret_of seed server) turn 0 (request_len shape + reply_pad_len shape)

abbrev pub request_bytes : Shape → List ℕ → ℕ → ℕ → List ℕ
request_bytes shape seed turn server = take (request_len shape) (both_pads shape seed turn server)

abbrev pub reply_bytes : Shape → List ℕ → ℕ → ℕ → List ℕ
reply_bytes shape seed turn server = drop (request_len shape) (both_pads shape seed turn server)

unfoldable pub keyed_pads : Shape → List ℕ → ℕ → PadLists
keyed_pads shape seed turn =
    let servers = range_with_len 2 (shape.servers - 1) in
    record {
      requests = map (λ j. halves_in (vector_len shape) (request_bytes shape seed turn j)) servers;
      replies = map (λ j. halves_in (width shape) (reply_bytes shape seed turn j)) servers;
    }

-- a client's pads for a turn, of its seed
abbrev pub padding_of : Shape → List ℕ → ℕ → Padding
padding_of shape seed turn = record { shape = shape; pads = keyed_pads shape seed turn }

-- those of all clients with these seeds
abbrev pub paddings_of : Shape → List (List ℕ) → ℕ → List Padding
paddings_of shape seeds turn = map (λ seed. padding_of shape seed turn) seeds
