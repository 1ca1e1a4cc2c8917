-- A read cell whose hidden vectors are changed, piece by piece.
use Rattle.std.proofs.Common.{◌≡◌, ◌≢◌, ℕ, zero, suc, ◌+◌, ◌-◌, ◌*◌, ◌≤◌, ◌<◌, true, false, cond}
use Rattle.std.proofs.Common.{List, [], ◌∷◌, ◌++◌, length, map, take, drop, get_or, set, refl}
use Rattle.std.proofs.Common.{ap, ap₂, sym, subst, ◌∙◌, arith, append_assoc, length-append}
use Rattle.std.proofs.Common.{length-drop, take-append-drop, append-nil, ltb-true, ltb-false, inl, inr}
use Rattle.std.specs.Prelude.{nat_lt}
use Rattle.std.specs.List.{concat}
use Rattle.std.proofs.lemmas.Bool.{cases_lt, lt-ltb}
use Rattle.std.proofs.lemmas.List.{take_all, length-map, length-take-le, set-get_or, length-set}
use Rattle.std.proofs.lemmas.List.{get_or-set_same, get_or-set_other, get_or_append_left, get_or_push, take_at, drop_at}
use Rattle.tk_shape.specs.declared.shape.Shape.{Shape}
use Rattle.tk_shape.specs.Lengths.{seed_len, vector_len, piece_len, read_cell_len}
use Rattle.tk_kernel.specs.Xor.{xor_bytes, xor_all}
use Rattle.tk_kernel.specs.Pieces.{pieces, AllSized}
use Rattle.tk_kernel.proofs.Offers.{xor_bytes_assoc, xor_bytes_comm, xor_bytes_twice}
use Rattle.tk_kernel.proofs.Offers.{length-xor_all, AllSized-map, AllSized-set, length-concat}
use Rattle.tk_kernel.proofs.Offers.{concat-pieces, length-pieces, AllSized-pieces, pieces-append}
use Rattle.tk_bits.specs.Shares.{unit_vector, last_share, completed}
use Rattle.tk_bits.proofs.Offers.{length-unit_vector, length-last_share}
use Rattle.tk_words.specs.Words.{BothBuckets, cut_for_both, cell_pieces, piece_seed, piece_vector}
use Rattle.tk_privacy.proofs.Tapes.{take_seam, drop_seam}
use Rattle.tk_privacy.specs.Privacy.{with_hidden, changed_read, shown_read_cell, shown_piece}

-- ---- sums with one vector replaced

swap : (x v s : List ℕ) → xor_bytes v (xor_bytes x s) ≡ xor_bytes x (xor_bytes v s)
swap x v s = sym (xor_bytes_assoc v x s) ∙ ap (λ z. xor_bytes z s) (xor_bytes_comm v x)
    ∙ xor_bytes_assoc x v s

-- the sum with vector i replaced by x: x, and the vector taken off
xor_all-set : (size : ℕ) (vs : List (List ℕ)) (i : ℕ) (x : List ℕ) → AllSized size vs →
    i < length vs →
    xor_all size (set vs i x) ≡ xor_bytes x (xor_bytes (get_or vs i []) (xor_all size vs))
xor_all-set size [] i x h l = absurd (omega arith)
xor_all-set size (v ∷ vs) zero x h l =
    ap (xor_bytes x) (sym (xor_bytes_twice v (xor_all size vs)
    (h.0 ∙ sym (length-xor_all size vs h.1))))
xor_all-set size (v ∷ vs) (suc i) x h l =
    let one = get_or vs i [] in
    let all = xor_all size vs in
    ap (xor_bytes v) (xor_all-set size vs i x h.1 (omega arith))
    ∙ swap x v (xor_bytes one all)
    ∙ ap (xor_bytes x) (swap one v all)

sized-get : (size : ℕ) (vs : List (List ℕ)) (i : ℕ) → AllSized size vs → i < length vs →
    length (get_or vs i []) ≡ size
sized-get size [] i h l = absurd (omega arith)
sized-get size (v ∷ vs) zero h l = h.0
sized-get size (v ∷ vs) (suc i) h l = sized-get size vs i h.1 (omega arith)

set-twice : (vs : List (List ℕ)) (i : ℕ) (x y : List ℕ) → set (set vs i x) i y ≡ set vs i y
set-twice [] i x y = refl
set-twice (v ∷ vs) zero x y = refl
set-twice (v ∷ vs) (suc i) x y = ap (λ zs. v ∷ zs) (set-twice vs i x y)

-- the last share of the changed vectors is the vector that was replaced
last-of-changed : (size bucket i : ℕ) (vs : List (List ℕ)) → AllSized size vs → i < length vs →
    last_share size bucket (set vs i (last_share size bucket vs)) ≡ get_or vs i []
last-of-changed size bucket i vs h l =
    let unit = unit_vector size bucket in
    let all = xor_all size vs in
    let one = get_or vs i [] in
    let unit_len : length unit ≡ size = length-unit_vector size bucket in
    let all_len : length all ≡ size = length-xor_all size vs h in
    let one_len : length one ≡ size = sized-get size vs i h l in
    ap (xor_bytes unit)
    (xor_all-set size vs i (xor_bytes unit all) h l
    ∙ xor_bytes_assoc unit all (xor_bytes one all)
    ∙ ap (xor_bytes unit) (ap (xor_bytes all) (xor_bytes_comm one all)
    ∙ xor_bytes_twice all one (all_len ∙ sym one_len)))
    ∙ xor_bytes_twice unit one (unit_len ∙ sym one_len)

-- ---- what becomes of each of a list

map-set : (f : List ℕ → List ℕ) (ps : List (List ℕ)) (i : ℕ) (x : List ℕ) →
    map f (set ps i x) ≡ set (map f ps) i (f x)
map-set f [] i x = refl
map-set f (p ∷ ps) zero x = refl
map-set f (p ∷ ps) (suc i) x = ap (λ zs. f p ∷ zs) (map-set f ps i x)

get-map : (f : List ℕ → List ℕ) (ps : List (List ℕ)) (i : ℕ) → i < length ps →
    get_or (map f ps) i [] ≡ f (get_or ps i [])
get-map f [] i low = absurd (omega (arith, low))
get-map f (p ∷ ps) zero low = refl
get-map f (p ∷ ps) (suc i) low = get-map f ps i (omega (arith, low))

-- ---- pieces as they should be

pub record ArePieces (shape : Shape) (ps : List (List ℕ)) : Type 0 where
  pub count : length ps ≡ shape.servers - 1
  pub sized : AllSized (piece_len shape) ps

-- their seeds and their vectors
abbrev pub seeds_in : Shape → List (List ℕ) → List (List ℕ)
seeds_in shape ps = map (piece_seed shape) ps

abbrev pub vectors_in : Shape → List (List ℕ) → List (List ℕ)
vectors_in shape ps = map (piece_vector shape) ps

sized-vectors : (shape : Shape) (ps : List (List ℕ)) → ArePieces shape ps →
    AllSized (vector_len shape) (vectors_in shape ps)
sized-vectors shape ps are =
    AllSized-map (piece_vector shape) (piece_len shape) (vector_len shape) ps
    (λ p long. omega (arith, long, length-drop (seed_len shape) p)) are.sized

-- server h gets of these pieces for a bucket what the last server gets of others
abbrev pub GetsLast : Shape → ℕ → ℕ → List (List ℕ) → List (List ℕ) → Type 0
GetsLast shape h bucket others ps =
    get_or (completed (vector_len shape) bucket (vectors_in shape ps)) (h - 1) []
    ≡ get_or (completed (vector_len shape) bucket (vectors_in shape others)) (shape.servers - 1) []

module _ (shape : Shape) (h bucket : ℕ) (ps : List (List ℕ)) (high : h < shape.servers)
    (are : ArePieces shape ps) where
  place : h - 1 < length ps
  place = let servers = shape.in_range.servers_low in omega (arith, high, are.count, servers)

  abbrev own : List ℕ
  own = get_or ps (h - 1) []

  abbrev seed : List ℕ
  seed = piece_seed shape own

  abbrev share : List ℕ
  share = last_share (vector_len shape) bucket (vectors_in shape ps)

  length-seed : length seed ≡ seed_len shape
  length-seed =
      let long = sized-get (piece_len shape) ps (h - 1) are.sized place in
      length-take-le (seed_len shape) own (omega (arith, long))

  length-share : length share ≡ vector_len shape
  length-share =
      length-last_share (vector_len shape) bucket (vectors_in shape ps)
      (sized-vectors shape ps are)

  pub with_hidden-pieces : ArePieces shape (with_hidden shape h bucket ps)
  with_hidden-pieces =
      record {
        count = length-set ps (h - 1) (seed ++ share) ∙ are.count;
        sized = AllSized-set (piece_len shape) ps (h - 1) (seed ++ share) are.sized
            (omega (arith, length-append seed share, length-seed, length-share));
      }

  -- the vectors of the changed pieces
  vectors-hidden : vectors_in shape (with_hidden shape h bucket ps)
      ≡ set (vectors_in shape ps) (h - 1) share
  vectors-hidden =
      map-set (piece_vector shape) ps (h - 1) (seed ++ share)
      ∙ ap (set (vectors_in shape ps) (h - 1)) (drop_at seed share (seed_len shape) length-seed)

  pub with_hidden-twice : with_hidden shape h bucket (with_hidden shape h bucket ps) ≡ ps
  with_hidden-twice =
      let size = vector_len shape in
      let changed = seed ++ share in
      let vectors = vectors_in shape ps in
      let within : h - 1 < length vectors = omega (arith, place, length-map ps (piece_vector shape)) in
      let own_seed : piece_seed shape (get_or (set ps (h - 1) changed) (h - 1) []) ≡ seed =
      ap (piece_seed shape) (get_or-set_same ps (h - 1) changed [] place)
      ∙ take_at seed share (seed_len shape) length-seed
      in
      let own_vector : last_share size bucket (vectors_in shape (set ps (h - 1) changed))
      ≡ piece_vector shape own =
      ap (last_share size bucket) vectors-hidden
      ∙ last-of-changed size bucket (h - 1) vectors (sized-vectors shape ps are) within
      ∙ get-map (piece_vector shape) ps (h - 1) place
      in
      set-twice ps (h - 1) changed _
      ∙ ap (set ps (h - 1))
      (ap₂ (λ (s v : List ℕ). s ++ v) own_seed own_vector ∙ take-append-drop (seed_len shape) own)
      ∙ set-get_or ps (h - 1) []

  -- what a server j that isn't the hidden one is shown: its seed, and the vector that it gets
  module _ (j : ℕ) (low : 1 ≤ h) (j_low : 1 ≤ j) (j_high : j ≤ shape.servers) (differ : j ≢ h)
    where
      hidden-vector : piece_vector shape (shown_piece shape h j (with_hidden shape h bucket ps))
          ≡ get_or (completed (vector_len shape) bucket (vectors_in shape ps)) (j - 1) []
      hidden-vector =
          let changed = seed ++ share in
          let vectors = vectors_in shape ps in
          let count = length-map ps (piece_vector shape) in
          elim (nat_lt j shape.servers) as (λ t. nat_lt j shape.servers ≡ t →
          piece_vector shape (get_or (set ps (h - 1) changed) (cond t j h - 1) [])
          ≡ get_or (vectors ++ share ∷ []) (j - 1) []) [
            | true ↦ λ e.
                let less : j < shape.servers = ltb-true j shape.servers e in
                let here : j - 1 < length ps = omega (arith, less, j_low, are.count) in
                ap (piece_vector shape) (get_or-set_other ps (h - 1) (j - 1) changed []
                (λ same. differ (omega (arith, same, low, j_low))))
                ∙ sym (get-map (piece_vector shape) ps (j - 1) here)
                ∙ sym (get_or_append_left vectors (share ∷ []) [] (j - 1) (omega (arith, here, count)))
            | false ↦ λ e.
                let last : shape.servers ≤ j = ltb-false j shape.servers e in
                ap (piece_vector shape) (get_or-set_same ps (h - 1) changed [] place)
                ∙ drop_at seed share (seed_len shape) length-seed
                ∙ sym (get_or_push vectors share [] (j - 1) (omega (arith, are.count, count, last, j_high)))
          ] refl

      hidden-seed : j < shape.servers →
          piece_seed shape (shown_piece shape h j (with_hidden shape h bucket ps))
          ≡ get_or (seeds_in shape ps) (j - 1) []
      hidden-seed less =
          let changed = seed ++ share in
          let here : j - 1 < length ps = omega (arith, less, j_low, are.count) in
          ap (λ t. piece_seed shape (get_or (set ps (h - 1) changed) (cond t j h - 1) []))
          (lt-ltb j shape.servers less)
          ∙ ap (piece_seed shape) (get_or-set_other ps (h - 1) (j - 1) changed []
          (λ same. differ (omega (arith, same, low, j_low))))
          ∙ sym (get-map (piece_seed shape) ps (j - 1) here)

  -- the hidden server gets of the changed pieces what the last one gets of these
  pub hidden-last : GetsLast shape h bucket ps (with_hidden shape h bucket ps)
  hidden-last =
      let size = vector_len shape in
      let vectors = vectors_in shape ps in
      let count = length-map ps (piece_vector shape) in
      let changed = set vectors (h - 1) share in
      let within : h - 1 < length vectors = omega (arith, place, count) in
      let counted : length changed ≡ length vectors = length-set vectors (h - 1) share in
      ap (λ (vs : List (List ℕ)). get_or (completed size bucket vs) (h - 1) []) vectors-hidden
      ∙ get_or_append_left changed (last_share size bucket changed ∷ []) [] (h - 1)
      (omega (arith, within, counted))
      ∙ get_or-set_same vectors (h - 1) share [] within
      ∙ sym (get_or_push vectors share [] (shape.servers - 1) (omega (arith, are.count, count)))

-- where the hidden server is the last, that of any other
module _ (shape : Shape) (h j bucket : ℕ) (ps : List (List ℕ)) (low : shape.servers ≤ h)
    (high : h ≤ shape.servers) (j_low : 1 ≤ j) (j_high : j ≤ shape.servers) (differ : j ≢ h)
    (are : ArePieces shape ps) where
  less_than : j < shape.servers
  less_than =
      elim (cases_lt j shape.servers) [
        | inl less ↦ less
        | inr last ↦ absurd (differ (omega (arith, last, low, high, j_high)))
      ]

  shown-own : (f : List ℕ → List ℕ) → f (shown_piece shape h j ps) ≡ get_or (map f ps) (j - 1) []
  shown-own f =
      let less = less_than in
      ap (λ t. f (get_or ps (cond t j h - 1) [])) (lt-ltb j shape.servers less)
      ∙ sym (get-map f ps (j - 1) (omega (arith, less, j_low, are.count)))

  open-vector : piece_vector shape (shown_piece shape h j ps)
      ≡ get_or (completed (vector_len shape) bucket (vectors_in shape ps)) (j - 1) []
  open-vector =
      let vectors = vectors_in shape ps in
      let count = length-map ps (piece_vector shape) in
      let less = less_than in
      shown-own (piece_vector shape)
      ∙ sym (get_or_append_left vectors (last_share (vector_len shape) bucket vectors ∷ []) [] (j - 1)
      (omega (arith, less, j_low, are.count, count)))

-- ---- pieces joined, and cut again

pieces-concat : (size : ℕ) (vs : List (List ℕ)) (rest : List ℕ) → AllSized size vs →
    pieces size (length vs) (concat vs ++ rest) ≡ vs
pieces-concat size [] rest h = refl
pieces-concat size (v ∷ vs) rest h =
    ap (pieces size (suc (length vs))) (append_assoc v (concat vs) rest)
    ∙ pieces-append size (length vs) v (concat vs ++ rest) h.0
    ∙ ap (λ zs. v ∷ zs) (pieces-concat size vs rest h.1)

-- both buckets' pieces
pub record AreBoth (shape : Shape) (ps : BothBuckets) : Type 0 where
  pub first : ArePieces shape ps.first
  pub second : ArePieces shape ps.second

unfoldable joined : List ℕ → BothBuckets → List ℕ
joined front ps = front ++ (concat ps.first ++ concat ps.second)

unfoldable changed : Shape → ℕ → ℕ × ℕ → BothBuckets → BothBuckets
changed shape h pair ps =
    record {
      first = with_hidden shape h pair.0 ps.first;
      second = with_hidden shape h pair.1 ps.second;
    }

changed_read-is : (shape : Shape) (h : ℕ) (pair : ℕ × ℕ) (cell : List ℕ) →
    changed_read shape h pair cell
    ≡ joined (take 8 cell) (changed shape h pair (cell_pieces shape cell))
unfolding changed_read joined changed
changed_read-is shape h pair cell = refl

length-bytes : (shape : Shape) (ps : List (List ℕ)) → ArePieces shape ps → length (concat ps)
    ≡ (shape.servers - 1) * piece_len shape
length-bytes shape ps are = length-concat (piece_len shape) ps are.sized
    ∙ ap (λ n. n * piece_len shape) are.count

length-joined : (shape : Shape) (front : List ℕ) (ps : BothBuckets) → length front ≡ 8 →
    AreBoth shape ps → length (joined front ps) ≡ read_cell_len shape
unfolding joined
length-joined shape front ps e are =
    omega (
      arith,
      length-append front (concat ps.first ++ concat ps.second),
      length-append (concat ps.first) (concat ps.second),
      e,
      length-bytes shape ps.first are.first,
      length-bytes shape ps.second are.second,
      twice (shape.servers - 1) (piece_len shape),
    )
  where
    twice : (n size : ℕ) → 2 * n * size ≡ n * size + n * size
    twice n size = omega arith

front-joined : (front : List ℕ) (ps : BothBuckets) → length front ≡ 8 → take 8 (joined front ps)
    ≡ front
unfolding joined
front-joined front ps e = take_seam 8 front (concat ps.first ++ concat ps.second) e

pieces-joined : (shape : Shape) (front : List ℕ) (ps : BothBuckets) → length front ≡ 8 →
    AreBoth shape ps → cell_pieces shape (joined front ps) ≡ ps
unfolding joined
pieces-joined shape front ps e are =
    ap (cut_for_both shape (piece_len shape))
    (drop_seam 8 front (concat ps.first ++ concat ps.second) e)
    ∙ (λ i. record { first = first_cut i; second = second_cut i })
  where
    first_cut : pieces (piece_len shape) (shape.servers - 1) (concat ps.first ++ concat ps.second)
        ≡ ps.first
    first_cut =
        ap (λ n. pieces (piece_len shape) n (concat ps.first ++ concat ps.second))
        (sym are.first.count)
        ∙ pieces-concat (piece_len shape) ps.first (concat ps.second) are.first.sized

    second_cut : pieces (piece_len shape) (shape.servers - 1)
        (drop ((shape.servers - 1) * piece_len shape) (concat ps.first ++ concat ps.second))
        ≡ ps.second
    second_cut =
        ap (pieces (piece_len shape) (shape.servers - 1))
        (drop_seam ((shape.servers - 1) * piece_len shape) (concat ps.first) (concat ps.second)
        (length-bytes shape ps.first are.first) ∙ sym (append-nil (concat ps.second)))
        ∙ ap (λ n. pieces (piece_len shape) n (concat ps.second ++ [])) (sym are.second.count)
        ∙ pieces-concat (piece_len shape) ps.second [] are.second.sized

changed-both : (shape : Shape) (h : ℕ) (pair : ℕ × ℕ) (ps : BothBuckets) →
    h < shape.servers → AreBoth shape ps → AreBoth shape (changed shape h pair ps)
unfolding changed
changed-both shape h pair ps high are =
    record {
      first = with_hidden-pieces shape h pair.0 ps.first high are.first;
      second = with_hidden-pieces shape h pair.1 ps.second high are.second;
    }

changed-twice : (shape : Shape) (h : ℕ) (pair : ℕ × ℕ) (ps : BothBuckets) →
    h < shape.servers → AreBoth shape ps →
    changed shape h pair (changed shape h pair ps) ≡ ps
unfolding changed
changed-twice shape h pair ps high are =
    λ i. record {
      first = with_hidden-twice shape h pair.0 ps.first high are.first i;
      second = with_hidden-twice shape h pair.1 ps.second high are.second i;
    }

-- ---- a whole read cell

module _ (shape : Shape) (cell : List ℕ) (whole : length cell ≡ read_cell_len shape) where
  bytes_len : (shape.servers - 1) * piece_len shape + (shape.servers - 1) * piece_len shape
      ≡ length (drop 8 cell)
  bytes_len = omega (arith, length-drop 8 cell, whole, twice (shape.servers - 1) (piece_len shape))
    where
      twice : (n size : ℕ) → 2 * n * size ≡ n * size + n * size
      twice n size = omega arith

  rest_len : (shape.servers - 1) * piece_len shape
      ≡ length (drop ((shape.servers - 1) * piece_len shape) (drop 8 cell))
  rest_len = omega (
    arith,
    bytes_len,
    length-drop ((shape.servers - 1) * piece_len shape) (drop 8 cell),
  )

  length-front : length (take 8 cell) ≡ 8
  length-front = length-take-le 8 cell (omega (arith, whole))

  pub both : AreBoth shape (cell_pieces shape cell)
  both =
      record {
        first = record {
          count = length-pieces (piece_len shape) (shape.servers - 1) (drop 8 cell);
          sized = AllSized-pieces (piece_len shape) (shape.servers - 1) (drop 8 cell)
              (omega (arith, bytes_len));
        };
        second = record {
          count = length-pieces (piece_len shape) (shape.servers - 1)
              (drop ((shape.servers - 1) * piece_len shape) (drop 8 cell));
          sized = AllSized-pieces (piece_len shape) (shape.servers - 1)
              (drop ((shape.servers - 1) * piece_len shape) (drop 8 cell))
              (omega (arith, rest_len));
        };
      }

  joined-own : joined (take 8 cell) (cell_pieces shape cell) ≡ cell
  unfolding joined
  joined-own =
      ap₂ (λ (xs ys : List ℕ). take 8 cell ++ (xs ++ ys))
      (concat-pieces (piece_len shape) (shape.servers - 1) (drop 8 cell)
      (omega (arith, bytes_len)))
      (concat-pieces (piece_len shape) (shape.servers - 1)
      (drop ((shape.servers - 1) * piece_len shape) (drop 8 cell)) (omega (arith, rest_len))
      ∙ take_all ((shape.servers - 1) * piece_len shape)
      (drop ((shape.servers - 1) * piece_len shape) (drop 8 cell)) (omega (arith, rest_len)))
      ∙ ap (λ xs. take 8 cell ++ xs)
      (take-append-drop ((shape.servers - 1) * piece_len shape) (drop 8 cell))
      ∙ take-append-drop 8 cell

  module _ (h : ℕ) (pair : ℕ × ℕ) (high : h < shape.servers) where
    length-changed_read : length (changed_read shape h pair cell) ≡ read_cell_len shape
    length-changed_read =
        ap length (changed_read-is shape h pair cell)
        ∙ length-joined shape (take 8 cell) (changed shape h pair (cell_pieces shape cell))
        length-front (changed-both shape h pair (cell_pieces shape cell) high both)

    pieces-changed_read : cell_pieces shape (changed_read shape h pair cell)
        ≡ changed shape h pair (cell_pieces shape cell)
    pieces-changed_read =
        ap (cell_pieces shape) (changed_read-is shape h pair cell)
        ∙ pieces-joined shape (take 8 cell) (changed shape h pair (cell_pieces shape cell))
        length-front (changed-both shape h pair (cell_pieces shape cell) high both)

    front-changed_read : take 8 (changed_read shape h pair cell) ≡ take 8 cell
    front-changed_read =
        ap (take 8) (changed_read-is shape h pair cell)
        ∙ front-joined (take 8 cell) (changed shape h pair (cell_pieces shape cell)) length-front

    changed_read-twice : changed_read shape h pair (changed_read shape h pair cell) ≡ cell
    changed_read-twice =
        changed_read-is shape h pair (changed_read shape h pair cell)
        ∙ ap₂ (λ (front : List ℕ) (ps : BothBuckets). joined front (changed shape h pair ps))
        front-changed_read pieces-changed_read
        ∙ ap (joined (take 8 cell))
        (changed-twice shape h pair (cell_pieces shape cell) high both)
        ∙ joined-own

  -- ---- the same where the hidden server may be the last

  module _ (h : ℕ) (pair : ℕ × ℕ) where
    pub length-shown : length (shown_read_cell shape h pair cell) ≡ read_cell_len shape
    length-shown =
        elim (nat_lt h shape.servers) as (λ b. nat_lt h shape.servers ≡ b →
        length (cond b (changed_read shape h pair cell) cell) ≡ read_cell_len shape) [
          | true ↦ λ e. length-changed_read h pair (ltb-true h shape.servers e)
          | false ↦ λ e. whole
        ] refl

    pub front-shown : take 8 (shown_read_cell shape h pair cell) ≡ take 8 cell
    front-shown =
        elim (nat_lt h shape.servers) as (λ b. nat_lt h shape.servers ≡ b →
        take 8 (cond b (changed_read shape h pair cell) cell) ≡ take 8 cell) [
          | true ↦ λ e. front-changed_read h pair (ltb-true h shape.servers e)
          | false ↦ λ e. refl
        ] refl

    pub shown-twice : 1 ≤ h → shown_read_cell shape h pair (shown_read_cell shape h pair cell) ≡ cell
    shown-twice low =
        elim (nat_lt h shape.servers) as (λ b. nat_lt h shape.servers ≡ b →
        cond b (changed_read shape h pair (cond b (changed_read shape h pair cell) cell))
        (cond b (changed_read shape h pair cell) cell) ≡ cell) [
          | true ↦ λ e. changed_read-twice h pair (ltb-true h shape.servers e)
          | false ↦ λ e. refl
        ] refl

  -- the piece that a server that isn't the hidden one is shown for either bucket: its own seed, and
  -- the vector that it gets
  pub record IsShown (h j bucket : ℕ) (own shown : List (List ℕ)) : Type 0 where
    pub vector : piece_vector shape (shown_piece shape h j shown)
        ≡ get_or (completed (vector_len shape) bucket (vectors_in shape own)) (j - 1) []
    pub seed : j < shape.servers → piece_seed shape (shown_piece shape h j shown)
        ≡ get_or (seeds_in shape own) (j - 1) []

  pub record AreShown (h j : ℕ) (pair : ℕ × ℕ) (own shown : BothBuckets) : Type 0 where
    pub first : IsShown h j pair.0 own.first shown.first
    pub second : IsShown h j pair.1 own.second shown.second

  module _ (h j : ℕ) (pair : ℕ × ℕ) (low : 1 ≤ h) (high : h ≤ shape.servers) (j_low : 1 ≤ j)
      (j_high : j ≤ shape.servers) (differ : j ≢ h) where
    changed-shown : h < shape.servers →
        AreShown h j pair (cell_pieces shape cell) (changed shape h pair (cell_pieces shape cell))
    unfolding changed
    changed-shown less =
        let ps = cell_pieces shape cell in
        record {
          first = record {
            vector = hidden-vector shape h pair.0 ps.first less both.first j low j_low j_high differ;
            seed = hidden-seed shape h pair.0 ps.first less both.first j low j_low j_high differ;
          };
          second = record {
            vector = hidden-vector shape h pair.1 ps.second less both.second j low j_low j_high differ;
            seed = hidden-seed shape h pair.1 ps.second less both.second j low j_low j_high differ;
          };
        }

    open-shown : shape.servers ≤ h →
        AreShown h j pair (cell_pieces shape cell) (cell_pieces shape cell)
    open-shown last =
        let ps = cell_pieces shape cell in
        record {
          first = record {
            vector = open-vector shape h j pair.0 ps.first last high j_low j_high differ both.first;
            seed = λ less. shown-own shape h j pair.0 ps.first last high j_low j_high differ
                both.first (piece_seed shape);
          };
          second = record {
            vector = open-vector shape h j pair.1 ps.second last high j_low j_high differ both.second;
            seed = λ less. shown-own shape h j pair.1 ps.second last high j_low j_high differ
                both.second (piece_seed shape);
          };
        }

    pub pieces-shown : AreShown h j pair (cell_pieces shape cell)
        (cell_pieces shape (shown_read_cell shape h pair cell))
    pieces-shown =
        elim (nat_lt h shape.servers) as (λ b. nat_lt h shape.servers ≡ b →
        AreShown h j pair (cell_pieces shape cell)
        (cell_pieces shape (cond b (changed_read shape h pair cell) cell))) [
          | true ↦ λ e.
              let less = ltb-true h shape.servers e in
              subst (AreShown h j pair (cell_pieces shape cell))
              (sym (pieces-changed_read h pair less)) (changed-shown less)
          | false ↦ λ e. open-shown (ltb-false h shape.servers e)
        ] refl

  -- what the hidden server gets for either bucket
  pub record GetsLastOfBoth (h : ℕ) (pair : ℕ × ℕ) (others ps : BothBuckets) : Type 0 where
    pub first : GetsLast shape h pair.0 others.first ps.first
    pub second : GetsLast shape h pair.1 others.second ps.second

  module _ (h : ℕ) (pair : ℕ × ℕ) where
    changed-hidden : h < shape.servers →
        GetsLastOfBoth h pair (cell_pieces shape cell)
        (changed shape h pair (cell_pieces shape cell))
    unfolding changed
    changed-hidden less =
        let ps = cell_pieces shape cell in
        record {
          first = hidden-last shape h pair.0 ps.first less both.first;
          second = hidden-last shape h pair.1 ps.second less both.second;
        }

    pub pieces-hidden : h ≤ shape.servers →
        GetsLastOfBoth h pair (cell_pieces shape cell)
        (cell_pieces shape (shown_read_cell shape h pair cell))
    pieces-hidden high =
        let ps = cell_pieces shape cell in
        let size = vector_len shape in
        elim (nat_lt h shape.servers) as (λ b. nat_lt h shape.servers ≡ b →
        GetsLastOfBoth h pair ps (cell_pieces shape (cond b (changed_read shape h pair cell) cell))) [
          | true ↦ λ e.
              let less = ltb-true h shape.servers e in
              subst (GetsLastOfBoth h pair ps) (sym (pieces-changed_read h pair less))
              (changed-hidden less)
          | false ↦ λ e.
              let last : h ≡ shape.servers = omega (arith, high, ltb-false h shape.servers e) in
              record {
                first = ap (λ k. get_or (completed size pair.0 (vectors_in shape ps.first)) (k - 1)
                    []) last;
                second = ap (λ k. get_or (completed size pair.1 (vectors_in shape ps.second)) (k - 1)
                    []) last;
              }
        ] refl
