-- One of the pieces of some bytes, replaced.
use Rattle.std.proofs.Common.{◌≡◌, ◌∙◌, ap, ap₂, sym, refl, arith}
use Rattle.std.proofs.Common.{ℕ, zero, suc, ◌+◌, ◌-◌, ◌*◌, ◌≤◌, ◌<◌, List, ◌∷◌, ◌++◌}
use Rattle.std.proofs.Common.{length, take, drop, set, get_or, append_assoc, length-drop, suc-mul, zero-mul}
use Rattle.std.proofs.Common.{zero-add, []}
use Rattle.std.specs.List.{concat}
use Rattle.std.proofs.lemmas.List.{length-take-le, drop-take, take_all, take-take, drop-drop}
use Rattle.std.proofs.Math.Nat.{mul-le-mul_right}
use Rattle.std.proofs.Math.Seq.{take-add, take-append-add, drop-append-add}
use Rattle.tk_shape.specs.declared.shape.Shape.{Shape}
use Rattle.tk_shape.specs.Lengths.{seed_len, vector_len, piece_len, read_cell_len}
use Rattle.tk_kernel.specs.Pieces.{pieces}
use Rattle.tk_kernel.proofs.Offers.{concat-pieces}
use Rattle.tk_privacy.specs.Hiding.{cell_with}

-- piece i of some bytes
piece-at : (size i count : ℕ) (bytes : List ℕ) → i < count →
    get_or (pieces size count bytes) i [] ≡ take size (drop (i * size) bytes)
piece-at size i zero bytes low = absurd (omega (arith, low))
piece-at size zero (suc count) bytes low =
    ap (λ n. take size (drop n bytes)) (sym (zero-mul size))
piece-at size (suc i) (suc count) bytes low =
    let more : size + i * size ≡ suc i * size = omega (arith, suc-mul i size) in
    piece-at size i count (drop size bytes) (omega (arith, low))
    ∙ ap (take size) (drop-drop (i * size) size bytes ∙ ap (λ n. drop n bytes) more)

take_none : (xs : List ℕ) → take 0 xs ≡ []
take_none [] = refl
take_none (x ∷ xs) = refl

-- what stands before the piece, the other one, and what stands after it
abbrev pub replaced : ℕ → ℕ → List ℕ → List ℕ → List ℕ
replaced at size other bytes = take at bytes ++ (other ++ drop (at + size) bytes)

-- the same after a whole piece
replaced-behind : (size at : ℕ) (other front back : List ℕ) → length front ≡ size →
    replaced (size + at) size other (front ++ back) ≡ front ++ replaced at size other back
replaced-behind size at other front back whole =
    let before : take (size + at) (front ++ back) ≡ front ++ take at back =
    ap (λ n. take (n + at) (front ++ back)) (sym whole) ∙ take-append-add front back at
    in
    let further : size + at + size ≡ length front + (at + size) = omega (arith, whole) in
    let behind : drop (size + at + size) (front ++ back) ≡ drop (at + size) back =
    ap (λ n. drop n (front ++ back)) further ∙ drop-append-add front back (at + size)
    in
    ap₂ (λ (xs ys : List ℕ). xs ++ (other ++ ys)) before behind
    ∙ append_assoc front (take at back) (other ++ drop (at + size) back)

pub one_replaced : (size n i : ℕ) (bytes other : List ℕ) → i < n → n * size ≤ length bytes →
    concat (set (pieces size n bytes) i other)
    ≡ replaced (i * size) size other (take (n * size) bytes)
one_replaced size zero i bytes other low whole = absurd (omega arith)
one_replaced size (suc n) zero bytes other low whole =
    let all : suc n * size ≡ size + n * size = omega (arith, suc-mul n size) in
    let rest : n * size ≤ length (drop size bytes) =
    omega (arith, all, whole, length-drop size bytes) in
    ap (λ (zs : List ℕ). other ++ zs)
    (concat-pieces size n (drop size bytes) rest
    ∙ sym (drop-take size (n * size) bytes)
    ∙ ap (λ k. drop size (take k bytes)) (sym all))
    ∙ ap (λ k. other ++ drop k (take (suc n * size) bytes)) (sym (zero-add size))
    ∙ ap (λ (front : List ℕ). front ++ (other ++ drop (0 + size) (take (suc n * size) bytes)))
    (sym (take_none (take (suc n * size) bytes)))
    ∙ ap (λ k. replaced k size other (take (suc n * size) bytes)) (sym (zero-mul size))
one_replaced size (suc n) (suc i) bytes other low whole =
    let all : suc n * size ≡ size + n * size = omega (arith, suc-mul n size) in
    let next : suc i * size ≡ size + i * size = omega (arith, suc-mul i size) in
    let rest : n * size ≤ length (drop size bytes) =
    omega (arith, all, whole, length-drop size bytes) in
    let front : length (take size bytes) ≡ size =
    length-take-le size bytes (omega (arith, all, whole))
    in
    let cut : take (suc n * size) bytes ≡ take size bytes ++ take (n * size) (drop size bytes) =
    ap (λ k. take k bytes) all ∙ take-add size (n * size) bytes
    in
    ap (λ (zs : List ℕ). take size bytes ++ zs)
    (one_replaced size n i (drop size bytes) other (omega (arith, low)) rest)
    ∙ sym (replaced-behind size (i * size) other (take size bytes)
    (take (n * size) (drop size bytes)) front)
    ∙ ap₂ (λ (k : ℕ) (xs : List ℕ). replaced k size other xs) (sym next) (sym cut)

-- a vector replaced after the seed of its piece
seed_kept : (size seed at : ℕ) (bytes other : List ℕ) →
    replaced (at + seed) size other bytes
    ≡ replaced at (seed + size) (take seed (drop at bytes) ++ other) bytes
seed_kept size seed at bytes other =
    let own = take seed (drop at bytes) in
    let behind : at + seed + size ≡ at + (seed + size) = omega arith in
    let rest = drop (at + (seed + size)) bytes in
    ap₂ (λ (xs : List ℕ) (k : ℕ). xs ++ (other ++ drop k bytes)) (take-add at seed bytes) behind
    ∙ append_assoc (take at bytes) own (other ++ rest)
    ∙ ap (λ (xs : List ℕ). take at bytes ++ xs) (sym (append_assoc own other rest))

-- the seed of piece i
piece-seed : (size seed i n : ℕ) (bytes : List ℕ) → i < n →
    take seed (get_or (pieces (seed + size) n bytes) i [])
    ≡ take seed (drop (i * (seed + size)) bytes)
piece-seed size seed i n bytes low =
    ap (take seed) (piece-at (seed + size) i n bytes low)
    ∙ take-take seed (seed + size) (drop (i * (seed + size)) bytes) (omega arith)

vector_replaced : (size seed n i : ℕ) (bytes other : List ℕ) → i < n →
    n * (seed + size) ≤ length bytes →
    let ps = pieces (seed + size) n bytes in
    concat (set ps i (take seed (get_or ps i []) ++ other))
    ≡ replaced (i * (seed + size) + seed) size other (take (n * (seed + size)) bytes)
vector_replaced size seed n i bytes other low whole =
    let each = seed + size in
    let all = take (n * each) bytes in
    let within : (i + 1) * each ≤ n * each = mul-le-mul_right each (omega (arith, low)) in
    let front : take seed (drop (i * each) all) ≡ take seed (drop (i * each) bytes) =
    ap (take seed) (ap (λ k. drop (i * each) (take k bytes)) (omega (arith, within))
    ∙ drop-take (i * each) (n * each - i * each) bytes)
    ∙ take-take seed (n * each - i * each) (drop (i * each) bytes) (omega (arith, within))
    in
    one_replaced each n i bytes (take seed (get_or (pieces each n bytes) i []) ++ other) low whole
    ∙ ap (λ (s : List ℕ). replaced (i * each) each (s ++ other) all)
    (piece-seed size seed i n bytes low ∙ sym front)
    ∙ sym (seed_kept size seed (i * each) all other)

-- a read cell with one vector of either bucket replaced
pub cell_with-is : (shape : Shape) (h : ℕ) (one other cell : List ℕ) → 1 ≤ h → h < shape.servers →
    length cell ≡ read_cell_len shape →
    let size = vector_len shape in
    let at = (h - 1) * piece_len shape + seed_len shape in
    let each = (shape.servers - 1) * piece_len shape in
    cell_with shape h one other cell
    ≡ take 8 cell
    ++ (replaced at size one (take each (drop 8 cell))
    ++ replaced at size other (drop each (drop 8 cell)))
cell_with-is shape h one other cell low high whole =
    let size = vector_len shape in
    let seed = seed_len shape in
    let piece = piece_len shape in
    let count = shape.servers - 1 in
    let inside : h - 1 < count = omega (arith, low, high) in
    let twice : 2 * count * piece ≡ count * piece + count * piece = two count piece in
    let bytes : length (drop 8 cell) ≡ count * piece + count * piece =
    omega (arith, whole, twice, length-drop 8 cell)
    in
    let rest : length (drop (count * piece) (drop 8 cell)) ≡ count * piece =
    omega (arith, bytes, length-drop (count * piece) (drop 8 cell))
    in
    ap₂ (λ (xs ys : List ℕ). take 8 cell ++ (xs ++ ys))
    (vector_replaced size seed count (h - 1) (drop 8 cell) one inside (omega (arith, bytes)))
    (vector_replaced size seed count (h - 1) (drop (count * piece) (drop 8 cell)) other inside
    (omega (arith, rest))
    ∙ ap (replaced ((h - 1) * piece + seed) size other)
    (take_all (count * piece) (drop (count * piece) (drop 8 cell)) (omega (arith, rest))))
  where
    two : (n size : ℕ) → 2 * n * size ≡ n * size + n * size
    two n size = omega arith

-- the vector that is replaced lies in the second bucket's pieces
pub in_second_half : (shape : Shape) (h at size each seed : ℕ) (cell rest second : List ℕ) → 1 ≤ h →
    h < shape.servers → length cell ≡ read_cell_len shape → rest ≡ drop 8 cell →
    size ≡ vector_len shape → each ≡ piece_len shape → seed ≡ seed_len shape →
    second ≡ drop ((shape.servers - 1) * each) rest → at ≡ (h - 1) * each + seed →
    at + size ≤ length second
in_second_half shape h at size each seed cell rest second low high whole rest_is size_is each_is seed_is second_is
    at_is =
    let count = shape.servers - 1 in
    let piece = piece_len shape in
    let bytes : length rest ≡ count * piece + count * piece =
    omega (arith, whole, two count piece, ap length rest_is, length-drop 8 cell)
    in
    let half : count * each ≡ count * piece = ap (λ n. count * n) each_is in
    let left : length second ≡ count * piece =
    omega (arith, bytes, half, ap length second_is, length-drop (count * each) rest)
    in
    let start : at ≡ (h - 1) * piece + seed_len shape =
    at_is ∙ ap₂ (λ n m. (h - 1) * n + m) each_is seed_is
    in
    let within : (h - 1 + 1) * piece ≤ count * piece = mul-le-mul_right piece (omega (arith, low, high)) in
    let end : (h - 1 + 1) * piece ≡ (h - 1) * piece + piece = one_more (h - 1) piece in
    let parts : piece ≡ seed_len shape + vector_len shape = refl in
    omega (arith, start, size_is, left, within, end, parts)
  where
    two : (n size : ℕ) → 2 * n * size ≡ n * size + n * size
    two n size = omega arith

    one_more : (n size : ℕ) → (n + 1) * size ≡ n * size + size
    one_more n size = omega arith

-- what is written part by part is the cell
pub hidden_parts : (shape : Shape) (h at size each seed : ℕ)
    (one other cell old front rest first second out1 out2 : List ℕ) → 1 ≤ h →
    h < shape.servers → length cell ≡ read_cell_len shape → front ≡ take 8 cell →
    rest ≡ drop 8 cell → size ≡ vector_len shape → each ≡ piece_len shape →
    seed ≡ seed_len shape → first ≡ take ((shape.servers - 1) * each) rest →
    second ≡ drop ((shape.servers - 1) * each) rest → at ≡ (h - 1) * each + seed →
    out1 ≡ old ++ front → out2 ≡ out1 ++ replaced at size one first →
    out2 ++ replaced at size other second ≡ old ++ cell_with shape h one other cell
hidden_parts shape h at size each seed one other cell old front rest first second out1 out2 low high
    whole front_is rest_is size_is each_is seed_is first_is second_is at_is out1_is out2_is =
    let half = (shape.servers - 1) * piece_len shape in
    let place = (h - 1) * piece_len shape + seed_len shape in
    let start : at ≡ place = at_is ∙ ap₂ (λ n m. (h - 1) * n + m) each_is seed_is in
    let one_half : first ≡ take half (drop 8 cell) =
    first_is
    ∙ ap₂ (λ (n : ℕ) (xs : List ℕ). take ((shape.servers - 1) * n) xs) each_is rest_is
    in
    let other_half : second ≡ drop half (drop 8 cell) =
    second_is
    ∙ ap₂ (λ (n : ℕ) (xs : List ℕ). drop ((shape.servers - 1) * n) xs) each_is rest_is
    in
    let left : replaced at size one first
    ≡ replaced place (vector_len shape) one (take half (drop 8 cell)) =
    ap₂ (λ (k : ℕ) (xs : List ℕ). replaced k size one xs) start one_half
    ∙ ap (λ n. replaced place n one (take half (drop 8 cell))) size_is
    in
    let right : replaced at size other second
    ≡ replaced place (vector_len shape) other (drop half (drop 8 cell)) =
    ap₂ (λ (k : ℕ) (xs : List ℕ). replaced k size other xs) start other_half
    ∙ ap (λ n. replaced place n other (drop half (drop 8 cell))) size_is
    in
    ap (λ (bytes : List ℕ). bytes ++ replaced at size other second)
    (out2_is ∙ ap (λ (bytes : List ℕ). bytes ++ replaced at size one first) out1_is)
    ∙ append_assoc (old ++ front) (replaced at size one first) (replaced at size other second)
    ∙ append_assoc old front (replaced at size one first ++ replaced at size other second)
    ∙ ap₂ (λ (xs ys : List ℕ). old ++ (xs ++ ys)) front_is
    (ap₂ (λ (xs ys : List ℕ). xs ++ ys) left right)
    ∙ ap (λ (bytes : List ℕ). old ++ bytes)
    (sym (cell_with-is shape h one other cell low high whole))
