-- Blocks chosen by a vector, some places at a time.
use Rattle.std.proofs.Common.{◌≡◌, ℕ, zero, suc, ◌+◌, ◌-◌, ◌*◌, ◌/◌, ◌<◌, ◌≤◌, true, false, cond, List, [], ◌∷◌, ◌++◌, length, take, drop, set, replicate, refl, ap, ap₂, sym, ◌∙◌, arith, append_assoc, add_assoc}
use Rattle.std.proofs.lemmas.List.{drop-drop, length-drop, take_more_set, take-set}
use Rattle.std.proofs.lemmas.List.Elements.{All-nil, All-cons}
use Rattle.std.proofs.Math.Nat.{le-div_iff_mul-le}
use Rattle.tk_kernel.specs.Xor.{xor_bytes, xor_all}
use Rattle.tk_kernel.specs.Pieces.{pieces, all_pieces, AllSized}
use Rattle.tk_kernel.specs.Chosen.{has_bit, chosen_from}
use Rattle.tk_kernel.specs.Listed.{listed, chosen_places}
use Rattle.tk_kernel.proofs.Sums.{xor_bytes_assoc, xor_bytes-zeros, xor_all-append}
use Rattle.tk_kernel.proofs.Cuts.{length-pieces, AllSized-pieces}
use Rattle.tk_kernel.proofs.Chosen.{AllSized-chosen_from, chosen_from-append}
use Rattle.tk_kernel.proofs.Fronts.{AllIn}

add-zero : (n : ℕ) → n + 0 ≡ n
add-zero n = omega arith

-- the list of places, one more of them looked at
pub place_looked_at : (from place count found : ℕ) (vector places : List ℕ) → found < length places → (b : ℕ) → b ≡ cond (has_bit vector (from + place)) 1 0 →
    take (found + b) (set places found place) ++ chosen_places from (place + 1) count vector ≡ take found places ++ chosen_places from place (suc count) vector
place_looked_at from place count found vector places h b e =
    ap (λ n. take (found + n) (set places found place) ++ chosen_places from (place + 1) count vector) e
    ∙ (elim (has_bit vector (from + place)) as (λ t. take (found + cond t 1 0) (set places found place) ++ chosen_places from (place + 1) count vector
    ≡ take found places ++ cond t (place ∷ chosen_places from (place + 1) count vector) (chosen_places from (place + 1) count vector)) [
      | true ↦ ap (λ ps. ps ++ chosen_places from (place + 1) count vector) (take_more_set places found place h) ∙ append_assoc (take found places) (place ∷ []) (chosen_places from (place + 1) count vector)
      | false ↦ ap (λ n. take n (set places found place) ++ chosen_places from (place + 1) count vector) (add-zero found) ∙ ap (λ ps. ps ++ chosen_places from (place + 1) count vector) (take-set places found place)
    ])

-- what they are
pub AllIn-chosen_places : (size from i count : ℕ) (blocks vector : List ℕ) → (i + count) * size ≤ length blocks → AllIn size blocks (chosen_places from i count vector)
AllIn-chosen_places size from i zero blocks vector h = All-nil (λ p. (p + 1) * size ≤ length blocks)
AllIn-chosen_places size from i (suc count) blocks vector h =
    let next : (i + 1 + count) * size ≡ (i + suc count) * size = ap (λ n. n * size) (omega arith) in
    let others = AllIn-chosen_places size from (i + 1) count blocks vector (omega (arith, next)) in
    let here : (i + 1) * size ≤ length blocks = omega arith in
    elim (has_bit vector (from + i)) as (λ t. AllIn size blocks (cond t (i ∷ chosen_places from (i + 1) count vector) (chosen_places from (i + 1) count vector)))
    [ true ↦ All-cons (λ p. (p + 1) * size ≤ length blocks) i (chosen_places from (i + 1) count vector) here others | false ↦ others ]

listed_are : (size from i count : ℕ) (blocks vector : List ℕ) →
    listed size blocks (chosen_places from i count vector) ≡ chosen_from (from + i) (pieces size count (drop (i * size) blocks)) vector
listed_are size from i zero blocks vector = refl
listed_are size from i (suc count) blocks vector =
    let block = take size (drop (i * size) blocks) in
    let left = chosen_places from (i + 1) count vector in
    let next : drop ((i + 1) * size) blocks ≡ drop size (drop (i * size) blocks) =
    ap (λ n. drop n blocks) (omega arith) ∙ sym (drop-drop size (i * size) blocks) in
    let others : listed size blocks left ≡ chosen_from (from + i + 1) (pieces size count (drop size (drop (i * size) blocks))) vector =
    listed_are size from (i + 1) count blocks vector
    ∙ ap₂ (λ n bytes. chosen_from n (pieces size count bytes) vector) (sym (add_assoc from i 1)) next in
    elim (has_bit vector (from + i)) as (λ t. listed size blocks (cond t (i ∷ left) left)
    ≡ cond t (block ∷ chosen_from (from + i + 1) (pieces size count (drop size (drop (i * size) blocks))) vector) (chosen_from (from + i + 1) (pieces size count (drop size (drop (i * size) blocks))) vector))
    [ true ↦ ap (λ bs. block ∷ bs) others | false ↦ others ]

pub pieces-add : (size m k : ℕ) (bytes : List ℕ) → pieces size (m + k) bytes ≡ pieces size m bytes ++ pieces size k (drop (m * size) bytes)
pieces-add size zero k bytes =
    let none : 0 * size ≡ 0 = omega arith in
    let start : 0 + k ≡ k = omega arith in
    ap (λ n. pieces size n bytes) start ∙ ap (λ n. pieces size k (drop n bytes)) (sym none)
pieces-add size (suc m) k bytes =
    let more : size + m * size ≡ suc m * size = omega arith in
    let step : suc m + k ≡ suc (m + k) = omega arith in
    ap (λ n. pieces size n bytes) step
    ∙ ap (λ ps. take size bytes ∷ ps) (pieces-add size m k (drop size bytes) ∙ ap (λ bs. pieces size m (drop size bytes) ++ pieces size k bs) (drop-drop (m * size) size bytes ∙ ap (λ n. drop n bytes) more))

-- what the vector chooses of count blocks from number i on, added to dst
abbrev pub choice_added : ℕ → List ℕ → ℕ → List ℕ → ℕ → ℕ → List ℕ → List ℕ
choice_added size vector from blocks i count dst = xor_bytes dst (xor_all size (chosen_from (from + i) (pieces size count (drop (i * size) blocks)) vector))

pub pass_added : (size from i m k : ℕ) (vector blocks dst : List ℕ) → (i + (m + k)) * size ≤ length blocks →
    choice_added size vector from blocks (i + m) k (xor_bytes dst (xor_all size (listed size blocks (chosen_places from i m vector))))
    ≡ choice_added size vector from blocks i (m + k) dst
pass_added size from i m k vector blocks dst h =
    let bytes = drop (i * size) blocks in
    let here = chosen_from (from + i) (pieces size m bytes) vector in
    let rest = drop (m * size) bytes in
    let later = chosen_from (from + i + m) (pieces size k rest) vector in
    let apart : (i + m) * size ≡ i * size + m * size = omega arith in
    let next : drop ((i + m) * size) blocks ≡ rest = ap (λ n. drop n blocks) apart ∙ sym (drop-drop (m * size) (i * size) blocks) in
    let long : k * size ≤ length rest = omega (arith, length-drop (m * size) bytes, length-drop (i * size) blocks) in
    let sized : AllSized size later = AllSized-chosen_from size (from + i + m) (pieces size k rest) vector (AllSized-pieces size k rest long) in
    ap₂ (λ n bs. xor_bytes (xor_bytes dst (xor_all size (listed size blocks (chosen_places from i m vector)))) (xor_all size (chosen_from n (pieces size k bs) vector))) (sym (add_assoc from i m)) next
    ∙ ap (λ vs. xor_bytes (xor_bytes dst (xor_all size vs)) (xor_all size later)) (listed_are size from i m blocks vector)
    ∙ xor_bytes_assoc dst (xor_all size here) (xor_all size later)
    ∙ ap (xor_bytes dst) (sym (xor_all-append size here later sized))
    ∙ ap (λ n. xor_bytes dst (xor_all size (here ++ chosen_from (from + i + n) (pieces size k rest) vector))) (sym (length-pieces size m bytes))
    ∙ ap (λ vs. xor_bytes dst (xor_all size vs)) (sym (chosen_from-append (from + i) (pieces size m bytes) (pieces size k rest) vector))
    ∙ ap (λ ps. xor_bytes dst (xor_all size (chosen_from (from + i) ps vector))) (sym (pieces-add size m k bytes))

pub nothing_added : (size from : ℕ) (vector blocks dst : List ℕ) →
    choice_added size vector from blocks 0 (length blocks / size) dst ≡ xor_bytes dst (xor_all size (chosen_from from (all_pieces size blocks) vector))
nothing_added size from vector blocks dst =
    let none : 0 * size ≡ 0 = omega arith in
    let first : from + 0 ≡ from = omega arith in
    ap₂ (λ n bs. xor_bytes dst (xor_all size (chosen_from n (pieces size (length blocks / size) bs) vector))) first (ap (λ n. drop n blocks) none)

pub all_added : (size from i : ℕ) (vector blocks dst : List ℕ) → length dst ≡ size → choice_added size vector from blocks i 0 dst ≡ dst
all_added size from i vector blocks dst e = ap (λ n. xor_bytes dst (replicate n 0)) (sym e) ∙ xor_bytes-zeros dst

pub within : (size end : ℕ) (blocks : List ℕ) → 0 < size → end ≤ length blocks / size → end * size ≤ length blocks
within size end blocks some h = (le-div_iff_mul-le some).0 h

pub pass_done : (size from done end : ℕ) (vector blocks dst new : List ℕ) → 0 < size → done ≤ end → end ≤ length blocks / size →
    new ≡ xor_bytes dst (xor_all size (listed size blocks (chosen_places from done (end - done) vector))) →
    choice_added size vector from blocks end (length blocks / size - end) new ≡ choice_added size vector from blocks done (length blocks / size - done) dst
pass_done size from done end vector blocks dst new some order last e =
    let count = length blocks / size in
    let m = end - done in
    let k = count - end in
    let upto : done + m ≡ end = omega arith in
    let left : m + k ≡ count - done = omega arith in
    let whole : done + (m + k) ≡ count = omega arith in
    let fits : (done + (m + k)) * size ≤ length blocks = within size (done + (m + k)) blocks some (omega arith) in
    ap₂ (λ n out. choice_added size vector from blocks n k out) (sym upto) e
    ∙ pass_added size from done m k vector blocks dst fits
    ∙ ap (λ n. choice_added size vector from blocks done n dst) left

pub passes_done : (size from done : ℕ) (vector blocks start dst : List ℕ) → length blocks / size ≤ done → length dst ≡ size →
    choice_added size vector from blocks done (length blocks / size - done) dst ≡ choice_added size vector from blocks 0 (length blocks / size) start →
    dst ≡ xor_bytes start (xor_all size (chosen_from from (all_pieces size blocks) vector))
passes_done size from done vector blocks start dst last long h =
    let none : length blocks / size - done ≡ 0 = omega arith in
    sym (ap (λ n. choice_added size vector from blocks done n dst) none ∙ all_added size from done vector blocks dst long)
    ∙ h ∙ nothing_added size from vector blocks start
