-- A range's blocks and the zeros around them, joined.
use Rattle.std.proofs.Common.{◌≡◌, ℕ, zero, suc, ◌+◌, ◌-◌, ◌*◌, ◌/◌, ◌%◌, ◌<◌, ◌≤◌, List, [], ◌∷◌, ◌++◌, length}
use Rattle.std.proofs.Common.{take, drop, set, replicate}
use Rattle.std.proofs.Common.{refl, ap, ap₂, sym, ◌∙◌, subst, arith, take-add, append_assoc, length-append}
use Rattle.std.specs.List.{concat}
use Rattle.std.proofs.Math.Nat.{mul-mod_left, mul-le-mul_right, le-div_iff_mul-le}
use Rattle.std.proofs.lemmas.List.{take_all, take_at, drop_at, drop-drop, drop-take, take-take}
use Rattle.std.proofs.lemmas.List.{length-replicate, length-set, length-drop, length-take-le}
use Rattle.std.proofs.lemmas.List.{replicate-append-replicate, set-append_left, set-append_right}
use Rattle.std.proofs.lemmas.List.Folds.{concat-append}
use Rattle.tk_kernel.specs.Pieces.{all_pieces, AllSized}
use Rattle.tk_kernel.proofs.Offers.{all_pieces-concat, concat-all_pieces, AllSized-all_pieces, length-concat}
use Rattle.tk_kernel.proofs.Offers.{AllSized-set, drop-pieces, take-pieces, concat-pieces}
use Rattle.tk_answer.specs.Runs.{IsRun}
use Rattle.tk_answer.proofs.Offers.{run_of_slice, AllSized-take, AllSized-drop}
use Rattle.tk_shards.specs.Ranged.{Ranged, zero_blocks, lacking, padded, range_in, most_blocks}
use Rattle.tk_shards.specs.Packing.{ranged, IsPacked}
use Rattle.tk_shards.proofs.Padding.{AllSized-padded, length-padded}

pub concat-zeros : (width n : ℕ) → concat (zero_blocks width n) ≡ replicate (n * width) 0
concat-zeros width zero = let none : 0 ≡ 0 * width = omega arith in ap (λ k. replicate k 0) none
concat-zeros width (suc n) =
    let more : width + n * width ≡ suc n * width = omega arith in
    ap (λ ys. replicate width 0 ++ ys) (concat-zeros width n)
    ∙ replicate-append-replicate width (n * width) 0 ∙ ap (λ k. replicate k 0) more

-- the blocks of a range are found again among the zeros
own-again : (r : Ranged) → take (length r.blocks) (drop (r.first % 8) (padded r)) ≡ r.blocks
own-again r =
    let before = zero_blocks r.width (r.first % 8) in
    let behind = zero_blocks r.width (lacking (r.first + length r.blocks)) in
    ap (take (length r.blocks)) (drop_at before (r.blocks ++ behind) (r.first % 8)
    (length-replicate (r.first % 8) (replicate r.width 0)))
    ∙ take_at r.blocks behind (length r.blocks) refl

-- the range with other blocks
abbrev with_blocks : Ranged → List (List ℕ) → Ranged
with_blocks r blocks = record { width = r.width; first = r.first; blocks = blocks }

-- bytes that have been joined so are this range, of so many blocks
pub record IsJoined (r : Ranged) (n : ℕ) (bytes : List ℕ) : Type 0 where
  pub same : ranged r.width r.first n bytes ≡ r
  pub packed : IsPacked r.width r.first n bytes

pub joined : (r : Ranged) (n : ℕ) (bytes : List ℕ) → 0 < r.width → AllSized r.width r.blocks → length r.blocks ≡ n →
    r.first + n ≤ most_blocks → bytes ≡ concat (padded r) → IsJoined r n bytes
joined r n bytes some each count small e =
    let width = r.width in
    let all = padded r in
    let sized : AllSized width all = AllSized-padded r each in
    let cut : all_pieces width bytes ≡ all = ap (all_pieces width) e ∙ all_pieces-concat width all some sized in
    let own : take n (drop (r.first % 8) (all_pieces width bytes)) ≡ r.blocks =
    ap (λ ps. take n (drop (r.first % 8) ps)) cut
    ∙ ap (λ k. take k (drop (r.first % 8) all)) (sym count) ∙ own-again r in
    let same : ranged width r.first n bytes ≡ r =
    ap (with_blocks r) own in
    record {
      same = same;
      packed = record {
        some = some;
        counted = ap length own ∙ count;
        pieces = cut ∙ ap padded (sym same);
        whole = ap length e ∙ length-concat width all sized
            ∙ ap (λ (s : Ranged). length (padded s) * width) (sym same);
        small = small;
      };
    }

-- a copy of some blocks, with zeros before and behind
pub copied : (width from end : ℕ) (blocks : List (List ℕ)) (bytes : List ℕ) → 0 < width → AllSized width blocks →
    from ≤ end → end ≤ length blocks → length blocks ≤ most_blocks →
    bytes ≡ (replicate (from % 8 * width) 0 ++ concat (take (end - from) (drop from blocks)))
    ++ replicate (lacking end * width) 0 →
    IsJoined (range_in width from end blocks) (end - from) bytes
copied width from end blocks bytes some each order within small e =
    let own = take (end - from) (drop from blocks) in
    let count : length own ≡ end - from =
    length-take-le (end - from) (drop from blocks) (omega (arith, length-drop from blocks)) in
    let last : from + length own ≡ end = omega arith in
    let before = zero_blocks width (from % 8) in
    let behind = zero_blocks width (lacking (from + length own)) in
    joined (range_in width from end blocks) (end - from) bytes some
    (AllSized-take width (end - from) (drop from blocks) (AllSized-drop width from blocks each)) count (omega arith)
    (e ∙ append_assoc (replicate (from % 8 * width) 0) (concat own) (replicate (lacking end * width) 0)
    ∙ ap₂ (λ (xs ys : List ℕ). xs ++ (concat own ++ ys)) (sym (concat-zeros width (from % 8)))
    (ap (λ n. replicate (lacking n * width) 0) (sym last) ∙ sym (concat-zeros width (lacking (from + length own))))
    ∙ ap (λ ys. concat before ++ ys) (sym (concat-append own behind))
    ∙ sym (concat-append before (own ++ behind)))

-- that copy as it is made: as many zeros as stand before, the blocks, and zeros up to the length of all
pub filled : (width from end start_len more_len : ℕ) (blocks : List (List ℕ)) (start first more all : List ℕ) →
    0 < width → AllSized width blocks → from ≤ end → end ≤ length blocks → length blocks ≤ most_blocks → start ≡ [] →
    start_len ≡ length start →
    first ≡ take (from % 8 * width) start ++ replicate (from % 8 * width - start_len) 0 →
    more ≡ first ++ concat (take (end - from) (drop from blocks)) → more_len ≡ length more →
    all ≡ take ((from % 8 + (end - from) + lacking end) * width) more
    ++ replicate ((from % 8 + (end - from) + lacking end) * width - more_len) 0 →
    IsJoined (range_in width from end blocks) (end - from) all
filled width from end start_len more_len blocks start first more all some each order within small none n1 e1 e2
    n2 e3 =
    let own = take (end - from) (drop from blocks) in
    let front = from % 8 * width in
    let len = (from % 8 + (end - from) + lacking end) * width in
    let apart : len ≡ front + (end - from) * width + lacking end * width = omega arith in
    let no_more : front - start_len ≡ front = omega (arith, n1, ap length none) in
    let begun : first ≡ replicate front 0 =
    e1 ∙ ap₂ (λ (xs : List ℕ) n. xs ++ replicate n 0)
    (take_all front start (omega (arith, ap length none)) ∙ none) no_more in
    let count : length own ≡ end - from =
    length-take-le (end - from) (drop from blocks) (omega (arith, length-drop from blocks)) in
    let long_own : length (concat own) ≡ (end - from) * width =
    length-concat width own (AllSized-take width (end - from) (drop from blocks)
    (AllSized-drop width from blocks each))
    ∙ ap (λ n. n * width) count in
    let long : length more ≡ front + (end - from) * width =
    ap length (e2 ∙ ap (λ (xs : List ℕ). xs ++ concat own) begun) ∙ length-append (replicate front 0) (concat own)
    ∙ ap₂ (λ a b. a + b) (length-replicate front 0) long_own in
    let rest : len - more_len ≡ lacking end * width = omega (arith, apart, long, n2) in
    copied width from end blocks all some each order within small
    (e3 ∙ ap₂ (λ (xs : List ℕ) n. xs ++ replicate n 0)
    (take_all len more (omega (arith, apart, long)) ∙ e2 ∙ ap (λ (xs : List ℕ). xs ++ concat own) begun) rest)

-- some of the pieces of a slice, joined, are a part of it
part-joined : (width i m : ℕ) (bytes : List ℕ) → 0 < width → (i + m) * width ≤ length bytes →
    take (m * width) (drop (i * width) bytes) ≡ concat (take m (drop i (all_pieces width bytes)))
part-joined width i m bytes some h =
    let all = length bytes / width in
    let within : i + m ≤ all = (le-div_iff_mul-le some).1 h in
    sym (ap (λ ps. concat (take m ps)) (drop-pieces width i all bytes (omega arith))
    ∙ ap concat (take-pieces width m (all - i) (drop (i * width) bytes) (omega arith))
    ∙ concat-pieces width m (drop (i * width) bytes) (omega (arith, length-drop (i * width) bytes)))

-- the bytes are the blocks and the zeros, joined
module _ (width first count : ℕ) (bytes : List ℕ) (packed : IsPacked width first count bytes) where
  pub bytes-joined : bytes ≡ concat (padded (ranged width first count bytes))
  bytes-joined =
      let whole : length bytes % width ≡ 0 =
      ap (λ n. n % width) packed.whole ∙ mul-mod_left (length (padded (ranged width first count bytes))) width in
      sym (concat-all_pieces width bytes whole) ∙ ap concat packed.pieces

  pub AllSized-ranged : AllSized width (ranged width first count bytes).blocks
  AllSized-ranged =
      AllSized-take width count (drop (first % 8) (all_pieces width bytes))
      (AllSized-drop width (first % 8) (all_pieces width bytes) (AllSized-all_pieces width bytes))

  count-packed : length (padded (ranged width first count bytes)) ≡ first % 8 + (count + lacking (first + count))
  count-packed =
      length-padded (ranged width first count bytes)
      ∙ ap (λ n. first % 8 + (n + lacking (first + n))) packed.counted

  -- room for so many of the blocks
  pub fits : (n : ℕ) → n ≤ count → (first % 8 + n) * width ≤ length bytes
  fits n low =
      let more : (first % 8 + n) * width ≤ length (padded (ranged width first count bytes)) * width =
      mul-le-mul_right width (omega (arith, count-packed)) in
      omega (arith, more, packed.whole)

  -- the blocks from one on are a run of the range
  pub own-run : (i : ℕ) → i < count →
      IsRun (ranged width first count bytes).blocks i
      (take ((first % 8 + count) * width - (first % 8 + i) * width) (drop ((first % 8 + i) * width) bytes))
  own-run i low =
      let f = first % 8 in
      let m = count - i in
      let all = all_pieces width bytes in
      let upto : f + i + m ≡ f + count = omega arith in
      let reach : (f + i + m) * width ≤ length bytes =
      omega (arith, ap (λ n. n * width) upto, fits count (omega arith)) in
      let apart : (f + i + m) * width ≡ (f + i) * width + m * width = omega arith in
      let long : m * width ≡ (f + count) * width - (f + i) * width = omega (arith, apart, ap (λ n. n * width) upto) in
      let there : i + m ≡ count = omega arith in
      let own : take m (drop (f + i) all) ≡ take m (drop i (take count (drop f all))) =
      sym (ap (λ n. take m (drop i (take n (drop f all)))) (sym there)
      ∙ ap (take m) (drop-take i m (drop f all)) ∙ take-take m m (drop i (drop f all)) (omega arith)
      ∙ ap (take m) (drop-drop i f all)) in
      record {
        count = m;
        some = omega arith;
        within = omega (arith, packed.counted);
        joined = ap (λ n. take n (drop ((f + i) * width) bytes)) (sym long)
            ∙ part-joined width (f + i) m bytes packed.some reach ∙ ap concat own;
      }

  -- with the zeros the blocks are a run too
  pub padded-run : (i : ℕ) → i < length (padded (ranged width first count bytes)) →
      IsRun (padded (ranged width first count bytes)) i (take (length bytes - i * width) (drop (i * width) bytes))
  padded-run i low =
      let n = length (padded (ranged width first count bytes)) in
      let apart : (i + (n - i)) * width ≡ i * width + (n - i) * width = omega arith in
      let upto : i + (n - i) ≡ n = omega arith in
      let all : (i + (n - i)) * width ≡ length bytes = ap (λ k. k * width) upto ∙ sym packed.whole in
      let long : (n - i) * width ≡ length bytes - i * width = omega (arith, apart, all) in
      let run : IsRun (all_pieces width bytes) i (take ((n - i) * width) (drop (i * width) bytes)) =
      run_of_slice width i (n - i) bytes packed.some (omega arith) (omega (arith, all)) in
      subst (λ vs. IsRun vs i (take (length bytes - i * width) (drop (i * width) bytes))) packed.pieces
      (subst (λ k. IsRun (all_pieces width bytes) i (take k (drop (i * width) bytes))) long run)

-- one of the blocks replaced
concat-set : (width k : ℕ) (vs : List (List ℕ)) (b : List ℕ) → AllSized width vs → k < length vs →
    concat (set vs k b) ≡ take (k * width) (concat vs) ++ (b ++ drop width (drop (k * width) (concat vs)))
concat-set width k [] b each h = absurd (omega arith)
concat-set width zero (v ∷ vs) b each h =
    let none : 0 * width ≡ 0 = omega arith in
    rw none (ap (λ ys. b ++ ys) (sym (drop_at v (concat vs) width each.0)))
concat-set width (suc k) (v ∷ vs) b each h =
    let all = v ++ concat vs in
    let rest = concat vs in
    let more : suc k * width ≡ width + k * width = omega arith in
    let front : take (suc k * width) all ≡ v ++ take (k * width) rest =
    ap (λ n. take n all) more ∙ take-add width (k * width) all
    ∙ ap₂ (λ (xs ys : List ℕ). xs ++ take (k * width) ys) (take_at v rest width each.0)
    (drop_at v rest width each.0) in
    let back : drop (suc k * width) all ≡ drop (k * width) rest =
    ap (λ n. drop n all) more ∙ sym (drop-drop (k * width) width all)
    ∙ ap (drop (k * width)) (drop_at v rest width each.0) in
    ap (λ ys. v ++ ys) (concat-set width k vs b each.1 (omega arith))
    ∙ sym (append_assoc v (take (k * width) rest) (b ++ drop width (drop (k * width) rest)))
    ∙ ap₂ (λ (xs ys : List ℕ). xs ++ (b ++ drop width ys)) (sym front) (sym back)

padded-set : (r : Ranged) (i : ℕ) (b : List ℕ) → i < length r.blocks →
    padded (record { width = r.width; first = r.first; blocks = set r.blocks i b })
    ≡ set (padded r) (r.first % 8 + i) b
padded-set r i b low =
    let before = zero_blocks r.width (r.first % 8) in
    let behind = zero_blocks r.width (lacking (r.first + length r.blocks)) in
    let at : r.first % 8 + i - r.first % 8 ≡ i = omega arith in
    ap (λ n. before ++ (set r.blocks i b ++ zero_blocks r.width (lacking (r.first + n)))) (length-set r.blocks i b)
    ∙ ap (λ ys. before ++ ys) (sym (set-append_left r.blocks behind i b low))
    ∙ ap (λ n. before ++ set (r.blocks ++ behind) n b) (sym at)
    ∙ sym (set-append_right before (r.blocks ++ behind) (r.first % 8) (r.first % 8 + i) b
    (length-replicate (r.first % 8) (replicate r.width 0)) (omega arith))

-- a block written over one of the range
pub replaced : (width first n i : ℕ) (bytes new b : List ℕ) → IsPacked width first n bytes → i < n →
    length b ≡ width →
    new ≡ take ((first % 8 + i) * length b) bytes
    ++ (b ++ drop (length b) (drop ((first % 8 + i) * length b) bytes)) →
    IsJoined (record { width = width; first = first; blocks = set (ranged width first n bytes).blocks i b }) n new
replaced width first n i bytes new b packed low long e =
    let r = ranged width first n bytes in
    let k = first % 8 + i in
    let each : AllSized width r.blocks = AllSized-ranged width first n bytes packed in
    let there : k < length (padded r) = omega (arith, count-packed width first n bytes packed) in
    let count : length (set r.blocks i b) ≡ n = length-set r.blocks i b ∙ packed.counted in
    joined (record { width = width; first = first; blocks = set r.blocks i b }) n new packed.some
    (AllSized-set width r.blocks i b each long) count packed.small
    (e ∙ ap (λ w. take (k * w) bytes ++ (b ++ drop w (drop (k * w) bytes))) long
    ∙ ap (λ bs. take (k * width) bs ++ (b ++ drop width (drop (k * width) bs)))
    (bytes-joined width first n bytes packed)
    ∙ sym (concat-set width k (padded r) b (AllSized-padded r each) there)
    ∙ ap concat (sym (padded-set r i b (omega (arith, packed.counted)))))
