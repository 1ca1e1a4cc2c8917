-- Sums of many vectors, a pass over some blocks at a time.
use Rattle.std.proofs.Common.{◌≡◌, ℕ, ◌+◌, ◌-◌, ◌*◌, ◌/◌, ◌%◌, ◌^◌, ◌<◌, ◌≤◌, ◌==◌, List, ◌++◌, length, take, drop, replicate, slice_index, slice_index_or, Vec, Global, refl, ap, ap₂, sym, ◌∙◌, arith}
use Rattle.std.specs.List.{All}
use Rattle.std.proofs.Math.Nat.{mul-le-mul_right}
use Rattle.std.proofs.lemmas.List.{length-drop, drop-drop, get_or-take, get_or-drop}
use Rattle.std.proofs.lemmas.Nat.{div-add-mod'}
use Rattle.tk_kernel.specs.Xor.{xor_bytes, xor_all}
use Rattle.tk_kernel.specs.Chosen.{has_bit, chosen_from}
use Rattle.tk_kernel.specs.Pieces.{pieces, all_pieces, AllSized}
use Rattle.tk_kernel.proofs.Sums.{xor_bytes_assoc, xor_bytes-zeros, length-xor_bytes, length-xor_all, xor_all-append}
use Rattle.tk_kernel.proofs.Cuts.{length-pieces, AllSized-pieces}
use Rattle.tk_kernel.proofs.Chosen.{AllSized-chosen_from, chosen_from-append}
use Rattle.tk_kernel.proofs.Passes.{pieces-add}
use Rattle.tk_kernel.proofs.Fours.{chosen_from-same}

-- what eight bytes of the vector choose, or fewer
abbrev pub chosen_by : ℕ → ℕ → ℕ → List ℕ → Vec ℕ Global → List ℕ
chosen_by size first bytes blocks v = xor_all size (chosen_from 0 (pieces size (8 * bytes) blocks) (take bytes (drop first v.items)))

-- what the vector chooses of the blocks under its bytes from number done on
abbrev pub left : ℕ → ℕ → List ℕ → ℕ → Vec ℕ Global → List ℕ
left size first blocks done v =
    xor_all size (chosen_from (8 * first + 8 * done) (pieces size (8 * (length blocks / size / 8 - done)) (drop (8 * done * size) blocks)) v.items)

-- the blocks under the bytes before number done are added
pub record IsBegun (size first : ℕ) (blocks : List ℕ) (vectors start : List (Vec ℕ Global)) (done : ℕ) (sums : List (Vec ℕ Global)) : Type 0 where
  pub within : done ≤ length blocks / size / 8
  pub count : length sums ≡ length start
  pub sized : All (λ v. v.len ≡ size) sums
  pub each : (k : ℕ) (d e : Vec ℕ Global) → k < length start →
      xor_bytes (slice_index_or sums k d).items (left size first blocks done (slice_index_or vectors k e))
      ≡ xor_bytes (slice_index_or start k d).items (xor_all size (chosen_from (8 * first) (all_pieces size blocks) (slice_index_or vectors k e).items))

bits_behind : (f k : ℕ) (v : List ℕ) → has_bit (drop f v) (0 + k) ≡ has_bit v (8 * f + k)
bits_behind f k v =
    let byte : f + (0 + k) / 8 ≡ (8 * f + k) / 8 = omega arith in
    let bit : (0 + k) % 8 ≡ (8 * f + k) % 8 = omega arith in
    ap₂ (λ x r. x / 2 ^ r % 2 == 1) (get_or-drop f v ((0 + k) / 8) 0 ∙ ap (slice_index v) byte) bit

-- a vector without its first bytes chooses as they do from there on
pub chosen_behind : (f : ℕ) (bs : List (List ℕ)) (v : List ℕ) → chosen_from 0 bs (drop f v) ≡ chosen_from (8 * f) bs v
chosen_behind f bs v = chosen_from-same 0 (8 * f) bs (drop f v) v (λ k _. bits_behind f k v)

bits_within : (f b k : ℕ) (v : List ℕ) → k < 8 * b → has_bit (take b (drop f v)) (0 + k) ≡ has_bit v (8 * f + k)
bits_within f b k v h =
    let byte : f + (0 + k) / 8 ≡ (8 * f + k) / 8 = omega arith in
    let bit : (0 + k) % 8 ≡ (8 * f + k) % 8 = omega arith in
    let read : slice_index (take b (drop f v)) ((0 + k) / 8) ≡ slice_index v (f + (0 + k) / 8) =
    get_or-take b (drop f v) ((0 + k) / 8) 0 (omega arith) ∙ get_or-drop f v ((0 + k) / 8) 0 in
    ap₂ (λ x r. x / 2 ^ r % 2 == 1) (read ∙ ap (slice_index v) byte) bit

module _ (size first : ℕ) (blocks : List ℕ) (vectors start : List (Vec ℕ Global))
    (some : 0 < size)
    (whole : length blocks % size ≡ 0)
    (eights : length blocks / size % 8 ≡ 0)
    (sized : All (λ v. v.len ≡ size) start) where
  all_blocks : length blocks / size * size ≡ length blocks
  all_blocks = omega (arith, div-add-mod' (length blocks) size)

  fits_by : (a b len : ℕ) → a ≤ b → b * size ≡ len → a * size ≤ len
  fits_by a b len h e = let more : a * size ≤ b * size = mul-le-mul_right size h in omega arith

  pub begun : IsBegun size first blocks vectors start 0 start
  begun =
      let all : 8 * (length blocks / size / 8 - 0) ≡ length blocks / size = omega arith in
      let none : 8 * 0 * size ≡ 0 = omega arith in
      let from : 8 * first + 8 * 0 ≡ 8 * first = omega arith in
      record {
        within = omega arith;
        count = refl;
        sized = sized;
        each = λ k d e h.
            ap (λ m. xor_bytes (slice_index_or start k d).items (xor_all size (chosen_from (8 * first + 8 * 0) (pieces size m (drop (8 * 0 * size) blocks)) (slice_index_or vectors k e).items))) all
            ∙ ap₂ (λ f m. xor_bytes (slice_index_or start k d).items (xor_all size (chosen_from f (pieces size (length blocks / size) (drop m blocks)) (slice_index_or vectors k e).items))) from none;
      }

  -- room for a pass
  pub enough : (done now : ℕ) → done + now ≤ length blocks / size / 8 → 8 * now * size ≤ length (drop (8 * done * size) blocks)
  enough done now h =
      let fits : (8 * done + 8 * now) * size ≤ length blocks = fits_by (8 * done + 8 * now) (length blocks / size) (length blocks) (omega arith) all_blocks in
      omega (arith, length-drop (8 * done * size) blocks)

  pass_added : (done now : ℕ) (dst : List ℕ) (v : Vec ℕ Global) → done + now ≤ length blocks / size / 8 →
      xor_bytes (xor_bytes dst (chosen_by size (first + done) now (drop (8 * done * size) blocks) v)) (left size first blocks (done + now) v) ≡ xor_bytes dst (left size first blocks done v)
  pass_added done now dst v h =
      let bytes = drop (8 * done * size) blocks in
      let from = 8 * first + 8 * done in
      let k = 8 * (length blocks / size / 8 - (done + now)) in
      let rest = drop (8 * now * size) bytes in
      let here = chosen_from from (pieces size (8 * now) bytes) v.items in
      let later = chosen_from (from + 8 * now) (pieces size k rest) v.items in
      let at : 8 * (first + done) ≡ from = omega arith in
      let after : 8 * first + 8 * (done + now) ≡ from + 8 * now = omega arith in
      let apart : 8 * (done + now) * size ≡ 8 * done * size + 8 * now * size = omega arith in
      let more : 8 * now + k ≡ 8 * (length blocks / size / 8 - done) = omega arith in
      let next : drop (8 * (done + now) * size) blocks ≡ rest = ap (λ m. drop m blocks) apart ∙ sym (drop-drop (8 * now * size) (8 * done * size) blocks) in
      let fits : (8 * done + 8 * now + k) * size ≤ length blocks = fits_by (8 * done + 8 * now + k) (length blocks / size) (length blocks) (omega arith) all_blocks in
      let long : k * size ≤ length rest = omega (arith, length-drop (8 * now * size) bytes, length-drop (8 * done * size) blocks) in
      let later_sized : AllSized size later = AllSized-chosen_from size (from + 8 * now) (pieces size k rest) v.items (AllSized-pieces size k rest long) in
      let same : chosen_from 0 (pieces size (8 * now) bytes) (take now (drop (first + done) v.items)) ≡ here =
      chosen_from-same 0 (8 * (first + done)) (pieces size (8 * now) bytes) (take now (drop (first + done) v.items)) v.items
      (λ j less. bits_within (first + done) now j v.items (omega (arith, length-pieces size (8 * now) bytes)))
      ∙ ap (λ f. chosen_from f (pieces size (8 * now) bytes) v.items) at in
      ap₂ (λ f bs. xor_bytes (xor_bytes dst (chosen_by size (first + done) now bytes v)) (xor_all size (chosen_from f (pieces size k bs) v.items))) after next
      ∙ ap (λ vs. xor_bytes (xor_bytes dst (xor_all size vs)) (xor_all size later)) same
      ∙ xor_bytes_assoc dst (xor_all size here) (xor_all size later)
      ∙ ap (xor_bytes dst) (sym (xor_all-append size here later later_sized))
      ∙ ap (λ n. xor_bytes dst (xor_all size (here ++ chosen_from (from + n) (pieces size k rest) v.items))) (sym (length-pieces size (8 * now) bytes))
      ∙ ap (λ vs. xor_bytes dst (xor_all size vs)) (sym (chosen_from-append from (pieces size (8 * now) bytes) (pieces size k rest) v.items))
      ∙ ap (λ ps. xor_bytes dst (xor_all size (chosen_from from ps v.items))) (sym (pieces-add size (8 * now) k bytes))
      ∙ ap (λ m. xor_bytes dst (xor_all size (chosen_from from (pieces size m bytes) v.items))) more

  long_chosen : (f now : ℕ) (bytes : List ℕ) (v : Vec ℕ Global) → 8 * now * size ≤ length bytes → length (chosen_by size f now bytes v) ≡ size
  long_chosen f now bytes v h =
      let bits = take now (drop f v.items) in
      length-xor_all size (chosen_from 0 (pieces size (8 * now) bytes) bits) (AllSized-chosen_from size 0 (pieces size (8 * now) bytes) bits (AllSized-pieces size (8 * now) bytes h))

  pub passed : (done now : ℕ) (sums new : List (Vec ℕ Global)) → done + now ≤ length blocks / size / 8 →
      IsBegun size first blocks vectors start done sums →
      length new ≡ length sums →
      ((k : ℕ) (d e : Vec ℕ Global) → k < length sums → (slice_index_or new k d).items
      ≡ xor_bytes (slice_index_or sums k d).items (chosen_by size (first + done) now (drop (8 * done * size) blocks) (slice_index_or vectors k e))) →
      IsBegun size first blocks vectors start (done + now) new
  passed done now sums new h before count each =
      record {
        within = h;
        count = count ∙ before.count;
        sized = λ k d less.
            let here : k < length sums = omega (arith, count) in
            let old = slice_index_or sums k d in
            let long : length old.items ≡ size = sym (old.ok.0) ∙ before.sized k d here in
            (slice_index_or new k d).ok.0 ∙ ap length (each k d d here)
            ∙ length-xor_bytes old.items (chosen_by size (first + done) now (drop (8 * done * size) blocks) (slice_index_or vectors k d)) (long ∙ sym (long_chosen (first + done) now (drop (8 * done * size) blocks) (slice_index_or vectors k d) (enough done now h)))
            ∙ long;
        each = λ k d e less.
            let v = slice_index_or vectors k e in
            ap (λ xs. xor_bytes xs (left size first blocks (done + now) v)) (each k d e (omega (arith, before.count)))
            ∙ pass_added done now (slice_index_or sums k d).items v h
            ∙ before.each k d e less;
      }

  pub all_passed : (done : ℕ) (sums : List (Vec ℕ Global)) → length blocks / size / 8 ≤ done → IsBegun size first blocks vectors start done sums →
      (k : ℕ) (d e : Vec ℕ Global) → k < length start → (slice_index_or sums k d).items
      ≡ xor_bytes (slice_index_or start k d).items (xor_all size (chosen_from (8 * first) (all_pieces size blocks) (slice_index_or vectors k e).items))
  all_passed done sums last before k d e h =
      let v = slice_index_or vectors k e in
      let xs = (slice_index_or sums k d).items in
      let here : k < length sums = omega (arith, before.count) in
      let long : length xs ≡ size = sym ((slice_index_or sums k d).ok.0) ∙ before.sized k d here in
      let none : 8 * (length blocks / size / 8 - done) ≡ 0 = omega arith in
      sym (ap (λ m. xor_bytes xs (xor_all size (chosen_from (8 * first + 8 * done) (pieces size m (drop (8 * done * size) blocks)) v.items))) none
      ∙ ap (λ m. xor_bytes xs (replicate m 0)) (sym long) ∙ xor_bytes-zeros xs)
      ∙ before.each k d e h
