-- Sums of many vectors over some blocks, some neighbouring bytes at a time.
use Rattle.std.proofs.Common.{◌≡◌, ℕ, ◌+◌, ◌*◌, ◌<◌, ◌≤◌, List, length, slice_index, slice_index_or, Vec, Global, refl, ap, sym, ◌∙◌, arith}
use Rattle.std.specs.List.{All}
use Rattle.std.specs.Simd.Lanes.{put_chunk, chunk}
use Rattle.std.proofs.lemmas.Simd.{length-chunk, length-put_chunk}
use Rattle.tk_kernel.specs.Nibbles.{tables_of, taken}
use Rattle.tk_kernel.specs.Xor.{xor_bytes}
use Rattle.tk_kernel.specs.Pieces.{pieces}
use Rattle.tk_kernel.specs.Chosen.{chosen_from}
use Rattle.tk_kernel.specs.Words.{bytes_of}
use Rattle.tk_kernel.specs.Stripes.{IsFront, xor_front, chosen_of_eights}
use Rattle.tk_kernel.proofs.Sums.{length-xor_all}
use Rattle.tk_kernel.proofs.Cuts.{AllSized-pieces}
use Rattle.tk_kernel.proofs.Chosen.{AllSized-chosen_from}
use Rattle.tk_kernel.proofs.Fours.{taken_is}
use Rattle.tk_kernel.proofs.Fronts.{xor_front-none, xor_front_all, front_more}

-- it is as long as a block
pub long_chosen : (size bytes : ℕ) (blocks bits : List ℕ) → 8 * bytes * size ≤ length blocks →
    length (chosen_of_eights size bytes blocks bits) ≡ size
long_chosen size bytes blocks bits whole =
    length-xor_all size (chosen_from 0 (pieces size (8 * bytes) blocks) bits)
    (AllSized-chosen_from size 0 (pieces size (8 * bytes) blocks) bits (AllSized-pieces size (8 * bytes) blocks whole))

-- before the first byte
pub begun : (size bytes : ℕ) (blocks words : List ℕ) (start : List (Vec ℕ Global)) → IsFront size bytes blocks words start 0 start
begun size bytes blocks words start =
    record {
      within = omega arith;
      count = refl;
      each = λ k d h. sym (xor_front-none (slice_index_or start k d).items
          (chosen_of_eights size bytes blocks (bytes_of bytes (slice_index words k))));
    }

-- as many bytes more as a table's entries have
pub columns_added : (n size i bytes : ℕ) (blocks words : List ℕ) (start sums new : List (Vec ℕ Global)) (tables : List (List (List ℕ))) →
    i + n ≤ size → 8 * bytes * size ≤ length blocks →
    All (λ v. v.len ≡ size) start → All (λ v. v.len ≡ size) sums →
    IsFront size bytes blocks words start i sums →
    tables ≡ tables_of n size i blocks 0 (2 * bytes) →
    length new ≡ length sums →
    ((k : ℕ) (d : Vec ℕ Global) → k < length sums → (slice_index_or new k d).items
    ≡ put_chunk i (slice_index_or sums k d).items (taken tables (chunk i n (slice_index_or sums k d).items) (slice_index words k))) →
    IsFront size bytes blocks words start (i + n) new
columns_added n size i bytes blocks words start sums new tables h whole start_sized sized front made count each =
    record {
      within = h;
      count = count ∙ front.count;
      each = λ k d less.
          let word = slice_index words k in
          let dst = (slice_index_or sums k d).items in
          let total = chosen_of_eights size bytes blocks (bytes_of bytes word) in
          let here : k < length sums = omega (arith, front.count) in
          let long : length dst ≡ size = sym ((slice_index_or sums k d).ok.0) ∙ sized k d here in
          let start_long : length (slice_index_or start k d).items ≡ size = sym ((slice_index_or start k d).ok.0) ∙ start_sized k d less in
          let lanes : taken tables (chunk i n dst) word ≡ xor_bytes (chunk i n dst) (chunk i n total) =
          ap (λ ts. taken ts (chunk i n dst) word) made
          ∙ taken_is n size i bytes blocks (chunk i n dst) word h (length-chunk i n dst (omega (arith, long))) whole in
          each k d here
          ∙ ap (put_chunk i dst) lanes
          ∙ front_more i n (slice_index_or start k d).items total dst (start_long ∙ sym (long_chosen size bytes blocks (bytes_of bytes word) whole)) (omega (arith, start_long)) (long ∙ sym start_long) (front.each k d less);
    }

-- each sum keeps its length
pub columns_sized : (size i : ℕ) (sums new : List (Vec ℕ Global)) (part : ℕ → List ℕ → List ℕ) →
    length new ≡ length sums → All (λ v. v.len ≡ size) sums →
    ((k : ℕ) (d : Vec ℕ Global) → k < length sums → (slice_index_or new k d).items
    ≡ put_chunk i (slice_index_or sums k d).items (part k (slice_index_or sums k d).items)) →
    All (λ v. v.len ≡ size) new
columns_sized size i sums new part count sized each = λ k d less.
    let here : k < length sums = omega (arith, count) in
    let old = slice_index_or sums k d in
    (slice_index_or new k d).ok.0
    ∙ ap length (each k d here)
    ∙ length-put_chunk i old.items (part k old.items)
    ∙ sym old.ok.0
    ∙ sized k d here

-- all bytes of each sum
pub all_columns : (size i bytes : ℕ) (blocks words : List ℕ) (start sums : List (Vec ℕ Global)) →
    8 * bytes * size ≤ length blocks → All (λ v. v.len ≡ size) start → i ≡ size →
    IsFront size bytes blocks words start i sums →
    (k : ℕ) (d : Vec ℕ Global) → k < length start → (slice_index_or sums k d).items
    ≡ xor_bytes (slice_index_or start k d).items (chosen_of_eights size bytes blocks (bytes_of bytes (slice_index words k)))
all_columns size i bytes blocks words start sums whole sized last front k d h =
    let old = slice_index_or start k d in
    let long : length old.items ≡ size = sym old.ok.0 ∙ sized k d h in
    let total = chosen_of_eights size bytes blocks (bytes_of bytes (slice_index words k)) in
    front.each k d h
    ∙ ap (λ m. xor_front m old.items total) (last ∙ sym long)
    ∙ xor_front_all old.items total (long ∙ sym (long_chosen size bytes blocks (bytes_of bytes (slice_index words k)) whole))
