-- The table that bytes stand for.
use Rattle.std.proofs.Common.{◌≡◌, ℕ, zero, suc, ◌+◌, ◌*◌, ◌<◌, ◌≤◌, List, [], ◌∷◌, ◌++◌, map, length, get_or, set, take, drop, replicate, refl, sym, ap, ap₂, ◌∙◌, arith}
use Rattle.std.specs.List.{concat, flat_map}
use Rattle.std.proofs.lemmas.Nat.{row_fits}
use Rattle.std.proofs.lemmas.List.{length-map, length-drop, length-take-le, drop-drop, take-take, map-set, get_or-map}
use borrow.Rule.Slice.PartMut.{put_mid}
use Rattle.tk_kernel.specs.Pieces.{pieces}
use Rattle.tk_kernel.proofs.Offers.{length-pieces, get_or-pieces, concat-pieces}
use Rattle.tk_bucket.specs.Sizes.{IsSizes, slot_len, bucket_len}
use Rattle.tk_bucket.specs.Table.{empty_slot, empty_table, bucket_at, slot_at, with_slot, IsSized}
use Rattle.tk_bucket.specs.Bytes.{slot_bytes, blocks_of}
use Rattle.tk_frames.specs.Slots.{slot_from}
use Rattle.tk_frames.proofs.Offers.{IsBytes, IsBytes-drop, IsBytes-take}
use Rattle.tk_bucket.specs.Packing.{bucket_in, table_in}
use Rattle.tk_bucket.proofs.Pages.{take-drop-take, put_mid-within, length-put_mid, pieces-put_mid, pieces-replicate}
use Rattle.tk_bucket.proofs.OneSlot.{slot_bytes-slot_from, slot_from-zeros}

-- ---- places

-- a slot ends within its bucket
pub slot_ends : (depth block s : ℕ) → s < depth → s * slot_len block + slot_len block ≤ bucket_len depth block
slot_ends depth block s h = row_fits s (slot_len block) depth (slot_len block) h (omega arith)

-- a bucket ends within its table
pub bucket_ends : (buckets wide b : ℕ) → b < buckets → b * wide + wide ≤ buckets * wide
bucket_ends buckets wide b h = row_fits b wide buckets wide h (omega arith)

-- a slot ends within its table
pub slot_fits : (buckets depth block b s : ℕ) → b < buckets → s < depth →
    b * bucket_len depth block + s * slot_len block + slot_len block ≤ buckets * bucket_len depth block
slot_fits buckets depth block b s hb hs =
    omega (arith, slot_ends depth block s hs, bucket_ends buckets (bucket_len depth block) b hb)

-- ---- a table that is read

module _ (buckets depth block b : ℕ) (bytes : List ℕ) (in_table : b < buckets) where
  pub bucket_at-table_in : bucket_at (table_in buckets depth block bytes) b ≡ bucket_in depth block (take (bucket_len depth block) (drop (b * bucket_len depth block) bytes))
  unfolding table_in
  bucket_at-table_in =
      let wide = bucket_len depth block in
      get_or-map (bucket_in depth block) (pieces wide buckets bytes) b [] [] (omega (arith, length-pieces wide buckets bytes))
      ∙ ap (bucket_in depth block) (get_or-pieces wide buckets b bytes [] in_table)

  pub slot_at-table_in : (s : ℕ) → s < depth →
      slot_at (table_in buckets depth block bytes) (b, s) ≡ slot_from (take (slot_len block) (drop (b * bucket_len depth block + s * slot_len block) bytes))
  unfolding bucket_in
  slot_at-table_in s in_bucket =
      let wide = bucket_len depth block in
      let len = slot_len block in
      let rest = drop (b * wide) bytes in
      ap (λ slots. get_or slots s (empty_slot 0)) bucket_at-table_in
      ∙ get_or-map slot_from (pieces len depth (take wide rest)) s [] (empty_slot 0) (omega (arith, length-pieces len depth (take wide rest)))
      ∙ ap slot_from (get_or-pieces len depth s (take wide rest) [] in_bucket)
      ∙ ap slot_from (take-drop-take (s * len) len wide rest (slot_ends depth block s in_bucket))
      ∙ ap (λ zs. slot_from (take len zs)) (drop-drop (s * len) (b * wide) bytes)

-- ---- a table that is written

pub bucket_in-put_mid : (depth block s : ℕ) (bytes x : List ℕ) → s < depth → length bytes ≡ bucket_len depth block → length x ≡ slot_len block →
    bucket_in depth block (put_mid (s * slot_len block) (slot_len block) bytes x) ≡ set (bucket_in depth block bytes) s (slot_from x)
unfolding bucket_in
bucket_in-put_mid depth block s bytes x in_bucket long e =
    ap (map slot_from) (pieces-put_mid (slot_len block) depth s bytes x in_bucket (omega arith) e)
    ∙ map-set slot_from (pieces (slot_len block) depth bytes) s x

pub table_in-put_mid : (buckets depth block b s : ℕ) (bytes x : List ℕ) → b < buckets → s < depth →
    length bytes ≡ buckets * bucket_len depth block → length x ≡ slot_len block →
    table_in buckets depth block (put_mid (b * bucket_len depth block + s * slot_len block) (slot_len block) bytes x)
    ≡ with_slot (table_in buckets depth block bytes) (b, s) (slot_from x)
unfolding table_in
table_in-put_mid buckets depth block b s bytes x in_table in_bucket long e =
    let wide = bucket_len depth block in
    let len = slot_len block in
    let ends : s * len + len ≤ wide = slot_ends depth block s in_bucket in
    let fits : b * wide + wide ≤ length bytes = omega (arith, bucket_ends buckets wide b in_table) in
    let bucket = take wide (drop (b * wide) bytes) in
    let written = put_mid (s * len) len bucket x in
    let one : length bucket ≡ wide = length-take-le wide (drop (b * wide) bytes) (omega (arith, length-drop (b * wide) bytes)) in
    let same : length written ≡ wide = length-put_mid (s * len) len bucket x (omega arith) e ∙ one in
    ap (λ zs. map (bucket_in depth block) (pieces wide buckets zs)) (put_mid-within (b * wide) (s * len) len wide bytes x ends fits)
    ∙ ap (map (bucket_in depth block)) (pieces-put_mid wide buckets b bytes written in_table (omega arith) same)
    ∙ map-set (bucket_in depth block) (pieces wide buckets bytes) b written
    ∙ ap (set (map (bucket_in depth block) (pieces wide buckets bytes)) b) (bucket_in-put_mid depth block s bucket x in_bucket one e)
    ∙ ap (λ slots. set (map (bucket_in depth block) (pieces wide buckets bytes)) b (set slots s (slot_from x))) (sym (bucket_at-table_in buckets depth block b bytes in_table))

-- ---- an empty table

pub map-replicate : {X Y : Type 0} (f : X → Y) → (n : ℕ) (x : X) → map f (replicate n x) ≡ replicate n (f x)
map-replicate f zero x = refl
map-replicate f (suc n) x = ap (λ ys. f x ∷ ys) (map-replicate f n x)

pub table_in-zeros : (buckets depth block : ℕ) → table_in buckets depth block (replicate (buckets * bucket_len depth block) 0) ≡ empty_table buckets depth block
unfolding table_in bucket_in
table_in-zeros buckets depth block =
    let wide = bucket_len depth block in
    ap (map (bucket_in depth block)) (pieces-replicate wide buckets 0)
    ∙ map-replicate (bucket_in depth block) buckets (replicate wide 0)
    ∙ ap (λ ps. replicate buckets (map slot_from ps)) (pieces-replicate (slot_len block) depth 0)
    ∙ ap (replicate buckets) (map-replicate slot_from depth (replicate (slot_len block) 0))
    ∙ ap (λ s. replicate buckets (replicate depth s)) (slot_from-zeros block)

-- ---- its bytes

slots-joined : (block depth : ℕ) (bytes : List ℕ) → IsBytes bytes → depth * slot_len block ≤ length bytes →
    flat_map slot_bytes (map slot_from (pieces (slot_len block) depth bytes)) ≡ concat (pieces (slot_len block) depth bytes)
slots-joined block zero bytes fits le = refl
slots-joined block (suc depth) bytes fits le =
    let len = slot_len block in
    let slot = take len bytes in
    let one : slot_bytes (slot_from slot) ≡ slot =
    slot_bytes-slot_from slot (IsBytes-take len bytes fits) (omega (arith, length-take-le len bytes (omega arith))) in
    ap₂ (λ xs ys. xs ++ ys) one (slots-joined block depth (drop len bytes) (IsBytes-drop len bytes fits) (omega (arith, length-drop len bytes)))

pub blocks_of-table_in : (buckets depth block : ℕ) (bytes : List ℕ) → IsBytes bytes → buckets * bucket_len depth block ≤ length bytes →
    blocks_of (table_in buckets depth block bytes) ≡ pieces (bucket_len depth block) buckets bytes
unfolding table_in bucket_in
blocks_of-table_in zero depth block bytes fits le = refl
blocks_of-table_in (suc buckets) depth block bytes fits le =
    let wide = bucket_len depth block in
    let len = slot_len block in
    let bucket = take wide bytes in
    let one : length bucket ≡ wide = length-take-le wide bytes (omega arith) in
    ap₂ (λ xs ys. xs ∷ ys)
    (slots-joined block depth bucket (IsBytes-take wide bytes fits) (omega arith)
    ∙ concat-pieces len depth bucket (omega arith) ∙ take-take wide wide bytes (omega arith))
    (blocks_of-table_in buckets depth block (drop wide bytes) (IsBytes-drop wide bytes fits) (omega (arith, length-drop wide bytes)))

-- ---- its sizes

pub sized_table : (buckets depth block : ℕ) (bytes : List ℕ) → IsSizes buckets depth block → length bytes ≡ buckets * bucket_len depth block →
    IsSized (record { buckets = buckets; depth = depth; block = block; table = table_in buckets depth block bytes })
unfolding table_in bucket_in
sized_table buckets depth block bytes in_range long =
    let wide = bucket_len depth block in
    let len = slot_len block in
    record {
      in_range = in_range;
      count = length-map (pieces wide buckets bytes) (bucket_in depth block) ∙ length-pieces wide buckets bytes;
      slots = λ b hb.
          let bucket = take wide (drop (b * wide) bytes) in
          ap length (bucket_at-table_in buckets depth block b bytes hb)
          ∙ length-map (pieces len depth bucket) slot_from ∙ length-pieces len depth bucket;
      blocks = λ b s hb hs.
          let at = b * wide + s * len in
          let rest = drop at bytes in
          let ends : at + len ≤ length bytes = omega (arith, slot_fits buckets depth block b s hb hs) in
          ap (λ x. length x.block) (slot_at-table_in buckets depth block b bytes hb s hs)
          ∙ length-drop 16 (take len rest)
          ∙ omega (arith, length-take-le len rest (omega (arith, length-drop at bytes)));
    }

-- ---- the same for a slot that the code found

module _ (buckets depth block b s at k : ℕ) (bytes : List ℕ) (in_table : b < buckets) (in_bucket : s < depth) (long : length bytes ≡ buckets * bucket_len depth block) (begins : at ≡ b * bucket_len depth block + s * slot_len block) (lasts : k ≡ slot_len block) where
  -- it ends within the bytes
  pub found_within : at + k ≤ length bytes
  found_within = omega (arith, slot_fits buckets depth block b s in_table in_bucket)

  pub length_found : length (take k (drop at bytes)) ≡ slot_len block
  length_found = length-take-le k (drop at bytes) (omega (arith, length-drop at bytes, found_within)) ∙ lasts

  pub slot_found : slot_from (take k (drop at bytes)) ≡ slot_at (table_in buckets depth block bytes) (b, s)
  slot_found =
      ap₂ (λ n m. slot_from (take n (drop m bytes))) lasts begins
      ∙ sym (slot_at-table_in buckets depth block b bytes in_table s in_bucket)

  pub slot_written : (x : List ℕ) → length x ≡ slot_len block →
      table_in buckets depth block (put_mid at k bytes x) ≡ with_slot (table_in buckets depth block bytes) (b, s) (slot_from x)
  slot_written x e =
      ap₂ (λ n m. table_in buckets depth block (put_mid m n bytes x)) lasts begins
      ∙ table_in-put_mid buckets depth block b s bytes x in_table in_bucket long e
