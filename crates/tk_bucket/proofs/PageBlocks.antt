-- The blocks of pages.
use Rattle.std.proofs.Common.{◌≡◌, ℕ, zero, suc, ◌+◌, ◌-◌, ◌*◌, ◌/◌, ◌%◌, ◌<◌, ◌≤◌, List, ◌++◌, map, length, get_or, take, drop, refl, sym, ap, subst, ◌∙◌, arith, length-append}
use Rattle.std.specs.List.{flat_map}
use Rattle.std.specs.Int.{w32, w64, to_be_bytes}
use Rattle.std.proofs.Math.Nat.{mod-lt}
use Rattle.std.proofs.lemmas.Nat.{div_below, div-add-mod'}
use Rattle.std.proofs.lemmas.List.{length-map, length-drop, length-take-le, get_or-map}
use Rattle.tk_kernel.specs.Pieces.{AllSized, pieces}
use Rattle.tk_answer.specs.Runs.{IsRun}
use Rattle.tk_bucket.specs.declared.sizes.Sizes.{Sizes}
use Rattle.tk_bucket.specs.Sizes.{slot_len, bucket_len}
use Rattle.tk_bucket.specs.Table.{Slot}
use Rattle.tk_bucket.specs.Bytes.{slot_bytes, blocks_of}
use Rattle.tk_frames.specs.Slots.{slot_from}
use Rattle.tk_frames.proofs.Offers.{IsBytes}
use Rattle.tk_bucket.specs.Packing.{table_of, table_in, bucket_in}
use Rattle.tk_bucket.specs.Holding.{page_len, table_in_pages}
use Rattle.tk_bucket.proofs.Tables.{blocks_of-table_in, slot_ends}
use Rattle.tk_bucket.proofs.Rest.{rest_is_run}
use Rattle.tk_bucket.proofs.Rows.{length_rows, run_in_row, AllSized-get, AllSized-rows, map-flat_map}
use Rattle.tk_bucket.proofs.Changing.{page_rows}

length-eight : (n : ℕ) → length (to_be_bytes w64 n) ≡ 8
length-eight n = refl

length-four : (n : ℕ) → length (to_be_bytes w32 n) ≡ 4
length-four n = refl

length-slot_bytes : (s : Slot) → length (slot_bytes s) ≡ 16 + length s.block
length-slot_bytes s =
    let a = to_be_bytes w64 s.position in
    let b = to_be_bytes w32 s.first in
    let c = to_be_bytes w32 s.second in
    length-append ((a ++ b) ++ c) s.block
    ∙ omega (arith, length-append (a ++ b) c, length-append a b, length-eight s.position, length-four s.first, length-four s.second)

length-slots : (block depth : ℕ) (bytes : List ℕ) → depth * slot_len block ≤ length bytes →
    length (flat_map slot_bytes (map slot_from (pieces (slot_len block) depth bytes))) ≡ depth * slot_len block
length-slots block zero bytes le = omega arith
length-slots block (suc depth) bytes le =
    let len = slot_len block in
    let slot = take len bytes in
    length-append (slot_bytes (slot_from slot)) (flat_map slot_bytes (map slot_from (pieces len depth (drop len bytes))))
    ∙ omega (arith, length-slot_bytes (slot_from slot), length-drop 16 slot, length-take-le len bytes (omega arith), length-slots block depth (drop len bytes) (omega (arith, length-drop len bytes)))

blocks_sized : (buckets depth block : ℕ) (bytes : List ℕ) → buckets * bucket_len depth block ≤ length bytes →
    AllSized (bucket_len depth block) (blocks_of (table_in buckets depth block bytes))
unfolding table_in bucket_in
blocks_sized zero depth block bytes le = tt
blocks_sized (suc buckets) depth block bytes le =
    let wide = bucket_len depth block in (
      length-slots block depth (take wide bytes) (omega (arith, length-take-le wide bytes (omega arith))),
      blocks_sized buckets depth block (drop wide bytes) (omega (arith, length-drop wide bytes)),
    )

-- the blocks of one page
abbrev pub page_blocks : Sizes → List ℕ → List (List ℕ)
page_blocks page x = blocks_of (table_of page x)

block_rows : (page : Sizes) (x : List ℕ) → length x ≡ page_len page → length (page_blocks page x) ≡ page.buckets
block_rows page x e = length-map (table_of page x) (flat_map slot_bytes) ∙ page_rows page x e

in_rows : (page : Sizes) (xs : List (List ℕ)) → blocks_of (table_in_pages page xs) ≡ flat_map (page_blocks page) xs
in_rows page xs = map-flat_map (flat_map slot_bytes) (table_of page) xs

pub block_count : (page : Sizes) (xs : List (List ℕ)) → AllSized (page_len page) xs → length (blocks_of (table_in_pages page xs)) ≡ length xs * page.buckets
block_count page xs h =
    ap length (in_rows page xs) ∙ length_rows (page_blocks page) (page_len page) page.buckets (block_rows page) xs h

pub block_sizes : (page : Sizes) (xs : List (List ℕ)) → AllSized (page_len page) xs → AllSized (bucket_len page.depth page.block) (blocks_of (table_in_pages page xs))
block_sizes page xs h =
    let wide = bucket_len page.depth page.block in
    rw (in_rows page xs)
    (AllSized-rows (page_blocks page) (page_len page) page.buckets (block_rows page) wide
    (λ x e. blocks_sized page.buckets page.depth page.block x (omega (arith, e))) xs h)

-- ---- bucket b of the table is bucket j of page i, which has the bytes x

module _ {X : Type 0} (value : X → List ℕ) (page : Sizes) (ps : List X)
    (each : AllSized (page_len page) (map value ps)) (b i : ℕ)
    (below : b < length (blocks_of (table_in_pages page (map value ps))))
    (in_page : i ≡ b / page.buckets) where
  all : b < length (map value ps) * page.buckets
  all = omega (arith, below, block_count page (map value ps) each)

  among : b / page.buckets < length (map value ps)
  among = div_below b page.buckets (length (map value ps)) page.in_range.buckets_low all

  pub run_page : i < length ps
  run_page = omega (arith, in_page, among, length-map ps value)

  module _ (p : X) (x : List ℕ) (there : p ≡ get_or ps i p) (bytes : x ≡ value p) where
    here : x ≡ get_or (map value ps) i x
    here = bytes ∙ ap value there ∙ sym (get_or-map value ps i p x run_page)

    pub run_whole : length x ≡ page_len page
    run_whole =
        ap length here
        ∙ AllSized-get (page_len page) (map value ps) i x each (omega (arith, in_page, among))

    -- the rest of the page, from the bucket on, is a run
    pub page_is_run : (j at n : ℕ) → j ≡ b % page.buckets → IsBytes x
        → at ≡ j * bucket_len page.depth page.block → n + at ≡ length x
        → IsRun (blocks_of (table_in_pages page (map value ps))) b (take n (drop at x))
    page_is_run j at n in_rest fits begins ends =
        let wide = bucket_len page.depth page.block in
        let count = page.buckets in
        let Rows : Type 0 = List (List ℕ) in
        let some : 0 < count = page.in_range.buckets_low in
        let less : j < count = rw in_rest (mod-lt b some) in
        let wider : 0 < wide =
        omega (arith, slot_ends page.depth page.block 0 (omega (arith, page.in_range.depth_low))) in
        let split : b ≡ i * count + j = rw (in_page, in_rest) (sym (div-add-mod' b count)) in
        let run : IsRun (pieces wide count x) j (take n (drop at x)) =
        rest_is_run wide count j (count - j) at n x wider (omega (arith, less)) (omega (arith, less))
        run_whole begins ends in
        let cut : blocks_of (table_of page x) ≡ pieces wide count x =
        blocks_of-table_in count page.depth page.block x fits (omega (arith, run_whole)) in
        let in_one : IsRun (page_blocks page x) j (take n (drop at x)) =
        subst (λ (vs : Rows). IsRun vs j (take n (drop at x))) (sym cut) run in
        let found : IsRun (page_blocks page (get_or (map value ps) i x)) j (take n (drop at x)) =
        subst (λ (y : List ℕ). IsRun (page_blocks page y) j (take n (drop at x))) here in_one in
        subst (λ (vs : Rows). IsRun vs b (take n (drop at x))) (sym (in_rows page (map value ps)))
        (run_in_row (page_blocks page) (page_len page) count (block_rows page) (map value ps) i j b x
        (take n (drop at x)) each (omega (arith, in_page, among)) split found)
