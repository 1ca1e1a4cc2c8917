-- A table's pages, all owned, filled from its bytes.
use Rattle.std.proofs.Common.{◌≡◌, ℕ, zero, suc, ◌+◌, ◌-◌, ◌*◌, ◌/◌, ◌<◌, false, List, [], ◌∷◌, ◌++◌}
use Rattle.std.proofs.Common.{map, length, take, drop, replicate, refl, sym, ap, ap₂, subst, ◌∙◌, arith}
use Rattle.std.proofs.Common.{append_assoc, mul_assoc}
use Rattle.std.proofs.Math.Nat.{div-le_self}
use Rattle.std.proofs.lemmas.List.{length-append, length-map, length-replicate, length-drop, drop-take}
use Rattle.std.proofs.lemmas.List.{take-take, map-append}
use Rattle.std.proofs.lemmas.List.Folds.{sum_by-replicate}
use Rattle.tk_kernel.specs.Pieces.{pieces}
use Rattle.tk_kernel.proofs.Offers.{length-pieces, AllSized-pieces, pieces-add}
use Rattle.tk_pool.specs.Pool.{Spares}
use Rattle.tk_bucket.specs.declared.sizes.Sizes.{Sizes}
use Rattle.tk_bucket.specs.declared.held.Held.{Held}
use Rattle.tk_bucket.specs.declared.held.Held.TheVariants.{Owned}
use Rattle.tk_bucket.specs.Sizes.{IsSizes, bucket_len}
use Rattle.tk_bucket.specs.Table.{Contents, SlotTable}
use Rattle.tk_bucket.specs.Packing.{bucket_in, table_in, table_of}
use Rattle.tk_bucket.specs.Paging.{IsPerPage, one_if}
use Rattle.tk_bucket.specs.Holding.{IsHeld, held_bytes, is_shared, page_len, table_in_pages, contents_of}
use Rattle.tk_bucket.proofs.Powers.{power_found, parts_whole}

-- pages that are owned, with these bytes
abbrev pub owned_all : List (List ℕ) → List Held
owned_all ps = map (λ page. Owned page) ps

-- ---- one page after the other

-- The first pages are filled; the rest of the bytes fills the others.
pub record IsFilling (size count : ℕ) (bytes : List ℕ) (made : ℕ) (pages : List Held) (rest : List ℕ) : Type 0 where
  pub counted : length pages ≡ made
  pub left : length rest ≡ (count - made) * size
  pub all : pages ++ owned_all (pieces size (count - made) rest) ≡ owned_all (pieces size count bytes)

-- one more is filled
pub filling_more : (size count : ℕ) (bytes : List ℕ) (made : ℕ) (pages : List Held) (rest page : List ℕ) →
    made < count → page ≡ take size rest → IsFilling size count bytes made pages rest →
    IsFilling size count bytes (made + 1) (pages ++ Owned page ∷ []) (drop size rest)
filling_more size count bytes made pages rest page low is so =
    let left = count - (made + 1) in
    let one : count - made ≡ suc left = omega arith in
    record {
      counted = length-append pages (Owned page ∷ []) ∙ ap (λ n. n + 1) so.counted;
      left = length-drop size rest ∙ omega (arith, so.left, ap (λ n. n * size) one);
      all =
          append_assoc pages (Owned page ∷ []) (owned_all (pieces size left (drop size rest)))
          ∙ ap (λ p. pages ++ Owned p ∷ owned_all (pieces size left (drop size rest))) is
          ∙ ap (λ n. pages ++ owned_all (pieces size n rest)) (sym one)
          ∙ so.all;
    }

-- ---- the table in these pages

-- bytes past the last piece don't count
pub pieces-take : (size count : ℕ) (bytes : List ℕ) →
    pieces size count (take (count * size) bytes) ≡ pieces size count bytes
pieces-take size zero bytes = refl
pieces-take size (suc count) bytes =
    let more : suc count * size ≡ size + count * size = omega arith in
    ap (λ n. pieces size (suc count) (take n bytes)) more
    ∙ ap₂ (λ p rest. p ∷ pieces size count rest)
    (take-take size (size + count * size) bytes (omega arith)) (drop-take size (count * size) bytes)
    ∙ ap (λ ps. take size bytes ∷ ps) (pieces-take size count (drop size bytes))

-- the tables of whole pages are the table of all bytes
pages_together : (page : Sizes) (parts : ℕ) (bytes : List ℕ) →
    table_in_pages page (pieces (page_len page) parts bytes)
    ≡ table_in (parts * page.buckets) page.depth page.block bytes
unfolding table_in
pages_together page zero bytes =
    let none : 0 * page.buckets ≡ 0 = omega arith in rw none refl
pages_together page (suc parts) bytes =
    let wide = bucket_len page.depth page.block in
    let one : SlotTable = table_of page (take (page_len page) bytes) in
    let rest = pieces wide (parts * page.buckets) (drop (page_len page) bytes) in
    let more : suc parts * page.buckets ≡ page.buckets + parts * page.buckets = omega arith in
    ap (λ T. one ++ T) (pages_together page parts (drop (page_len page) bytes))
    ∙ sym (map-append (bucket_in page.depth page.block) (pieces wide page.buckets (take (page_len page) bytes)) rest)
    ∙ ap (λ ps. map (bucket_in page.depth page.block) (ps ++ rest)) (pieces-take wide page.buckets bytes)
    ∙ ap (map (bucket_in page.depth page.block)) (sym (pieces-add wide page.buckets (parts * page.buckets) bytes))
    ∙ ap (λ n. table_in n page.depth page.block bytes) (sym more)

owned_bytes : (ps : List (List ℕ)) → map held_bytes (owned_all ps) ≡ ps
owned_bytes [] = refl
owned_bytes (p ∷ ps) = ap (λ xs. p ∷ xs) (owned_bytes ps)

owned_flags : (ps : List (List ℕ)) → map is_shared (owned_all ps) ≡ replicate (length ps) false
owned_flags [] = refl
owned_flags (p ∷ ps) = ap (λ xs. false ∷ xs) (owned_flags ps)

-- none of them is shared
pub filled_flags : (ps : List (List ℕ)) (held : List Held) → held ≡ owned_all ps →
    map is_shared held ≡ replicate (length (map is_shared held)) false
filled_flags ps held made =
    let flags : map is_shared held ≡ replicate (length ps) false = ap (map is_shared) made ∙ owned_flags ps in
    flags ∙ ap (λ k. replicate k false) (sym (ap length flags ∙ length-replicate (length ps) false))

module _ (page : Sizes) (buckets len parts : ℕ) (bytes : List ℕ)
    (in_range : IsSizes buckets page.depth page.block)
    (per : IsPerPage buckets (bucket_len page.depth page.block) page.buckets)
    (long : len ≡ page_len page)
    (cut : parts ≡ buckets / page.buckets)
    (all_bytes : length bytes ≡ buckets * bucket_len page.depth page.block) where
  whole : parts * page.buckets ≡ buckets
  whole =
      ap (λ n. n * page.buckets) cut
      ∙ parts_whole buckets page.buckets (power_found buckets in_range.buckets_power) per.power per.few

  -- the bytes of a table are those of its pages
  pub whole_pages : length bytes ≡ parts * len
  unfolding whole
  whole_pages =
      let wide = bucket_len page.depth page.block in
      all_bytes
      ∙ ap (λ n. n * wide) (sym whole)
      ∙ mul_assoc parts page.buckets wide
      ∙ ap (λ n. parts * n) (sym long)

  module _ (held : List Held) (pool : Spares)
      (made : held ≡ owned_all (pieces len parts bytes)) (pool_len : pool.page_len ≡ len) where
    count : length held ≡ parts
    count =
        ap length made ∙ length-map (pieces len parts bytes) (λ page. Owned page)
        ∙ length-pieces len parts bytes

    all : length held * page.buckets ≡ buckets
    all = ap (λ n. n * page.buckets) count ∙ whole

    in_pages : map held_bytes held ≡ pieces len parts bytes
    in_pages = ap (map held_bytes) made ∙ owned_bytes (pieces len parts bytes)

    flags : map is_shared held ≡ replicate (length (pieces len parts bytes)) false
    flags = ap (map is_shared) made ∙ owned_flags (pieces len parts bytes)

    pub filled_held : IsHeld page held pool
    filled_held =
        let wide = bucket_len page.depth page.block in
        record {
          in_range = subst (λ (n : ℕ). IsSizes n page.depth page.block) (sym all) in_range;
          few = omega (arith, count, cut, div-le_self buckets page.buckets, in_range.buckets_high);
          each = rw (in_pages, ← long) (AllSized-pieces len parts bytes (omega (arith, whole_pages)));
          page_len = pool_len ∙ long;
          paged = record {
            per_page = subst (λ (n : ℕ). IsPerPage n wide page.buckets) (sym all) per;
            pages = ap (λ n. n * page.buckets) (length-map held is_shared);
            enough = rw flags (omega (arith, sum_by-replicate one_if (length (pieces len parts bytes)) false));
          };
        }

    table : table_in_pages page (map held_bytes held) ≡ table_in buckets page.depth page.block bytes
    table =
        ap (table_in_pages page) in_pages
        ∙ ap (λ n. table_in_pages page (pieces n parts bytes)) long
        ∙ pages_together page parts bytes
        ∙ ap (λ n. table_in n page.depth page.block bytes) whole

    pub filled_contents : (depth block : ℕ) → page.depth ≡ depth → page.block ≡ block
        → contents_of page held
        ≡ record {
          buckets = buckets;
          depth = depth;
          block = block;
          table = table_in buckets depth block bytes;
        }
    filled_contents depth block deep wide =
        let seen = λ (n : ℕ) (T : SlotTable).
        let c : Contents = record { buckets = n; depth = page.depth; block = page.block; table = T } in c
        in
        let with = λ (d k : ℕ).
        let c : Contents = record { buckets = buckets; depth = d; block = k; table = table_in buckets d k bytes } in c
        in
        ap₂ seen all table ∙ ap₂ with deep wide
