-- An empty table in pages, as one whose bytes are all zeros.
use Rattle.std.proofs.Common.{◌≡◌, ℕ, ◌*◌, ◌/◌, false, List, map, length, replicate, sym, ap, ap₂, ◌∙◌}
use Rattle.std.proofs.lemmas.List.{length-replicate}
use Rattle.tk_kernel.specs.Pieces.{pieces}
use Rattle.tk_pool.specs.Pool.{Spares}
use Rattle.tk_bucket.specs.declared.sizes.Sizes.{Sizes}
use Rattle.tk_bucket.specs.declared.held.Held.{Held}
use Rattle.tk_bucket.specs.declared.held.Held.TheVariants.{Owned}
use Rattle.tk_bucket.specs.Sizes.{IsSizes, bucket_len}
use Rattle.tk_bucket.specs.Table.{Contents, SlotTable, empty_table}
use Rattle.tk_bucket.specs.Packing.{table_in}
use Rattle.tk_bucket.specs.Paging.{IsPerPage}
use Rattle.tk_bucket.specs.Holding.{IsHeld, is_shared, page_len, contents_of}
use Rattle.tk_bucket.proofs.Pages.{pieces-replicate}
use Rattle.tk_bucket.proofs.Tables.{table_in-zeros, map-replicate}
use Rattle.tk_bucket.proofs.Filled.{owned_all, filled_flags, whole_pages, filled_held, filled_contents}

alike : (n : ℕ) (x : List ℕ) → replicate n (Owned x) ≡ owned_all (replicate n x)
alike n x = sym (map-replicate (λ page. Owned page) n x)

-- none of the pages is shared
pub opened_flags : (n : ℕ) (x : List ℕ) (held : List Held) → held ≡ replicate n (Owned x) →
    map is_shared held ≡ replicate (length (map is_shared held)) false
opened_flags n x held made = filled_flags (replicate n x) held (made ∙ alike n x)

module _ (page : Sizes) (buckets len parts : ℕ) (held : List Held) (pool : Spares)
    (in_range : IsSizes buckets page.depth page.block)
    (per : IsPerPage buckets (bucket_len page.depth page.block) page.buckets)
    (long : len ≡ page_len page)
    (cut : parts ≡ buckets / page.buckets)
    (made : held ≡ replicate parts (Owned (replicate len 0)))
    (pool_len : pool.page_len ≡ len) where
  abbrev zeros : List ℕ
  zeros = replicate (buckets * bucket_len page.depth page.block) 0

  all : length zeros ≡ buckets * bucket_len page.depth page.block
  all = length-replicate (buckets * bucket_len page.depth page.block) 0

  filled : held ≡ owned_all (pieces len parts zeros)
  filled =
      let whole = sym all ∙ whole_pages page buckets len parts zeros in_range per long cut all in
      made ∙ alike parts (replicate len 0)
      ∙ ap owned_all (sym (pieces-replicate len parts 0))
      ∙ ap (λ n. owned_all (pieces len parts (replicate n 0))) (sym whole)

  pub opened_held : IsHeld page held pool
  opened_held = filled_held page buckets len parts zeros in_range per long cut all held pool filled pool_len

  pub opened_contents : (depth block : ℕ) → page.depth ≡ depth → page.block ≡ block
      → contents_of page held
      ≡ record {
        buckets = buckets;
        depth = depth;
        block = block;
        table = empty_table buckets depth block;
      }
  opened_contents depth block deep wide =
      let with = λ (T : SlotTable).
      let c : Contents = record { buckets = buckets; depth = depth; block = block; table = T } in c
      in
      filled_contents page buckets len parts zeros in_range per long cut all held pool filled pool_len
      depth block deep wide
      ∙ ap with (ap₂ (λ d k. table_in buckets depth block (replicate (buckets * bucket_len d k) 0)) deep wide
      ∙ table_in-zeros buckets depth block)
