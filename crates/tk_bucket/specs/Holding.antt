-- What is held of a table: its pages, owned or shared.
use Rattle.std.specs.Prelude.{◌≡◌, ℕ, ◌*◌, ◌≤◌, Bool, true, false, List, length, map}
use Rattle.std.specs.List.{flat_map}
use Rattle.std.specs.Arc.{arc_value}
use Rattle.tk_kernel.specs.Pieces.{AllSized}
use Rattle.tk_pool.specs.Pool.{Spares}
use Rattle.tk_bucket.specs.declared.sizes.Sizes.{Sizes}
use Rattle.tk_bucket.specs.declared.held.Held.{Held}
use Rattle.tk_bucket.specs.declared.held.Held.TheVariants.{Owned, Shared}
use Rattle.tk_bucket.specs.Sizes.{IsSizes, bucket_len}
use Rattle.tk_bucket.specs.Table.{Contents, SlotTable}
use Rattle.tk_bucket.specs.Packing.{table_of}
use Rattle.tk_bucket.specs.Paging.{IsPaged, Paging}

abbrev pub held_bytes : Held → List ℕ
held_bytes (Owned page) = page
held_bytes (Shared page) = arc_value page

abbrev pub is_shared : Held → Bool
is_shared (Owned page) = false
is_shared (Shared page) = true

-- the bytes of a page of these sizes
abbrev pub page_len : Sizes → ℕ
page_len page = page.buckets * bucket_len page.depth page.block

-- the tables of these pages, one after the other
abbrev pub table_in_pages : Sizes → List (List ℕ) → SlotTable
table_in_pages page pages = flat_map (table_of page) pages

abbrev pub contents_of : Sizes → List Held → Contents
contents_of page held =
    record {
      buckets = length held * page.buckets;
      depth = page.depth;
      block = page.block;
      table = table_in_pages page (map held_bytes held);
    }

abbrev pub paging_of : Sizes → List Held → Spares → Paging
paging_of page held pool = record { per_page = page.buckets; shared = map is_shared held; spare = pool.spare }

-- no more pages than a table has buckets, each of these sizes
pub record AreWhole (page : Sizes) (pages : List (List ℕ)) : Type 0 where
  pub few : length pages ≤ 16384
  pub each : AllSized (page_len page) pages

-- pages of these sizes, and a pool of such pages
pub record IsHeld (page : Sizes) (held : List Held) (pool : Spares) : Type 0 where
  pub in_range : IsSizes (length held * page.buckets) page.depth page.block
  pub few : length held ≤ 16384
  pub each : AllSized (page_len page) (map held_bytes held)
  pub page_len : pool.page_len ≡ page_len page
  pub paged : IsPaged (length held * page.buckets) (bucket_len page.depth page.block) (paging_of page held pool)
