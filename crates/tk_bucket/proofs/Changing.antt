-- A slot of a page changed: the table, and how it lies in pages.
use Rattle.std.proofs.Common.{◌≡◌, ℕ, ◌+◌, ◌-◌, ◌*◌, ◌/◌, ◌%◌, ◌<◌, ◌≤◌, Bool, false, List, []}
use Rattle.std.proofs.Common.{map, length, get_or, set, sym, ap, ap₂, subst, ◌∙◌, arith}
use Rattle.std.proofs.Math.ListN.{length-set}
use Rattle.std.proofs.Math.Nat.{mod-lt}
use Rattle.std.proofs.lemmas.Nat.{div_below, div-add-mod'}
use Rattle.std.proofs.lemmas.List.{length-map, map-set, get_or-map}
use Rattle.std.proofs.lemmas.List.Sums.{sum_by-set}
use Rattle.tk_kernel.specs.Pieces.{pieces}
use Rattle.tk_kernel.proofs.Offers.{length-pieces, AllSized-set}
use Rattle.tk_pool.specs.Pool.{Spares}
use Rattle.tk_bucket.specs.declared.sizes.Sizes.{Sizes}
use Rattle.tk_bucket.specs.declared.held.Held.{Held}
use Rattle.tk_bucket.specs.Sizes.{IsSizes, bucket_len}
use Rattle.tk_bucket.specs.Table.{Slot, bucket_at, with_slot}
use Rattle.tk_bucket.specs.Packing.{IsWhole, table_of, table_in, bucket_in}
use Rattle.tk_bucket.specs.Paging.{IsPerPage, Paging, shared_count, one_if, with_owned, with_changed}
use Rattle.tk_bucket.specs.Holding.{IsHeld, held_bytes, is_shared, page_len, table_in_pages, paging_of}
use Rattle.tk_bucket.proofs.Rows.{AllSized-get, get_row, set_row}

-- each page's table has as many buckets
pub page_rows : (page : Sizes) (x : List ℕ) → length x ≡ page_len page
    → length (table_of page x) ≡ page.buckets
unfolding table_in
page_rows page x e =
    let wide = bucket_len page.depth page.block in
    length-map (pieces wide page.buckets x) (bucket_in page.depth page.block)
    ∙ length-pieces wide page.buckets x

-- bucket b is bucket j of page i
pub record Lies (page : Sizes) (held : List Held) (b i j : ℕ) : Type 0 where
  pub below : b < length held * page.buckets
  pub in_page : i ≡ b / page.buckets
  pub in_rest : j ≡ b % page.buckets

module _ (page : Sizes) (held : List Held) (pool : Spares) (is : IsHeld page held pool)
    (b i j : ℕ) (lies : Lies page held b i j) where
  some : 0 < page.buckets
  some = page.in_range.buckets_low

  pub page_below : i < length held
  page_below = rw lies.in_page (div_below b page.buckets (length held) some lies.below)

  pub bucket_below : j < page.buckets
  bucket_below = rw lies.in_rest (mod-lt b some)

  split : b ≡ i * page.buckets + j
  split = rw (lies.in_page, lies.in_rest) (sym (div-add-mod' b page.buckets))

  bytes : List (List ℕ)
  bytes = map held_bytes held

  module _ (h : Held) (there : h ≡ get_or held i h) where
    bytes_there : get_or bytes i [] ≡ held_bytes h
    unfolding bytes
    bytes_there = get_or-map held_bytes held i h [] page_below ∙ ap held_bytes (sym there)

    among : i < length (map held_bytes held)
    among = omega (arith, page_below, length-map held held_bytes)

    pub page_whole : length (held_bytes h) ≡ page_len page
    unfolding bytes
    page_whole = ap length (sym bytes_there) ∙ AllSized-get (page_len page) bytes i [] is.each among

    shared_there : get_or (map is_shared held) i false ≡ is_shared h
    shared_there = get_or-map is_shared held i h false page_below ∙ ap is_shared (sym there)

    fewer : shared_count (set (map is_shared held) i false) + one_if (is_shared h)
        ≡ shared_count (map is_shared held)
    fewer =
        ap (λ s. shared_count (set (map is_shared held) i false) + one_if s) (sym shared_there)
        ∙ sum_by-set one_if (map is_shared held) i false false
        (omega (arith, page_below, length-map held is_shared))
        ∙ omega arith

    -- there is a spare page for it
    pub page_spare : one_if (is_shared h) ≤ pool.spare
    page_spare = omega (arith, fewer, is.paged.enough)

    -- the bucket is the one of its page
    pub bucket_there : bucket_at (table_in_pages page (map held_bytes held)) b
        ≡ bucket_at (table_of page (held_bytes h)) j
    unfolding bytes
    bucket_there =
        get_row (table_of page) (page_len page) page.buckets (page_rows page) bytes i j b [] []
        is.each among bucket_below split
        ∙ ap (λ x. bucket_at (table_of page x) j) bytes_there

    -- ---- it becomes another

    module _ (s : ℕ) (x : Slot) (h' : Held) (pool' : Spares)
        (whole : IsWhole page (held_bytes h'))
        (written : table_of page (held_bytes h')
        ≡ with_slot (table_of page (held_bytes h)) (j, s) x)
        (owned : is_shared h' ≡ false)
        (same : pool'.page_len ≡ pool.page_len)
        (taken : pool'.spare + one_if (is_shared h) ≡ pool.spare) where
      pub after_count : length (set held i h') ≡ length held
      after_count = length-set held i h'

      pub after_table : table_in_pages page (map held_bytes (set held i h'))
          ≡ with_slot (table_in_pages page (map held_bytes held)) (b, s) x
      unfolding bytes
      after_table =
          let y = set (bucket_at (table_of page (held_bytes h)) j) s x in
          let fw : table_of page (held_bytes h') ≡ set (table_of page (get_or bytes i [])) j y =
          written ∙ ap (λ z. set (table_of page z) j y) (sym bytes_there) in
          ap (table_in_pages page) (map-set held_bytes held i h')
          ∙ sym (set_row (table_of page) (page_len page) page.buckets (page_rows page) bytes i j b
          [] (held_bytes h') y is.each among bucket_below split fw)
          ∙ ap (λ bucket. set (table_in_pages page bytes) b (set bucket s x)) (sym bucket_there)

      flags : map is_shared (set held i h') ≡ set (map is_shared held) i false
      flags = map-set is_shared held i h' ∙ ap (set (map is_shared held) i) owned

      pub after_paging : paging_of page (set held i h') pool'
          ≡ with_changed (paging_of page held pool) b
      after_paging =
          let Flags : Type 0 = List Bool in
          let spare : pool'.spare ≡ pool.spare - one_if (get_or (map is_shared held) i false) =
          rw shared_there (omega (arith, taken)) in
          let now = λ (bs : Flags) (n : ℕ).
          let p : Paging = record { per_page = page.buckets; shared = bs; spare = n } in p
          in
          ap₂ now flags spare ∙ ap (with_owned (paging_of page held pool)) lies.in_page

      pub after_held : IsHeld page (set held i h') pool'
      unfolding bytes
      after_held =
          let n = sym after_count in
          let width = bucket_len page.depth page.block in
          record {
            in_range = subst (λ (m : ℕ). IsSizes (m * page.buckets) page.depth page.block) n
                is.in_range;
            few = omega (arith, after_count, is.few);
            each = rw (map-set held_bytes held i h')
                (AllSized-set (page_len page) bytes i (held_bytes h') is.each whole);
            page_len = same ∙ is.page_len;
            paged = record {
              per_page = subst (λ (m : ℕ). IsPerPage (m * page.buckets) width page.buckets) n
                  is.paged.per_page;
              pages = ap (λ m. m * page.buckets) (length-map (set held i h') is_shared);
              enough = rw flags (omega (arith, fewer, taken, is.paged.enough));
            };
          }
