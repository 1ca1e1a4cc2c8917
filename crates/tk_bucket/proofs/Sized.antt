-- The sizes of a table in pages, and its slots.
use Rattle.std.proofs.Common.{◌≡◌, ℕ, zero, suc, ◌∷◌, ◌*◌, ◌/◌, ◌%◌, ◌<◌, List, []}
use Rattle.std.proofs.Common.{map, length, get_or, refl, sym, ap, ◌∙◌, arith}
use Rattle.std.proofs.lemmas.List.{length-map}
use Rattle.tk_pool.specs.Pool.{Spares}
use Rattle.tk_bucket.specs.declared.sizes.Sizes.{Sizes}
use Rattle.tk_bucket.specs.declared.held.Held.{Held}
use Rattle.tk_bucket.specs.declared.held.Held.TheVariants.{Owned}
use Rattle.tk_bucket.specs.Table.{IsSized, empty_slot, slot_at}
use Rattle.tk_bucket.specs.Packing.{table_of}
use Rattle.tk_bucket.specs.Holding.{IsHeld, held_bytes, page_len, table_in_pages, contents_of}
use Rattle.tk_bucket.proofs.Rows.{length_rows}
use Rattle.tk_bucket.proofs.Tables.{sized_table}
use Rattle.tk_bucket.proofs.Changing.{Lies, page_rows, page_below, bucket_below, page_whole, bucket_there}

get_or_any : (xs : List Held) (i : ℕ) (d e : Held) → i < length xs → get_or xs i d ≡ get_or xs i e
get_or_any [] i d e h = absurd (omega arith)
get_or_any (x ∷ xs) zero d e h = refl
get_or_any (x ∷ xs) (suc i) d e h = get_or_any xs i d e (omega arith)

module _ (page : Sizes) (held : List Held) (pool : Spares) (is : IsHeld page held pool) where
  -- the slot is the one of its page
  pub slot_there : (b i j : ℕ) → Lies page held b i j → (h : Held) → h ≡ get_or held i h → (s : ℕ)
      → slot_at (table_of page (held_bytes h)) (j, s)
      ≡ slot_at (table_in_pages page (map held_bytes held)) (b, s)
  slot_there b i j lies h there s =
      ap (λ bucket. get_or bucket s (empty_slot 0))
      (sym (bucket_there page held pool is b i j lies h there))

  lies : (b : ℕ) → b < length held * page.buckets
      → Lies page held b (b / page.buckets) (b % page.buckets)
  lies b below = record { below = below; in_page = refl; in_rest = refl }

  some : ℕ → Held
  some b = get_or held (b / page.buckets) (Owned [])

  there : (b : ℕ) → b < length held * page.buckets → some b ≡ get_or held (b / page.buckets) (some b)
  unfolding some
  there b below =
      get_or_any held (b / page.buckets) (Owned []) (some b)
      (page_below page held pool is b (b / page.buckets) (b % page.buckets) (lies b below))

  one : (b : ℕ) → b < length held * page.buckets → IsSized (record {
    buckets = page.buckets;
    depth = page.depth;
    block = page.block;
    table = table_of page (held_bytes (some b));
  })
  one b below =
      sized_table page.buckets page.depth page.block (held_bytes (some b)) page.in_range
      (page_whole page held pool is b (b / page.buckets) (b % page.buckets) (lies b below) (some b)
      (there b below))

  pub sized_pages : IsSized (contents_of page held)
  sized_pages =
      record {
        in_range = is.in_range;
        count = length_rows (table_of page) (page_len page) page.buckets (page_rows page)
            (map held_bytes held) is.each
            ∙ ap (λ n. n * page.buckets) (length-map held held_bytes);
        slots = λ b below.
            ap length (bucket_there page held pool is b (b / page.buckets) (b % page.buckets)
            (lies b below) (some b) (there b below))
            ∙ (one b below).slots (b % page.buckets)
            (bucket_below page held pool is b (b / page.buckets) (b % page.buckets) (lies b below));
        blocks = λ b s below in_bucket.
            ap (λ x. length x.block) (sym (slot_there b (b / page.buckets) (b % page.buckets)
            (lies b below) (some b) (there b below) s))
            ∙ (one b below).blocks (b % page.buckets) s
            (bucket_below page held pool is b (b / page.buckets) (b % page.buckets) (lies b below))
            in_bucket;
      }
