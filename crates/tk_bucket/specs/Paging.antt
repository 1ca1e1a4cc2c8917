-- A table in pages of several buckets, some of them shared with snapshots.
use Rattle.std.specs.Prelude.{◌≡◌, ℕ, ◌+◌, ◌-◌, ◌*◌, ◌/◌, ◌^◌, ◌<◌, ◌≤◌, Bool, false, cond, List, length}
use Rattle.std.specs.Prelude.{slice_index_or, slice_set}
use Rattle.std.specs.Int.{IsPowerOfTwo}
use Rattle.std.specs.List.{count_by}
use Rattle.tk_bucket.specs.Table.{Contents}

-- The buckets of a page, of width bytes each: of the powers of two that aren't above the number of
-- all buckets the greatest with which a page has 4,096 bytes at most; where there is none, one.
pub record IsPerPage (buckets width per : ℕ) : Type 0 where
  pub power : IsPowerOfTwo per
  pub few : per ≤ buckets
  pub small : 1 < per → per * width ≤ 4096
  pub greatest : (k : ℕ) → 2 ^ k * width ≤ 4096 → 2 ^ k ≤ buckets → 2 ^ k ≤ per

-- the buckets of a page, of each page whether it is shared, and how many pages are spare
pub record Paging : Type 0 where
  pub per_page : ℕ
  pub shared : List Bool
  pub spare : ℕ

-- how many pages are shared
abbrev pub shared_count : List Bool → ℕ
shared_count shared = count_by (λ s. s) shared

abbrev pub one_if : Bool → ℕ
one_if s = cond s 1 0

-- after a change of page i: it is owned, and where it was shared, a spare page has become it
abbrev pub with_owned : Paging → ℕ → Paging
with_owned p i =
    record {
      per_page = p.per_page;
      shared = slice_set p.shared i false;
      spare = p.spare - one_if (slice_index_or p.shared i false);
    }

-- after a change of bucket b
abbrev pub with_changed : Paging → ℕ → Paging
with_changed p b = with_owned p (b / p.per_page)

-- a change of a page lowers both counts by one where the page was shared, and else changes neither
abbrev pub ChangesLowerBoth : Type 0
ChangesLowerBoth =
    (p : Paging) (i : ℕ) → i < length p.shared → shared_count p.shared ≤ p.spare
    → (let was = one_if (slice_index_or p.shared i false) in
    (shared_count (with_owned p i).shared + was ≡ shared_count p.shared)
    × ((with_owned p i).spare + was ≡ p.spare))

-- each bucket lies in a page, and there is a spare page for each shared one
pub record IsPaged (buckets width : ℕ) (p : Paging) : Type 0 where
  pub per_page : IsPerPage buckets width p.per_page
  pub pages : length p.shared * p.per_page ≡ buckets
  pub enough : shared_count p.shared ≤ p.spare

-- what is stored in buckets, and how it lies in pages
pub record Stored : Type 0 where
  pub contents : Contents
  pub paging : Paging
