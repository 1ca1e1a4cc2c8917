use Rattle.std.proofs.Common.{◌≡◌, ◌*◌, ◌%◌, length, arith, ap, ap₂, refl, subst, ◌∙◌, List, ℕ}
use Rattle.tk_bucket.specs.Table.{Slot, slot_at}
use Rattle.tk_bucket.specs.Shown.{Shows}
use Rattle.tk_bucket.specs.Packing.{table_of}
use Rattle.tk_bucket.specs.Paging.{Stored}
use Rattle.tk_bucket.proofs.Changing.{Lies, page_below, bucket_below, page_whole}
use Rattle.tk_bucket.proofs.Sized.{slot_there}
use Rattle.tk_bucket.proofs.buckets.Buckets.slot.Goals as goal

pub index-held-requires : goal.index-held-requires
index-held-requires c =
    let inside = c.self.inside in
    let page = inside.cut.page in
    let b = c.args.bucket in
    let all : length inside.pages.items * page.buckets ≡ c.args.self.now.contents.buckets =
    ap (λ (v : Stored). v.contents.buckets) c.self.view_is in
    let lies : Lies page inside.pages.items b c.page_of.result (b % page.buckets) =
    record {
      below = omega (arith, all, c.requires.bucket_in);
      in_page = c.page_of.ensures;
      in_rest = refl;
    } in
    let found = page_below page inside.pages.items inside.pool c.self.invariant b c.page_of.result
    (b % page.buckets) lies in
    omega (arith, found, inside.pages.ok.0)

pub slot_at-requires : goal.slot_at-requires
slot_at-requires c =
    let inside = c.self.inside in
    let page = inside.cut.page in
    let items = inside.pages.items in
    let b = c.args.bucket in
    let i = c.page_of.result in
    let j = c.place_in-place.result.bucket in
    let all : length items * page.buckets ≡ c.args.self.now.contents.buckets =
    ap (λ (v : Stored). v.contents.buckets) c.self.view_is in
    let deep : page.depth ≡ c.args.self.now.contents.depth =
    ap (λ (v : Stored). v.contents.depth) c.self.view_is in
    let lies : Lies page items b i j =
    record {
      below = omega (arith, all, c.requires.bucket_in);
      in_page = c.page_of.ensures;
      in_rest = c.place_in-place.ensures.bucket;
    } in
    record {
      whole = ap length c.bytes_of.ensures
          ∙ page_whole page items inside.pool c.self.invariant b i j lies c.index-held.result.now c.index-held.ensures;
      place = record {
        bucket = bucket_below page items inside.pool c.self.invariant b i j lies;
        slot = omega (arith, c.place_in-place.ensures.slot, c.requires.slot_in, deep);
      };
    }

pub returns : goal.returns
returns c =
    let inside = c.self.inside in
    let page = inside.cut.page in
    let b = c.args.bucket in
    let s = c.args.slot in
    let j = c.place_in-place.result.bucket in
    let all : length inside.pages.items * page.buckets ≡ c.args.self.now.contents.buckets =
    ap (λ (v : Stored). v.contents.buckets) c.self.view_is in
    let lies : Lies page inside.pages.items b c.page_of.result j =
    record {
      below = omega (arith, all, c.requires.bucket_in);
      in_page = c.page_of.ensures;
      in_rest = c.place_in-place.ensures.bucket;
    } in
    let found = ap₂ (λ (x : List ℕ) (n : ℕ). slot_at (table_of page x) (j, n)) c.bytes_of.ensures
    c.place_in-place.ensures.slot
    ∙ slot_there page inside.pages.items inside.pool c.self.invariant b c.page_of.result j lies
    c.index-held.result.now c.index-held.ensures s
    ∙ ap (λ (v : Stored). slot_at v.contents.table (b, s)) c.self.view_is in
    subst (λ (t : Slot). Shows c.slot_at.result t) found c.slot_at.ensures
