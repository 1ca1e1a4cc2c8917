use Rattle.std.proofs.Common.{◌%◌, sym, ap, refl, arith, rules, ◌∙◌}
use Rattle.tk_bucket.specs.Table.{with_slot}
use Rattle.tk_bucket.specs.Shown.{shown}
use Rattle.tk_bucket.specs.Packing.{table_of}
use Rattle.tk_bucket.specs.Holding.{held_bytes}
use Rattle.tk_bucket.proofs.Changing.{Lies, page_below, bucket_below, page_whole, page_spare}
use Rattle.tk_bucket.proofs.Changing.{after_table, after_paging, after_held}
use Rattle.tk_bucket.proofs.changes.write_slot.Goals as goal

pub index_mut-held-requires : goal.index_mut-held-requires
index_mut-held-requires c =
    let page = c.args.cut.page in
    let items = c.args.pages.now.items in
    let b = c.args.at.bucket in
    let lies : Lies page items b c.page_of.result (b % page.buckets) =
    record { below = c.requires.bucket; in_page = c.page_of.ensures; in_rest = refl } in
    let found = page_below page items c.args.pool.now c.requires.held b c.page_of.result
    (b % page.buckets) lies in
    omega (arith, found, c.args.pages.now.ok.0)

pub write_in-requires : goal.write_in-requires
write_in-requires c =
    let page = c.args.cut.page in
    let items = c.args.pages.now.items in
    let pool = c.args.pool.now in
    let is = c.requires.held in
    let b = c.args.at.bucket in
    let i = c.page_of.result in
    let j = c.place_in.result.bucket in
    let lies : Lies page items b i j =
    record {
      below = c.requires.bucket;
      in_page = c.page_of.ensures;
      in_rest = c.place_in.ensures.bucket;
    } in
    let h = c.index_mut-held.result.now in
    let there = c.index_mut-held.ensures.value in
    let whole = page_whole page items pool is b i j lies h there in
    record {
      whole = whole;
      len = whole ∙ sym is.page_len;
      spare = page_spare page items pool is b i j lies h there;
      place = record {
        bucket = bucket_below page items pool is b i j lies;
        slot = rw c.place_in.ensures.slot c.requires.slot;
      };
      block = search rules;
    }

pub returns : goal.returns
returns c =
    let page = c.args.cut.page in
    let items = c.args.pages.now.items in
    let pool = c.args.pool.now in
    let is = c.requires.held in
    let b = c.args.at.bucket in
    let i = c.page_of.result in
    let j = c.place_in.result.bucket in
    let lies : Lies page items b i j =
    record {
      below = c.requires.bucket;
      in_page = c.page_of.ensures;
      in_rest = c.place_in.ensures.bucket;
    } in
    let h = c.index_mut-held.result.now in
    let there = c.index_mut-held.ensures.value in
    let s = c.args.at.slot in
    let x = shown c.args.slot in
    let held = c.write_in.new.held in
    let after = c.write_in.new.pool in
    let e = c.write_in.ensures in
    let written = e.table
    ∙ ap (λ s. with_slot (table_of page (held_bytes h)) (j, s) x) c.place_in.ensures.slot in
    record {
      held = after_held page items pool is b i j lies h there s x held after e.whole written e.owned e.len e.spare;
      count = search rules;
      table = after_table page items pool is b i j lies h there s x held after e.whole written e.owned e.len e.spare;
      paging = after_paging page items pool is b i j lies h there s x held after e.whole written e.owned e.len e.spare;
    }
