use Rattle.std.proofs.Common.{◌≡◌, ◌+◌, ◌-◌, ◌<◌, length, map, arith, ap, ◌∙◌}
use Rattle.std.specs.Arc.{arc_value}
use Rattle.std.proofs.Math.Nat.{mod-lt}
use Rattle.tk_bucket.specs.Bytes.{BlockList, blocks_of}
use Rattle.tk_bucket.specs.Holding.{table_in_pages}
use Rattle.tk_bucket.proofs.PageBlocks.{run_page, run_whole, page_is_run}
use Rattle.tk_bucket.proofs.packed.PackedBlocks.run.Goals as goal

pub index-page-requires : goal.index-page-requires
index-page-requires c =
    let page = c.self.inside.cut.page in
    let ps = c.self.inside.pages.items in
    let below : c.args.i < length (blocks_of (table_in_pages page (map arc_value ps))) =
    omega (arith, ap (λ (v : BlockList). length v.blocks) c.self.view_is, c.requires) in
    let found = run_page arc_value page ps c.self.invariant.each c.args.i c.page_of.result below
    c.page_of.ensures in
    omega (arith, found, c.self.inside.pages.ok.0)

pub bucket_start-requires : goal.bucket_start-requires
bucket_start-requires c =
    let page = c.self.inside.cut.page in
    rw c.place_in-first.ensures.bucket (mod-lt c.args.i page.in_range.buckets_low)

pub rest_from-requires : goal.rest_from-requires
rest_from-requires c =
    let page = c.self.inside.cut.page in
    let ps = c.self.inside.pages.items in
    let below : c.args.i < length (blocks_of (table_in_pages page (map arc_value ps))) =
    omega (arith, ap (λ (v : BlockList). length v.blocks) c.self.view_is, c.requires) in
    let whole = run_whole arc_value page ps c.self.invariant.each c.args.i c.page_of.result below
    c.page_of.ensures c.index-page.result.now c.bytes.result.now c.index-page.ensures
    (c.bytes.ensures ∙ c.deref.ensures) in
    omega (arith, c.bucket_start.ensures.within, whole)

pub returns : goal.returns
returns c =
    let page = c.self.inside.cut.page in
    let ps = c.self.inside.pages.items in
    let x = c.bytes.result.now in
    let start = c.bucket_start.result in
    let below : c.args.i < length (blocks_of (table_in_pages page (map arc_value ps))) =
    omega (arith, ap (λ (v : BlockList). length v.blocks) c.self.view_is, c.requires) in
    let whole = run_whole arc_value page ps c.self.invariant.each c.args.i c.page_of.result below
    c.page_of.ensures c.index-page.result.now x c.index-page.ensures
    (c.bytes.ensures ∙ c.deref.ensures) in
    let ends : length x - start + start ≡ length x =
    omega (arith, c.bucket_start.ensures.within, whole) in
    rw (← c.self.view_is, c.rest_from.ensures.rest)
    (page_is_run arc_value page ps c.self.invariant.each c.args.i c.page_of.result below
    c.page_of.ensures c.index-page.result.now x c.index-page.ensures
    (c.bytes.ensures ∙ c.deref.ensures) c.place_in-first.result.bucket start (length x - start)
    c.place_in-first.ensures.bucket c.rest_from.ensures.bytes c.bucket_start.ensures.value ends)
