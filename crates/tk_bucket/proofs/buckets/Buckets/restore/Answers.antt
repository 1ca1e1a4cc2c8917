use Rattle.tk_bucket.proofs.Filled.{whole_pages, filled_held, filled_contents, filled_flags}
use Rattle.tk_bucket.proofs.buckets.Buckets.restore.Goals as goal

pub filled_pages-requires-clause-whole : goal.filled_pages-requires-clause-whole
filled_pages-requires-clause-whole c =
    let cut = c.of-cut.ensures in
    whole_pages c.of-cut.result.page c.args.buckets _ _ c.args.bytes.now
    (rw (cut.depth, cut.block) c.requires.sizes) cut.per_page c.table_len-page_len.ensures
    c.page_of-count.ensures (rw (cut.depth, cut.block) c.requires.whole)

pub invariant_of-result : goal.invariant_of-result
invariant_of-result c =
    let cut = c.of-cut.ensures in
    filled_held c.of-cut.result.page c.args.buckets _ _ c.args.bytes.now
    (rw (cut.depth, cut.block) c.requires.sizes) cut.per_page c.table_len-page_len.ensures
    c.page_of-count.ensures (rw (cut.depth, cut.block) c.requires.whole)
    c.in_ok-pages.pages.items c.filled_pages.new.pool c.in_ok-pages.ensures.pages
    c.filled_pages.ensures.len

pub returns-clause-contents : goal.returns-clause-contents
returns-clause-contents c =
    let cut = c.of-cut.ensures in
    filled_contents c.of-cut.result.page c.args.buckets _ _ c.args.bytes.now
    (rw (cut.depth, cut.block) c.requires.sizes) cut.per_page c.table_len-page_len.ensures
    c.page_of-count.ensures (rw (cut.depth, cut.block) c.requires.whole)
    c.in_ok-pages.pages.items c.filled_pages.new.pool c.in_ok-pages.ensures.pages
    c.filled_pages.ensures.len c.args.depth c.args.block cut.depth cut.block

pub returns-clause-owned : goal.returns-clause-owned
returns-clause-owned c = filled_flags _ c.in_ok-pages.pages.items c.in_ok-pages.ensures.pages
