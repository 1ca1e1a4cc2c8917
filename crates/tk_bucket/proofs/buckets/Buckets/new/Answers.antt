use Rattle.tk_bucket.proofs.Opened.{opened_held, opened_contents, opened_flags}
use Rattle.tk_bucket.proofs.buckets.Buckets.new.Goals as goal

pub invariant_of-result : goal.invariant_of-result
invariant_of-result c =
    let cut = c.of-cut.ensures in
    opened_held c.of-cut.result.page c.args.buckets c.table_len-page_len.result c.page_of.result
    c.in_ok-pages.pages.items c.new-pool.result (rw (cut.depth, cut.block) c.requires) cut.per_page
    c.table_len-page_len.ensures c.page_of.ensures c.in_ok-pages.ensures c.new-pool.ensures.len

pub returns-clause-contents : goal.returns-clause-contents
returns-clause-contents c =
    let cut = c.of-cut.ensures in
    opened_contents c.of-cut.result.page c.args.buckets c.table_len-page_len.result c.page_of.result
    c.in_ok-pages.pages.items c.new-pool.result (rw (cut.depth, cut.block) c.requires) cut.per_page
    c.table_len-page_len.ensures c.page_of.ensures c.in_ok-pages.ensures c.new-pool.ensures.len
    c.args.depth c.args.block cut.depth cut.block

pub returns-clause-owned : goal.returns-clause-owned
returns-clause-owned c = opened_flags _ _ c.in_ok-pages.pages.items c.in_ok-pages.ensures
