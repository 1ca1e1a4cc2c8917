use Rattle.tk_bucket.proofs.Sized.{sized_pages}
use Rattle.tk_bucket.proofs.buckets.Buckets.sized.Goals as goal

pub returns-clause-sizes : goal.returns-clause-sizes
returns-clause-sizes c =
    let inside = c.self.inside in
    rw (← c.self.view_is) (sized_pages inside.cut.page inside.pages.items inside.pool c.self.invariant)
