use Rattle.tk_board.proofs.Knowing.{plan_goes_on}
use Rattle.tk_board.proofs.ledger.Ledger.enlist.Goals as goal

pub extend-requires-clause-more : goal.extend-requires-clause-more
extend-requires-clause-more g c κs within =
    plan_goes_on _ _ _ _ _ c.draft-made.ensures.plan
