use Rattle.tk_place.proofs.Orders.{placed_in_any_order}
use Rattle.tk_place.proofs.laws.placed_in_any_order.Goals as goal

pub returns : goal.returns
returns c = placed_in_any_order
