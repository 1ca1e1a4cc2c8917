use Rattle.tk_serve.proofs.OpenLaws.{empty-are}
use Rattle.tk_serve.proofs.GrowthLaws.{seats-still, told-grows, told-stays}
use Rattle.tk_serve.proofs.laws.told_grows.Goals as goal

pub returns : goal.returns
returns c = record { first = empty-are; still = seats-still; grows = told-grows; stays = told-stays }
