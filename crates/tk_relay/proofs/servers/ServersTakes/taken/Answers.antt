-- All that were ordered are counted.
use Rattle.tk_relay.proofs.servers.ServersTakes.taken.Goals as goal

pub returns : goal.returns
returns g c = λ was shape E F have. have.counted
