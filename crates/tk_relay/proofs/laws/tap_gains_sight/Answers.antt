use Rattle.tk_relay.proofs.RelayedSights.{tap-gains-sight, tap-gains-the-same}
use Rattle.tk_relay.proofs.laws.tap_gains_sight.Goals as goal

pub returns-clause-sight : goal.returns-clause-sight
returns-clause-sight c = tap-gains-sight

pub returns-clause-same : goal.returns-clause-same
returns-clause-same c = tap-gains-the-same
