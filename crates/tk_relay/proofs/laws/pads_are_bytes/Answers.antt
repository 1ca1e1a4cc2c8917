use Rattle.tk_relay.proofs.PadBytes.{pads_are_cut, pads_are_spelled}
use Rattle.tk_relay.proofs.laws.pads_are_bytes.Goals as goal

pub returns-clause-cut : goal.returns-clause-cut
returns-clause-cut c = pads_are_cut

pub returns-clause-spelled : goal.returns-clause-spelled
returns-clause-spelled c = pads_are_spelled
