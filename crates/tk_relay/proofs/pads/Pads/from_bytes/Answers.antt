-- Bytes of the length of pads are pads.
use Rattle.std.proofs.Common.{◌≡◌, length, arith}
use Rattle.tk_relay.specs.Pads.{pads_len}
use Rattle.tk_relay.proofs.PadLaws.{pads-are}
use Rattle.tk_relay.proofs.pads.Pads.from_bytes.Goals as goal

pub returns-clause-are : goal.returns-clause-are
returns-clause-are c =
    let long : length c.args.bytes.items ≡ pads_len c.args.shape.now = omega arith in
    pads-are c.args.shape.now c.args.bytes.items long
