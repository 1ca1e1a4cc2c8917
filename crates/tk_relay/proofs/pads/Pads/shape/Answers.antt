-- The bytes have the length that makes them pads.
use Rattle.std.proofs.Common.{subst}
use Rattle.tk_relay.specs.Pads.{Padding, ArePads}
use Rattle.tk_relay.proofs.PadLaws.{pads-are}
use Rattle.tk_relay.proofs.pads.Pads.shape.Goals as goal

pub returns-clause-are : goal.returns-clause-are
returns-clause-are c =
    subst (λ (p : Padding). ArePads p.shape p.pads) c.self.view_is
    (pads-are c.self.inside.shape c.self.inside.bytes.items c.self.invariant)
