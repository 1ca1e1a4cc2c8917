-- A packet that sets up a shape is the host's, and its bytes do.
use Rattle.std.proofs.Common.{◌∙◌, sym}
use Rattle.tk_serve.proofs.SetupLaws.{setup-peer, host-found, host-none}
use Rattle.tk_serve.proofs.setup.shape_of.Goals as goal

pub returns-then-peer-ne0-clause-none : goal.returns-then-peer-ne0-clause-none
returns-then-peer-ne0-clause-none c = λ shape is.
    c.if-peer-ne0.true (c.peer.ensures ∙ setup-peer shape c.args.packet.now is)

pub returns-clause-found : goal.returns-clause-found
returns-clause-found c =
    host-found c.args.packet.now c.bytes.result.now c.bytes.ensures c.shape_in.result
    (sym c.peer.ensures ∙ c.if-peer-ne0.false) c.shape_in.ensures.found

pub returns-clause-none : goal.returns-clause-none
returns-clause-none c =
    host-none c.args.packet.now c.bytes.result.now c.bytes.ensures c.shape_in.result c.shape_in.ensures.none
