-- One packet more goes out, to the next server.
use Rattle.std.proofs.Common.{◌∙◌, ◌++◌, ◌+◌, ◌-◌, ◌∷◌, [], ap, List}
use Rattle.std.specs.Prelude.{replicate}
use Rattle.tk_packets.specs.Packets.{PacketView, packet}
use Rattle.tk_member.specs.Acting.{packets_from}
use Rattle.tk_member.proofs.Sequences.{each-next}
use Rattle.tk_member.proofs.packets.push_to_each.Goals as goal

pub servers-preserved : goal.servers-preserved
servers-preserved c =
    let i = c.servers.server in
    let n = c.args.servers in
    let frame = c.args.frame.now in
    let out = c.servers.out.items in
    let sent = c.in_ok-packet_to.ensures ∙ ap (packet (i + 1)) c.in_ok-bytes.ensures in
    ap (λ (ps : List PacketView). ps ++ packets_from (i + 1 + 1) (replicate (n - (i + 1)) frame))
    (c.in_ok-push.ensures.items ∙ ap (λ (p : PacketView). out ++ p ∷ []) sent)
    ∙ each-next out frame n i c.servers-test.true
    ∙ c.servers.invariant
