-- Another server than the first sees its part, and then its reply.
use Rattle.std.proofs.Common.{◌∙◌, ◌-◌, arith}
use Rattle.std.proofs.lemmas.List.{get_or_default}
use Rattle.std.proofs.lemmas.Result.{on_ok_weaker}
use Rattle.tk_relay.specs.Parts.{blank_part}
use Rattle.tk_relay.proofs.Places.{other-seen}
use Rattle.tk_relay.proofs.relayed_read.RelayedRead.see.Goals as goal

pub returns-in_ok-encode_part : goal.returns-in_ok-encode_part
returns-in_ok-encode_part c =
    let read = c.args.self.now in
    let server = c.args.server in
    let part = c.index.result.now in
    let reply = c.index-else-server-eq1.result.now in
    on_ok_weaker c.encode_masked_reply.result
    (λ seen. other-seen server read part reply c.args.out.now.items c.encode_part.new.out.items
    c.encode_masked_reply.new.out.items c.if-server-eq1.false
    (c.index.ensures
    ∙ get_or_default read.parts.items (server - 1) part blank_part
    (omega (arith, c.requires.low, c.requires.parts)))
    (c.index-else-server-eq1.ensures
    ∙ get_or_default read.replies.items (server - 1) reply blank_part
    (omega (arith, c.requires.low, c.requires.replies)))
    c.in_ok-encode_part.ensures.ok seen)
    c.encode_masked_reply.ensures.ok
