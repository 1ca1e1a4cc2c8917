-- One more server's pads come after those before them, and all of them are the pads of the seed.
use Rattle.std.proofs.Common.{◌≡◌, ◌∙◌, ◌≤◌, length, take, drop, ap, arith}
use Rattle.tk_handle.specs.Handle.{key_bytes}
use Rattle.tk_relay.specs.Pads.{PadLists, pads_in, request_len, secret_of, both_pads, request_bytes, reply_bytes}
use Rattle.tk_relay.proofs.PadLaws.{pads-are, made-next, length-keyed_bytes, keyed-in, keyed-joined}
use Rattle.tk_relay.proofs.pads.Pads.keyed.Goals as goal

pub loop-server-preserved : goal.loop-server-preserved
loop-server-preserved c =
    let shape = c.args.shape.now in
    let seed = c.args.seed.now in
    let turn = c.args.turn in
    let server = c.loop-server.server in
    let low : 2 ≤ server = omega arith in
    let drawn : c.fill_pads.new.out.items ≡ both_pads shape seed turn server =
    c.fill_pads.ensures.bytes ∙ ap (key_bytes (secret_of seed server) turn 0) c.loop-server.invariant.room
    in
    let front = rw (c.vector_len.ensures, c.as_slice.ensures.value) at c.split_at.ensures.front in
    let back = rw (c.vector_len.ensures, c.as_slice.ensures.value) at c.split_at.ensures.back in
    record {
      room = c.fill_pads.ensures.len ∙ c.loop-server.invariant.room;
      requests =
          made-next (request_bytes shape seed turn) server c.loop-server.bytes.items
          c.extend_from_slice.new.self.items c.split_at.result.0.now low
          c.loop-server.invariant.requests c.in_ok-extend_from_slice.ensures.items
          (front ∙ ap (take (request_len shape)) drawn);
      replies =
          made-next (reply_bytes shape seed turn) server c.loop-server.replies.items
          c.extend_from_slice-in-loop-server.new.self.items c.split_at.result.1.now low
          c.loop-server.invariant.replies c.in_ok-extend_from_slice-2.ensures.items
          (back ∙ ap (drop (request_len shape)) drawn);
    }

pub invariant_of-result : goal.invariant_of-result
invariant_of-result c =
    let shape = c.args.shape.now in
    let several = shape.in_range.servers_low in
    ap length (keyed-joined shape c.args.seed.now c.args.turn c.loop-server.server
    c.loop-server.bytes.items c.loop-server.replies.items c.append.new.self.items
    (omega (arith, several)) c.loop-server.invariant.requests c.loop-server.invariant.replies
    c.in_ok-append.ensures.items)
    ∙ length-keyed_bytes shape c.args.seed.now c.args.turn

pub returns-clause-found : goal.returns-clause-found
returns-clause-found c =
    let shape = c.args.shape.now in
    let several = shape.in_range.servers_low in
    let is = keyed-joined shape c.args.seed.now c.args.turn c.loop-server.server
    c.loop-server.bytes.items c.loop-server.replies.items c.append.new.self.items
    (omega (arith, several)) c.loop-server.invariant.requests c.loop-server.invariant.replies
    c.in_ok-append.ensures.items
    in
    ap (λ (pads : PadLists). record { shape = shape; pads = pads })
    (ap (pads_in shape) is ∙ keyed-in shape c.args.seed.now c.args.turn)

pub returns-clause-are : goal.returns-clause-are
returns-clause-are c =
    let shape = c.args.shape.now in
    let several = shape.in_range.servers_low in
    pads-are shape c.append.new.self.items
    (ap length (keyed-joined shape c.args.seed.now c.args.turn c.loop-server.server
    c.loop-server.bytes.items c.loop-server.replies.items c.append.new.self.items
    (omega (arith, several)) c.loop-server.invariant.requests c.loop-server.invariant.replies
    c.in_ok-append.ensures.items)
    ∙ length-keyed_bytes shape c.args.seed.now c.args.turn)
