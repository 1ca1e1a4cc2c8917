-- What was taken in two pieces is the packet, or a front of it.
use Rattle.std.proofs.Common.{◌≡◌, length, take, ap, sym, ◌∙◌, arith, rules, length-take}
use Rattle.std.proofs.lemmas.List.{take_at}
use Rattle.tk_io.specs.Content.{before_taking}
use Rattle.tk_packets.specs.Packets.{packet, packet_bytes}
use Rattle.tk_packets.proofs.Heads.{taken-packet, taken-cut, takes-both}
use Rattle.tk_packets.proofs.next.next_packet.Goals as goal

pub returns-in_default-fill-clause-err : goal.returns-in_default-fill-clause-err
returns-in_default-fill-clause-err g c =
    takes-both _ _ _ c.fill.new.buf c.in-Ok.n _ c.args.most (search rules) c.in-Ok.ensures.taken
    (search rules) c.in_default-fill.ensures.err

pub returns-then-n-len-clause-err : goal.returns-then-n-len-clause-err
returns-then-n-len-clause-err g c =
    takes-both _ _ _ c.fill.new.buf c.in-Ok.n c.args.most c.args.most (search rules) c.in-Ok.ensures.taken
    (omega arith)
    (record {
      taken = take c.in-Ok-fill.n c.fill-2.new.buf;
      front = c.in-Ok-fill.ensures.taken;
      few = grind (arith, length-take);
    })

pub returns-then-n-len-clause-cut : goal.returns-then-n-len-clause-cut
returns-then-n-len-clause-cut g c = λ _.
    taken-cut _ _ _ c.fill.new.buf c.fill-2.new.buf c.in-Ok.n c.in-Ok-fill.n c.args.most
    (record {
      long = search rules;
      all = search rules;
      first = c.in-Ok.ensures.taken;
      second = c.in-Ok-fill.ensures.taken;
    })
    (search rules) (search rules) (search rules) (c.in-Ok-fill.ensures.end (search rules))

pub returns-clause-found : goal.returns-clause-found
returns-clause-found g c =
    let bytes = c.fill-2.new.buf in
    let counted : length bytes ≡ c.two_numbers-peer.result.1 = search rules in
    let kept : c.from_vec.result ≡ bytes = c.from_vec.ensures ∙ take_at bytes _ _ (search rules) in
    taken-packet _ _ _ c.fill.new.buf bytes c.in-Ok.n c.in-Ok-fill.n c.two_numbers-peer.result.0
    c.two_numbers-peer.result.1
    (record {
      long = search rules;
      all = search rules;
      first = c.in-Ok.ensures.taken;
      second = c.in-Ok-fill.ensures.taken;
    })
    c.two_numbers-peer.ensures.spelled counted (search rules)
    ∙ ap (λ p. before_taking (packet_bytes p) (g.S.Source.left c.fill-2.new.source))
    (sym (c.new.ensures ∙ ap (packet c.two_numbers-peer.result.0) kept))
