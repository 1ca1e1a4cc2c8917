-- One number more is told.
use Rattle.std.proofs.Common.{◌∙◌, ◌++◌, ◌+◌, ◌∷◌, [], ap, List, drop}
use Rattle.tk_packets.specs.Packets.{PacketView}
use Rattle.tk_member.specs.News.{news_from}
use Rattle.tk_member.proofs.Sequences.{news-next}
use Rattle.tk_member.proofs.news.tell_log.Goals as goal

pub numbers-preserved : goal.numbers-preserved
numbers-preserved c =
    let log = c.args.log in
    let number = c.numbers.number in
    let gots = c.args.gots.now in
    let told = c.numbers.told.items in
    ap (λ (ps : List PacketView). ps ++ news_from log (number + 1) (drop (number + 1) gots))
    (c.in_ok-push.ensures.items
    ∙ ap (λ (p : PacketView). told ++ p ∷ []) c.in_ok-got_packet.ensures)
    ∙ news-next told log number gots c.index-gots-number.result c.numbers-test.true
    c.index-gots-number.is
    ∙ c.numbers.invariant
