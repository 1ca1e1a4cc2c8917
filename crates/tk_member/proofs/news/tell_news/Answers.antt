-- What is new of one log more is told.
use Rattle.std.proofs.Common.{◌≡◌, ◌∙◌, ◌++◌, ap, sym, subst, arith, ◌<◌, List, ℕ, length, drop, flat_map, get_or}
use Rattle.std.specs.List.{range_with_len}
use Rattle.std.proofs.lemmas.List.FromFn.{get_or-map-range_with_len}
use Rattle.tk_shape.specs.declared.shape.Shape.{Shape}
use Rattle.tk_client.specs.declared.got.Got.{Got}
use Rattle.tk_client.specs.Reader.{got_in}
use Rattle.tk_packets.specs.Packets.{PacketView}
use Rattle.tk_member.specs.News.{news_of, news_from}
use Rattle.tk_report.proofs.Offers.{flat_map-next}
use Rattle.tk_member.proofs.news.tell_news.Goals as goal

pub logs-preserved : goal.logs-preserved
logs-preserved c = λ before is.
    let reader = c.args.client.now.reader in
    let log = c.logs.log in
    let known = c.args.known.now in
    let old = λ (l : ℕ). length (got_in before.follows l) in
    let so_far = flat_map (news_of before reader) (range_with_len 0 log) in
    let within : log < c.args.client.now.shape.logs =
    subst (λ (s : Shape). log < s.logs) c.shape.ensures c.logs-test.true
    in
    let number : get_or known log 0 ≡ old log =
    ap (λ (ks : List ℕ). get_or ks log 0) is
    ∙ get_or-map-range_with_len old 0 c.args.client.now.shape.logs log log 0 within (omega arith)
    in
    c.in_ok-tell_log.ensures
    ∙ ap (λ (ps : List PacketView). ps ++
    news_from log (get_or known log 0) (drop (get_or known log 0) c.log.result.now))
    (c.logs.invariant before is)
    ∙ ap (λ (k : ℕ). so_far ++ news_from log k (drop k c.log.result.now)) number
    ∙ ap (λ (gots : List Got). so_far ++ news_from log (old log) (drop (old log) gots)) c.log.ensures
    ∙ sym (flat_map-next (news_of before reader) log)
