-- One client more is told.
use Rattle.std.proofs.Common.{◌≡◌, ◌*◌, ◌<◌, ◌∙◌, ap, length, rules}
use Rattle.std.specs.Prelude.{slice_index_or, slice_set}
use Rattle.std.proofs.lemmas.List.{get_or_default}
use Rattle.std.proofs.lemmas.List.Edits.{map_over_more}
use Rattle.tk_serve.specs.Desks.{desk_answered, empty_desk}
use Rattle.tk_serve.proofs.LoopLaws.{unchanged-at, news-step}
use Rattle.tk_serve.proofs.tell.tell_desks.Goals as goal

pub clients-preserved : goal.clients-preserved
clients-preserved c =
    let i = c.clients.client in
    let shape = c.args.shape.now in
    let epoch = c.args.epoch.now in
    let item = c.index-desks-client.result in
    let low : i < length c.args.desks.now = search rules in
    let there : i < length c.clients.desks = search rules in
    let at : item ≡ slice_index_or c.args.desks.now i empty_desk =
    c.index-desks-client.is ∙ get_or_default c.clients.desks i item empty_desk there
    ∙ ap (λ ds. slice_index_or ds i empty_desk) c.clients.invariant.answered
    ∙ unchanged-at (desk_answered shape.ticks) c.args.desks.now i empty_desk
    in
    let answered : c.answer_waiting.new.desk ≡ desk_answered shape.ticks item =
    cc (c.index-desks-client.is, c.in_ok-answer_waiting.ensures.desk)
    in
    let asked : c.asked.result ≡ item.asked = cc (c.index-desks-client.is, c.asked.ensures) in
    let due : c.number.result * shape.ticks ≡ epoch.number * shape.ticks =
    ap (λ n. n * shape.ticks) c.number.ensures
    in
    record {
      answered =
          ap (slice_set c.clients.desks i) answered
          ∙ map_over_more (desk_answered shape.ticks) c.args.desks.now c.clients.desks i item low
          c.clients.invariant.answered c.index-desks-client.is;
      told =
          news-step shape epoch c.args.desks.now i empty_desk item c.clients.out.items c.tell_epoch.new.out.items
          c.answer_waiting.new.out.items c.asked.result (c.number.result * shape.ticks) c.in_ok-frame.frame low at
          c.in_ok-tell_epoch.ensures
          (cc (c.index-desks-client.is, c.in_ok-answer_waiting.ensures.told)) due asked c.in_ok-frame.ensures.bytes
          ∙ c.clients.invariant.told;
    }
