-- The newest epoch is kept, and brings each client what is told.
use Rattle.std.proofs.Common.{◌≡◌, ◌+◌, ◌*◌, ◌^◌, ◌<◌, ◌∙◌, ◌++◌, refl, ap, sym, subst, arith, rules, length, map, take}
use Rattle.std.specs.Prelude.{All}
use Rattle.std.proofs.lemmas.List.{with_items_is, length-map}
use Rattle.std.proofs.lemmas.Result.{on_ok_weaker}
use Rattle.tk_shape.specs.declared.shape.Shape.{Shape}
use Rattle.tk_replica.specs.Epochs.{IsEpochOf}
use Rattle.tk_serve.specs.Seats.{placed_to}
use Rattle.tk_serve.specs.Desks.{DeskView, desk_answered}
use Rattle.tk_serve.specs.Answering.{IsAnswerable, news_for}
use Rattle.tk_serve.proofs.StandsLaws.{desks-clients, stands-next_epoch}
use Rattle.tk_serve.proofs.TellLaws.{last-is, tell-small, tell-reads, tell-told}
use Rattle.tk_serve.proofs.server.Server.tell_all.Goals as goal

pub tell_desks-requires-clause-clients : goal.tell_desks-requires-clause-clients
tell_desks-requires-clause-clients c =
    let may = c.requires in
    let same : c.as_mut_slice.result.now ≡ (c.args.self.now.desks).items = search rules in
    let counted = desks-clients may.shape_of may.seats_of may.turn_of may.epoch_of c.args.self.now may.stands in
    omega (arith, ap length same, counted, (may.shape_of).in_range.clients_high)

pub tell_desks-requires-clause-turns : goal.tell_desks-requires-clause-turns
tell_desks-requires-clause-turns c =
    let may = c.requires in
    let s = c.args.self.now in
    let kept = c.epoch-epoch.ensures.stands may.shape_of (placed_to may.shape_of may.seats_of may.turn_of)
    (may.stands).state_is in
    let number = kept.number ∙ c.last.ensures
    ∙ last-is may.shape_of may.seats_of may.turn_of may.epoch_of s may.stands may.one_more
    in
    let small = tell-small may.shape_of may.seats_of may.turn_of may.epoch_of s may.stands may.one_more in
    subst (λ (sh : Shape). c.epoch-epoch.result.now.number * sh.ticks < 2 ^ 32) (sym (may.stands).same)
    (subst (λ k. k * (may.shape_of).ticks < 2 ^ 32) (sym number) small)

pub tell_desks-requires-clause-reads : goal.tell_desks-requires-clause-reads
tell_desks-requires-clause-reads c =
    let may = c.requires in
    let s = c.args.self.now in
    let same : c.as_mut_slice.result.now ≡ s.desks.items = search rules in
    subst (λ ds. All (λ (d : DeskView). All (IsAnswerable c.epoch-epoch.result.now) (take s.shape.ticks d.asking)) ds)
    (sym same)
    (tell-reads may.shape_of may.seats_of may.turn_of may.epoch_of s may.stands may.one_more c.epoch-epoch.result.now
    (c.epoch-epoch.ensures.same ∙ ((may.stands).state_is).same))

pub returns-clause-stands : goal.returns-clause-stands
returns-clause-stands c = λ shape seats g n is more.
    let s = c.args.self.now in
    let same : c.as_mut_slice.result.now ≡ s.desks.items = search rules in
    on_ok_weaker c.tell_desks.result
    (λ desks.
    let answered = desks ∙ ap (map (desk_answered s.shape.ticks)) same in
    let long : length c.tell_desks.new.desks ≡ (s.desks).len =
    ap length answered ∙ length-map s.desks.items (desk_answered s.shape.ticks) ∙ sym (s.desks).ok.0
    in
    stands-next_epoch shape seats g n s is _ refl refl refl
    (with_items_is s.desks c.tell_desks.new.desks long ∙ answered
    ∙ ap (λ (sh : Shape). map (desk_answered sh.ticks) s.desks.items) is.same))
    c.tell_desks.ensures.desks

pub returns-clause-told : goal.returns-clause-told
returns-clause-told c = λ shape seats g n is more.
    let s = c.args.self.now in
    let epoch = c.epoch-epoch.result.now in
    let same : c.as_mut_slice.result.now ≡ s.desks.items = search rules in
    let kept : IsEpochOf shape (placed_to shape seats g) (n + 1) epoch =
    subst (λ e. IsEpochOf shape (placed_to shape seats g) e epoch) (c.last.ensures ∙ last-is shape seats g n s is more)
    (c.epoch-epoch.ensures.stands shape (placed_to shape seats g) is.state_is)
    in
    on_ok_weaker c.tell_desks.result
    (λ told. told ∙ ap (λ ps. c.args.out.now.items ++ ps)
    (ap (news_for s.shape epoch 0) same ∙ tell-told shape seats g n s is more epoch kept))
    c.tell_desks.ensures.told
