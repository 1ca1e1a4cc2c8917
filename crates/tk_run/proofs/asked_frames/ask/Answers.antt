-- A client that has written asks each server what it is to ask in the turn.
use Rattle.std.proofs.Common.{◌∙◌, ◌+◌, ◌++◌, ◌<◌, ◌≤◌, List, ℕ, ap, sym, subst, map}
use Rattle.std.specs.Arc.{arc_value}
use Rattle.tk_shape.specs.declared.shape.Shape.{Shape}
use Rattle.tk_shape.specs.Lengths.{turn_count}
use Rattle.tk_words.specs.Words.{words_of}
use Rattle.tk_frames.specs.Spelling.{read_frame}
use Rattle.tk_replica.specs.declared.epoch.Epoch.{Epoch}
use Rattle.tk_client.specs.Asked.{asked}
use Rattle.tk_client.specs.Client.{target_over}
use Rattle.tk_report.proofs.Offers.{epoch-most}
use Rattle.tk_run.proofs.UnderLaws.{filter-shows, frames-are, client-asked, idle-opened}
use Rattle.tk_run.proofs.asked_frames.ask.Goals as goal

pub read_frames-requires-clause-one_shape : goal.read_frames-requires-clause-one_shape
read_frames-requires-clause-one_shape g c κs within =
    c.args.plan.now.one_shape ∙ sym c.requires.client.same

pub read_frames-requires-clause-closed : goal.read_frames-requires-clause-closed
read_frames-requires-clause-closed g c κs within = c.requires.client.closed

pub read_frames-requires-clause-turn_in : goal.read_frames-requires-clause-turn_in
read_frames-requires-clause-turn_in g c κs within =
    subst (λ (shape : Shape). c.args.spot.turn < turn_count shape) (sym c.requires.client.same)
    c.requires.turn_in

pub read_frames-requires-clause-epoch_in : goal.read_frames-requires-clause-epoch_in
read_frames-requires-clause-epoch_in g c κs within =
    let S = c.args.plan.now.script.now in
    let H = c.args.plan.now.history.now in
    subst (λ (shape : Shape). c.epoch-epoch.result ≤ shape.phases) (sym c.requires.client.same)
    (subst (λ (e : ℕ). e ≤ S.shape.phases) (sym c.epoch-epoch.ensures)
    (epoch-most S H c.args.spot.turn c.args.spot.place c.args.plan.now.legal c.requires.turn_in
    c.requires.client_in))

pub returns-clause-client : goal.returns-clause-client
returns-clause-client g c =
    let S = c.args.plan.now.script.now in
    let book = g.D.Draws.book c.args.plan.now.draws.now in
    let client = c.args.client.now in
    let epoch = c.epoch-epoch.result in
    idle-opened S c.args.plan.now.history.now c.args.spot.turn c.args.spot.place client
    c.read_frames.new.self epoch
    (target_over (words_of client.shape book) c.filter.result.now epoch client) c.requires.client
    c.epoch-epoch.ensures c.in_ok-read_frames.ensures.opened

pub returns-clause-asked : goal.returns-clause-asked
returns-clause-asked g c V Es tells stands wrote =
    let S = c.args.plan.now.script.now in
    let book = g.D.Draws.book c.args.plan.now.draws.now in
    let H = c.args.plan.now.history.now in
    let turn = c.args.spot.turn in
    let place = c.args.spot.place in
    let epoch = c.epoch-epoch.result in
    let marks = c.filter.result.now in
    let shows =
    filter-shows S book H V turn Es tells place epoch (arc_value c.in-Ok.shown) marks
    c.epoch-epoch.ensures (c.in-Ok.ensures.stands S.shape (Es 1) stands)
    (c.filter.ensures ∙ ap (λ (e : Epoch). e.filter) c.deref.ensures)
    in
    client-asked S book H V turn Es tells place epoch marks c.args.client.now c.read_frames.new.self
    c.requires.client_in wrote c.epoch-epoch.ensures shows c.in_ok-read_frames.ensures.opened

pub returns-clause-frames : goal.returns-clause-frames
returns-clause-frames g c V Es tells stands wrote =
    let S = c.args.plan.now.script.now in
    let book = g.D.Draws.book c.args.plan.now.draws.now in
    let H = c.args.plan.now.history.now in
    let turn = c.args.spot.turn in
    let place = c.args.spot.place in
    let client = c.args.client.now in
    let epoch = c.epoch-epoch.result in
    let marks = c.filter.result.now in
    let shows =
    filter-shows S book H V turn Es tells place epoch (arc_value c.in-Ok.shown) marks
    c.epoch-epoch.ensures (c.in-Ok.ensures.stands S.shape (Es 1) stands)
    (c.filter.ensures ∙ ap (λ (e : Epoch). e.filter) c.deref.ensures)
    in
    let target = target_over (words_of client.shape book) marks epoch client in
    c.in_ok-read_frames.ensures.frames
    ∙ ap (λ (xs : List (List ℕ)). xs
    ++ map read_frame (asked client.shape book turn client.number epoch target))
    c.new-frames.ensures.items
    ∙ frames-are S book H V turn Es tells place epoch marks client c.requires.client_in wrote
    c.epoch-epoch.ensures shows
