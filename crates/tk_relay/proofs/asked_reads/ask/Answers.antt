-- A client that has written asks each server what it is to ask in the turn.
use Rattle.std.proofs.Common.{◌∙◌, ◌+◌, ◌++◌, ◌<◌, ◌≤◌, List, ℕ, ap, sym, subst, map}
use Rattle.tk_shape.specs.declared.shape.Shape.{Shape}
use Rattle.tk_shape.specs.Lengths.{turn_count}
use Rattle.tk_words.specs.Words.{words_of, IsBook}
use Rattle.tk_frames.specs.Order.{before}
use Rattle.tk_frames.specs.Spelling.{read_frame}
use Rattle.tk_table.specs.Shown.{is_shown}
use Rattle.tk_client.specs.Asked.{asked}
use Rattle.tk_client.specs.Client.{target_over}
use Rattle.tk_report.specs.Turns.{placed_before}
use Rattle.tk_relay.specs.Relayed.{frames_read}
use Rattle.tk_report.proofs.Offers.{epoch-most}
use Rattle.tk_relay.proofs.AskedTurns.{wrote-shape, wrote-closed, client-asks, client-opens, reads-in_range}
use Rattle.tk_io.proofs.Offers.{always}
use Rattle.tk_relay.proofs.asked_reads.ask.Goals as goal

pub read_frames-requires-clause-one_shape : goal.read_frames-requires-clause-one_shape
read_frames-requires-clause-one_shape g c κs within =
    let S = c.args.plan.now.script.now in
    let words = words_of S.shape (g.D.Draws.book c.args.plan.now.draws.now) in
    c.args.plan.now.one_shape
    ∙ sym (wrote-shape S words c.args.plan.now.history.now c.args.turn c.args.number
    c.args.client.now c.requires.client)

pub read_frames-requires-clause-closed : goal.read_frames-requires-clause-closed
read_frames-requires-clause-closed g c κs within =
    let S = c.args.plan.now.script.now in
    let words = words_of S.shape (g.D.Draws.book c.args.plan.now.draws.now) in
    wrote-closed S words c.args.plan.now.history.now c.args.turn c.args.number
    c.args.client.now c.requires.client

pub read_frames-requires-clause-turn_in : goal.read_frames-requires-clause-turn_in
read_frames-requires-clause-turn_in g c κs within =
    let S = c.args.plan.now.script.now in
    let words = words_of S.shape (g.D.Draws.book c.args.plan.now.draws.now) in
    subst (λ (shape : Shape). c.args.turn < turn_count shape)
    (sym (wrote-shape S words c.args.plan.now.history.now c.args.turn c.args.number
    c.args.client.now c.requires.client))
    c.requires.turn_in

pub read_frames-requires-clause-epoch_in : goal.read_frames-requires-clause-epoch_in
read_frames-requires-clause-epoch_in g c κs within =
    let S = c.args.plan.now.script.now in
    let words = words_of S.shape (g.D.Draws.book c.args.plan.now.draws.now) in
    let H = c.args.plan.now.history.now in
    let turn = c.args.turn in
    let number = c.args.number in
    subst (λ (shape : Shape). c.number-epoch.result ≤ shape.phases)
    (sym (wrote-shape S words H turn number c.args.client.now c.requires.client))
    (subst (λ (e : ℕ). e ≤ S.shape.phases) (sym (c.number-epoch.ensures ∙ c.requires.epoch))
    (epoch-most S H turn number c.args.plan.now.legal c.requires.turn_in c.requires.number_in))

pub returns-clause-client : goal.returns-clause-client
returns-clause-client g c =
    let S = c.args.plan.now.script.now in
    let book = g.D.Draws.book c.args.plan.now.draws.now in
    let words = words_of S.shape book in
    let H = c.args.plan.now.history.now in
    let E = placed_before S words H (c.args.turn + 1) in
    always c.read_all.result
    (client-opens S book H c.args.turn c.args.number c.number-epoch.result c.filter.result.now
    c.args.client.now c.args.plan.now.legal c.requires.turn_in c.requires.number_in
    (c.number-epoch.ensures ∙ c.requires.epoch)
    (λ hits. c.filter.ensures.shows S.shape E c.requires.set hits
    ∙ ap (λ n. is_shown S.shape (before E n) hits) (sym c.number-epoch.ensures)) c.requires.client
    c.read_frames.new.self c.in_ok-read_frames.ensures.opened)

pub returns-clause-frames : goal.returns-clause-frames
returns-clause-frames g c =
    let S = c.args.plan.now.script.now in
    let book = g.D.Draws.book c.args.plan.now.draws.now in
    let words = words_of S.shape book in
    let H = c.args.plan.now.history.now in
    let E = placed_before S words H (c.args.turn + 1) in
    let client = c.args.client.now in
    let epoch = c.number-epoch.result in
    let marks = c.filter.result.now in
    let target = target_over (words_of client.shape book) marks epoch client in
    let world = g.world in
    let laws = g.met.D.Draws world.𝓛 world.𝓜 world.𝓡 ((λ s x. x), (λ x. x), (λ x. x), λ x. x) in
    let serves =
    subst (λ (shape : Shape). IsBook shape book) c.args.plan.now.one_shape
    (laws.serves c.args.plan.now.draws.now)
    in
    let asks =
    client-asks S book H c.args.turn c.args.number epoch marks client
    c.args.plan.now.legal c.requires.turn_in c.requires.number_in
    (c.number-epoch.ensures ∙ c.requires.epoch)
    (λ hits. c.filter.ensures.shows S.shape E c.requires.set hits
    ∙ ap (λ n. is_shown S.shape (before E n) hits) (sym c.number-epoch.ensures)) c.requires.client
    in
    c.read_all.ensures (frames_read S book H c.args.turn c.args.number)
    (reads-in_range S book H c.args.turn c.args.number serves c.args.plan.now.legal
    c.requires.turn_in c.requires.number_in)
    (c.as_slice.ensures.value ∙ c.in_ok-read_frames.ensures.frames
    ∙ ap (λ (xs : List (List ℕ)). xs
    ++ map read_frame (asked client.shape book c.args.turn client.number epoch target))
    c.new-spelled.ensures.items
    ∙ ap (map read_frame) asks)
