-- It asks over what the writes before the epoch's mark left.
use Rattle.std.proofs.Common.{◌≤◌, ◌<◌, ◌∙◌, ◌++◌, List, ℕ, map, ap, sym, subst}
use Rattle.tk_shape.specs.declared.shape.Shape.{Shape}
use Rattle.tk_shape.specs.Lengths.{turn_count}
use Rattle.tk_words.specs.Words.{words_of}
use Rattle.tk_frames.specs.Spelling.{read_frame}
use Rattle.tk_client.specs.Asked.{asked}
use Rattle.tk_client.specs.Client.{ClientState, target_over}
use Rattle.tk_report.specs.Clients.{client_knowing}
use Rattle.tk_report.proofs.Offers.{epoch-most}
use Rattle.tk_privacy.proofs.Offers.{filter-shows}
use Rattle.tk_hostile.specs.Given.{sums_at}
use Rattle.tk_hostile.proofs.AskingLaws.{asked-are, open-is}
use Rattle.tk_hostile.proofs.turn_reads.ask.Goals as goal

pub read_frames-requires-clause-one_shape : goal.read_frames-requires-clause-one_shape
unfolding client_knowing
read_frames-requires-clause-one_shape g c κs within =
    c.args.walk.now.plan.now.one_shape
    ∙ sym (ap (λ (s : ClientState). s.shape) c.requires.client)

pub read_frames-requires-clause-closed : goal.read_frames-requires-clause-closed
unfolding client_knowing
read_frames-requires-clause-closed g c κs within =
    ap (λ (s : ClientState). s.read) c.requires.client

pub read_frames-requires-clause-turn_in : goal.read_frames-requires-clause-turn_in
unfolding client_knowing
read_frames-requires-clause-turn_in g c κs within =
    subst (λ (shape : Shape). c.args.turn < turn_count shape)
    (sym (ap (λ (s : ClientState). s.shape) c.requires.client)) c.requires.turn_in

pub read_frames-requires-clause-epoch_in : goal.read_frames-requires-clause-epoch_in
unfolding client_knowing
read_frames-requires-clause-epoch_in g c κs within =
    let plan = c.args.walk.now.plan.now in
    let S = plan.script.now in
    let most = epoch-most S plan.history.now c.args.turn c.args.number plan.legal
    c.requires.turn_in c.requires.number_in in
    subst (λ (shape : Shape). c.epoch-due.result ≤ shape.phases)
    (sym (ap (λ (s : ClientState). s.shape) c.requires.client))
    (subst (λ (n : ℕ). n ≤ S.shape.phases) (sym c.epoch-due.ensures) most)

pub returns-clause-frames : goal.returns-clause-frames
returns-clause-frames g c =
    let walk = c.args.walk.now in
    let plan = walk.plan.now in
    let S = plan.script.now in
    let book = g.D.Draws.book plan.draws.now in
    let H = plan.history.now in
    let turn = c.args.turn in
    let number = c.args.number in
    let s = c.args.client.now in
    let due = c.epoch-due.result in
    let marks = c.filter.result.now in
    let shows = filter-shows S book H turn number c.args.left.now marks c.requires.left
    c.filter.ensures in
    c.in_ok-read_frames.ensures.frames
    ∙ ap (λ (xs : List (List ℕ)). xs
    ++ map read_frame (asked s.shape book turn s.number due
    (target_over (words_of s.shape book) marks due s))) c.new-frames.ensures.items
    ∙ ap (map read_frame) (asked-are S book H walk.sides (sums_at walk.replies.now) turn number due
    marks s c.requires.client c.epoch-due.ensures shows)

pub returns-clause-opened : goal.returns-clause-opened
returns-clause-opened g c =
    let walk = c.args.walk.now in
    let plan = walk.plan.now in
    let S = plan.script.now in
    let book = g.D.Draws.book plan.draws.now in
    let H = plan.history.now in
    let turn = c.args.turn in
    let number = c.args.number in
    let due = c.epoch-due.result in
    let marks = c.filter.result.now in
    let shows = filter-shows S book H turn number c.args.left.now marks c.requires.left
    c.filter.ensures in
    c.in_ok-read_frames.ensures.opened
    ∙ open-is S book H walk.sides (sums_at walk.replies.now) turn number due marks
    c.args.client.now c.requires.client c.epoch-due.ensures shows
