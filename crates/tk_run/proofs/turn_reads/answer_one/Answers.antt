-- The server answers all reads that are for it in the turn.
use Rattle.std.proofs.Common.{◌∙◌, ◌+◌, ℕ, List, subst}
use Rattle.tk_shape.specs.declared.shape.Shape.{Shape}
use Rattle.tk_words.specs.Words.{IsBook, words_of}
use Rattle.tk_run.specs.Servers.{IsServerAt}
use Rattle.tk_run.specs.Turns.{entries_seen}
use Rattle.tk_run.specs.Under.{reads_for}
use Rattle.tk_run.proofs.UnderLaws.{posed-are, replies-by_client, seen-answered}
use Rattle.tk_run.proofs.turn_reads.answer_one.Goals as goal

pub returns-clause-replies : goal.returns-clause-replies
returns-clause-replies g c V Es tells posed is =
    let S = c.args.plan.now.script.now in
    let book = g.D.Draws.book c.args.plan.now.draws.now in
    let H = c.args.plan.now.history.now in
    let turn = c.args.spot.turn in
    let place = c.args.spot.place in
    let saw = entries_seen S (words_of S.shape book) H turn (place + 1) in
    let reads = reads_for S book H V turn S.shape.clients (place + 1) in
    let world = g.world in
    let laws = g.met.D.Draws world.𝓛 world.𝓜 world.𝓡 ((λ s x. x), (λ x. x), (λ x. x), λ x. x) in
    let serves =
    subst (λ (shape : Shape). IsBook shape book) c.args.plan.now.one_shape
    (laws.serves c.args.plan.now.draws.now)
    in
    let asked =
    posed-are S book H V turn place c.args.asked.now serves c.args.plan.now.legal
    c.requires.turn_in c.requires.server_in posed
    in
    c.in_ok-replies.ensures.replies S.shape (Es (place + 1)) saw reads is asked
    ∙ replies-by_client S book H V turn Es tells (place + 1)

pub returns-clause-server : goal.returns-clause-server
returns-clause-server g c V Es tells posed is =
    let S = c.args.plan.now.script.now in
    let book = g.D.Draws.book c.args.plan.now.draws.now in
    let H = c.args.plan.now.history.now in
    let turn = c.args.spot.turn in
    let place = c.args.spot.place in
    let E = Es (place + 1) in
    let saw = entries_seen S (words_of S.shape book) H turn (place + 1) in
    let reads = reads_for S book H V turn S.shape.clients (place + 1) in
    let world = g.world in
    let laws = g.met.D.Draws world.𝓛 world.𝓜 world.𝓡 ((λ s x. x), (λ x. x), (λ x. x), λ x. x) in
    let serves =
    subst (λ (shape : Shape). IsBook shape book) c.args.plan.now.one_shape
    (laws.serves c.args.plan.now.draws.now)
    in
    let asked =
    posed-are S book H V turn place c.args.asked.now serves c.args.plan.now.legal
    c.requires.turn_in c.requires.server_in posed
    in
    subst (λ (bytes : List ℕ). IsServerAt S.shape E bytes c.answer.new.self)
    (seen-answered S book H V turn Es tells (place + 1))
    (c.in_ok-replies.ensures.server S.shape E saw reads is asked)
