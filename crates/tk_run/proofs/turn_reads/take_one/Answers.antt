-- The client takes the replies to its read.
use Rattle.std.proofs.Common.{◌∙◌, ap, arith, refl, sym, subst}
use Rattle.std.specs.Prelude.{IsSome}
use Rattle.tk_shape.specs.declared.shape.Shape.{Shape}
use Rattle.tk_words.specs.Words.{IsBook, words_of}
use Rattle.tk_run.proofs.UnderLaws.{asking-taken, client-took}
use Rattle.tk_run.proofs.turn_reads.take_one.Goals as goal

pub take_replies-requires-clause-one_shape : goal.take_replies-requires-clause-one_shape
take_replies-requires-clause-one_shape g c κs met =
    c.args.plan.now.one_shape ∙ sym c.requires.client.same

pub take_replies-requires-clause-open : goal.take_replies-requires-clause-open
take_replies-requires-clause-open g c κs met = subst IsSome (sym c.requires.client.waits) refl

pub take_replies-requires-clause-counted : goal.take_replies-requires-clause-counted
take_replies-requires-clause-counted g c κs met =
    let same = ap (λ (shape : Shape). shape.servers) c.requires.client.same in
    omega (arith, same)

pub returns-clause-client : goal.returns-clause-client
returns-clause-client g c =
    let S = c.args.plan.now.script.now in
    let book = g.D.Draws.book c.args.plan.now.draws.now in
    asking-taken S c.args.plan.now.history.now c.args.spot.turn c.args.spot.place c.args.client.now
    c.take_replies.new.self (words_of c.args.client.now.shape book) c.args.replies.now
    c.requires.client c.in-Ok.ensures.taken

pub returns-clause-client_under : goal.returns-clause-client_under
returns-clause-client_under g c V Es tells orders replies asked =
    let S = c.args.plan.now.script.now in
    let book = g.D.Draws.book c.args.plan.now.draws.now in
    let H = c.args.plan.now.history.now in
    let world = g.world in
    let laws = g.met.D.Draws world.𝓛 world.𝓜 world.𝓡 ((λ s x. x), (λ x. x), (λ x. x), λ x. x) in
    let serves =
    subst (λ (shape : Shape). IsBook shape book) c.args.plan.now.one_shape
    (laws.serves c.args.plan.now.draws.now)
    in
    client-took S book H V c.args.spot.turn Es tells orders c.args.spot.place c.args.client.now
    c.take_replies.new.self c.args.replies.now serves c.args.plan.now.legal c.requires.turn_in
    c.requires.client_in asked replies c.in-Ok.ensures.taken
