-- The client takes the replies that it makes.
use Rattle.std.proofs.Common.{◌∙◌, List, ap, ap₂, sym, subst, map}
use Rattle.std.specs.List.{AllByRecursion}
use Rattle.tk_shape.specs.declared.shape.Shape.{Shape}
use Rattle.tk_shape.specs.Lengths.{width}
use Rattle.tk_words.specs.Words.{IsBook, words_of}
use Rattle.tk_frames.specs.Spelling.{reply_frame}
use Rattle.tk_relay.specs.declared.part.Part.{Part}
use Rattle.tk_relay.specs.Halves.{HasHalves}
use Rattle.tk_relay.specs.Pads.{PadLists, Padding}
use Rattle.tk_relay.specs.Parts.{halves_of}
use Rattle.tk_relay.specs.Replies.{replies_from}
use Rattle.tk_relay.specs.Serving.{gathered_part}
use Rattle.tk_relay.proofs.RelayedReads.{replied-counted}
use Rattle.tk_relay.proofs.TakenTurns.{asked-shape, asked-open, made-counted, served-are, served-sized, client-takes}
use Rattle.tk_relay.proofs.taken_replies.take_one.Goals as goal

pub replies_to-requires-clause-one_shape : goal.replies_to-requires-clause-one_shape
replies_to-requires-clause-one_shape g c = ap (λ (p : Padding). p.shape) c.requires.read.1

pub replies_to-requires-clause-counted : goal.replies_to-requires-clause-counted
replies_to-requires-clause-counted g c = replied-counted c.requires.read.2

pub replies_to-requires-clause-sized : goal.replies_to-requires-clause-sized
replies_to-requires-clause-sized g c =
    let S = c.args.plan.now.script.now in
    let book = g.D.Draws.book c.args.plan.now.draws.now in
    let world = g.world in
    let laws = g.met.D.Draws world.𝓛 world.𝓜 world.𝓡 ((λ s x. x), (λ x. x), (λ x. x), λ x. x) in
    let serves =
    subst (λ (shape : Shape). IsBook shape book) c.args.plan.now.one_shape
    (laws.serves c.args.plan.now.draws.now)
    in
    subst (AllByRecursion (λ (p : Part). HasHalves (width S.shape) (halves_of p)))
    (sym (c.requires.read.2.replies
    ∙ served-are S book c.requires.read.0 c.args.plan.now.history.now c.args.turn
    c.args.number serves c.args.plan.now.legal c.requires.turn_in
    c.requires.number_in))
    (served-sized S book c.requires.read.0 c.args.plan.now.history.now c.args.turn
    c.args.number serves c.args.plan.now.legal c.requires.turn_in
    c.requires.number_in)

pub take_replies-requires-clause-one_shape : goal.take_replies-requires-clause-one_shape
take_replies-requires-clause-one_shape g c κs met =
    let S = c.args.plan.now.script.now in
    let words = words_of S.shape (g.D.Draws.book c.args.plan.now.draws.now) in
    c.args.plan.now.one_shape
    ∙ sym (asked-shape S words c.args.plan.now.history.now c.args.turn c.args.number
    c.args.client.now c.requires.client)

pub take_replies-requires-clause-open : goal.take_replies-requires-clause-open
take_replies-requires-clause-open g c κs met =
    let S = c.args.plan.now.script.now in
    let words = words_of S.shape (g.D.Draws.book c.args.plan.now.draws.now) in
    asked-open S words c.args.plan.now.history.now c.args.turn c.args.number
    c.args.client.now c.requires.client

pub take_replies-requires-clause-counted : goal.take_replies-requires-clause-counted
take_replies-requires-clause-counted g c κs met =
    let S = c.args.plan.now.script.now in
    let words = words_of S.shape (g.D.Draws.book c.args.plan.now.draws.now) in
    let read = c.args.read.now in
    made-counted S.shape c.args.pads.now.pads (gathered_part read.replies.items) c.as_slice.result.now
    (c.as_slice.ensures.value ∙ c.in_ok-replies.ensures)
    ∙ ap (λ (shape : Shape). shape.servers)
    (sym (asked-shape S words c.args.plan.now.history.now c.args.turn c.args.number
    c.args.client.now c.requires.client))

pub returns : goal.returns
returns g c =
    let S = c.args.plan.now.script.now in
    let book = g.D.Draws.book c.args.plan.now.draws.now in
    let world = g.world in
    let laws = g.met.D.Draws world.𝓛 world.𝓜 world.𝓡 ((λ s x. x), (λ x. x), (λ x. x), λ x. x) in
    let serves =
    subst (λ (shape : Shape). IsBook shape book) c.args.plan.now.one_shape
    (laws.serves c.args.plan.now.draws.now)
    in
    let is = c.requires.read.2 in
    let replies =
    is.replies
    ∙ served-are S book c.requires.read.0 c.args.plan.now.history.now c.args.turn
    c.args.number serves c.args.plan.now.legal c.requires.turn_in c.requires.number_in
    in
    client-takes S book c.requires.read.0 c.args.plan.now.history.now c.args.turn
    c.args.number serves c.args.plan.now.legal c.requires.turn_in c.requires.number_in
    c.requires.client
    (c.as_slice.ensures.value ∙ c.in_ok-replies.ensures
    ∙ ap₂ (λ (pads : PadLists) (ps : List Part). map reply_frame
    (replies_from S.shape pads (gathered_part ps)))
    (ap (λ (p : Padding). p.pads) c.requires.read.1) replies)
    c.in-Ok.ensures.taken
