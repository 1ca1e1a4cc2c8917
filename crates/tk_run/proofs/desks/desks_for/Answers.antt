-- One client more writes, and its frame lies on a desk.
use Rattle.std.proofs.Common.{◌<◌, ◌∙◌, arith, sym, subst, length}
use Rattle.std.specs.Prelude.{slice_index_or}
use Rattle.std.specs.Option.{ForSome}
use Rattle.tk_shape.specs.declared.shape.Shape.{Shape}
use Rattle.tk_shape.specs.Lengths.{turn_count}
use Rattle.tk_words.specs.Words.{words_of}
use Rattle.tk_client.specs.Writing.{first_waiting}
use Rattle.tk_report.specs.Entries.{write_at}
use Rattle.tk_run.proofs.DeskLaws.{told-shape, told-number, told-spells, desks-none, desks-told, desks-next}
use Rattle.tk_run.proofs.DeskLaws.{desks-frames, desks-clients}
use Rattle.tk_run.proofs.desks.desks_for.Goals as goal

pub writing-init : goal.writing-init
writing-init g c =
    let S = c.args.script.now in
    desks-none S.shape (write_at S (words_of S.shape (g.D.Draws.book c.args.draws.now)) c.args.turn)
    c.args.clients.now c.new-desks.result.items c.new-desks.ensures.items

pub desk_for-requires-clause-one_shape : goal.desk_for-requires-clause-one_shape
desk_for-requires-clause-one_shape g c κs within =
    let S = c.args.script.now in
    let write = write_at S (words_of S.shape (g.D.Draws.book c.args.draws.now)) c.args.turn in
    let i = c.writing.client-index in
    let clients = c.writing.clients in
    let low : i < length clients = omega (arith, c.writing-test.true) in
    let said = desks-told S c.requires.clients.0 c.args.turn i write c.args.clients.now clients
    c.writing.desks.items c.client-item.result c.requires.clients.1 low c.writing.invariant
    in
    c.requires.one_shape
    ∙ sym (told-shape S c.requires.clients.0 c.args.turn i
    (slice_index_or clients i c.client-item.result) said)

pub desk_for-requires-clause-turn_in : goal.desk_for-requires-clause-turn_in
desk_for-requires-clause-turn_in g c κs within =
    let S = c.args.script.now in
    let write = write_at S (words_of S.shape (g.D.Draws.book c.args.draws.now)) c.args.turn in
    let i = c.writing.client-index in
    let clients = c.writing.clients in
    let low : i < length clients = omega (arith, c.writing-test.true) in
    let said = desks-told S c.requires.clients.0 c.args.turn i write c.args.clients.now clients
    c.writing.desks.items c.client-item.result c.requires.clients.1 low c.writing.invariant
    in
    subst (λ (shape : Shape). c.args.turn < turn_count shape)
    (sym (told-shape S c.requires.clients.0 c.args.turn i
    (slice_index_or clients i c.client-item.result) said))
    c.requires.turn_in

pub desk_for-requires-clause-number_in : goal.desk_for-requires-clause-number_in
desk_for-requires-clause-number_in g c κs within =
    let S = c.args.script.now in
    let write = write_at S (words_of S.shape (g.D.Draws.book c.args.draws.now)) c.args.turn in
    let i = c.writing.client-index in
    let clients = c.writing.clients in
    let client = slice_index_or clients i c.client-item.result in
    let low : i < length clients = omega (arith, c.writing-test.true) in
    let said = desks-told S c.requires.clients.0 c.args.turn i write c.args.clients.now clients
    c.writing.desks.items c.client-item.result c.requires.clients.1 low c.writing.invariant
    in
    subst (λ (shape : Shape).
    ForSome (first_waiting client.writing) (λ y. y.number < turn_count shape))
    (sym (told-shape S c.requires.clients.0 c.args.turn i client said))
    (told-number S c.requires.clients.0 c.args.turn i client said c.requires.turn_in)

pub writing-preserved : goal.writing-preserved
writing-preserved g c =
    let S = c.args.script.now in
    let book = g.D.Draws.book c.args.draws.now in
    let write = write_at S (words_of S.shape book) c.args.turn in
    let i = c.writing.client-index in
    let clients = c.writing.clients in
    let client = slice_index_or clients i c.client-item.result in
    let low : i < length clients = omega (arith, c.writing-test.true) in
    let said = desks-told S c.requires.clients.0 c.args.turn i write c.args.clients.now clients
    c.writing.desks.items c.client-item.result c.requires.clients.1 low c.writing.invariant
    in
    let desk = c.in_ok-desk_for.field-0 in
    desks-next S.shape write i c.args.clients.now clients c.writing.desks.items
    c.push.new.self.items desk c.desk_for.new.client c.client-item.result low
    c.in_ok-desk_for.ensures.client
    (told-spells S c.requires.clients.0 c.args.turn i client said book desk.frame.items
    c.requires.turn_in c.in_ok-desk_for.ensures.frame)
    c.in_ok-push.ensures.items c.writing.invariant

pub returns-clause-frames : goal.returns-clause-frames
returns-clause-frames g c =
    let S = c.args.script.now in
    let write = write_at S (words_of S.shape (g.D.Draws.book c.args.draws.now)) c.args.turn in
    desks-frames S.shape write c.writing.client-index c.args.clients.now c.writing.clients
    c.writing.desks.items c.requires.clients.1.counted (omega (arith, c.writing-test.false))
    c.writing.invariant

pub returns-clause-clients : goal.returns-clause-clients
returns-clause-clients g c knows are =
    let S = c.args.script.now in
    let write = write_at S (words_of S.shape (g.D.Draws.book c.args.draws.now)) c.args.turn in
    desks-clients S knows c.args.turn c.writing.client-index write c.args.clients.now
    c.writing.clients c.writing.desks.items are (omega (arith, c.writing-test.false))
    c.writing.invariant
