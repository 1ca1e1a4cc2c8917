-- What is written is the entry of the item, and its client has written.
use Rattle.std.proofs.Common.{◌≡◌, ◌∙◌, ◌+◌, ◌<◌, ℕ, ap, sym, subst}
use Rattle.std.specs.Prelude.{slice_index_or, slice_set}
use Rattle.std.specs.Option.{ForSome}
use Rattle.tk_shape.specs.declared.shape.Shape.{Shape}
use Rattle.tk_shape.specs.Lengths.{turn_count}
use Rattle.tk_schedule.specs.Schedule.{phase_of}
use Rattle.tk_words.specs.Words.{words_of}
use Rattle.tk_frames.specs.Ranges.{IsWrite}
use Rattle.tk_client.specs.Client.{ClientState}
use Rattle.tk_client.specs.Writing.{first_waiting}
use Rattle.tk_client.specs.Writes.{write_of}
use Rattle.tk_report.specs.Clients.{client_knowing}
use Rattle.tk_report.specs.Entries.{write_at}
use Rattle.tk_report.proofs.WritingLaws.{said-shape, said-number, said-write, said-then}
use Rattle.tk_report.proofs.WritingLaws.{same_writer, write-due, mark-due}
use Rattle.tk_report.proofs.turn_writes.entry_of.Goals as goal

pub write-requires-clause-one_shape : goal.write-requires-clause-one_shape
write-requires-clause-one_shape g c κs within =
    let S = c.args.plan.now.script.now in
    let k = c.in-Client.client in
    let d = c.index-clients-client.result in
    let due = c.requires.due k d c.in-Client.is in
    c.args.plan.now.one_shape
    ∙ sym (said-shape S due.knows c.args.turn k (slice_index_or c.args.clients.now k d) due.is)

pub write-requires-clause-turn_in : goal.write-requires-clause-turn_in
write-requires-clause-turn_in g c κs within =
    let S = c.args.plan.now.script.now in
    let k = c.in-Client.client in
    let d = c.index-clients-client.result in
    let due = c.requires.due k d c.in-Client.is in
    subst (λ (s : Shape). c.args.turn < turn_count s)
    (sym (said-shape S due.knows c.args.turn k (slice_index_or c.args.clients.now k d) due.is))
    c.requires.turn_in

pub write-requires-clause-number_in : goal.write-requires-clause-number_in
write-requires-clause-number_in g c κs within =
    let S = c.args.plan.now.script.now in
    let k = c.in-Client.client in
    let d = c.index-clients-client.result in
    let due = c.requires.due k d c.in-Client.is in
    let client = slice_index_or c.args.clients.now k d in
    subst (λ (s : Shape). ForSome (first_waiting client.writing) (λ y. y.number < turn_count s))
    (sym (said-shape S due.knows c.args.turn k client due.is))
    (said-number S due.knows c.args.turn k client due.is c.requires.turn_in)

pub returns-in_ok-frame-in-Client-clause-in_range : goal.returns-in_ok-frame-in-Client-clause-in_range
returns-in_ok-frame-in-Client-clause-in_range g c =
    let S = c.args.plan.now.script.now in
    let k = c.in-Client.client in
    let d = c.index-clients-client.result in
    let due = c.requires.due k d c.in-Client.is in
    let frame = c.in_ok-frame-in-Client in
    subst (λ (s : Shape). IsWrite s frame.frame)
    (said-shape S due.knows c.args.turn k (slice_index_or c.args.clients.now k d) due.is)
    frame.ensures.in_range

pub returns-in_ok-frame-in-Client-clause-entry : goal.returns-in_ok-frame-in-Client-clause-entry
returns-in_ok-frame-in-Client-clause-entry g c =
    let S = c.args.plan.now.script.now in
    let book = g.D.Draws.book c.args.plan.now.draws.now in
    let words = words_of S.shape book in
    let frame = c.in_ok-frame-in-Client in
    let k = c.in-Client.client in
    let d = c.index-clients-client.result in
    let due = c.requires.due k d c.in-Client.is in
    let client = slice_index_or c.args.clients.now k d in
    write-due (write_at S words c.args.turn) (phase_of S.shape c.args.turn) c.args.item.now k
    frame.frame c.in-Client.is
    (frame.ensures.write
    ∙ ap (λ (s : Shape).
    write_of (words_of s book) c.args.turn client.number (first_waiting client.writing))
    (said-shape S due.knows c.args.turn k client due.is)
    ∙ said-write S due.knows c.args.turn k client due.is words c.requires.turn_in)

pub returns-in_ok-frame-in-Client-clause-wrote : goal.returns-in_ok-frame-in-Client-clause-wrote
returns-in_ok-frame-in-Client-clause-wrote g c = λ knows j is told.
    let S = c.args.plan.now.script.now in
    let clients = c.args.clients.now in
    let k = c.in-Client.client in
    let d = c.index-clients-client.result in
    let wrote = client_knowing S knows (c.args.turn + 1) in
    let same : j ≡ k = same_writer k j c.args.item.now c.in-Client.is is in
    let then : c.write.new.self ≡ wrote j =
    c.in_ok-frame-in-Client.ensures.written
    ∙ said-then S knows c.args.turn j (slice_index_or clients k d)
    (ap (λ (n : ℕ). slice_index_or clients n d) (sym same) ∙ told d)
    in
    subst (λ (n : ℕ). slice_set clients n c.write.new.self ≡ slice_set clients j (wrote j))
    same (ap (λ (s : ClientState). slice_set clients j s) then)

pub returns-in-Publish-clause-entry : goal.returns-in-Publish-clause-entry
returns-in-Publish-clause-entry g c =
    let S = c.args.plan.now.script.now in
    let words = words_of S.shape (g.D.Draws.book c.args.plan.now.draws.now) in
    mark-due (write_at S words c.args.turn) (phase_of S.shape c.args.turn)
    c.place-phase.result.0 c.args.item.now c.in-Publish.is c.place-phase.ensures.phase
