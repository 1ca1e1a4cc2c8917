-- The record of the client's write is the next entry.
use Rattle.std.proofs.Common.{◌∙◌, ◌+◌, ◌*◌, ◌<◌, ◌++◌, ℕ, List, ap, arith, sym, subst}
use Rattle.tk_shape.specs.declared.shape.Shape.{Shape}
use Rattle.tk_words.specs.Words.{words_of}
use Rattle.tk_frames.specs.declared.entry.Entry.TheVariants.{Write}
use Rattle.tk_frames.specs.Ranges.{IsWrite}
use Rattle.tk_frames.specs.Spelling.{write_frame, entry_frame}
use Rattle.tk_client.specs.Writing.{first_waiting}
use Rattle.tk_client.specs.Writes.{write_of}
use Rattle.embed.proofs.TurnLaws.{turns-phases, next-record, record_at}
use Rattle.embed.proofs.turn.write.Goals as goal

pub returns-clause-due : goal.returns-clause-due
returns-clause-due g c = λ E are is.
    let s = c.args.client.now in
    let turn = c.args.turn in
    let w =
    write_of (words_of s.shape (g.D.Draws.book c.args.draws.now)) turn s.number
    (first_waiting s.writing)
    in
    let low : turn < s.shape.phases =
    omega (arith, c.requires.turn_in, turns-phases s.shape c.requires.one_tick)
    in
    let spelled =
    c.as_slice.ensures.value ∙ c.in_ok-write_frame.ensures.frame
    ∙ ap (λ (xs : List ℕ). xs ++ write_frame w) c.new-frame.ensures.items
    in
    c.take_all.ensures.due s.shape E (record_at turn w) are
    (next-record s.shape E turn w low is c.in_ok-write_frame.ensures.in_range)
    (c.as_slice-2.ensures.value
    ∙ c.in_ok-record.ensures.record w
    (subst (λ (x : Shape). IsWrite x w) (sym c.shape.ensures) c.in_ok-write_frame.ensures.in_range)
    spelled
    ∙ ap (λ (n : ℕ). entry_frame (2 * n + 1) (Write w)) c.from.ensures)
