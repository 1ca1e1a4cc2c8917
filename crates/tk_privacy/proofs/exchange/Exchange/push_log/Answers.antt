-- One cell more stands after the others, and at the end all do. The texts of the log are listed by
-- number.
use Rattle.std.proofs.Common.{◌≡◌, ◌∙◌, ◌++◌, ℕ, List, filter, ap, sym, arith}
use Rattle.std.specs.Prelude.{◌==◌, slice_get}
use Rattle.tk_shape.specs.Lengths.{turn_count}
use Rattle.tk_script.specs.Sent.{Sending, sent_as, writer_of}
use Rattle.tk_report.specs.Listings.{sent_by}
use Rattle.tk_report.proofs.Offers.{sent_of, sent_each, writer-of}
use Rattle.tk_privacy.specs.Privacy.{cells}
use Rattle.tk_privacy.specs.Exchanging.{keyed_exchanged}
use Rattle.tk_privacy.proofs.ExchangingLaws.{next_cell}
use Rattle.tk_privacy.proofs.NumberingLaws.{got-at, numbered-in_order}
use Rattle.tk_privacy.proofs.exchange.Exchange.push_log.Goals as goal

pub loop-number-preserved : goal.loop-number-preserved
loop-number-preserved c =
    let e = c.args.self.now in
    let S = e.script.now in
    let log = c.args.log in
    let cell = λ (s : ℕ).
    keyed_exchanged e.way S.shape e.cells.now.bytes.now (writer_of S log) log s (sent_as S log s)
    in
    next_cell cell c.loop-number.number c.args.out.now.items _ _ c.loop-number.invariant
    c.in_ok-push_number.ensures

pub returns : goal.returns
returns c =
    let e = c.args.self.now in
    let S = e.script.now in
    let log = c.args.log in
    let cell = λ (s : ℕ).
    keyed_exchanged e.way S.shape e.cells.now.bytes.now (writer_of S log) log s (sent_as S log s)
    in
    let end : c.loop-number.number ≡ turn_count S.shape = omega arith in
    c.loop-number.invariant ∙ ap (λ (n : ℕ). c.args.out.now.items ++ cells n cell) end

pub bounds-self-writer : goal.bounds-self-writer
bounds-self-writer c =
    let e = c.args.self.now in
    omega (arith, sent_each e.script.now e.sent.now e.all_sent, c.role.ensures.writer_in)

pub push_number-requires-clause-found : goal.push_number-requires-clause-found
push_number-requires-clause-found c =
    let e = c.args.self.now in
    let S = e.script.now in
    let log = c.args.log in
    let role = c.role.result.now in
    let number = c.loop-number.number in
    let of_log = λ (ys : List Sending). filter (λ (y : Sending). y.log == log) ys in
    let sent : c.as_slice-sent.result.now ≡ sent_by S (writer_of S log) =
    c.as_slice-sent.ensures
    ∙ sent_of S e.sent.now role.writer c.index-self-writer.result e.all_sent c.role.ensures.writer_in
    ∙ sym (ap (sent_by S) (writer-of S log role c.role.ensures.role))
    in
    got-at c.as_slice.result.now number c.get-found.result c.get-found.ensures.lookup
    ∙ ap (λ (xs : List Sending). slice_get xs number)
    (c.as_slice.ensures.value ∙ c.in_ok-texts.ensures ∙ ap of_log sent)
    ∙ numbered-in_order S log number
