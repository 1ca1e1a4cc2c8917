-- The cell stays where the number isn't sent; else it becomes the write cell of the turn.
use Rattle.std.proofs.Common.{◌≡◌, ◌∙◌, ◌+◌, ◌≤◌, ◌++◌, ap, ap₂, sym, subst, arith, ℕ, List}
use Rattle.std.proofs.Common.{length, Option, Some, IsTrue, OnOk}
use Rattle.std.specs.Option.{option_copied}
use Rattle.tk_shape.specs.declared.shape.Shape.{Shape}
use Rattle.tk_shape.specs.Lengths.{turn_count}
use Rattle.tk_seal.specs.Texts.{is_allowed}
use Rattle.tk_script.specs.Sent.{Sending, sent_as, writer_of}
use Rattle.tk_script.proofs.Offers.{sent-is, sent_as-is}
use Rattle.tk_words.specs.Words.{write_cell}
use Rattle.tk_privacy.specs.declared.way.Way.{Way}
use Rattle.tk_privacy.specs.Privacy.{masked_cell}
use Rattle.tk_privacy.specs.Exchanging.{keyed_exchanged}
use Rattle.tk_report.proofs.Offers.{writer-of}
use Rattle.tk_privacy.proofs.exchange.Exchange.push_number.Goals as goal

pub write_cell-cell-requires-clause-turn_in : goal.write_cell-cell-requires-clause-turn_in
write_cell-cell-requires-clause-turn_in c =
    let e = c.args.self.now in
    let S = e.script.now in
    let y = c.in-Some.found.now in
    let some = sym c.requires.found ∙ ap option_copied c.in-Some.is in
    let found = sent_as-is S c.args.log c.args.number y some in
    let is = sent-is S y.turn (writer_of S c.args.log) y found.sends in
    omega (
      arith,
      is.turn_in,
      ap (λ (x : Sending). x.turn) c.found.view_is,
      ap turn_count e.one_shape,
    )

pub push_masked-requires-clause-allowed : goal.push_masked-requires-clause-allowed
push_masked-requires-clause-allowed c =
    let e = c.args.self.now in
    let S = e.script.now in
    let y = c.in-Some.found.now in
    let some = sym c.requires.found ∙ ap option_copied c.in-Some.is in
    let found = sent_as-is S c.args.log c.args.number y some in
    let is = sent-is S y.turn (writer_of S c.args.log) y found.sends in
    let text = sym (ap (λ (x : Sending). x.text) c.found.view_is) ∙ sym c.as_slice.ensures in
    subst (λ (bytes : List ℕ). IsTrue (is_allowed bytes)) text is.sealable.allowed

pub push_masked-requires-clause-fits : goal.push_masked-requires-clause-fits
push_masked-requires-clause-fits c =
    let e = c.args.self.now in
    let S = e.script.now in
    let y = c.in-Some.found.now in
    let some = sym c.requires.found ∙ ap option_copied c.in-Some.is in
    let found = sent_as-is S c.args.log c.args.number y some in
    let is = sent-is S y.turn (writer_of S c.args.log) y found.sends in
    let text = sym (ap (λ (x : Sending). x.text) c.found.view_is) ∙ sym c.as_slice.ensures in
    subst (λ (bytes : List ℕ). length bytes + 18 ≤ S.shape.block) text is.sealable.fits

pub returns-in-Show : goal.returns-in-Show
returns-in-Show c =
    let e = c.args.self.now in
    let S = e.script.now in
    let u = e.cells.now.bytes.now in
    let log = c.args.log in
    let y = c.in-Some.found.now in
    let some : sent_as S log c.args.number ≡ Some y =
    sym c.requires.found ∙ ap option_copied c.in-Some.is
    in
    let writer = writer-of S log c.role.result.now c.role.ensures.role in
    let cell =
    c.write_cell-cell.ensures.cell
    ∙ ap (λ (shape : Shape). write_cell shape u c.found.inside.turn c.role.result.now.writer)
    e.one_shape
    ∙ ap₂ (λ (x : Sending) (w : ℕ). write_cell S.shape u x.turn w) c.found.view_is (sym writer)
    in
    let all =
    cell
    ∙ sym (ap₂ (λ (way : Way) (o : Option Sending).
    keyed_exchanged way S.shape u (writer_of S log) log c.args.number o) c.in-Show.is some)
    in
    subst (λ (bytes : List ℕ). OnOk c.push-in-Show.result
    (c.push-in-Show.new.out.items ≡ c.args.out.now.items ++ bytes)) all c.push-in-Show.ensures

pub returns-in-Regain : goal.returns-in-Regain
returns-in-Regain c =
    let e = c.args.self.now in
    let S = e.script.now in
    let u = e.cells.now.bytes.now in
    let log = c.args.log in
    let y = c.in-Some.found.now in
    let some : sent_as S log c.args.number ≡ Some y =
    sym c.requires.found ∙ ap option_copied c.in-Some.is
    in
    let writer = writer-of S log c.role.result.now c.role.ensures.role in
    let text = c.as_slice.ensures ∙ ap (λ (x : Sending). x.text) c.found.view_is in
    let cell =
    c.write_cell-cell.ensures.cell
    ∙ ap (λ (shape : Shape). write_cell shape u c.found.inside.turn c.role.result.now.writer)
    e.one_shape
    ∙ ap₂ (λ (x : Sending) (w : ℕ). write_cell S.shape u x.turn w) c.found.view_is (sym writer)
    in
    let all =
    ap₂ (masked_cell S.shape) text cell
    ∙ sym (ap₂ (λ (way : Way) (o : Option Sending).
    keyed_exchanged way S.shape u (writer_of S log) log c.args.number o) c.in-Regain.is some)
    in
    subst (λ (bytes : List ℕ). OnOk c.push_masked.result
    (c.push_masked.new.out.items ≡ c.args.out.now.items ++ bytes)) all c.push_masked.ensures
