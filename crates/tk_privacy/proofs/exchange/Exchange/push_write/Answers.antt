-- The cell stays where nothing is sent; else it becomes the cell of the number.
use Rattle.std.proofs.Common.{◌∙◌, ◌+◌, ◌≤◌, ap, sym, subst, arith, ℕ, List, length, IsTrue}
use Rattle.std.specs.Option.{option_copied}
use Rattle.tk_shape.specs.declared.shape.Shape.{Shape}
use Rattle.tk_shape.specs.Lengths.{turn_count}
use Rattle.tk_seal.specs.Texts.{is_allowed}
use Rattle.tk_script.specs.Sent.{Sending}
use Rattle.tk_script.proofs.Offers.{sent-is}
use Rattle.tk_privacy.proofs.exchange.Exchange.push_write.Goals as goal

pub keyed_cell-cell-requires-clause-log_in : goal.keyed_cell-cell-requires-clause-log_in
keyed_cell-cell-requires-clause-log_in c =
    let e = c.args.self.now in
    let y = c.in-Some.found.now in
    let some = sym c.sent_in.ensures ∙ ap option_copied c.in-Some.is in
    let is = sent-is e.script.now c.args.turn c.args.client y some in
    omega (
      arith,
      is.log_in,
      ap (λ (x : Sending). x.log) c.found.view_is,
      ap (λ (shape : Shape). shape.logs) e.one_shape,
    )

pub keyed_cell-cell-requires-clause-number_in : goal.keyed_cell-cell-requires-clause-number_in
keyed_cell-cell-requires-clause-number_in c =
    let e = c.args.self.now in
    let y = c.in-Some.found.now in
    let some = sym c.sent_in.ensures ∙ ap option_copied c.in-Some.is in
    let is = sent-is e.script.now c.args.turn c.args.client y some in
    omega (
      arith,
      is.number_in,
      ap (λ (x : Sending). x.number) c.found.view_is,
      ap turn_count e.one_shape,
    )

pub push_masked-requires-clause-allowed : goal.push_masked-requires-clause-allowed
push_masked-requires-clause-allowed c =
    let e = c.args.self.now in
    let y = c.in-Some.found.now in
    let some = sym c.sent_in.ensures ∙ ap option_copied c.in-Some.is in
    let is = sent-is e.script.now c.args.turn c.args.client y some in
    let text = sym (ap (λ (x : Sending). x.text) c.found.view_is) ∙ sym c.as_slice.ensures in
    subst (λ (bytes : List ℕ). IsTrue (is_allowed bytes)) text is.sealable.allowed

pub push_masked-requires-clause-fits : goal.push_masked-requires-clause-fits
push_masked-requires-clause-fits c =
    let e = c.args.self.now in
    let S = e.script.now in
    let y = c.in-Some.found.now in
    let some = sym c.sent_in.ensures ∙ ap option_copied c.in-Some.is in
    let is = sent-is S c.args.turn c.args.client y some in
    let text = sym (ap (λ (x : Sending). x.text) c.found.view_is) ∙ sym c.as_slice.ensures in
    subst (λ (bytes : List ℕ). length bytes + 18 ≤ S.shape.block) text is.sealable.fits
