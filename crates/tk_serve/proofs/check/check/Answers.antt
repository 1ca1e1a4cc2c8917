-- The first byte says which kind of frame is checked.
use Rattle.std.proofs.Common.{◌≡◌, true, false, ap, sym, ◌∙◌, eq-eqb, ne_eqb}
use Rattle.std.specs.Prelude.{slice_index, ◌==◌}
use Rattle.std.proofs.lemmas.Result.{IfOk-weaker}
use Rattle.tk_serve.specs.Refusals.{is_read_kind}
use Rattle.tk_serve.proofs.CheckLaws.{checked-write, checked-read, begins-other}
use Rattle.tk_serve.proofs.check.check.Goals as goal

pub returns-then-kind-eq-WRITE : goal.returns-then-kind-eq-WRITE
returns-then-kind-eq-WRITE c =
    let kind : (slice_index c.args.frame.now 0 == 1) ≡ true = eq-eqb _ _ (cc) in
    IfOk-weaker c.check_write.result _ _ (checked-write c.args.shape.now c.args.due.now c.args.frame.now kind)
    c.check_write.ensures

pub returns-then-is_read : goal.returns-then-is_read
returns-then-is_read c =
    let same = c.first_byte-kind.ensures in
    let other : (slice_index c.args.frame.now 0 == 1) ≡ false =
    ne_eqb _ _ (λ e. c.if-kind-eq-WRITE.false (same ∙ e))
    in
    let kind : is_read_kind c.args.shape.now (slice_index c.args.frame.now 0) ≡ true =
    sym (ap (is_read_kind c.args.shape.now) same) ∙ (cc)
    in
    IfOk-weaker c.check_read.result _ _ (checked-read c.args.shape.now c.args.due.now c.args.frame.now other kind)
    c.check_read.ensures

pub returns : goal.returns
returns c =
    let same = c.first_byte-kind.ensures in
    let other : (slice_index c.args.frame.now 0 == 1) ≡ false =
    ne_eqb _ _ (λ e. c.if-kind-eq-WRITE.false (same ∙ e))
    in
    let kind : is_read_kind c.args.shape.now (slice_index c.args.frame.now 0) ≡ false =
    sym (ap (is_read_kind c.args.shape.now) same) ∙ (cc)
    in
    begins-other c.args.shape.now c.args.due.now c.args.frame.now other kind
