-- A push for each position that is marked leaves the filter with these marks.
use Rattle.std.proofs.Common.{List, Bool, ◌≡◌, ◌∙◌, ◌<◌, sym, ap, subst, arith, length}
use Rattle.std.specs.Prelude.{All}
use Rattle.std.proofs.lemmas.Result.{IfOk-weaker}
use Rattle.tk_kernel.specs.Chosen.{has_bit}
use Rattle.tk_bloom.specs.Filters.{marks_of, positions_of}
use Rattle.tk_bloom.specs.Windows.{Kept}
use Rattle.tk_member.specs.Epochs.{filter_of}
use Rattle.tk_report.proofs.Offers.{passing-below}
use Rattle.tk_member.proofs.Marked.{passing-few, marks-are}
use Rattle.tk_member.proofs.marks.filter_of.Goals as goal

pub restore-requires-clause-few : goal.restore-requires-clause-few
restore-requires-clause-few c =
    let bits = c.args.shape.now.filter_bits in
    let is = c.as_slice.ensures.value ∙ c.in_ok-marked.ensures in
    let few = passing-few (has_bit c.args.marks.now) 0 bits in
    omega (arith, few, ap length is)

pub restore-requires-clause-in_range : goal.restore-requires-clause-in_range
restore-requires-clause-in_range c =
    let bits = c.args.shape.now.filter_bits in
    subst (All (λ h. h < bits)) (sym (c.as_slice.ensures.value ∙ c.in_ok-marked.ensures))
    (passing-below (has_bit c.args.marks.now) bits)

pub returns : goal.returns
returns c =
    let bits = c.args.shape.now.filter_bits in
    let positions = c.as_slice.result.now in
    let marks = λ (w : Kept). marks_of w.bits (positions_of w.pushes) in
    let are =
    ap marks c.in_ok-window.ensures
    ∙ marks-are c.args.shape.now c.args.marks.now positions
    (c.as_slice.ensures.value ∙ c.in_ok-marked.ensures)
    in
    IfOk-weaker c.filter.result (λ (f : List Bool). f ≡ marks c.in_ok-window.window)
    (λ (f : List Bool). f ≡ filter_of c.args.shape.now c.args.marks.now)
    (λ f is. is ∙ are) c.filter.ensures.marks
