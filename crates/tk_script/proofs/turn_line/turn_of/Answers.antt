-- By its word a line says an order or epochs, or nothing.
use Rattle.std.proofs.Common.{◌≡◌, ◌∙◌, sym, subst, codes, false}
use Rattle.std.proofs.lemmas.Bool.{true≢false}
use Rattle.std.proofs.lemmas.Result.{IfOk-weaker}
use Rattle.std.proofs.lemmas.Slice.Eq.{bytes_eq-Decides}
use Rattle.tk_script.specs.Reading.{IsTaken}
use Rattle.tk_script.proofs.TurnParts.{head-order, head-reads, head-other}
use Rattle.tk_script.proofs.turn_line.turn_of.Goals as goal

pub returns-then-eq : goal.returns-then-eq
returns-then-eq c =
    let line = c.args.line.now in
    let head = c.in-Some.head in
    let word : head.word.now ≡ codes "order" =
    (bytes_eq-Decides head.word.now c.as_slice.result.now).0 (sym c.if-eq.ensures)
    ∙ c.as_slice.ensures
    in
    IfOk-weaker c.order_in.result _ _ (λ o is. subst (IsTaken o) (head-order line head.word.now
    head.rest.now head.phase head.tick c.in-Some.ensures.found word) is) c.order_in.ensures

pub returns-then-eq-2 : goal.returns-then-eq-2
returns-then-eq-2 c =
    let line = c.args.line.now in
    let head = c.in-Some.head in
    let word : head.word.now ≡ codes "reads" =
    (bytes_eq-Decides head.word.now c.as_slice-2.result.now).0 (sym c.if-eq-2.ensures)
    ∙ c.as_slice-2.ensures
    in
    IfOk-weaker c.reads_in.result _ _ (λ o is. subst (IsTaken o) (head-reads line head.word.now
    head.rest.now head.phase head.tick c.in-Some.ensures.found word) is) c.reads_in.ensures

pub returns : goal.returns
returns c =
    let line = c.args.line.now in
    let head = c.in-Some.head in
    sym (head-other line head.word.now head.rest.now head.phase head.tick c.in-Some.ensures.found
    (λ e. true≢false
    (sym (c.eq.ensures
    ∙ (bytes_eq-Decides head.word.now c.as_slice.result.now).1 (e ∙ sym c.as_slice.ensures))
    ∙ c.if-eq.false))
    (λ e. true≢false
    (sym (c.eq-2.ensures
    ∙ (bytes_eq-Decides head.word.now c.as_slice-2.result.now).1 (e ∙ sym c.as_slice-2.ensures))
    ∙ c.if-eq-2.false)))
