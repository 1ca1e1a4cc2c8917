-- Which marks stand before a turn.
use Rattle.std.proofs.Common.{◌≡◌, ℕ, zero, suc, ◌+◌, ◌*◌, ◌/◌, ◌≤◌, cond, ap, sym, ◌∙◌, arith, count_by}
use Rattle.std.proofs.Common.{add-one, zero-mul, length}
use Rattle.std.proofs.lemmas.List.Sums.{sum_by-append}
use Rattle.std.proofs.lemmas.Nat.{div-mul-add}
use Rattle.tk_shape.specs.declared.shape.Shape.{Shape}
use Rattle.tk_shape.specs.Lengths.{turn_count}
use Rattle.tk_schedule.specs.declared.history.History.{History}
use Rattle.tk_schedule.specs.Schedule.{IsLegal, is_mark, marks_due, phases_over, order_at}
use Rattle.tk_frames.specs.declared.write_frame.WriteFrame.{WriteFrame}
use Rattle.tk_frames.specs.Order.{is_mark_entry}
use Rattle.tk_schedule.proofs.Offers.{next_in_phase}
use Rattle.tk_report.specs.Entries.{placed_after, entries_before}
use Rattle.tk_report.proofs.TurnEntries.{marks-placed_from}

-- a turn closes one phase at most
pub phases-next : (shape : Shape) (g : ℕ) →
    phases_over shape (g + 1) ≡ phases_over shape g + marks_due shape g
phases-next shape g = next_in_phase shape.ticks g shape.in_range.ticks_low

-- as many marks stand before a turn as phases are over
pub marks-before : (shape : Shape) (write : ℕ → ℕ → WriteFrame) (H : History) → IsLegal shape H →
    (g : ℕ) → g ≤ turn_count shape →
    count_by is_mark_entry (entries_before write H g) ≡ phases_over shape g
unfolding entries_before
marks-before shape write H legal zero within =
    let nothing : 0 * shape.ticks + 0 ≡ 0 = omega (arith, zero-mul shape.ticks) in
    sym (ap (λ n. n / shape.ticks) (sym nothing)
    ∙ div-mul-add 0 shape.ticks 0 shape.in_range.ticks_low)
marks-before shape write H legal (suc g) within =
    let E = entries_before write H g in
    let turn = placed_after (write g) E (order_at H g) in
    let before = marks-before shape write H legal g (omega (arith, within)) in
    let due : count_by is_mark (order_at H g) ≡ marks_due shape g =
    (legal.each_turn g (omega (arith, within))).marks
    in
    let here : count_by is_mark_entry turn ≡ marks_due shape g =
    marks-placed_from (write g) (length E + 1) (count_by is_mark_entry E + 1) (order_at H g)
    ∙ due
    in
    let next = next_in_phase shape.ticks g shape.in_range.ticks_low in
    sum_by-append (λ q. cond (is_mark_entry q) 1 0) E turn
    ∙ omega (arith, before, here, next, ap (λ n. n / shape.ticks) (add-one g))
