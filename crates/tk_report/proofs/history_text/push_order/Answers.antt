-- The head, the items and the end are the line.
use Rattle.std.proofs.Common.{List, ◌++◌, ◌∷◌, [], ◌∙◌, ap, codes, decimal}
use Rattle.tk_schedule.specs.declared.item.Item.{Item}
use Rattle.tk_schedule.specs.Schedule.{phase_of, tick_of, order_at}
use Rattle.tk_script.specs.Grammar.{item_word}
use Rattle.tk_report.proofs.ReportLaws.{spaced, line_of_more}
use Rattle.tk_report.proofs.history_text.push_order.Goals as goal

pub returns : goal.returns
returns c =
    let shape = c.args.shape.now in
    let turn = c.args.turn in
    let place = decimal (phase_of shape turn) ∷ decimal (tick_of shape turn) ∷ [] in
    let order = order_at c.args.history.now turn in
    let head = c.push_head.new.out.items in
    let items =
    c.in_ok-push_items.ensures.ok
    ∙ ap (λ (xs : List Item). head ++ spaced item_word xs) c.order.ensures.order
    in
    record {
      ok =
          line_of_more item_word (codes "order") place order c.args.out.now.items
          c.in_ok-push_head.ensures.ok items c.in_ok-push.ensures.items;
    }
