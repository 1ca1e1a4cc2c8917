-- The items so far stand after what was there.
use Rattle.std.proofs.Common.{◌≡◌, ◌++◌, take}
use Rattle.tk_script.specs.Grammar.{item_word}
use Rattle.tk_report.proofs.ReportLaws.{spaced}
use Rattle.tk_report.proofs.history_text.push_items.Given as goal

abbrev pub invariant-loop-item : goal.invariant-loop-item
invariant-loop-item l =
    l.out.items ≡ l.fn.out.items ++ spaced item_word (take l.item-index l.order)
