-- The lines of the texts so far stand after what was there.
use Rattle.std.proofs.Common.{◌≡◌, ◌++◌, map, take}
use Rattle.tk_script.specs.Grammar.{say_line}
use Rattle.tk_script.specs.Printing.{text_of}
use Rattle.tk_script.proofs.say_text.push_says.Given as goal

abbrev pub invariant-loop-say : goal.invariant-loop-say
invariant-loop-say l =
    l.out.items ≡ l.fn.out.items ++ text_of (map say_line (take l.say-index l.says))
