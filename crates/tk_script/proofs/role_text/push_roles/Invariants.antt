-- The lines of the roles so far stand after what was there.
use Rattle.std.proofs.Common.{◌≡◌, ◌++◌, map, take}
use Rattle.tk_script.specs.Grammar.{role_line}
use Rattle.tk_script.specs.Printing.{text_of}
use Rattle.tk_script.proofs.role_text.push_roles.Given as goal

abbrev pub invariant-loop-role : goal.invariant-loop-role
invariant-loop-role l =
    l.out.items ≡ l.fn.out.items ++ text_of (map role_line (take l.role-index l.roles))
