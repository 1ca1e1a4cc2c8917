-- The text is what was printed of the script in format 2.
use Rattle.std.proofs.Common.{◌∙◌, ◌++◌, ap, ℕ, List}
use Rattle.tk_script.specs.Printing.{printed}
use Rattle.tk_cli.proofs.lift_word.keyed_text.Goals as goal

pub returns : goal.returns
returns c =
    record {
      script = c.in_ok-script.script;
      lifted = c.in_ok-script.ensures;
      is = c.in_ok-print.ensures.ok
          ∙ ap (λ (xs : List ℕ). xs ++ printed c.in_ok-script.script) c.new-text.ensures.items;
    }
