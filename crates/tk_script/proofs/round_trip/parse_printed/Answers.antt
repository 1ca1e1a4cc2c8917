-- The printed text spells the script, and one input is all that it spells.
use Rattle.std.proofs.Common.{◌≡◌, None, subst, sym, rules}
use Rattle.tk_script.specs.declared.form.Form.TheVariants.{Run}
use Rattle.tk_script.specs.declared.input.Input.{Input}
use Rattle.tk_script.specs.Grammar.{Spells}
use Rattle.tk_script.specs.Printing.{printed}
use Rattle.tk_script.proofs.PrintedLaws.{prints_keyed}
use Rattle.tk_script.proofs.round_trip.parse_printed.Goals as goal

pub returns : goal.returns
returns c = record {
  same = λ keys keyed.
      let S = c.args.script.now in
      let input : Input = record {
        first = S;
        second = None;
        history = None;
        replies = None;
        tape = None;
      } in
      let text : c.as_slice.result.now ≡ printed S = search rules in
      let spells = prints_keyed S keys keyed c.in_ok-print.ensures.has in
      c.parse.ensures.only input (subst (λ t. Spells Run t input) (sym text) spells);
}
