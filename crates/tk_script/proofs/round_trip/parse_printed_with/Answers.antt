-- The printed text spells the script and the tape, and one input is all that it spells.
use Rattle.std.proofs.Common.{◌≡◌, ◌++◌, Some, None, subst, sym, arith, rules}
use Rattle.tk_script.specs.declared.form.Form.TheVariants.{Run}
use Rattle.tk_script.specs.declared.input.Input.{Input}
use Rattle.tk_script.specs.Grammar.{Spells, kept_of}
use Rattle.tk_script.specs.Printing.{printed, printed_tape}
use Rattle.tk_script.proofs.PrintedLaws.{prints_drawn}
use Rattle.tk_script.proofs.round_trip.parse_printed_with.Goals as goal

pub returns : goal.returns
returns c = record {
  same = λ drawn.
      let S = c.args.script.now in
      let bytes = c.args.tape.now in
      let input : Input = record {
        first = S;
        second = None;
        history = None;
        replies = None;
        tape = Some (kept_of S.shape bytes);
      } in
      let text : c.as_slice.result.now ≡ printed S ++ printed_tape bytes = search rules in
      let spells = prints_drawn S bytes drawn (λ i. omega (arith, c.type_inv.tape i)) in
      c.parse.ensures.only input (subst (λ t. Spells Run t input) (sym text) spells);
}
