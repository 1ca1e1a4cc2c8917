-- What is read line by line is what the text spells.
use Rattle.tk_script.proofs.InputLaws.{agrees_found, agrees_only}
use Rattle.tk_script.proofs.parsing.parse.Goals as goal

pub returns : goal.returns
returns c = record {
  found = agrees_found c.args.form c.args.text.now c.input_of.result c.input_of.ensures;
  read = c.input_of.ensures;
  only = λ input spelled. agrees_only c.args.form c.args.text.now c.input_of.result input
      c.input_of.ensures spelled;
}
