-- The parts of a tape stand one after the other.
use Rattle.std.proofs.Common.{◌≡◌, ◌++◌, ◌∷◌, [], codes}
use Rattle.std.proofs.lemmas.Result.{on_ok_weaker}
use Rattle.tk_script.specs.Printing.{text_of}
use Rattle.tk_script.proofs.TextOfLaws.{tape_text}
use Rattle.tk_script.proofs.tape_text.push_tape.Goals as goal

pub returns : goal.returns
returns c = record {
  ok =
      on_ok_weaker c.push_line-2.result
      (λ (h : c.push_line-2.new.out.items
      ≡ c.push_pieces.new.out.items ++ text_of (codes "end" ∷ [])).
      tape_text c.args.tape.now c.args.out.now.items c.in_ok-push_line.ensures.ok
      c.in_ok-push_pieces.ensures.ok h)
      c.push_line-2.ensures.ok;
}
