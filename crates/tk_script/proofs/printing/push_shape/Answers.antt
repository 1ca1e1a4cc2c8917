-- The word, the numbers and the end are the line.
use Rattle.std.proofs.Common.{◌≡◌, ◌++◌, ◌∷◌, [], ◌∙◌, ap, map, codes, decimal, rules}
use Rattle.tk_shape.specs.Numbers.{numbers_of}
use Rattle.tk_script.specs.Grammar.{fields}
use Rattle.tk_script.specs.Printing.{text_of}
use Rattle.tk_script.proofs.TextOfLaws.{numbers_text}
use Rattle.tk_script.proofs.printing.push_shape.Goals as goal

pub returns : goal.returns
returns c =
    let old = c.args.out.now.items in
    let numbers : c.as_slice.result.now ≡ numbers_of c.args.shape.now = search rules in
    record {
      ok =
          numbers_text (codes "shape") c.as_slice.result.now old
          c.in_ok-extend_from_slice.ensures.items c.in_ok-push_fields.ensures.ok
          c.in_ok-push.ensures.items
          ∙ ap (λ ns. old ++ text_of (fields (codes "shape" ∷ map decimal ns) ∷ [])) numbers;
    }
