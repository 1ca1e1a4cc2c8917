-- The parts of a script stand one after the other.
use Rattle.std.proofs.Common.{◌≡◌, ◌++◌, ◌∷◌, [], codes}
use Rattle.std.proofs.lemmas.Result.{on_ok_weaker}
use Rattle.tk_script.specs.Printing.{text_of}
use Rattle.tk_script.proofs.TextOfLaws.{script_text}
use Rattle.tk_script.proofs.printing.push_script.Goals as goal

pub returns-clause-ok : goal.returns-clause-ok
returns-clause-ok c =
    let S = c.args.script.now in
    on_ok_weaker c.push_line.result
    (λ (h : c.push_line.new.out.items ≡ c.push_says.new.out.items ++ text_of (codes "end" ∷ [])).
    script_text S c.as_slice.result.now c.as_slice-2.result.now c.args.out.now.items
    c.as_slice.ensures c.as_slice-2.ensures c.in_ok-push_numbers_line.ensures.ok
    c.in_ok-push_shape.ensures.ok c.in_ok-push_kind.ensures.ok
    c.in_ok-push_roles.ensures.ok c.in_ok-push_keys.ensures.ok c.in_ok-push_says.ensures.ok h)
    c.push_line.ensures.ok
