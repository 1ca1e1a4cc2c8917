use Rattle.std.proofs.Common.{ap, sym, ◌∙◌}
use Rattle.std.specs.Prelude.{option_map, find}
use Rattle.tk_shape.specs.declared.differs.Differs.{Differs}
use Rattle.tk_shape.specs.Numbers.{format_and_numbers}
use Rattle.tk_shape.specs.Differences.{fields, side_by_side, are_apart}
use Rattle.tk_checkpoint.specs.declared.error.RestoreError.TheVariants as refusal
use Rattle.tk_checkpoint.specs.Reading.{numbers_in}
use Rattle.tk_checkpoint.proofs.Checking.{differing}
use Rattle.tk_checkpoint.proofs.head.check_shape.Goals as goal

pub returns-in-Some : goal.returns-in-Some
returns-in-Some c =
    let ds = side_by_side fields (format_and_numbers c.args.shape.now) (numbers_in c.args.bytes.now) in
    sym (differing ds
    ∙ ap (option_map (λ (d : Differs). refusal.Shape d)) (sym (c.in-Some.ensures ∙ ap (find are_apart) c.beside.ensures)))

pub returns-in-None : goal.returns-in-None
returns-in-None c =
    let ds = side_by_side fields (format_and_numbers c.args.shape.now) (numbers_in c.args.bytes.now) in
    sym (differing ds
    ∙ ap (option_map (λ (d : Differs). refusal.Shape d)) (sym (c.in-None.ensures ∙ ap (find are_apart) c.beside.ensures)))
