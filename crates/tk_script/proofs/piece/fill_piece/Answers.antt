-- The count is all that follows the space.
use Rattle.std.proofs.Common.{◌≡◌, ◌<◌, ◌∙◌, ◌∷◌, [], length, decimal, ap, sym, append-nil, arith, rules}
use Rattle.tk_script.proofs.TapeLineLaws.{fill_form, fill_said, fill_spelled, repeats_taken, repeats_few, repeats_many}
use Rattle.tk_script.proofs.piece.fill_piece.Goals as goal
use Rattle.tk_script.proofs.piece.fill_piece.Goals.{then-count-lt1-via-then-count-lt1, then-count-lt1-via-else-count-lt1+then-count-gt-MOST_REPEATS}

pub returns-in_default : goal.returns-in_default
returns-in_default c =
    fill_form c.args.text.now (λ b n digits e decoded small.
    c.in_default.ensures.only b digits (0x20 ∷ decimal n) decoded e)

pub returns-in_default-next_number : goal.returns-in_default-next_number
returns-in_default-next_number c =
    fill_form c.args.text.now (λ b n digits e decoded small.
    let rest = c.in-Some.ensures.only b digits (0x20 ∷ decimal n) decoded e in
    absurd (c.in_default-next_number.ensures.only n [] small tt (rest.1
    ∙ ap (λ t. 0x20 ∷ t) (sym (append-nil (decimal n))))))

pub returns-then-not-is_empty : goal.returns-then-not-is_empty
returns-then-not-is_empty c =
    let some : 0 < length c.in-Some-next_number.behind.now = search rules in
    fill_form c.args.text.now (λ b n digits e decoded small.
    let rest = c.in-Some.ensures.only b digits (0x20 ∷ decimal n) decoded e in
    let count = c.in-Some-next_number.ensures.only n [] small tt (rest.1
    ∙ ap (λ t. 0x20 ∷ t) (sym (append-nil (decimal n)))) in
    omega (arith, ap length count.1, some))

pub returns-then-count-lt1 : goal.returns-then-count-lt1
returns-then-count-lt1 c =
    let found = c.in-Some.ensures.found in
    let none : length c.in-Some-next_number.behind.now ≡ 0 = search rules in
    let spelled = fill_spelled c.args.text.now found.0 c.in-Some.rest.now
    c.in-Some-next_number.behind.now c.in-Some-next_number.count found.2
    c.in-Some-next_number.ensures.found none in
    let said = fill_said c.args.text.now found.0 c.in-Some.byte c.in-Some-next_number.count spelled
    found.1 c.in-Some-next_number.ensures.small in
    elim c.then-count-lt1.branch [
      | then-count-lt1-via-then-count-lt1 w ↦ said ∙ repeats_few c.in-Some.byte
          c.in-Some-next_number.count
          (omega arith)
      | then-count-lt1-via-else-count-lt1+then-count-gt-MOST_REPEATS w ↦ said ∙ repeats_many
          c.in-Some.byte
          c.in-Some-next_number.count (omega arith)
    ]

pub returns : goal.returns
returns c =
    let found = c.in-Some.ensures.found in
    let none : length c.in-Some-next_number.behind.now ≡ 0 = search rules in
    let spelled = fill_spelled c.args.text.now found.0 c.in-Some.rest.now
    c.in-Some-next_number.behind.now c.in-Some-next_number.count found.2
    c.in-Some-next_number.ensures.found none in
    let said = fill_said c.args.text.now found.0 c.in-Some.byte c.in-Some-next_number.count spelled
    found.1 c.in-Some-next_number.ensures.small in
    said ∙ repeats_taken c.in-Some.byte c.in-Some-next_number.count
    (omega (arith, c.if-count-lt1.false))
    (omega (arith, c.if-count-gt-MOST_REPEATS.false))
