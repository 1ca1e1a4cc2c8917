-- The digits of a byte are two.
use Rattle.std.proofs.Common.{◌≡◌, ◌∙◌, ◌∷◌, ◌++◌, [], get_or, ap, sym, arith}
use Rattle.std.proofs.lemmas.List.{take_rest}
use Rattle.hex.specs.Hex.{decode_of}
use Rattle.tk_script.proofs.PieceLaws.{two_digits, two_at_least, two_in_front}
use Rattle.tk_script.proofs.piece.byte_of.Goals as goal

pub returns-in_default-clause-only : goal.returns-in_default-clause-only
returns-in_default-clause-only c b digits rest decoded e =
    omega (arith, two_at_least digits b c.args.text.now rest decoded e, c.in_default.len_below)

pub returns-in_err-byte-clause-only : goal.returns-in_err-byte-clause-only
returns-in_err-byte-clause-only c b digits rest decoded e =
    let two = two_digits digits b c.args.text.now rest decoded e in
    absurd (cc (c.in_err-byte.ensures.only b (ap decode_of two.0 ∙ decoded)))

pub returns-clause-found : goal.returns-clause-found
returns-clause-found c =
    let text = c.args.text.now in (
      get_or text 0 0 ∷ get_or text 1 0 ∷ [],
      c.in_ok-byte.ensures.found,
      two_in_front text c.in-len2-up.len_at_least
          ∙ ap (λ t. (get_or text 0 0 ∷ get_or text 1 0 ∷ []) ++ t) (sym (take_rest text 2)),
    )

pub returns-clause-only : goal.returns-clause-only
returns-clause-only c b digits rest decoded e =
    let two = two_digits digits b c.args.text.now rest decoded e in
    let byte : c.in_ok-byte.byte ≡ b = cc (c.in_ok-byte.ensures.only b (ap decode_of two.0
    ∙ decoded)) in
    (byte, take_rest c.args.text.now 2 ∙ two.1)
