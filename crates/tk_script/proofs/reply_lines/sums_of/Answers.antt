-- Digits of as many bytes as there is room for are decoded.
use Rattle.std.proofs.Common.{◌≡◌, ◌∙◌, ◌*◌, length, arith}
use Rattle.std.proofs.lemmas.Grind.{common_steps}
use Rattle.hex.proofs.HexLemmas.{decode_of-ok, decode_sized-twice}
use Rattle.tk_script.proofs.reply_lines.sums_of.Goals as goal

pub returns-in_default-clause-none : goal.returns-in_default-clause-none
returns-in_default-clause-none c bytes decoded long =
    let room = length c.as_mut_slice.result.now in
    let twice = (decode_of-ok c.args.digits.now bytes decoded).2 in
    let wide : room ≡ 2 * c.args.width = grind (arith, common_steps) in
    let sized = decode_sized-twice c.args.digits.now room (omega (arith, twice, long, wide))
    ∙ decoded in
    c.in_default.not-Ok tt (rw sized at c.decode_to_slice.ensures.value).0
