-- Two digits stand for each byte.
use Rattle.std.proofs.Common.{◌∙◌, ap, arith}
use Rattle.std.specs.Result.{result_ok}
use Rattle.hex.proofs.HexLemmas.{decode_of-ok, decode_sized-twice}
use Rattle.tk_script.proofs.key_lines.bytes_of.Goals as goal

pub returns-clause-only : goal.returns-clause-only
returns-clause-only g c bytes decoded long =
    let twice = (decode_of-ok c.args.digits.now bytes decoded).2 in
    let sized = decode_sized-twice c.args.digits.now g.row.N (omega (arith, twice, long)) in
    c.ok.ensures.value ∙ ap result_ok (c.from_hex.ensures ∙ sized ∙ decoded)
