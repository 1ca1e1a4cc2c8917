-- The digits are those of the seed.
use Rattle.std.proofs.Common.{codes, refl, rules}
use Rattle.tk_script.specs.Reading.{read_seed}
use Rattle.tk_script.proofs.CauseLaws.{lacks_by_test}
use Rattle.tk_script.proofs.HexLaws.{read_bytes-form, read_bytes-by, none_taken}
use Rattle.tk_script.proofs.key_lines.seed_of.Goals as goal

pub returns-in_err-digits : goal.returns-in_err-digits
returns-in_err-digits c =
    none_taken c.from_residual.result (read_seed c.args.line.now) (search rules)
    (read_bytes-form (codes "seed") c.args.line.now 32
    (λ bytes t. c.in_err-digits.ensures.only t.digits t.spelled))

pub returns : goal.returns
returns c =
    read_bytes-by (codes "seed") c.args.line.now c.in_ok-digits.digits.now 32
    (lacks_by_test (codes "seed") refl) c.in_ok-digits.ensures.found
    c.in_ok-digits.ensures.only c.bytes_of.result c.bytes_of.ensures.found
    c.bytes_of.ensures.counted c.bytes_of.ensures.only
