-- Where no byte differs, all are the same.
use Rattle.std.proofs.Common.{◌≡◌, length, arith}
use Rattle.tk_words.proofs.SeedBytes.{same-bytes}
use Rattle.tk_words.proofs.log_seeds.is_same_seed.Goals as goal

pub returns : goal.returns
returns c =
    let one = c.args.one.now in
    let other = c.args.other.now in
    let one_long : length one ≡ 32 = omega (arith, c.told-one) in
    let other_long : length other ≡ 32 = omega (arith, c.told-other) in
    same-bytes one other one_long other_long
