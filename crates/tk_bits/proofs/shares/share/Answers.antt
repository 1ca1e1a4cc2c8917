use Rattle.std.proofs.Common.{◌≡◌, ◌∙◌, ◌*◌, ◌%◌, ◌^◌, ◌<◌, length, ap, arith}
use Rattle.std.proofs.Math.Pow.{pow-lt}
use Rattle.tk_kernel.specs.Xor.{xor_bytes}
use Rattle.tk_bits.specs.Shares.{unit_vector}
use Rattle.tk_bits.proofs.Vectors.{unit_added}
use Rattle.tk_bits.proofs.shares.share.Goals as goal

pub returns : goal.returns
returns c =
    let size = length c.args.last.now in
    let place = c.args.bucket % 8 in
    let low : place < 8 = omega arith in
    let mask : 1 * 2 ^ place % 256 ≡ 2 ^ place = omega (arith, pow-lt low) in
    rw mask (unit_added size c.args.bucket c.join.new.out c.join.auto.out ∙ ap (xor_bytes (unit_vector size c.args.bucket)) c.join.ensures)
