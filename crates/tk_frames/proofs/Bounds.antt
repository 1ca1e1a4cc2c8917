-- Numbers of a shape fit their fields.
use Rattle.std.proofs.Common.{◌+◌, ◌*◌, ◌≤◌, arith}
use Rattle.std.proofs.lemmas.Nat.{mul-le}
use Rattle.tk_shape.specs.declared.shape.Shape.{Shape}
use Rattle.tk_shape.specs.Lengths.{turn_count}

pub turn_count_small : (shape : Shape) → turn_count shape ≤ 16384
turn_count_small shape = mul-le shape.phases shape.ticks 256 64 shape.in_range.phases_high shape.in_range.ticks_high

pub last_position_small : (shape : Shape) → shape.clients * turn_count shape + shape.phases ≤ 1048832
last_position_small shape =
    let product = mul-le shape.clients (turn_count shape) 64 16384 shape.in_range.clients_high (turn_count_small shape) in
    omega (arith, product, shape.in_range.phases_high)
