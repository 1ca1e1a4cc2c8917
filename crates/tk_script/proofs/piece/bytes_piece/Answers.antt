-- Two digits stand for each byte.
use Rattle.std.proofs.Common.{◌≡◌, ◌≤◌, ◌++◌, length, take, drop, Ok, arith, rules}
use Rattle.std.proofs.lemmas.Grind.{common_steps}
use Rattle.hex.specs.Hex.{decode_of}
use Rattle.hex.proofs.HexLemmas.{decode_of-ok}
use Rattle.tk_script.proofs.TapeLineLaws.{digits_taken, digits_form, IsNoPiece}
use Rattle.tk_script.proofs.piece.bytes_piece.Goals as goal
use Rattle.tk_script.proofs.piece.bytes_piece.Goals.{then-count-lt1-via-then-count-lt1, then-count-lt1-via-else-count-lt1+then-count-gt-MOST_BYTES}

pub returns-then-count-lt1 : goal.returns-then-count-lt1
returns-then-count-lt1 c =
    digits_form c.args.digits.now (λ bytes decoded low high.
    let long = (decode_of-ok c.args.digits.now bytes decoded).2 in
    elim c.then-count-lt1.branch [
      | then-count-lt1-via-then-count-lt1 w ↦ omega (arith, long, low, high)
      | then-count-lt1-via-else-count-lt1+then-count-gt-MOST_BYTES w ↦ omega
          (arith, long, low, high)
    ])

pub returns-in-Ok : goal.returns-in-Ok
returns-in-Ok c =
    let out = c.decode_to_slice.new.out in
    let bytes = take c.in_ok-bytes.bytes.len (out ++ drop (length out) c.in_ok-bytes.bytes.items) in
    let decoded : decode_of c.args.digits.now ≡ Ok bytes = grind (arith, common_steps) in
    let low : 1 ≤ length bytes = grind (arith, common_steps) in
    let high : length bytes ≤ 2048 = grind (arith, common_steps) in
    digits_taken c.args.digits.now bytes decoded low high

pub returns-in-Err : goal.returns-in-Err
returns-in-Err c =
    let none : IsNoPiece c.args.digits.now = search rules in
    digits_form c.args.digits.now none
