use Rattle.std.proofs.Common.{◌≡◌, ◌+◌, ◌-◌, take, drop, ap, ◌∙◌, arith}
use Rattle.std.specs.Int.{w32, from_be_bytes}
use Rattle.tk_words.specs.Pieces.{word_at_byte}
use Rattle.tk_words.proofs.cells.word_at.Goals as goal

pub returns : goal.returns
unfolding word_at_byte
returns c =
    let four : c.args.i + 4 - c.args.i ≡ 4 = omega arith in
    c.from_be_bytes.ensures ∙ ap (from_be_bytes w32) (c.copy_from_slice.ensures.after ∙ ap (λ n. take n (drop c.args.i c.args.bytes.now)) four)
