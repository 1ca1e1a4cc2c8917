-- An epoch's frame has six bytes, and those of its marks.
use Rattle.std.proofs.Common.{◌≡◌, ◌+◌, ◌∙◌, ap, length, arith, rules}
use Rattle.tk_packets.specs.Frames.{marks_len}
use Rattle.tk_serve.proofs.AnswerLaws.{marks-length}
use Rattle.tk_serve.proofs.tell.epoch_frame.Goals as goal

pub returns-clause-short : goal.returns-clause-short
returns-clause-short c =
    let long : length c.from_vec.result ≡ 6 + length c.in_ok-marks_of.field-0 = search rules in
    let marks = ap length c.in_ok-marks_of.ensures ∙ marks-length (marks_len c.args.shape.now) c.filter.result.now in
    omega (arith, long, marks, (c.args.shape.now).in_range.filter_high)
