-- One more mark, at the front of those that are done.
use Rattle.std.proofs.Common.{◌≡◌, ◌+◌, ◌-◌, ◌*◌, ap, sym, ◌∙◌, arith, rules, add_comm}
use Rattle.tk_packets.specs.Marks.{mark_at}
use Rattle.tk_packets.proofs.Bits.{bits_from-none, bits_from-more, small_more}
use Rattle.tk_packets.proofs.marks.mark_byte.Goals as goal

pub marks-init : goal.marks-init
marks-init c = record { bits = sym (bits_from-none _ _); small = search rules }

pub marks-preserved : goal.marks-preserved
marks-preserved c =
    let marks = c.args.filter.now in
    let place = c.args.first + (8 - (c.marks.done + 1)) in
    let here : c.args.first + (7 - c.marks.done) ≡ place = omega arith in
    let mark : c.mark.result ≡ mark_at marks place = c.mark.ensures.value ∙ ap (mark_at marks) here in
    record {
      bits =
          add_comm (2 * c.marks.byte) c.mark.result
          ∙ ap (λ n. n + 2 * c.marks.byte) mark
          ∙ ap (λ n. mark_at marks place + 2 * n) c.marks.invariant.bits
          ∙ bits_from-more marks c.marks.done place (c.args.first + (8 - c.marks.done)) (omega arith);
      small = small_more c.marks.byte c.mark.result c.marks.done c.marks.invariant.small c.mark.ensures.low;
    }
