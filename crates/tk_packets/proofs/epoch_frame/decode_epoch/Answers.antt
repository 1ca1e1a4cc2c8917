-- Bytes with this head and length are spelled so.
use Rattle.std.proofs.Common.{◌≡◌, ◌+◌, ◌/◌, length, drop, arith, rules, ap, ◌∙◌}
use Rattle.std.proofs.lemmas.List.{take_rest, length-drop}
use Rattle.tk_packets.proofs.Heads.{epoch-spelled}
use Rattle.tk_packets.proofs.epoch_frame.decode_epoch.Goals as goal

pub returns-clause-found : goal.returns-clause-found
returns-clause-found c =
    let bytes = c.args.bytes.now in
    let marks : c.in_ok-marks.marks ≡ drop 6 bytes = c.in_ok-marks.ensures ∙ take_rest bytes 6 in
    let long : length bytes ≡ 6 + c.args.shape.now.filter_bits / 8 = search rules in (
      record {
        low = search rules;
        high = search rules;
        long = ap length marks ∙ omega (arith, length-drop 6 bytes, long);
      },
      epoch-spelled bytes c.u32_at-epoch.result c.in_ok-marks.marks (λ i. omega (arith, c.type_inv.bytes i))
          (omega (arith, long)) (search rules) (search rules) c.u32_at-epoch.ensures marks,
    )
