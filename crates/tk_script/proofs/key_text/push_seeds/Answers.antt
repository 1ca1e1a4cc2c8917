-- One more line stands after the others.
use Rattle.std.proofs.Common.{◌<◌, length, arith}
use Rattle.std.proofs.lemmas.List.{get_or_default}
use Rattle.tk_script.specs.Printing.{seed_line, HasSeed}
use Rattle.tk_script.proofs.TextOfLaws.{text_of-next, all_next}
use Rattle.tk_script.proofs.key_text.push_seeds.Goals as goal

pub loop-seed-preserved : goal.loop-seed-preserved
loop-seed-preserved c =
    let seeds = c.args.seeds.now in
    let i = c.loop-seed.seed-index in
    let within : i < length seeds = omega arith in
    record {
      text =
          text_of-next seed_line seeds i _ c.args.out.now.items within
          (get_or_default seeds i _ _ within) c.loop-seed.invariant.text
          c.in_ok-push_seed.ensures.ok;
      has =
          all_next HasSeed seeds i _ within (get_or_default seeds i _ _ within)
          c.loop-seed.invariant.has c.in_ok-push_seed.ensures.has;
    }
