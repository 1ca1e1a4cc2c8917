-- One more line stands after the others.
use Rattle.std.proofs.Common.{◌<◌, length, arith}
use Rattle.std.proofs.lemmas.List.{get_or_default}
use Rattle.tk_script.specs.Printing.{handle_line, HasHandle}
use Rattle.tk_script.proofs.TextOfLaws.{text_of-next, all_next}
use Rattle.tk_script.proofs.key_text.push_handles.Goals as goal

pub loop-handle-preserved : goal.loop-handle-preserved
loop-handle-preserved c =
    let handles = c.args.handles.now in
    let i = c.loop-handle.handle-index in
    let within : i < length handles = omega arith in
    record {
      text =
          text_of-next handle_line handles i _ c.args.out.now.items within
          (get_or_default handles i _ _ within) c.loop-handle.invariant.text
          c.in_ok-push_handle.ensures.ok;
      has =
          all_next HasHandle handles i _ within (get_or_default handles i _ _ within)
          c.loop-handle.invariant.has c.in_ok-push_handle.ensures.has;
    }
