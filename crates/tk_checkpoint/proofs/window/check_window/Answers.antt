use Rattle.std.proofs.Common.{sym, ap, ◌∙◌, drop}
use Rattle.tk_checkpoint.specs.Saved.{entry_len}
use Rattle.tk_checkpoint.proofs.Windows.{room_for_others, window_on, window_stops, window_done}
use Rattle.tk_checkpoint.proofs.window.check_window.Goals as goal

pub returns-then-not-is_sound_write : goal.returns-then-not-is_sound_write
returns-then-not-is_sound_write c =
    sym (window_stops c.args.shape.now c.args.head.now.applied c.loop-at.before c.args.head.now.count c.loop-at.at
    c.loop-at.rest.now _ c.loop-at-test.true c.loop-at.invariant.left c.if-not-is_sound_write.ensures)

pub loop-at-preserved : goal.loop-at-preserved
loop-at-preserved c =
    let shape = c.args.shape.now in
    let count = c.args.head.now.count in
    let behind = c.split_at.ensures.back ∙ ap (λ n. drop n c.loop-at.rest.now) c.entry_len-len.ensures in
    record {
      long = room_for_others count c.loop-at.at (entry_len shape) c.loop-at.rest.now c.split_at.result.1.now
          c.loop-at-test.true c.loop-at.invariant.long behind;
      left = window_on shape c.args.head.now.applied c.loop-at.before count c.loop-at.at c.loop-at.rest.now _
          c.loop-at-test.true c.loop-at.invariant.left c.u64_at-before.result c.split_at.result.1.now
          c.if-not-is_sound_write.ensures c.u64_at-before.ensures behind;
    }

pub returns : goal.returns
returns c =
    let shape = c.args.shape.now in
    sym (c.loop-at.invariant.left
    ∙ window_done shape c.args.head.now.applied c.loop-at.before c.args.head.now.count c.loop-at.at
    c.loop-at.rest.now c.loop-at-test.false)
