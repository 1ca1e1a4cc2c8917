use Rattle.std.proofs.Common.{◌*◌, ap, ap₂, sym, ◌∙◌, length, subst, arith}
use Rattle.std.proofs.lemmas.Result.{err_from_is_err_and}
use Rattle.tk_table.specs.Restoring.{AreAscending, slots_spelled}
use Rattle.tk_checkpoint.specs.Sound.{first_refusal, slot_checks_of}
use Rattle.tk_checkpoint.proofs.Heads.{stands_head, few}
use Rattle.tk_checkpoint.proofs.Sounds.{whole_table, ascending_in, fails_in_head, fails_in_window}
use Rattle.tk_checkpoint.proofs.Sounds.{left_to_slots, positions_are, checks_are, table_is, window_fits}
use Rattle.tk_checkpoint.proofs.restoring.check.Goals as goal

pub returns-in_err-check_head : goal.returns-in_err-check_head
returns-in_err-check_head c =
    let p = err_from_is_err_and c.from_residual.result c.from_residual.ensures.1 in
    rw (p.1, p.2) (fails_in_head c.args.shape.now c.args.bytes.now _ c.in_err-check_head.ensures)

pub head_of-head-requires : goal.head_of-head-requires
head_of-head-requires c =
    let head = stands_head c.args.shape.now c.args.bytes.now (sym c.in_ok-check_head.ensures) in
    omega (arith, head.long)

pub split_at-requires : goal.split_at-requires
split_at-requires c =
    let head = stands_head c.args.shape.now c.args.bytes.now (sym c.in_ok-check_head.ensures) in
    omega (arith, head.long)

pub check_window-requires : goal.check_window-requires
check_window-requires c =
    window_fits c.args.shape.now c.args.bytes.now c.split_at.result.1.now c.split_at.result.1.now
    c.head_of-head.result.applied c.head_of-head.result.count 0
    c.head_of-head.ensures.applied c.head_of-head.ensures.count c.split_at.ensures.back
    (stands_head c.args.shape.now c.args.bytes.now (sym c.in_ok-check_head.ensures))

pub returns-in_err-check_window : goal.returns-in_err-check_window
returns-in_err-check_window c =
    let p = err_from_is_err_and c.from_residual-in_err-check_window.result c.from_residual-in_err-check_window.ensures.1 in
    let same = checks_are c.args.shape.now c.args.bytes.now c.split_at.result.1.now c.split_at.result.1.now
    c.head_of-head.result.applied c.head_of-head.result.count 0 c.head_of-head.ensures.applied
    c.head_of-head.ensures.count c.split_at.ensures.back in
    rw (p.1, p.2) (fails_in_window c.args.shape.now c.args.bytes.now _ c.in_ok-check_head.ensures
    (c.in_err-check_window.ensures ∙ same))

pub split_at-requires-2 : goal.split_at-requires-2
split_at-requires-2 c =
    let fits = window_fits c.args.shape.now c.args.bytes.now c.split_at.result.1.now c.split_at.result.1.now
    c.head_of-head.result.applied c.head_of-head.result.count 0 c.head_of-head.ensures.applied
    c.head_of-head.ensures.count c.split_at.ensures.back
    (stands_head c.args.shape.now c.args.bytes.now (sym c.in_ok-check_head.ensures)) in
    let len = ap (λ n. c.head_of-head.result.count * n) c.entry_len.ensures in
    omega (arith, fits, len)

pub check_slots-requires-clause-few : goal.check_slots-requires-clause-few
check_slots-requires-clause-few c =
    let most = few c.args.shape.now c.args.bytes.now
    (stands_head c.args.shape.now c.args.bytes.now (sym c.in_ok-check_head.ensures)) in
    omega (arith, most, c.head_of-head.ensures.count)

pub check_slots-requires-clause-ascending : goal.check_slots-requires-clause-ascending
check_slots-requires-clause-ascending c =
    let rest = c.split_at.result.1.now in
    let same = checks_are c.args.shape.now c.args.bytes.now rest rest
    c.head_of-head.result.applied c.head_of-head.result.count 0 c.head_of-head.ensures.applied
    c.head_of-head.ensures.count c.split_at.ensures.back in
    let read = positions_are c.args.shape.now c.args.bytes.now rest rest
    c.head_of-head.result.applied c.head_of-head.result.count 0 c.head_of-head.ensures.applied
    c.head_of-head.ensures.count c.split_at.ensures.back in
    subst (AreAscending 1) (sym read)
    (ascending_in c.args.shape.now c.args.bytes.now (sym (c.in_ok-check_window.ensures ∙ same)))

pub check_slots-requires-clause-whole : goal.check_slots-requires-clause-whole
check_slots-requires-clause-whole c =
    let rest = c.split_at.result.1.now in
    let here = table_is c.args.shape.now c.args.bytes.now rest c.split_at-2.result.1.now
    c.head_of-head.result.applied c.head_of-head.result.count c.entry_len.result c.head_of-head.ensures.applied
    c.head_of-head.ensures.count c.split_at.ensures.back c.entry_len.ensures c.split_at-2.ensures.back in
    ap length here ∙ whole_table c.args.shape.now c.args.bytes.now
    (stands_head c.args.shape.now c.args.bytes.now (sym c.in_ok-check_head.ensures))

pub returns : goal.returns
returns c =
    let shape = c.args.shape.now in
    let bytes = c.args.bytes.now in
    let rest = c.split_at.result.1.now in
    let table = c.split_at-2.result.1.now in
    let same = checks_are shape bytes rest table c.head_of-head.result.applied c.head_of-head.result.count 0
    c.head_of-head.ensures.applied c.head_of-head.ensures.count c.split_at.ensures.back in
    let read = positions_are shape bytes rest table c.head_of-head.result.applied c.head_of-head.result.count 0
    c.head_of-head.ensures.applied c.head_of-head.ensures.count c.split_at.ensures.back in
    let here = table_is shape bytes rest table c.head_of-head.result.applied c.head_of-head.result.count
    c.entry_len.result c.head_of-head.ensures.applied c.head_of-head.ensures.count c.split_at.ensures.back
    c.entry_len.ensures c.split_at-2.ensures.back in
    c.check_slots.ensures
    ∙ ap₂ (λ ps ys. first_refusal (slot_checks_of shape ps (slots_spelled shape ys))) read here
    ∙ left_to_slots shape bytes c.in_ok-check_head.ensures (c.in_ok-check_window.ensures ∙ same)
