use Rattle.std.proofs.Common.{◌++◌, ap, ap₂, sym, ◌∙◌, length}
use Rattle.std.proofs.lemmas.Result.{err_from_is_err_and}
use Rattle.tk_checkpoint.specs.Reading.{applied_in, last_in, count_in}
use Rattle.tk_checkpoint.specs.Sound.{first_refusal, start_checks, shape_checks, number_checks}
use Rattle.tk_checkpoint.proofs.Checking.{refusal-after, refusal-front}
use Rattle.tk_checkpoint.proofs.head.check_head.Goals as goal

pub returns-in_err-check_start : goal.returns-in_err-check_start
returns-in_err-check_start c =
    let shape = c.args.shape.now in
    let bytes = c.args.bytes.now in
    let start = start_checks shape bytes in
    let numbers = number_checks shape (applied_in bytes) (last_in bytes) (count_in bytes) (length bytes) in
    let p = err_from_is_err_and c.from_residual.result c.from_residual.ensures.1 in
    rw (p.1, p.2)
    (sym (refusal-front (start ++ shape_checks shape bytes) numbers _
    (sym (refusal-front start (shape_checks shape bytes) _ c.in_err-check_start.ensures.refused))))

pub returns-in_err-check_shape : goal.returns-in_err-check_shape
returns-in_err-check_shape c =
    let shape = c.args.shape.now in
    let bytes = c.args.bytes.now in
    let start = start_checks shape bytes in
    let numbers = number_checks shape (applied_in bytes) (last_in bytes) (count_in bytes) (length bytes) in
    let p = err_from_is_err_and c.from_residual-in_err-check_shape.result c.from_residual-in_err-check_shape.ensures.1 in
    rw (p.1, p.2)
    (sym (refusal-front (start ++ shape_checks shape bytes) numbers _
    (c.in_err-check_shape.ensures ∙ sym (refusal-after start (shape_checks shape bytes) c.in_ok-check_start.ensures.refused))))

pub returns : goal.returns
returns c =
    let shape = c.args.shape.now in
    let bytes = c.args.bytes.now in
    let start = start_checks shape bytes in
    let all = c.in_ok-check_shape.ensures ∙ sym (refusal-after start (shape_checks shape bytes) c.in_ok-check_start.ensures.refused) in
    c.check_counts.ensures
    ∙ ap₂ (λ a l. first_refusal (number_checks shape a l c.head_of.result.count (length bytes))) c.head_of.ensures.applied c.head_of.ensures.last
    ∙ ap (λ n. first_refusal (number_checks shape (applied_in bytes) (last_in bytes) n (length bytes))) c.head_of.ensures.count
    ∙ sym (refusal-after (start ++ shape_checks shape bytes)
    (number_checks shape (applied_in bytes) (last_in bytes) (count_in bytes) (length bytes)) all)
