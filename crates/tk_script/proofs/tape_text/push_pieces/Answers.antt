-- The line of the first piece stands in front of those of the rest.
use Rattle.std.proofs.Common.{◌≡◌, ◌<◌, ◌∙◌, ap, length, take, drop, min, rules, arith}
use Rattle.std.proofs.lemmas.List.{take_min, drop_min, take_rest}
use Rattle.tk_script.proofs.PiecesLaws.{pieces-next}
use Rattle.tk_script.proofs.tape_text.push_pieces.Goals as goal

pub pieces-preserved : goal.pieces-preserved
pieces-preserved c =
    let rest = c.pieces.rest.now in
    let long : 0 < length rest = search rules in
    let size : c.min-size.result ≡ min 32 (length rest) = omega (arith, c.min-size.ensures) in
    pieces-next rest _ _ c.pieces.out.items long
    (ap (λ n. take n rest) size ∙ take_min 32 rest)
    (take_rest rest c.min-size.result ∙ ap (λ n. drop n rest) size ∙ drop_min 32 rest)
    c.pieces.invariant c.in_ok-push_bytes_line.ensures.ok
