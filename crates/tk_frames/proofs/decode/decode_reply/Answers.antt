use Rattle.std.proofs.Common.{sym, ap, subst, ◌∙◌, ◌≡◌, arith}
use Rattle.tk_frames.specs.Ranges.{IsReply}
use Rattle.tk_frames.specs.Spelling.{reply_frame}
use Rattle.tk_frames.specs.Fields.{reply_in}
use Rattle.tk_frames.proofs.Frames.{reply_found, reply-again}
use Rattle.tk_frames.proofs.decode.decode_reply.Goals as goal

pub returns-clause-found : goal.returns-clause-found
returns-clause-found c =
    subst (λ r. IsReply c.args.shape.now r × (c.args.bytes.now ≡ reply_frame r)) (sym c.in_ok-reply_of.ensures)
    (reply_found c.args.shape.now c.args.bytes.now (λ i. omega (arith, c.type_inv.bytes i)) (sym c.in_ok-check_reply.ensures))

pub returns-clause-only : goal.returns-clause-only
returns-clause-only c = λ r fits e.
    c.in_ok-reply_of.ensures ∙ ap (reply_in c.args.shape.now) e ∙ reply-again c.args.shape.now r fits
