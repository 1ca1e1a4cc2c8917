-- After the last turn all were seen.
use Rattle.std.proofs.Common.{◌≡◌, ℕ, subst, arith}
use Rattle.tk_shape.specs.Lengths.{turn_count}
use Rattle.tk_words.specs.Words.{words_of}
use Rattle.tk_report.specs.Entries.{write_at}
use Rattle.tk_report.specs.Exchange.{frames_before}
use Rattle.tk_privacy.specs.Views.{frame_in}
use Rattle.tk_privacy.proofs.server_view.all_frames.Goals as goal

pub turns-init : goal.turns-init
turns-init g c =
    c.in_ok-viewed.ensures (g.D.Draws.book c.args.plan.now.draws.now) c.args.plan.now.history.now
    c.args.reads.now

pub returns : goal.returns
returns g c =
    let S = c.args.plan.now.script.now in
    let words = words_of S.shape (g.D.Draws.book c.args.plan.now.draws.now) in
    let H = c.args.plan.now.history.now in
    let all : c.turns.turn ≡ turn_count S.shape = omega arith in
    subst (λ (n : ℕ). c.turns.viewed.seen.frames.items
    ≡ frames_before S.shape H (write_at S words) (frame_in S.shape c.args.reads.now) n) all
    c.turns.invariant.frames
