-- After the last turn the reads are those of the whole run.
use Rattle.std.proofs.Common.{◌≡◌, ℕ, subst, arith}
use Rattle.tk_shape.specs.Lengths.{turn_count}
use Rattle.tk_privacy.specs.Privacy.{pairs_read}
use Rattle.tk_privacy.specs.Reads.{reads_before}
use Rattle.tk_privacy.proofs.reads.all_reads.Goals as goal

pub turns-init : goal.turns-init
turns-init g c =
    c.in_ok-fold.ensures (g.D.Draws.book c.args.plan.now.draws.now) c.args.plan.now.history.now
    c.args.server

pub returns : goal.returns
returns g c =
    let S = c.args.plan.now.script.now in
    let book = g.D.Draws.book c.args.plan.now.draws.now in
    let H = c.args.plan.now.history.now in
    let all : c.turns.turn ≡ turn_count S.shape = omega arith in
    subst (λ (n : ℕ). c.turns.fold.reads.items
    ≡ reads_before S.shape book H (pairs_read S book H) c.args.server n) all
    c.turns.invariant.reads
