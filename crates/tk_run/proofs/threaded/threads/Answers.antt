-- Its own sums are those over all blocks.
use Rattle.std.proofs.Common.{ℕ, refl, subst}
use Rattle.tk_shape.specs.declared.shape.Shape.{Shape}
use Rattle.tk_io.proofs.Offers.{fronts-of_all}
use Rattle.tk_kernel.specs.Chosen.{chosen_sum}
use Rattle.tk_schedule.specs.declared.history.History.{History}
use Rattle.tk_words.specs.Words.{IsBook, words_of}
use Rattle.tk_report.specs.Exchange.{exchange, bytes_of}
use Rattle.tk_report.specs.Outcomes.{IsLeftBy}
use Rattle.tk_run.specs.Ranged.{Summing}
use Rattle.tk_run.proofs.OwnLaws.{own-gain, own-fronts, own-ended, run_stopped}
use Rattle.tk_run.proofs.threaded.threads.Goals as goal

-- the sums over all blocks
abbrev whole : Summing
whole set v = chosen_sum set.width set.blocks v

pub returns-in_err-closed_run-clause-run : goal.returns-in_err-closed_run-clause-run
returns-in_err-closed_run-clause-run g c =
    let S = c.args.script.now in
    let book = g.D.Draws.book c.args.draws.now in
    let world = g.world in
    let laws = g.met.D.Draws world.𝓛 world.𝓜 world.𝓡 ((λ s x. x), (λ x. x), (λ x. x), λ x. x) in
    let serves =
    subst (λ (shape : Shape). IsBook shape book) c.requires.one_shape (laws.serves c.args.draws.now)
    in
    let old = g.T.Taps.tap c.args.taps.now in
    let new = g.T.Taps.tap c.threads_by.new.taps in
    let came = c.in_err-closed_run.ensures.run in
    run_stopped S book _ c.from_residual.result c.from_residual.ensures.1 old new came.history came.legal
    (own-fronts S book came.history c.args.shards whole (λ set v. refl) old new serves came.legal
    came.taps.err) came.taps.others

pub of-requires : goal.of-requires
of-requires g c =
    let S = c.args.script.now in
    let book = g.D.Draws.book c.args.draws.now in
    let world = g.world in
    let laws = g.met.D.Draws world.𝓛 world.𝓜 world.𝓡 ((λ s x. x), (λ x. x), (λ x. x), λ x. x) in
    let serves =
    subst (λ (shape : Shape). IsBook shape book) c.requires.one_shape (laws.serves c.args.draws.now)
    in
    let came = c.in_ok-closed_run.ensures.run in (
      words_of S.shape book,
      own-ended S book came.history c.args.shards whole (λ set v. refl) c.in_ok-closed_run.closed_run serves came.legal
          came.run,
    )

pub returns-in_err-outcome-clause-run : goal.returns-in_err-outcome-clause-run
returns-in_err-outcome-clause-run g c =
    let S = c.args.script.now in
    let book = g.D.Draws.book c.args.draws.now in
    let world = g.world in
    let laws = g.met.D.Draws world.𝓛 world.𝓜 world.𝓡 ((λ s x. x), (λ x. x), (λ x. x), λ x. x) in
    let serves =
    subst (λ (shape : Shape). IsBook shape book) c.requires.one_shape (laws.serves c.args.draws.now)
    in
    let old = g.T.Taps.tap c.args.taps.now in
    let new = g.T.Taps.tap c.threads_by.new.taps in
    let came = c.in_ok-closed_run.ensures.run in
    run_stopped S book _ c.from_residual-in_err-outcome.result
    c.from_residual-in_err-outcome.ensures.1 old new came.history came.legal
    (fronts-of_all S.shape.servers (λ (j : ℕ). bytes_of (exchange S book came.history j)) old new
    (own-gain S book came.history c.args.shards whole (λ set v. refl) old new serves came.legal
    came.taps.ok)) came.taps.others

pub returns-clause-run : goal.returns-clause-run
returns-clause-run g c =
    let S = c.args.script.now in
    let book = g.D.Draws.book c.args.draws.now in
    let words = words_of S.shape book in
    let world = g.world in
    let laws = g.met.D.Draws world.𝓛 world.𝓜 world.𝓡 ((λ s x. x), (λ x. x), (λ x. x), λ x. x) in
    let serves =
    subst (λ (shape : Shape). IsBook shape book) c.requires.one_shape (laws.serves c.args.draws.now)
    in
    let old = g.T.Taps.tap c.args.taps.now in
    let new = g.T.Taps.tap c.threads_by.new.taps in
    let came = c.in_ok-closed_run.ensures.run in
    let H = came.history in
    record {
      history = H;
      legal = came.legal;
      run = record {
        left =
            subst (λ (K : History). IsLeftBy S words K c.in_ok-outcome.outcome) came.run.history
            (c.in_ok-outcome.ensures words
            (own-ended S book H c.args.shards whole (λ set v. refl) c.in_ok-closed_run.closed_run serves came.legal
            came.run));
        order = came.run.order;
        epochs = came.run.epochs;
      };
      taps = record {
        ok = own-gain S book H c.args.shards whole (λ set v. refl) old new serves came.legal came.taps.ok;
        err = tt;
        others = came.taps.others;
      };
    }
