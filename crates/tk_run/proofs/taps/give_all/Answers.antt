-- One more server gave what it saw, or its tap took a front of it.
use Rattle.std.proofs.Common.{◌≡◌, ◌<◌, ◌∙◌, ap, length, length-set, arith}
use Rattle.std.specs.Prelude.{slice_index_or}
use Rattle.tk_run.specs.declared.server.Server.{Server}
use Rattle.tk_io.proofs.Offers.{on_err}
use Rattle.tk_run.proofs.GivingLaws.{gave-more, gave-ready, gave-servers, gave-taps, gave-fronts}
use Rattle.tk_run.proofs.taps.give_all.Goals as goal

pub returns-in_err-give-clause-err : goal.returns-in_err-give-clause-err
returns-in_err-give-clause-err g c shape Es seen are =
    let at = λ (d : Server). slice_index_or c.giving.servers c.giving.i d in
    let server = at c.index-servers-i.result in
    let here : server ≡ at server = ap at c.index-servers-i.is in
    let within : c.giving.i < length c.giving.servers =
    omega (arith, c.giving-test.true, c.giving.invariant.counted)
    in
    on_err _ c.from_residual.result
    (gave-fronts (g.T.Taps.tap c.give.new.taps) c.giving.invariant.gave within here
    c.in_err-give.ensures.err c.give.ensures.others shape Es seen are)

pub giving-preserved : goal.giving-preserved
giving-preserved g c =
    let at = λ (d : Server). slice_index_or c.giving.servers c.giving.i d in
    let server = at c.index-servers-i.result in
    let here : server ≡ at server = ap at c.index-servers-i.is in
    let within : c.giving.i < length c.giving.servers =
    omega (arith, c.giving-test.true, c.giving.invariant.counted)
    in
    record {
      counted =
          length-set c.giving.servers c.giving.i c.give.new.server ∙ c.giving.invariant.counted;
      gave =
          gave-more c.give.new.server c.giving.invariant.gave within here
          (record { ready = c.in_ok-give.ensures.ready; server = c.in_ok-give.ensures.server })
          c.in_ok-give.ensures.ok c.give.ensures.others;
      counts = omega (arith, c.giving.invariant.counts, c.give.ensures.counts);
    }

pub returns-clause-servers : goal.returns-clause-servers
returns-clause-servers g c shape Es seen are =
    gave-servers c.giving.invariant.gave (omega (arith, c.giving-test.false)) shape Es seen are

pub returns-clause-ready : goal.returns-clause-ready
returns-clause-ready g c shape E are =
    gave-ready c.giving.invariant.gave (omega (arith, c.giving-test.false)) shape E are

pub returns-clause-ok : goal.returns-clause-ok
returns-clause-ok g c shape Es seen are =
    gave-taps c.giving.invariant.gave (omega (arith, c.giving-test.false)) shape Es seen are
