-- The last reply that is left is given to the client of its place.
use Rattle.std.proofs.Common.{◌≡◌, length, refl, arith}
use Rattle.tk_run.proofs.BatchLaws.{given-none, given-next, given-all}
use Rattle.tk_run.proofs.answers.give.Goals as goal

pub giving-init : goal.giving-init
giving-init c = given-none c.args.replies.items c.args.readings.now c.requires

pub giving-preserved : goal.giving-preserved
giving-preserved c =
    let left = c.pop.new.self in
    let place : length left.items ≡ c.len.result = omega (arith, c.len.ensures, left.ok.0) in
    given-next c.len.result c.index-readings-len.result _ c.requires c.in-Some.ensures.items place
    (record {
      client = refl;
      turn = refl;
      set = refl;
      asked = refl;
      replies = c.in_ok-push.ensures.items;
    })
    c.giving.invariant

pub returns : goal.returns
returns c =
    let left = c.giving.replies in
    let none : length left.items ≡ 0 = omega (arith, c.in_default.ensures.cases.0, left.ok.0) in
    given-all none c.requires c.giving.invariant
