-- The one at the place reads, and the others stay as they are.
use Rattle.std.proofs.Common.{◌<◌, ◌∙◌, arith, length, length-set}
use Rattle.tk_report.proofs.Splits.{split-none, split-next, split-all}
use Rattle.tk_report.proofs.turn_reads.read_turn.Goals as goal

pub loop-number-init : goal.loop-number-init
loop-number-init g c =
    record {
      counted = c.requires.followers.counted;
      followers = split-none c.requires.followers.each;
    }

pub read_one-requires-clause-follower : goal.read_one-requires-clause-follower
read_one-requires-clause-follower g c κs met =
    let number = c.loop-number.number in
    let followers = c.loop-number.followers in
    let within : number < length followers =
    omega (arith, c.loop-number-test.true, c.loop-number.auto.followers)
    in
    c.loop-number.invariant.followers.due_are number c.index-followers-number.result (omega arith) within

pub loop-number-preserved : goal.loop-number-preserved
loop-number-preserved g c =
    let number = c.loop-number.number in
    let followers = c.loop-number.followers in
    let new = c.read_one.new.follower in
    let so_far = c.loop-number.invariant in
    let within : number < length followers =
    omega (arith, c.loop-number-test.true, c.loop-number.auto.followers)
    in
    record {
      counted = length-set followers number new ∙ so_far.counted;
      followers =
          split-next new so_far.followers within c.in_ok-read_one.ensures.follower;
    }

pub returns : goal.returns
returns g c =
    let so_far = c.loop-number.invariant in
    record {
      followers = record {
        counted = so_far.counted;
        each =
            split-all so_far.followers
            (omega (arith, c.loop-number-test.false, c.loop-number.auto.followers));
      };
    }
