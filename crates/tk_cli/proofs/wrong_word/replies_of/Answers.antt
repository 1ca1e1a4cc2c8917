-- Each line is set in front of those behind it.
use Rattle.std.proofs.Common.{◌≡◌, ◌∙◌, ◌<◌, ◌+◌, ◌-◌, ap, length, take, arith, rules}
use Rattle.std.proofs.lemmas.Grind.{common_steps}
use Rattle.tk_hostile.specs.Given.{with_sums, sums_at}
use Rattle.tk_cli.proofs.ChosenLaws.{none-set, more-set, all-set, line-is, last-line}
use Rattle.tk_cli.proofs.wrong_word.replies_of.Goals as goal

pub lines-init : goal.lines-init
lines-init c = record {
  set = none-set c.args.shape.now c.args.lines.now c.in_ok-replies.replies
      c.in_ok-replies.ensures.shape c.in_ok-replies.ensures.sums;
}

pub set-requires : goal.set-requires
set-requires c =
    let rest = c.lines.rest.now in
    let some : 0 < length rest = search rules in
    let is = line-is c.args.shape.now c.args.lines.now rest c.lines.replies c.lines.invariant.set
    c.requires (length rest - 1) c.index-rest-last.result (omega (arith, some)) c.index-rest-last.is
    in
    record {
      turn_in = is.turn;
      client_in = is.client;
      low = is.server_low;
      high = is.server_high;
      first_len = ap length c.as_slice-first.ensures ∙ is.first;
      second_len = ap length c.as_slice-second.ensures ∙ is.second;
    }

pub lines-preserved : goal.lines-preserved
lines-preserved c =
    let rest = c.lines.rest.now in
    let line = c.index-rest-last.result in
    let n = length rest - 1 in
    let some : 0 < length rest = grind (arith, common_steps, c.is_empty.ensures, c.lines-test.true) in
    let long : length rest ≡ n + 1 = omega (arith, some) in
    record {
      set = more-set c.args.shape.now c.args.lines.now (take n rest) rest line c.lines.replies
          c.set.new.self c.lines.invariant.set (last-line rest n line long c.index-rest-last.is)
          c.in_ok-set.ensures.shape
          (c.in_ok-set.ensures.ok
          ∙ (λ i. with_sums line.turn line.client line.server (record {
            first = c.as_slice-first.ensures i;
            second = c.as_slice-second.ensures i;
          }) (sums_at c.lines.replies)));
    }

pub returns-clause-sums : goal.returns-clause-sums
returns-clause-sums c =
    let none : length c.lines.rest.now ≡ 0 = search rules in
    all-set c.args.shape.now c.args.lines.now c.lines.rest.now c.lines.replies
    c.lines.invariant.set none
