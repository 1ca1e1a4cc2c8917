-- One more is open, and at the end all are.
use Rattle.std.proofs.Common.{◌≡◌, ◌∙◌, ℕ, ap, sym, subst, length, arith}
use Rattle.tk_client.specs.Looking.{new_follower}
use Rattle.tk_report.specs.Report.{follows_of}
use Rattle.tk_lists.proofs.Offers.{length-next}
use Rattle.tk_report.proofs.ClientsLaws.{AreSoFar, none-yet, one-next}
use Rattle.tk_report.proofs.opened.open_followers.Goals as goal

pub loop-number-init : goal.loop-number-init
loop-number-init c =
    let S = c.args.script.now in
    let state = λ (k : ℕ). new_follower S.shape (follows_of S k) in
    let none = c.new-followers.ensures.items in
    record {
      counted = ap length none;
      each = subst (AreSoFar state) (sym none) (none-yet state);
    }

pub loop-number-preserved : goal.loop-number-preserved
loop-number-preserved c =
    let S = c.args.script.now in
    let state = λ (k : ℕ). new_follower S.shape (follows_of S k) in
    let so_far = c.loop-number.invariant in
    let followers = c.loop-number.followers.items in
    let more = c.push.new.self.items in
    let pushed = c.in_ok-push.ensures.items in
    record {
      counted =
          length-next followers more c.in_ok-open_follower.field-0 c.loop-number.number pushed
          so_far.counted;
      each =
          one-next state followers more c.in_ok-open_follower.field-0 c.loop-number.number pushed
          so_far.counted c.in_ok-open_follower.ensures so_far.each;
    }

pub returns : goal.returns
returns c =
    let so_far = c.loop-number.invariant in
    let all : c.loop-number.number ≡ c.args.script.now.shape.clients = omega arith in
    record { counted = so_far.counted ∙ all; each = so_far.each }
