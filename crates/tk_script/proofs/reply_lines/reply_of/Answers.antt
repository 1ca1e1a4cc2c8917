-- The line is that of one reply, and it may come here or not.
use Rattle.std.proofs.Common.{◌≡◌, ◌∙◌, ◌++◌, ◌*◌, ◌≢◌, List, ℕ, Option, Some, None, Ok, codes, ap, sym, subst, length}
use Rattle.std.specs.Prelude.{IfSome}
use Rattle.hex.specs.Hex.{decode_of}
use Rattle.tk_shape.specs.declared.shape.Shape.{Shape}
use Rattle.tk_shape.specs.Lengths.{width}
use Rattle.tk_script.specs.declared.cause.Cause.{Cause}
use Rattle.tk_script.specs.declared.reply.RawReply.{RawReply}
use Rattle.tk_script.specs.Reading.{named, unless, whose_out, why_unanswered, read_reply}
use Rattle.tk_script.specs.SoundReplies.{may_follow}
use Rattle.tk_script.proofs.OptionLaws.{none-then, some-then}
use Rattle.tk_script.proofs.ReplyLaws.{reply_form, sums_form, reply_said}
use Rattle.tk_script.proofs.ThreeLaws.{IsThree}
use Rattle.tk_script.proofs.reply_lines.reply_of.Goals as goal

pub returns-in_default : goal.returns-in_default
returns-in_default c =
    sym (reply_form c.args.shape.now c.args.before.now c.args.line.now
    (λ a b d text sa sb sd e. c.in_default.ensures.only a b d text sa sb sd e))

pub returns-in_default-2 : goal.returns-in_default-2
returns-in_default-2 c =
    let line = c.in-Some.ensures in
    sym (sums_form c.args.shape.now c.args.before.now c.args.line.now
    (c.in-Some.turn, c.in-Some.client, c.in-Some.server, c.in-Some.digits.now)
    (record {
      whole = line.found;
      first = line.first;
      second = line.second;
      third = line.third;
    })
    (λ bytes decoded. subst (λ (n : ℕ). length bytes ≢ 2 * n) c.width.ensures
    (none-then c.in_ok-first.field-0
    ((bs : List ℕ) → decode_of c.in-Some.digits.now ≡ Ok bs → length bs ≢ 2 * c.width.result)
    c.in_default-2.is c.in_ok-first.ensures.none bytes decoded)))

-- the sums that were read
abbrev Sums : Type 0
Sums = List ℕ × List ℕ

abbrev reply_by : ℕ → ℕ → ℕ → Sums → RawReply
reply_by turn client server sums =
    record { turn = turn; client = client; server = server; first = sums.0; second = sums.1 }

said : (shape : Shape) (before : List RawReply) (line digits : List ℕ) (turn client server : ℕ)
    (o : Option Sums) (sums : Sums) (size : ℕ) (why : Option Cause) →
    IsThree (codes "reply") line (turn, client, server, digits) → o ≡ Some sums →
    IfSome o (λ x. decode_of digits ≡ Ok (x.0 ++ x.1)) → IfSome o (λ x. length x.0 ≡ size) →
    IfSome o (λ x. length x.1 ≡ size) → size ≡ width shape →
    why ≡ why_unanswered (may_follow before (reply_by turn client server sums))
    (whose_out (named shape) (turn, client, server)) →
    unless why (reply_by turn client server sums) ≡ read_reply (named shape) before line
said shape before line digits turn client server o sums size why three is found first second wide
    same =
    ap (λ w. unless w (reply_by turn client server sums)) same
    ∙ sym (reply_said shape before line digits (reply_by turn client server sums) three
    (some-then o sums (λ (x : Sums). decode_of digits ≡ Ok (x.0 ++ x.1)) is found)
    (some-then o sums (λ (x : Sums). length x.0 ≡ size) is first ∙ wide)
    (some-then o sums (λ (x : Sums). length x.1 ≡ size) is second ∙ wide))

pub returns-in-Some-why_not : goal.returns-in-Some-why_not
returns-in-Some-why_not c =
    let line = c.in-Some.ensures in
    let told = c.in_ok-first.ensures in
    said c.args.shape.now c.args.before.now c.args.line.now c.in-Some.digits.now c.in-Some.turn
    c.in-Some.client c.in-Some.server c.in_ok-first.field-0
    (c.in-Some-2.first, c.in-Some-2.second) c.width.result (Some c.in-Some-why_not.cause)
    (record {
      whole = line.found;
      first = line.first;
      second = line.second;
      third = line.third;
    }) c.in-Some-2.is told.found told.first told.second c.width.ensures c.in-Some-why_not.ensures

pub returns-in-None : goal.returns-in-None
returns-in-None c =
    let line = c.in-Some.ensures in
    let told = c.in_ok-first.ensures in
    said c.args.shape.now c.args.before.now c.args.line.now c.in-Some.digits.now c.in-Some.turn
    c.in-Some.client c.in-Some.server c.in_ok-first.field-0
    (c.in-Some-2.first, c.in-Some-2.second) c.width.result None
    (record {
      whole = line.found;
      first = line.first;
      second = line.second;
      third = line.third;
    }) c.in-Some-2.is told.found told.first told.second c.width.ensures c.in-None.ensures
