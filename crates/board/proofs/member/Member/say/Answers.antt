-- One text more is said.
use Rattle.std.proofs.Common.{◌<◌, ap, sym, ◌∙◌, arith}
use Rattle.tk_shape.specs.Lengths.{turn_count}
use Rattle.tk_client.specs.Client.{ClientState}
use Rattle.board.proofs.member.Member.say.Goals as goal
use Rattle.board.proofs.MemberLaws.{said_member}

pub invariant_of-self-2 : goal.invariant_of-self-2
invariant_of-self-2 c =
    let old = c.self.inside in
    let said = c.in_ok-say.ensures.said in
    let low : old.said < turn_count old.client.shape =
    omega (
      arith,
      c.if-self-turns.false,
      c.turns.ensures.count,
      ap turn_count c.shape.ensures,
      c.self.invariant.1.said_in,
    )
    in (
      c.self.invariant.0 ∙ sym (ap (λ (s : ClientState). s.shape) said),
      said_member old.client c.say.new.self old.written old.said c.number-log.result old.is_open
          c.args.text.now said low c.self.invariant.1,
    )
