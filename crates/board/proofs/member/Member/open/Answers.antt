-- A member has said nothing yet.
use Rattle.std.proofs.Common.{◌∙◌, ap, sym}
use Rattle.tk_client.specs.Client.{ClientState}
use Rattle.board.proofs.MemberLaws.{new_member}
use Rattle.board.proofs.member.Member.open.Goals as goal

pub invariant_of-result : goal.invariant_of-result
invariant_of-result c =
    let new = c.in_ok-client.ensures in (
      c.in_ok-keyed_draws.ensures ∙ sym (ap (λ (s : ClientState). s.shape) new),
      new_member c.args.shape.now c.in_ok-client.client c.args.number c.as_slice.result.now new,
    )
