-- A text that is said waits for its turn.
use Rattle.std.proofs.Common.{sym, subst}
use Rattle.tk_client.specs.Client.{ClientState}
use Rattle.tk_member.specs.Pacing.{IsMember}
use Rattle.tk_member.proofs.PacingLaws.{paced-said}
use Rattle.tk_member.proofs.member.Member.say.Goals as goal
use Rattle.tk_member.proofs.member.Member.say.Goals.{in-Ok, in-Err+in_ok-refused_packet-in-Err+in_ok-push-in-Err}

pub invariant_of-self-2 : goal.invariant_of-self-2
invariant_of-self-2 g c =
    let s = c.self.inside in
    let is = c.self.invariant in
    let of = λ (client : ClientState).
    IsMember client s.is_open s.written s.asked s.ticks s.ahead s.epochs s.replies.items
    in
    elim c.match-say.branch [
      | in-Ok w ↦
          subst of (sym w.in-Ok.ensures.said) (record {
            one_shape = is.one_shape;
            open_is = is.open_is;
            paced = paced-said s.written c.args.log c.args.text.now s.client.writing is.paced;
            written_in = is.written_in;
            asked_in = is.asked_in;
            ticks_in = is.ticks_in;
            ahead_in = is.ahead_in;
            replies_counted = is.replies_counted;
          })
      | in-Err+in_ok-refused_packet-in-Err+in_ok-push-in-Err w ↦
          subst of (sym w.in-Err.ensures.kept) is
    ]
