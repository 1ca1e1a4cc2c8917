-- There is a reply to each read, and both are seen.
use Rattle.std.proofs.Common.{◌∙◌, ◌-◌, ◌≤◌, ap, sym, subst, arith, length}
use Rattle.tk_frames.specs.InOrder.{mark_count}
use Rattle.tk_replica.specs.Replica.{ReplicaView, StandsFor}
use Rattle.tk_run.proofs.ServerLaws.{replies-are, pairs-are}
use Rattle.tk_run.proofs.server.Server.answer.Goals as goal

pub see-requires : goal.see-requires
see-requires c =
    let lent = ap length c.as_slice.ensures.value in
    omega (arith, lent)

pub returns-clause-ready : goal.returns-clause-ready
returns-clause-ready c shape E is =
    let state = c.see.ensures.state in
    let displaced = c.see.ensures.displaced in
    record {
      same = ap (λ (s : ReplicaView). s.shape) state ∙ is.same;
      last = ap (λ (s : ReplicaView). s.last) state ∙ is.last;
      some = subst (λ (s : ReplicaView). s.floor ≤ s.last) (sym state) is.some;
      displaced = omega (arith, displaced, is.displaced);
    }

pub returns-clause-replies : goal.returns-clause-replies
returns-clause-replies c = λ shape E bytes reads is are.
    replies-are shape E reads c.args.frames.now c.in-Ok.replies.items are
    (c.in-Ok.ensures.replies shape E is.state)

pub returns-clause-server : goal.returns-clause-server
returns-clause-server c = λ shape E bytes reads is are.
    let replied =
    replies-are shape E reads c.args.frames.now c.in-Ok.replies.items are
    (c.in-Ok.ensures.replies shape E is.state)
    in
    record {
      state = subst (StandsFor shape E) (sym c.see.ensures.state) is.state;
      floor = subst (λ (s : ReplicaView). mark_count E - 1 ≤ s.floor) (sym c.see.ensures.state) is.floor;
      seen =
          pairs-are shape E reads c.args.frames.now c.as_slice.result.now bytes
          c.args.self.now.seen.items c.see.new.self.seen.items are
          (c.as_slice.ensures.value ∙ replied) is.seen c.in_ok-see.ensures.seen;
      displaced = c.see.ensures.displaced ∙ is.displaced;
    }
