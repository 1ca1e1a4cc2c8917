-- None are set.
use Rattle.std.proofs.Common.{◌≡◌, ◌∙◌, ◌*◌, Option, None, ap, sym, subst, arith, length}
use Rattle.std.specs.List.{All}
use Rattle.std.specs.Prelude.{IfSome}
use Rattle.std.proofs.lemmas.List.{length-replicate}
use Rattle.std.proofs.lemmas.List.Elements.{All-replicate}
use Rattle.tk_hostile.specs.declared.sums.Sums.{Sums}
use Rattle.tk_hostile.specs.Given.{AreSums, given_count}
use Rattle.tk_hostile.proofs.replies.Replies.new.Goals as goal

pub invariant_of-result : goal.invariant_of-result
invariant_of-result c =
    let shape = c.args.shape.now in
    let count = ap (λ n. n * shape.clients * shape.servers) c.turns.ensures.count in
    let all : c.loop.counter ≡ given_count shape = omega (arith, count) in
    record {
      counted = ap length c.loop.invariant
          ∙ length-replicate c.loop.counter None ∙ all;
      sized =
          subst (All (λ (o : Option Sums). IfSome o (AreSums shape))) (sym c.loop.invariant)
          (All-replicate (λ (o : Option Sums). IfSome o (AreSums shape)) c.loop.counter None tt);
    }
