-- The hidden server's are its own, and any other's are the chosen ones.
use Rattle.std.proofs.Common.{◌≡◌, subst}
use Rattle.std.specs.Prelude.{IfOk}
use Rattle.tk_hostile.specs.Given.{sums_at}
use Rattle.tk_hostile.specs.declared.sums.Sums.{Sums}
use Rattle.tk_hostile.proofs.ReplyingLaws.{sums-own, sums-chosen}
use Rattle.tk_hostile.proofs.wrong_servers.Servers.sums.Goals as goal

pub returns-then-server-self-clause-sums : goal.returns-then-server-self-clause-sums
returns-then-server-self-clause-sums c = λ R is.
    let e = c.args.self.now in
    let given = e.replies.now in
    subst (λ (x : Sums). IfOk c.own_sums.result (λ sums. sums ≡ x))
    (sums-own given.shape e.hidden (sums_at given) R c.args.asked.now c.args.server
    c.if-server-self.true)
    (c.own_sums.ensures.sums R is)

pub returns-clause-sums : goal.returns-clause-sums
returns-clause-sums c = λ R is.
    let e = c.args.self.now in
    let given = e.replies.now in
    subst (λ (x : Sums). IfOk c.copied.result (λ sums. sums ≡ x))
    (sums-chosen given.shape e.hidden (sums_at given) R c.args.asked.now c.args.server
    c.if-server-self.false)
    c.copied.ensures.sums
