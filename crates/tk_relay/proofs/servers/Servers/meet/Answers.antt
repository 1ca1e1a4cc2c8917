-- The passes are those of the list.
use Rattle.std.proofs.Common.{◌≡◌, List, arith, length, sym, subst}
use Rattle.std.proofs.lemmas.List.{with_items_is}
use Rattle.tk_cluster.specs.Passes.{Passing}
use Rattle.tk_cluster.specs.Clusters.{HaveMet}
use Rattle.tk_relay.proofs.servers.Servers.meet.Goals as goal

pub returns-clause-met : goal.returns-clause-met
returns-clause-met g c =
    let shape = g.B.Naming.shape in
    let old = c.args.self.now in
    let ys = c.meet.new.passes in
    let q = c.meet.new.publisher in
    let counted : length ys ≡ old.passes.len =
    omega (arith, c.meet.auto.passes, c.as_mut_slice-passes.ensures.len)
    in
    subst (λ (xs : List Passing). HaveMet shape old.passes.items old.publisher xs q)
    (sym (with_items_is old.passes ys counted))
    (subst (λ (xs : List Passing). HaveMet shape xs old.publisher ys q) c.as_mut_slice-passes.ensures.value
    c.meet.ensures)
