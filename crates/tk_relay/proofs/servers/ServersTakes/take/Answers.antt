-- The entry is ordered next, and its frame is seen.
use Rattle.std.proofs.Common.{◌≡◌, ◌++◌, ◌∷◌, [], List, arith, length, sym, subst}
use Rattle.std.proofs.lemmas.List.{with_items_is}
use Rattle.tk_shape.specs.declared.shape.Shape.{Shape}
use Rattle.tk_frames.specs.InOrder.{IsNext}
use Rattle.tk_cluster.specs.Passes.{Passing}
use Rattle.tk_relay.specs.Ordered.{HaveOrdered}
use Rattle.tk_relay.proofs.TakenLaws.{taken-more}
use Rattle.tk_relay.proofs.servers.ServersTakes.take.Goals as goal

pub order-requires : goal.order-requires
order-requires g c =
    let own = g.B.Naming.shape in
    let may = c.requires in
    let E = may.E ++ may.F in
    let p = c.args.self.now.publisher in
    record {
      E = E;
      have =
          subst (λ (xs : List Passing). HaveOrdered own E xs p) (sym c.as_mut_slice-passes.ensures.value)
          (subst (λ (sh : Shape). HaveOrdered sh E c.args.self.now.passes.items p) may.has.same
          may.has.ordered);
      next = subst (λ (sh : Shape). IsNext sh E c.args.placed.now) may.has.same may.next;
    }

pub returns : goal.returns
returns g c = λ was shape E F have next.
    let own = g.B.Naming.shape in
    let e = c.args.placed.now in
    let old = c.args.self.now in
    let list = old.passes in
    let passes = c.order.new.passes in
    let p = c.order.new.publisher in
    let counted : length passes ≡ list.len =
    omega (arith, c.order.auto.passes, c.as_mut_slice-passes.ensures.len)
    in
    let before : HaveOrdered own (E ++ F) c.as_mut_slice-passes.result.now old.publisher =
    subst (λ (xs : List Passing). HaveOrdered own (E ++ F) xs old.publisher)
    (sym c.as_mut_slice-passes.ensures.value)
    (subst (λ (sh : Shape). HaveOrdered sh (E ++ F) list.items old.publisher) have.same have.ordered)
    in
    let ordered : HaveOrdered own ((E ++ F) ++ e ∷ []) passes p =
    c.in_ok-order.ensures (E ++ F) before
    (subst (λ (sh : Shape). IsNext sh (E ++ F) e) have.same next)
    in
    taken-more own shape E F e list.items _ old.publisher p old.taken old.seen.items _ have next
    (subst (λ (xs : List Passing). HaveOrdered own ((E ++ F) ++ e ∷ []) xs p)
    (sym (with_items_is list passes counted)) ordered)
    c.in_ok-encode_placed.ensures.ok
