-- An epoch before which no client reads is no later than the least of what they read next.
use Rattle.std.proofs.Common.{◌≡◌, ◌≤◌, ◌<◌, ◌/◌, ◌∙◌, ap, sym, subst, arith, ℕ, List, length, inl, inr}
use Rattle.std.specs.Prelude.{slice_index_or}
use Rattle.std.proofs.lemmas.Bool.{cases_lt}
use Rattle.std.proofs.lemmas.List.{get_or_default}
use Rattle.tk_replica.specs.Replica.{ReplicaView}
use Rattle.tk_serve.specs.Desks.{DeskView, empty_desk}
use Rattle.tk_serve.proofs.server.Server.release.Goals as goal

pub clients-preserved : goal.clients-preserved
clients-preserved c =
    let desks = c.as_slice-desk-items.result.now in
    let index = c.clients.desk-index in
    let ticks = c.args.self.now.shape.ticks in
    let is : c.desk-item.result ≡ slice_index_or desks index empty_desk =
    c.desk-item.is ∙ get_or_default desks index c.desk-item.result empty_desk c.clients-test.true
    in
    let read_next : c.asked.result ≡ (slice_index_or desks index empty_desk).asked =
    c.asked.ensures ∙ ap (λ (d : DeskView). d.asked) is
    in
    record {
      top = omega (arith, c.clients.invariant.top, c.min-least.ensures);
      below = λ k near. elim (cases_lt k index) [
        | inl before ↦ omega (arith, c.clients.invariant.below k before, c.min-least.ensures)
        | inr after ↦
            let here : index ≡ k = omega (arith, near, after) in
            subst (λ i. c.min-least.result ≤ (slice_index_or desks i empty_desk).asked / ticks) here
            (subst (λ n. c.min-least.result ≤ n / ticks) read_next (omega (arith, c.min-least.ensures)))
      ];
      above = λ e read.
          let same : desks ≡ c.args.self.now.desks.items = c.as_slice-desk-items.ensures.value in
          let low : index < length c.args.self.now.desks.items =
          subst (λ (ds : List DeskView). index < length ds) same c.clients-test.true
          in
          let there : e ≤ (slice_index_or desks index empty_desk).asked / ticks =
          subst (λ (ds : List DeskView). e ≤ (slice_index_or ds index empty_desk).asked / ticks) (sym same)
          (read.each index low)
          in
          let here : e ≤ c.asked.result / ticks = subst (λ n. e ≤ n / ticks) (sym read_next) there in
          omega (arith, c.clients.invariant.above e read, here, c.min-least.ensures);
    }

pub returns-then-floor-least-clause-goes : goal.returns-then-floor-least-clause-goes
returns-then-floor-least-clause-goes c = λ e read.
    subst (λ (n : ℕ). e ≤ n) (sym (ap (λ (s : ReplicaView). s.floor) c.release.ensures.kept))
    (c.clients.invariant.above e read)

pub returns-else-floor-least-clause-goes : goal.returns-else-floor-least-clause-goes
returns-else-floor-least-clause-goes c = λ e read.
    omega (arith, c.clients.invariant.above e read, c.if-floor-least.false, c.floor.ensures)
