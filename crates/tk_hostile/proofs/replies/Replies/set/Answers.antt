-- All others are sums of the shape as before, and so are the new ones.
use Rattle.std.proofs.Common.{◌≡◌, ◌∙◌, ◌<◌, ℕ, ap, sym, subst, arith, Option, Some, length, set}
use Rattle.std.specs.Prelude.{IfSome}
use Rattle.std.proofs.lemmas.List.{length-set}
use Rattle.std.proofs.lemmas.List.Elements.{All-set}
use Rattle.tk_hostile.specs.declared.sums.Sums.{Sums}
use Rattle.tk_shape.specs.declared.shape.Shape.{Shape}
use Rattle.tk_shape.specs.Lengths.{turn_count, width}
use Rattle.tk_hostile.specs.Given.{Given, AreSums, listed, with_sums, sums_at}
use Rattle.tk_hostile.proofs.GivenLaws.{IsIn, listed-set}
use Rattle.tk_hostile.proofs.replies.Replies.set.Goals as goal

pub invariant_of-self : goal.invariant_of-self
invariant_of-self c =
    let was = c.self.inside in
    let sums : Sums = record { first = c.in_ok-first.first; second = c.in_ok-second.second } in
    let same = sym (ap (λ (g : Given). width g.shape) c.self.view_is) in
    let sized : AreSums was.shape sums =
    record {
      first = ap length c.in_ok-first.ensures ∙ c.requires.first_len ∙ same;
      second = ap length c.in_ok-second.ensures ∙ c.requires.second_len ∙ same;
    }
    in
    record {
      counted = length-set was.sums.items c.place_of-place.result (Some sums)
          ∙ c.self.invariant.counted;
      sized = All-set (λ (o : Option Sums). IfSome o (AreSums was.shape)) was.sums.items
          c.place_of-place.result (Some sums) sized
          c.self.invariant.sized;
    }

pub returns-clause-ok : goal.returns-clause-ok
returns-clause-ok c =
    let was = c.self.inside in
    let list = was.sums.items in
    let g = c.args.turn in
    let client = c.args.client in
    let j = c.args.server in
    let sums : Sums = record { first = c.in_ok-first.first; second = c.in_ok-second.second } in
    let shape : was.shape ≡ c.args.self.now.shape = ap (λ (x : Given). x.shape) c.self.view_is in
    let clients = ap (λ (x : Shape). x.clients) shape in
    let servers = ap (λ (x : Shape). x.servers) shape in
    let there : IsIn was.shape g client j =
    record {
      turn_in = subst (λ (x : Shape). g < turn_count x) (sym shape) c.requires.turn_in;
      client_in = omega (arith, c.requires.client_in, clients);
      low = c.requires.low;
      high = omega (arith, c.requires.high, servers);
    }
    in
    ap (λ (k : ℕ). listed was.shape (set list k (Some sums))) c.place_of-place.ensures.place
    ∙ listed-set was.shape list g client j sums there c.self.invariant.counted
    ∙ ap (λ (x : Sums). with_sums g client j x (listed was.shape list))
    (λ i. record { first = c.in_ok-first.ensures i; second = c.in_ok-second.ensures i })
    ∙ ap (λ (x : Given). with_sums g client j
    (record { first = c.args.first.now; second = c.args.second.now }) (sums_at x)) c.self.view_is
