-- As many replies are taken as there are servers.
use Rattle.std.proofs.Common.{◌≡◌, ◌∙◌, ap, sym, subst, List, ℕ, length, Vec, Global, Some}
use Rattle.std.specs.Prelude.{Option, IfSome, option_map}
use Rattle.tk_member.specs.Members.{MemberState}
use Rattle.tk_member.specs.Steps.{all_of}
use Rattle.tk_member.proofs.Sequences.{all-sized}
use Rattle.tk_member.proofs.member.Member.settle_if_all.Goals as goal

pub settle-requires-clause-counted : goal.settle-requires-clause-counted
settle-requires-clause-counted g c κs within =
    let kept = c.self.inside.replies.items in
    let there : all_of kept ≡ Some c.in-Some.replies.items =
    ap all_of (sym c.as_slice.ensures.value)
    ∙ sym c.in_ok-replies.ensures
    ∙ ap (λ (o : Option (Vec (List ℕ) Global)). option_map (λ v. v.items) o) c.in-Some.is
    in
    let sized : length c.in-Some.replies.items ≡ length kept =
    subst (λ (o : Option (List (List ℕ))). IfSome o (λ ys. length ys ≡ length kept)) there (all-sized kept)
    in
    ap (λ (rs : List (List ℕ)). length rs) c.as_slice-2.ensures.value
    ∙ sized
    ∙ c.self.invariant.replies_counted
    ∙ ap (λ (m : MemberState). m.client.shape.servers) c.self.view_is
