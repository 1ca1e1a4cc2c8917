use Rattle.std.proofs.Common.{◌≡◌, ◌<◌, length, sym, ap, ◌∙◌, subst, IfSome}
use Rattle.tk_place.specs.Views.{Line}
use Rattle.tk_place.proofs.Lines.{length-places}
use Rattle.tk_place.proofs.queue.Queue.add.Goals as goal

pub take_place-self-inside-requires-clause-link : goal.take_place-self-inside-requires-clause-link
take_place-self-inside-requires-clause-link c =
    let long : length c.args.self.now.places ≡ c.self.inside.len =
    sym (ap (λ (v : Line). length v.places) c.self.view_is) ∙ length-places _ _ _ _ c.self.invariant.line in
    subst (λ n. IfSome c.args.link (λ link. link.place < n)) long c.requires.link
