-- The others stay in their order.
use Rattle.std.proofs.Common.{◌∙◌, ◌-◌, ap, sym, List, drop, map}
use Rattle.std.specs.Arc.{arc_value}
use Rattle.std.proofs.lemmas.List.{drop-map}
use Rattle.tk_replica.specs.declared.epoch.Epoch.{Epoch}
use Rattle.tk_replica.specs.Shelf.{Shelved}
use Rattle.tk_replica.proofs.shelf.Shelf.release.Goals as goal

pub returns : goal.returns
returns c =
    let inside = c.self.inside in
    let n = c.args.number in
    let last = inside.last in
    ap (λ (xs : List Epoch). record { floor = n; last = last; epochs = xs })
    (ap (map arc_value) c.drop_front.ensures
    ∙ sym (drop-map arc_value (n - inside.floor) inside.epochs.items))
    ∙ ap (λ (s : Shelved). record s { floor = n; epochs = drop (n - s.floor) s.epochs })
    c.self.view_is
