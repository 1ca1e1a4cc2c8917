-- The log at the place is the one that changes.
use Rattle.std.proofs.Common.{◌∙◌, ap, Some}
use Rattle.std.specs.Prelude.{slice_set}
use Rattle.std.proofs.lemmas.List.{get_or_default}
use Rattle.tk_client.specs.Reader.{Follow, new_follow, follow_after}
use Rattle.std.proofs.lemmas.Result.{on_ok_weaker}
use Rattle.tk_client.proofs.record.settle_at.Goals as goal

pub returns-clause-settled : goal.returns-clause-settled
returns-clause-settled c =
    let follows = c.args.follows.now in
    let place = c.args.place in
    let was = c.index-follows-place.result in
    let same = get_or_default follows place was (new_follow 0) c.requires.place_in in
    on_ok_weaker c.settle.result
    (λ settled shape. ap (slice_set follows place)
    (settled shape
    ∙ ap (λ (f : Follow). follow_after shape c.args.ahead (Some c.args.text) f) same))
    c.settle.ensures.settled
