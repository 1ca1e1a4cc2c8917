-- One more client stands after the others.
use Rattle.std.proofs.Common.{zero-add}
use Rattle.std.proofs.lemmas.List.FromFn.{map-range_with_len_more}
use Rattle.tk_schedule.specs.declared.item.Item.{Item}
use Rattle.tk_schedule.specs.declared.item.Item.TheVariants.{Client}
use Rattle.tk_schedule.proofs.history.clients_in_order.Goals as goal

pub loop-client-preserved : goal.loop-client-preserved
loop-client-preserved c =
    let more = map-range_with_len_more {X = Item} (λ x. Client x) 0 c.loop-client.client
    c.loop-client.client (zero-add c.loop-client.client)
    in
    cc (c.in_ok-push.ensures.items)
