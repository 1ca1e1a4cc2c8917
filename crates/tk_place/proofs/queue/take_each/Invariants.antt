use Rattle.std.proofs.Common.{length, map, take, []}
use Rattle.std.specs.Prelude.{Some}
use Rattle.tk_place.specs.Queue.{IsStamped}
use Rattle.tk_place.specs.Views.{places_from}
use Rattle.tk_place.proofs.Ends.{IsAdding}
use Rattle.tk_place.proofs.queue.take_each.Given as goal

abbrev pub invariant-loop-slot : goal.invariant-loop-slot
invariant-loop-slot l =
    IsStamped l.places l.taken l.stamps l.stamp (length l.initial.stamps)
    × IsAdding (map (λ b. Some b) l.named.others.now) (places_from [] (take l.len l.initial.places)) l.named.place l.slot
    (places_from [] (take l.taken l.places))
