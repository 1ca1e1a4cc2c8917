-- The clients so far are told, and their reads that waited are answered.
use Rattle.std.proofs.Common.{◌≡◌, map, take, drop, ◌++◌}
use Rattle.tk_serve.specs.Desks.{desk_answered}
use Rattle.tk_serve.specs.Answering.{news_for}
use Rattle.tk_serve.proofs.tell.tell_desks.Given as goal

abbrev pub invariant-clients : goal.invariant-clients
invariant-clients l = record {
  answered : l.desks ≡ map (desk_answered l.shape.ticks)
      (take l.client l.initial.desks) ++ drop l.client l.initial.desks;
  told : l.out.items ++ news_for l.shape l.epoch l.client (drop l.client l.initial.desks)
      ≡ l.initial.out.items ++ news_for l.shape l.epoch 0 l.initial.desks;
}
