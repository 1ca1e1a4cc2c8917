-- The reads so far are answered, and no longer wait.
use Rattle.std.proofs.Common.{◌≡◌, map, take, ◌++◌}
use Rattle.tk_serve.specs.Desks.{desk_answered}
use Rattle.tk_serve.specs.Answering.{packet_over}
use Rattle.tk_serve.proofs.tell.answer_waiting.Given as goal

abbrev pub invariant-reads : goal.invariant-reads
invariant-reads l = record {
  answered : l.desk ≡ desk_answered l.counter l.initial.desk;
  told : l.out.items ≡ l.initial.out.items ++ map (packet_over l.epoch) (take l.counter l.initial.desk.asking);
}
