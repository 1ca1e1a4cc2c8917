use Rattle.std.proofs.Common.{◌≡◌, length}
use Rattle.std.specs.Vec.{vec_capacity}
use Rattle.tk_pool.specs.Pool.{AreSpare}
use Rattle.tk_pool.proofs.pool.blank_pages.Given as goal

abbrev pub invariant-loop-made : goal.invariant-loop-made
invariant-loop-made l = record {
  each : AreSpare l.page_len l.pages.items;
  counted : length l.pages.items ≡ l._made;
  room : vec_capacity l.pages ≡ vec_capacity l.initial.pages;
}
