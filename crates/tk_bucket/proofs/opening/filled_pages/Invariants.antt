-- The pages so far, and after them those that the rest of the bytes fills, are all pages.
use Rattle.std.proofs.Common.{◌≡◌, ◌+◌, ◌≤◌}
use Rattle.std.specs.Vec.{vec_capacity}
use Rattle.tk_bucket.proofs.Filled.{IsFilling}
use Rattle.tk_bucket.proofs.opening.filled_pages.Given as goal

abbrev pub invariant-loop-made : goal.invariant-loop-made
invariant-loop-made l = record {
  pages : IsFilling l.page_len l.count l.fn.bytes l._made l.pages.items l.rest;
  room : l.count ≤ vec_capacity l.pages;
  len : l.pool.page_len ≡ l.page_len;
  spare : l.pool.spare + l._made ≡ l.initial.pool.spare;
}
