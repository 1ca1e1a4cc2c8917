use Rattle.std.proofs.Common.{◌≡◌, ◌≤◌, replicate}
use Rattle.std.specs.Vec.{vec_capacity}
use Rattle.tk_bucket.specs.declared.held.Held.TheVariants.{Owned}
use Rattle.tk_bucket.proofs.opening.empty_pages.Given as goal

abbrev pub invariant-loop-made : goal.invariant-loop-made
invariant-loop-made l = record {
  pages : l.pages.items ≡ replicate l._made (Owned (replicate l.page_len 0));
  room : l.count ≤ vec_capacity l.pages;
}
