-- The next vector comes behind its seed, after those before it.
use Rattle.std.proofs.Common.{◌≡◌, ◌+◌, ◌-◌, ◌++◌, ◌∙◌, List, ℕ, length, ap, sym, subst, append_assoc, flat_map}
use Rattle.std.specs.Prelude.{replicate}
use Rattle.tk_kernel.specs.Pieces.{pieces}
use Rattle.tk_words.specs.Lifting.{with_zero_seed}
use Rattle.tk_words.proofs.Written.{part_appended, pieces_left, one_left, all_appended}
use Rattle.tk_words.proofs.lifting.push_with_seeds.Goals as goal

pub split_at-requires : goal.split_at-requires
split_at-requires c =
    one_left c.args.size c.vectors.counter c.args.count (length c.vectors.rest.now) c.vectors-test.true
    c.vectors.invariant.0

pub vectors-preserved : goal.vectors-preserved
vectors-preserved c =
    let size = c.args.size in
    let i = c.vectors.counter in
    let count = c.args.count in
    let rest = c.vectors.rest.now in
    let new = c.extend_from_slice-in-vectors.new.self.items in
    let all = c.args.out.now.items ++ flat_map with_zero_seed (pieces size count c.args.vectors.now) in
    let written : new ≡ c.vectors.out.items ++ with_zero_seed c.split_at.result.0.now =
    c.in_ok-extend_from_slice-2.ensures.items
    ∙ ap (λ (xs : List ℕ). xs ++ c.split_at.result.0.now) c.in_ok-extend_from_slice.ensures.items
    ∙ append_assoc c.vectors.out.items (replicate 32 0) c.split_at.result.0.now
    in (
      pieces_left size i count (length rest) (length c.split_at.result.1.now) c.vectors-test.true
          c.vectors.invariant.0 c.split_at.ensures.back_len,
      subst (λ xs. new ++ flat_map with_zero_seed (pieces size (count - (i + 1)) xs) ≡ all)
          (sym c.split_at.ensures.back)
          (part_appended with_zero_seed size i count c.vectors.out.items new
          (with_zero_seed c.split_at.result.0.now) rest all c.vectors-test.true written
          (ap with_zero_seed c.split_at.ensures.front) c.vectors.invariant.1),
    )

pub returns : goal.returns
returns c =
    all_appended with_zero_seed c.args.size c.vectors.counter c.args.count c.vectors.out.items
    c.vectors.rest.now _ c.vectors-test.false c.vectors.invariant.1
