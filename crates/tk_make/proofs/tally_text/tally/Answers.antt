-- The lines of the counts stand after what was there.
use Rattle.std.proofs.Common.{◌∙◌, ℕ, List, ◌++◌, ap}
use Rattle.tk_make.specs.Tallies.{lines_of_counts, tally_left}
use Rattle.tk_make.proofs.tally_text.tally.Goals as goal

pub returns-clause-ok : goal.returns-clause-ok
unfolding tally_left
returns-clause-ok c =
    let lines = lines_of_counts c.in_ok-counts.counts in
    c.in_ok-extend_from_slice.ensures.items
    ∙ ap (λ (xs : List ℕ). c.args.out.now.items ++ xs)
    (c.as_slice.ensures.value ∙ c.in_ok-push_counts.ensures
    ∙ ap (λ (xs : List ℕ). xs ++ lines) c.new-text.ensures.items
    ∙ ap lines_of_counts c.in_ok-counts.ensures)
