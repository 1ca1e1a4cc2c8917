-- The counts of what the run left are those of the run.
use Rattle.std.proofs.Common.{◌∙◌, ◌++◌, ap, ℕ, List}
use Rattle.std.specs.Prelude.{None}
use Rattle.tk_schedule.specs.Schedule.{serial_history}
use Rattle.tk_script.specs.Book.{book_from}
use Rattle.tk_words.specs.Words.{words_of}
use Rattle.tk_make.specs.Tallies.{tally_left}
use Rattle.tk_cli.proofs.tally_word.counts_of.Goals as goal

pub returns : goal.returns
returns c =
    let S = c.in_ok-script.script in
    let o = c.in_ok-outcome.outcome in
    record {
      script = S;
      made = c.in_ok-script.ensures;
      is = c.in_ok-tally.ensures.ok
          ∙ ap (λ (xs : List ℕ). xs ++ tally_left o) c.new-text.ensures.items
          ∙ c.tallies.ensures S (words_of S.shape (book_from S.keys None))
          (serial_history S.shape) o c.in_ok-outcome.ensures;
    }
