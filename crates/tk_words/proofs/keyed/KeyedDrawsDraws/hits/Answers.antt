use Rattle.std.proofs.Common.{ap₂, ◌∙◌}
use Rattle.tk_choice.specs.Choice.{keyed_hits}
use Rattle.tk_words.specs.Words.{hits_of}
use Rattle.tk_words.proofs.keyed.KeyedDrawsDraws.hits.Goals as goal

pub returns-clause-hits : goal.returns-clause-hits
unfolding hits_of
returns-clause-hits c =
    c.hits.ensures.hits ∙ ap₂ (λ n h. keyed_hits c.args.self.now.shape.filter_bits n h c.args.number) c.requires.room c.handle.ensures
