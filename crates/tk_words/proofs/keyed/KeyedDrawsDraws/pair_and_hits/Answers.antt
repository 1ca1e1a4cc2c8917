use Rattle.std.proofs.Common.{ap, ap₂, ◌∙◌}
use Rattle.tk_choice.specs.Choice.{keyed_pair, keyed_hits}
use Rattle.tk_words.specs.Words.{pair_of, hits_of}
use Rattle.tk_words.proofs.keyed.KeyedDrawsDraws.pair_and_hits.Goals as goal

pub returns-clause-pair : goal.returns-clause-pair
unfolding pair_of
returns-clause-pair c =
    c.pair_and_hits.ensures.pair
    ∙ ap (λ h. keyed_pair c.args.self.now.shape.buckets h c.args.number) c.handle.ensures

pub returns-clause-hits : goal.returns-clause-hits
unfolding hits_of
returns-clause-hits c =
    c.pair_and_hits.ensures.hits
    ∙ ap₂ (λ n h. keyed_hits c.args.self.now.shape.filter_bits n h c.args.number)
    c.requires.room c.handle.ensures
