use Rattle.std.proofs.Common.{ap, ◌∙◌}
use Rattle.tk_choice.specs.Choice.{keyed_pair}
use Rattle.tk_words.specs.Words.{pair_of}
use Rattle.tk_words.proofs.keyed.KeyedDrawsDraws.pair.Goals as goal

pub returns-clause-pair : goal.returns-clause-pair
unfolding pair_of
returns-clause-pair c = c.pair.ensures.pair ∙ ap (λ h. keyed_pair c.args.self.now.shape.buckets h c.args.number) c.handle.ensures
