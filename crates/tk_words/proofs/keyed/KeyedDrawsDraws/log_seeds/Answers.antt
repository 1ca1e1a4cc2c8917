-- The buckets and the positions come from the handle's two seeds.
use Rattle.std.proofs.Common.{ap, sym}
use Rattle.tk_choice.specs.Choice.{keyed_pair, keyed_hits}
use Rattle.tk_words.specs.Words.{pair_of, hits_of}
use Rattle.tk_words.proofs.keyed.KeyedDrawsDraws.log_seeds.Goals as goal

pub returns-clause-pairs : goal.returns-clause-pairs
unfolding pair_of
returns-clause-pairs c = λ s.
    let shape = c.args.self.now.shape in
    sym (ap (λ h. keyed_pair shape.buckets h s) c.handle-handle.ensures)

pub returns-clause-hits : goal.returns-clause-hits
unfolding hits_of
returns-clause-hits c = λ s.
    let shape = c.args.self.now.shape in
    sym (ap (λ h. keyed_hits shape.filter_bits shape.hits h s) c.handle-handle.ensures)
