use Rattle.std.proofs.Common.{ap₂, ◌∙◌}
use Rattle.tk_seal.specs.Seal.{keyed_sealed}
use Rattle.tk_words.specs.Words.{pad_of, tag_of}
use Rattle.tk_words.proofs.keyed.KeyedDrawsDraws.seal.Goals as goal

pub returns : goal.returns
unfolding pad_of tag_of
returns c = c.seal.ensures ∙ ap₂ (λ n h. keyed_sealed n h c.args.number c.args.text.now) c.requires.room c.handle.ensures
