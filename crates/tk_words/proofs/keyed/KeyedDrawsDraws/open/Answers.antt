use Rattle.std.proofs.Common.{ap₂, sym, ◌∙◌}
use Rattle.std.proofs.lemmas.Option.{IfSome_then}
use Rattle.tk_seal.specs.Seal.{opened_with, keyed_pad, keyed_tag}
use Rattle.tk_seal.proofs.Offers.{IfNone_then}
use Rattle.tk_words.specs.Words.{pad_of, tag_of, opened}
use Rattle.tk_words.proofs.keyed.KeyedDrawsDraws.open.Goals as goal

pub returns-clause-text : goal.returns-clause-text
unfolding pad_of tag_of opened
returns-clause-text c =
    IfSome_then c.open.result c.open.ensures.text
    (λ n e. ap₂ (λ size h. opened_with (keyed_pad size h c.args.number) (keyed_tag h c.args.number) c.args.block.now) (sym c.requires.whole) (sym c.handle.ensures) ∙ e)

pub returns-clause-none : goal.returns-clause-none
unfolding pad_of tag_of opened
returns-clause-none c =
    IfNone_then c.open.result c.open.ensures.none
    (λ e. ap₂ (λ size h. opened_with (keyed_pad size h c.args.number) (keyed_tag h c.args.number) c.args.block.now) (sym c.requires.whole) (sym c.handle.ensures) ∙ e)
