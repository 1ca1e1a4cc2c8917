use Rattle.tk_words.specs.OpeningLaws.{one_text_seals}
use Rattle.tk_words.proofs.laws.one_text_seals.Goals as goal

pub returns : goal.returns
returns c = one_text_seals
