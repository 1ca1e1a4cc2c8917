-- Nothing was said or seen before the first turn.
use Rattle.std.proofs.Common.{◌∙◌, refl}
use Rattle.tk_words.specs.Words.{words_of}
use Rattle.tk_report.proofs.Offers.{group-first}
use Rattle.tk_privacy.proofs.EnteringLaws.{entered-first, frames-first}
use Rattle.tk_privacy.proofs.server_view.open_view.Goals as goal

pub returns : goal.returns
returns c b H reads =
    let S = c.args.script.now in
    let words = words_of S.shape b in
    record {
      group = group-first S c.in_ok-open.field-0 c.in_ok-open.ensures.said
          c.in_ok-open.ensures.clients;
      entered = entered-first S words H _ refl;
      frames = c.new.ensures.items ∙ frames-first S words H reads;
    }
