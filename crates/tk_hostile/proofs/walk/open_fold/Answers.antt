-- Each part is opened as it is before the first turn.
use Rattle.std.proofs.Common.{◌∙◌}
use Rattle.tk_words.specs.Words.{words_of}
use Rattle.tk_report.proofs.Offers.{group-first, keeps-first}
use Rattle.tk_privacy.proofs.Offers.{reads-none}
use Rattle.tk_hostile.specs.Walks.{pair_in}
use Rattle.tk_hostile.proofs.WalkLaws.{group-known}
use Rattle.tk_hostile.proofs.walk.open_fold.Goals as goal

pub returns : goal.returns
returns c b H sides F =
    let S = c.args.script.now in
    let group = c.in_ok-open.field-0 in
    record {
      group = group-known S b H sides F group
          (group-first S group c.in_ok-open.ensures.said c.in_ok-open.ensures.clients);
      ledger = keeps-first S (words_of S.shape b) H c.in_ok-open-2.field-0 c.in_ok-open-2.ensures;
      reads = c.new.ensures.items ∙ reads-none S.shape b H (pair_in S b H sides F) sides.seen;
    }
