-- Each part is opened as it is before the first turn.
use Rattle.tk_words.specs.Words.{words_of}
use Rattle.tk_report.proofs.ClientsLaws.{followers-first, group-first}
use Rattle.tk_report.proofs.LedgerLaws.{keeps-first}
use Rattle.tk_report.proofs.fold.open_fold.Goals as goal

pub returns : goal.returns
returns c b H =
    let S = c.args.script.now in
    let words = words_of S.shape b in
    record {
      group = group-first S c.in_ok-open.field-0 c.in_ok-open.ensures.said
          c.in_ok-open.ensures.clients;
      followers = followers-first S words H c.in_ok-open_followers.field-0.items
          c.in_ok-open_followers.ensures;
      ledger = keeps-first S words H c.in_ok-open-2.field-0 c.in_ok-open-2.ensures;
    }
