-- Each part is opened as it is before the first turn.
use Rattle.std.proofs.Common.{◌∙◌}
use Rattle.tk_words.specs.Words.{words_of}
use Rattle.tk_report.proofs.Offers.{followers-first, group-first, keeps-first}
use Rattle.tk_privacy.specs.Privacy.{pairs_read}
use Rattle.tk_privacy.proofs.ReadsLaws.{reads-none}
use Rattle.tk_privacy.proofs.reads.open_fold.Goals as goal

pub returns : goal.returns
returns c b H j =
    let S = c.args.script.now in
    let words = words_of S.shape b in
    record {
      group = group-first S c.in_ok-open.field-0 c.in_ok-open.ensures.said
          c.in_ok-open.ensures.clients;
      followers = followers-first S words H c.in_ok-open_followers.field-0.items
          c.in_ok-open_followers.ensures;
      ledger = keeps-first S words H c.in_ok-open-2.field-0 c.in_ok-open-2.ensures;
      reads = c.new.ensures.items ∙ reads-none S.shape b H (pairs_read S b H) j;
    }
