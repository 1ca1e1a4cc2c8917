-- Servers whose sums over ranges are those over all blocks make the run.
use Rattle.std.proofs.Common.{◌≡◌, refl, ◌∙◌, ℕ, ◌<◌, List}
use Rattle.tk_shape.specs.Lengths.{turn_count}
use Rattle.tk_kernel.specs.Chosen.{chosen_sum}
use Rattle.tk_schedule.specs.declared.history.History.{History}
use Rattle.tk_script.specs.declared.script.Script.{Script}
use Rattle.tk_words.specs.Words.{WordBook, words_of}
use Rattle.tk_table.specs.Replies.{reply_to}
use Rattle.tk_report.specs.Report.{read_over}
use Rattle.tk_report.specs.Serving.{honest}
use Rattle.tk_report.specs.Anew.{Alike}
use Rattle.tk_report.proofs.Offers.{alike-runs, honest-exchange, honest-report}
use Rattle.tk_run.specs.Ranged.{Summing, in_ranges, ranged, RangedFromOwn}

pub ranged-alike : (S : Script) (b : WordBook) (H : History) (ranges : List (ℕ × ℕ)) (sum : Summing) →
    ((g c : ℕ) → g < turn_count S.shape → c < S.shape.clients → (v : List ℕ) →
    let set = in_ranges S.shape (read_over S (words_of S.shape b) H g c) ranges in
    sum set v ≡ chosen_sum set.width set.blocks v) →
    Alike S (ranged S (words_of S.shape b) H ranges sum) (honest S (words_of S.shape b) H)
ranged-alike S b H ranges sum right =
    let w = words_of S.shape b in
    record {
      shows = λ g c turn_in client_in. refl;
      reply = λ g c turn_in client_in. λ i k r.
          record (reply_to S.shape (read_over S w H g c) r) {
            first = right g c turn_in client_in r.first i;
            second = right g c turn_in client_in r.second i;
          };
    }

pub ranged-from-own : RangedFromOwn
ranged-from-own S b H j ranges sum serves legal right =
    let w = words_of S.shape b in
    let same = alike-runs S b H (ranged S w H ranges sum) (honest S w H)
    (ranged-alike S b H ranges sum right)
    in (
      same.exchange j ∙ honest-exchange S b H j serves legal,
      same.report ∙ honest-report S b H serves legal,
    )
