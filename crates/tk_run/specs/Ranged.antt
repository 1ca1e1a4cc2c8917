-- A run whose servers make their sums over blocks in ranges. This says what the run is whatever they
-- make.
use Rattle.std.specs.Prelude.{◌≡◌, ℕ, ◌<◌, List, length}
use Rattle.tk_shape.specs.declared.shape.Shape.{Shape}
use Rattle.tk_shape.specs.Lengths.{turn_count, width}
use Rattle.tk_schedule.specs.declared.history.History.{History}
use Rattle.tk_schedule.specs.Schedule.{IsLegal}
use Rattle.tk_script.specs.declared.script.Script.{Script}
use Rattle.tk_words.specs.Words.{WordBook, BookWords, IsBook, words_of}
use Rattle.tk_frames.specs.Order.{Record}
use Rattle.tk_table.specs.Replies.{reply_to}
use Rattle.tk_table.specs.Table.{layout, blocks_of}
use Rattle.tk_kernel.specs.Chosen.{chosen_sum}
use Rattle.tk_kernel.specs.Pieces.{AllSized}
use Rattle.tk_shards.specs.Shards.{Sharded}
use Rattle.tk_report.specs.Exchange.{exchange}
use Rattle.tk_report.specs.Report.{read_over, report}
use Rattle.tk_report.specs.Serving.{Serving, honest, exchange_under, report_under}

-- what makes a sum for a vector over blocks in ranges
abbrev pub Summing : Type 0
Summing = Sharded → List ℕ → List ℕ

-- whatever it makes, it is as long as a block where all blocks are of one length
abbrev pub MakesBlocks : Summing → Type 0
MakesBlocks sum =
    (set : Sharded) (vector : List ℕ) → AllSized set.width set.blocks →
    length (sum set vector) ≡ set.width

abbrev pub in_ranges : Shape → List Record → List (ℕ × ℕ) → Sharded
in_ranges shape R ranges =
    record { width = width shape; blocks = blocks_of (layout shape R); ranges = ranges }

abbrev pub ranged : Script → BookWords → History → List (ℕ × ℕ) → Summing → Serving
ranged S w H ranges sum =
    record (honest S w H) {
      reply = λ g c j r. let set = in_ranges S.shape (read_over S w H g c) ranges in
          record (reply_to S.shape (read_over S w H g c) r) {
            first = sum set r.first;
            second = sum set r.second;
          };
    }

-- sums over ranges that are those over all blocks make the run
abbrev pub RangedFromOwn : Type 0
RangedFromOwn =
    (S : Script) (b : WordBook) (H : History) (j : ℕ) (ranges : List (ℕ × ℕ)) (sum : Summing) →
    IsBook S.shape b → IsLegal S.shape H →
    ((g c : ℕ) → g < turn_count S.shape → c < S.shape.clients → (v : List ℕ) →
    let set = in_ranges S.shape (read_over S (words_of S.shape b) H g c) ranges in
    sum set v ≡ chosen_sum set.width set.blocks v) →
    (exchange_under S b H (ranged S (words_of S.shape b) H ranges sum) j ≡ exchange S b H j)
    × (report_under S b H (ranged S (words_of S.shape b) H ranges sum) ≡ report S b H)
