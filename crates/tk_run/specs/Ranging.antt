-- Sums over the ranges of a server's blocks.
use Rattle.std.specs.Prelude.{◌≡◌, ℕ, ◌-◌, ◌*◌, ◌/◌, ◌<◌, nat_le, cond, List, length, map, slice_index_or}
use Rattle.std.specs.List.{range_with_len}
use Rattle.tk_shape.specs.declared.shape.Shape.{Shape}
use Rattle.tk_schedule.specs.declared.history.History.{History}
use Rattle.tk_script.specs.declared.script.Script.{Script}
use Rattle.tk_words.specs.Words.{WordBook, words_of}
use Rattle.tk_kernel.specs.Chosen.{chosen_sum}
use Rattle.tk_frames.specs.declared.entry.Placed.{Placed}
use Rattle.tk_frames.specs.declared.read_frame.ReadFrame.{ReadFrame}
use Rattle.tk_frames.specs.declared.reply_frame.ReplyFrame.{ReplyFrame}
use Rattle.tk_frames.specs.Fields.{read_in}
use Rattle.tk_frames.specs.Order.{Record, before}
use Rattle.tk_frames.specs.Spelling.{reply_frame}
use Rattle.tk_table.specs.Replies.{reply_to}
use Rattle.tk_report.specs.Serving.{Serving}
use Rattle.tk_shards.specs.Division.{ranges_of}
use Rattle.tk_shards.specs.Shards.{Sharded}
use Rattle.tk_run.specs.Ranged.{Summing, in_ranges, ranged}

-- where each of so many ranges begins and ends that divide the buckets evenly
abbrev pub even_ranges : ℕ → ℕ → List (ℕ × ℕ)
even_ranges buckets shards =
    ranges_of (record {
      buckets = buckets;
      cuts = map (λ s. s * buckets / shards) (range_with_len 1 (shards - 1));
    })

-- blocks in so many even ranges
abbrev pub in_even_ranges : ℕ → List (List ℕ) → ℕ → Sharded
in_even_ranges width blocks shards =
    record { width = width; blocks = blocks; ranges = even_ranges (length blocks) shards }

-- the numbers from 0 to before this one
pub record AreNumbers (count : ℕ) (numbers : List ℕ) : Type 0 where
  pub counted : length numbers ≡ count
  pub each : (k d : ℕ) → k < length numbers → slice_index_or numbers k d ≡ k

-- what is summed over so many ranges; where the blocks aren't divided no ranges are asked for sums
abbrev pub sum_for : ℕ → Summing → Summing
sum_for shards sum set vector =
    cond (nat_le shards 1) (chosen_sum set.width set.blocks vector) (sum set vector)

-- the servers whose blocks are in so many even ranges, by the history that comes about
abbrev pub over_ranges : Script → WordBook → ℕ → Summing → History → Serving
over_ranges S b shards sum H =
    ranged S (words_of S.shape b) H (even_ranges S.shape.buckets shards) (sum_for shards sum)

-- ---- what is replied with such sums, whatever they are

-- the reply to a read over these writes, with the sums over so many even ranges
abbrev pub reply_by : Summing → ℕ → Shape → List Record → ReadFrame → ReplyFrame
reply_by sum shards shape R r =
    let set = in_ranges shape R (even_ranges shape.buckets shards) in
    record (reply_to shape R r) { first = sum set r.first; second = sum set r.second }

-- the reply to the read that these bytes spell, over the writes before the mark of its epoch
unfoldable pub made_due : Summing → ℕ → Shape → List Placed → List ℕ → List ℕ
made_due sum shards shape E bytes =
    let r = read_in shape bytes in
    reply_frame (reply_by sum shards shape (before E r.epoch) r)

abbrev pub bytes_made : Summing → ℕ → Shape → List Placed → List ℕ → List ℕ
bytes_made sum shards shape E bytes = made_due (sum_for shards sum) shards shape E bytes
