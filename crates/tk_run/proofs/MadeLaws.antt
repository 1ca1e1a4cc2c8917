-- A read over ranges: what is replied is what is told of the servers that make these sums.
use Rattle.std.proofs.Common.{◌≡◌, refl, ap, ap₂, ◌∙◌, ℕ, ◌+◌, ◌<◌, true, false, cond, List, [], ◌∷◌, length, map}
use Rattle.std.specs.Prelude.{nat_le}
use Rattle.std.specs.List.{AllByRecursion}
use Rattle.tk_shape.specs.declared.shape.Shape.{Shape}
use Rattle.tk_shape.specs.Lengths.{turn_count, width}
use Rattle.tk_kernel.specs.Chosen.{chosen_sum}
use Rattle.tk_schedule.specs.declared.history.History.{History}
use Rattle.tk_schedule.specs.Schedule.{IsLegal, epoch_at}
use Rattle.tk_script.specs.declared.script.Script.{Script}
use Rattle.tk_words.specs.Words.{WordBook, IsBook, words_of}
use Rattle.tk_frames.specs.declared.entry.Placed.{Placed}
use Rattle.tk_frames.specs.declared.read_frame.ReadFrame.{ReadFrame}
use Rattle.tk_frames.specs.Order.{Record, before}
use Rattle.tk_frames.specs.Ranges.{IsRead, IsReply}
use Rattle.tk_frames.specs.Spelling.{read_frame, reply_frame}
use Rattle.tk_frames.proofs.Offers.{read-again}
use Rattle.tk_table.specs.Laws.{IsStorable}
use Rattle.tk_table.specs.Ordered.{AreOrdered}
use Rattle.tk_client.specs.Asked.{frame_with}
use Rattle.tk_report.specs.Report.{read_over}
use Rattle.tk_report.specs.Serving.{Serving, read_under}
use Rattle.tk_report.specs.Turns.{placed_before}
use Rattle.tk_report.proofs.Offers.{AreMade, all-sound, blocks-whole, each-made}
use Rattle.tk_run.specs.Ranged.{Summing, MakesBlocks, in_ranges}
use Rattle.tk_run.specs.Ranging.{even_ranges, sum_for, over_ranges, reply_by, made_due, bytes_made}
use Rattle.tk_run.specs.Under.{reply_under, replies_from}
use Rattle.tk_run.proofs.AnswerLaws.{sum-long}
use Rattle.tk_run.proofs.UnderLaws.{each-of, reads-whole}

-- ---- replies in range

module _ (sum : Summing) (sized : MakesBlocks sum) (shards : ℕ) (shape : Shape) (R : List Record)
    (ordered : AreOrdered shape R) (storable : AllByRecursion (IsStorable shape) R) where
  made-long : (ranges : List (ℕ × ℕ)) (vector : List ℕ) →
      length (sum_for shards sum (in_ranges shape R ranges) vector) ≡ width shape
  made-long ranges vector =
      let set = in_ranges shape R ranges in
      elim (nat_le shards 1) as
      (λ b. length (cond b (chosen_sum set.width set.blocks vector) (sum set vector)) ≡ width shape) [
        | true ↦ sum-long shape R vector ordered storable
        | false ↦ sized set vector (blocks-whole shape R ordered storable).sized
      ]

  made-in_range : (r : ReadFrame) → IsRead shape r →
      IsReply shape (reply_by (sum_for shards sum) shards shape R r)
  made-in_range r in_range =
      record {
        client = in_range.client;
        turn = in_range.turn;
        epoch = in_range.epoch;
        first_len = made-long (even_ranges shape.buckets shards) r.first;
        second_len = made-long (even_ranges shape.buckets shards) r.second;
      }

-- ---- in a run

module _ (S : Script) (b : WordBook) (H : History) (shards : ℕ) (sum : Summing) (g c : ℕ) where
  -- the servers of the run, and the entries of the turn
  abbrev V : Serving
  V = over_ranges S b shards sum H

  abbrev order : List Placed
  order = placed_before S (words_of S.shape b) H (g + 1)

  read-epoch : (j : ℕ) → (read_under S b H V g c j).epoch ≡ epoch_at H g c
  unfolding frame_with
  read-epoch j = refl

  reply-made : (j : ℕ) → AreMade S b H g → c < S.shape.clients →
      IsRead S.shape (read_under S b H V g c j) →
      bytes_made sum shards S.shape order (read_frame (read_under S b H V g c j))
      ≡ reply_frame (reply_under S b H V g j c)
  unfolding made_due
  reply-made j made low in_range =
      let r = read_under S b H V g c j in
      let reply = λ (R : List Record) (q : ReadFrame).
      reply_frame (reply_by (sum_for shards sum) shards S.shape R q)
      in
      ap (λ (q : ReadFrame). reply (before order q.epoch) q) (read-again S.shape r in_range)
      ∙ ap (λ (R : List Record). reply R r) (ap (before order) (read-epoch j) ∙ made c low)

  -- each server's reply to its read
  pub replies-made : (js : List ℕ) → AreMade S b H g → c < S.shape.clients →
      AllByRecursion (IsRead S.shape) (map (read_under S b H V g c) js) →
      map (bytes_made sum shards S.shape order) (map (λ j. read_frame (read_under S b H V g c j)) js)
      ≡ map (λ j. reply_frame (reply_under S b H V g j c)) js
  replies-made [] made low in_range = refl
  replies-made (j ∷ js) made low in_range =
      ap₂ (λ (x : List ℕ) (xs : List (List ℕ)). x ∷ xs) (reply-made j made low in_range.0)
      (replies-made js made low in_range.1)

  -- and all are in range
  pub made-whole : MakesBlocks sum → IsBook S.shape b → IsLegal S.shape H → g < turn_count S.shape →
      c < S.shape.clients → AllByRecursion (IsReply S.shape) (replies_from S b H V g S.shape.servers c)
  unfolding replies_from
  made-whole sized serves legal turn_in low =
      let sound = all-sound S b H g c serves legal turn_in low in
      each-made (IsReply S.shape) (λ (j : ℕ). reply_under S b H V g j c) 1 S.shape.servers
      (λ j from below.
      made-in_range sum sized shards S.shape (read_over S (words_of S.shape b) H g c) sound.ordered
      sound.storable (read_under S b H V g c j)
      (each-of (IsRead S.shape) (read_under S b H V g c) 1 S.shape.servers
      (reads-whole S b H V g c serves legal turn_in low) j from below))
