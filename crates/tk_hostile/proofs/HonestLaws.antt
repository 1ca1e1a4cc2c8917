-- A run under wrong replies is one under servers that reply so, and with honest ones the run.
use Rattle.std.proofs.Common.{◌≡◌, refl, ap, sym, ◌∙◌, arith, ℕ, zero, suc, ◌<◌, ◌≤◌}
use Rattle.std.proofs.Common.{◌==◌, true, false, cond, List, [], ◌∷◌, map}
use Rattle.std.proofs.lemmas.Bool.{eqb-true, eqb-false}
use Rattle.std.specs.List.{range_with_len}
use Rattle.tk_shape.specs.Lengths.{turn_count}
use Rattle.tk_schedule.specs.declared.history.History.{History}
use Rattle.tk_schedule.specs.Schedule.{epoch_at}
use Rattle.tk_script.specs.declared.script.Script.{Script}
use Rattle.tk_words.specs.Words.{WordBook, words_of}
use Rattle.tk_frames.specs.declared.read_frame.ReadFrame.{ReadFrame}
use Rattle.tk_frames.specs.declared.reply_frame.ReplyFrame.{ReplyFrame}
use Rattle.tk_frames.specs.Order.{Record}
use Rattle.tk_frames.specs.Spelling.{read_frame}
use Rattle.tk_table.specs.Replies.{reply_to}
use Rattle.tk_client.specs.Asked.{pair_for, frame_with}
use Rattle.tk_client.specs.Reader.{Reader, at_epoch, after_read}
use Rattle.tk_client.specs.Replies.{answer_in}
use Rattle.tk_report.specs.Exchange.{read_at, read_pair, read_seen}
use Rattle.tk_report.specs.Report.{read_over, reader_before, target_for}
use Rattle.tk_report.specs.Serving.{honest, reader_under, reader_after, frame_under}
use Rattle.tk_report.proofs.Offers.{turns-agree, honest-readers, map-range}
use Rattle.tk_privacy.specs.Privacy.{read_for}
use Rattle.tk_hostile.specs.Choice.{Choice, own_sums, reply_with, reply_by, replies_by}
use Rattle.tk_hostile.specs.Wrong.{reader_next, reader_asking, asks, wrong_reader, wrong_pair}
use Rattle.tk_hostile.specs.Honest.{wrong, WrongReaders, AreHonest, HonestView, HonestLogs}

-- ---- servers that reply so

module _ (S : Script) (b : WordBook) (H : History) (h : ℕ) (F : Choice) where
  -- a read of a client that is this reader
  module _ (g c : ℕ) (reader : Reader) where
    abbrev frame : ℕ → ReadFrame
    frame = frame_under S b H (wrong S (words_of S.shape b) H h F) g c reader

    -- to its own frame each server replies what is told by the hidden one's
    reply-own : (R : List Record) (j : ℕ) →
        reply_by S.shape h F R (frame h) j ≡ reply_by S.shape h F R (frame j) j
    unfolding frame_with
    reply-own R j =
        elim (j == h) as (λ t. j == h ≡ t →
        reply_with (frame h) (cond t (own_sums S.shape R (frame h)) (F g c j))
        ≡ reply_with (frame j) (cond t (own_sums S.shape R (frame j)) (F g c j))) [
          | true ↦ λ e.
              ap (λ k. reply_with (frame k) (own_sums S.shape R (frame k))) (sym (eqb-true j h e))
          | false ↦ λ e. refl
        ] refl

    next-same : reader_next S (words_of S.shape b) H h F (asks S.shape b H h) g c reader
        ≡ reader_after S b H (wrong S (words_of S.shape b) H h F) g c reader
    unfolding replies_by frame_with
    next-same =
        let t = target_for S (words_of S.shape b) H g c reader in
        let R = read_over S (words_of S.shape b) H g c in
        λ i. after_read S.shape (at_epoch (epoch_at H g c) reader) t
        (answer_in S.shape (words_of S.shape b)
        (map (λ j. reply-own R j i) (range_with_len 1 S.shape.servers)) t)

pub wrong-readers : WrongReaders
unfolding reader_asking reader_under
wrong-readers S b H h F c zero = refl
wrong-readers S b H h F c (suc g) =
    let w = words_of S.shape b in
    ap (reader_next S w H h F (asks S.shape b H h) g c) (wrong-readers S b H h F c g)
    ∙ next-same S b H h F g c (reader_under S b H (wrong S w H h F) c g)

-- ---- honest ones

module _ (S : Script) (b : WordBook) (H : History) (h : ℕ) (F : Choice)
    (are : AreHonest S b H h F) where
  -- to the reads of the run each replies as an honest server
  reply-honest : (g c j : ℕ) → g < turn_count S.shape → c < S.shape.clients → 1 ≤ j →
      j ≤ S.shape.servers →
      let R = read_over S (words_of S.shape b) H g c in
      reply_by S.shape h F R (read_at S b H g c j) j ≡ reply_to S.shape R (read_at S b H g c j)
  unfolding read_at frame_with
  reply-honest g c j turn client low high =
      let R = read_over S (words_of S.shape b) H g c in
      let r : ReadFrame = read_at S b H g c j in
      elim (j == h) as (λ t. j == h ≡ t →
      reply_with r (cond t (own_sums S.shape R r) (F g c j)) ≡ reply_to S.shape R r) [
        | true ↦ λ e. refl
        | false ↦ λ e. ap (reply_with r) (are.replies g c j turn client low high (eqb-false j h e))
      ] refl

  -- and what a client makes of them is the same
  honest-after : (g c : ℕ) → g < turn_count S.shape → c < S.shape.clients →
      let w = words_of S.shape b in
      let reader = reader_before S w H c g in
      reader_after S b H (wrong S w H h F) g c reader ≡ reader_after S b H (honest S w H) g c reader
  unfolding read_at read_pair
  honest-after g c turn client =
      let w = words_of S.shape b in
      let R = read_over S w H g c in
      let reader = reader_before S w H c g in
      let t = target_for S w H g c reader in
      ap (λ (rs : List ReplyFrame). after_read S.shape (at_epoch (epoch_at H g c) reader) t
      (answer_in S.shape w rs t))
      (map-range (λ j. reply_by S.shape h F R (read_at S b H g c j) j)
      (λ j. reply_to S.shape R (read_at S b H g c j)) 1 S.shape.servers
      (λ j low high. reply-honest g c j turn client low (omega (arith, high))))

  -- so each client is the reader that it is in the run
  under-honest : (c g : ℕ) → c < S.shape.clients → g ≤ turn_count S.shape →
      let w = words_of S.shape b in
      reader_under S b H (wrong S w H h F) c g ≡ reader_before S w H c g
  unfolding reader_under reader_before
  under-honest c zero client within = refl
  under-honest c (suc g) client within =
      let w = words_of S.shape b in
      let less : g ≤ turn_count S.shape = omega (arith, within) in
      ap (reader_after S b H (wrong S w H h F) g c) (under-honest c g client less)
      ∙ honest-after g c (omega (arith, within)) client
      ∙ ap (reader_after S b H (honest S w H) g c)
      (sym (honest-readers S b H c g are.book are.legal client less))
      ∙ honest-readers S b H c (suc g) are.book are.legal client within

  readers-honest : (c g : ℕ) → c < S.shape.clients → g ≤ turn_count S.shape →
      wrong_reader S b H h F c g ≡ reader_before S (words_of S.shape b) H c g
  readers-honest c g client within =
      wrong-readers S b H h F c g ∙ under-honest c g client within

pub honest-view : HonestView
unfolding read_at read_pair
honest-view S b H h j F are =
    let w = words_of S.shape b in
    turns-agree S b H H (turn_count S.shape)
    (λ g c. read_frame (read_for S.shape b H (wrong_pair S b H h F g c) g c j) ∷ [])
    (read_seen S b H j) (λ k low. refl)
    (λ g c turn client.
    ap (λ (r : Reader).
    read_frame (read_for S.shape b H (pair_for w g c (target_for S w H g c r)) g c j) ∷ [])
    (readers-honest S b H h F are c g client (omega (arith, turn))))

pub honest-logs : HonestLogs
honest-logs S b H h c F are client =
    ap (λ (r : Reader). r.follows)
    (readers-honest S b H h F are c (turn_count S.shape) client (omega arith))
