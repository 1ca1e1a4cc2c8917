-- What the replies to a read make of a client.
use Rattle.std.proofs.Common.{◌≡◌, ◌∙◌, ap, ap₂, sym, subst, arith, add-one, inl, inr}
use Rattle.std.proofs.Common.{ℕ, zero, suc, ◌+◌, ◌-◌, ◌<◌, ◌≤◌, List, length, map, Some}
use Rattle.std.specs.Prelude.{slice_get, option_map}
use Rattle.std.specs.List.{range_with_len, AllByRecursion}
use Rattle.std.proofs.lemmas.Bool.{cases_lt}
use Rattle.std.proofs.lemmas.List.{length-map}
use Rattle.std.proofs.lemmas.List.FromFn.{length-map-range_with_len, get_or-map-range_with_len}
use Rattle.std.proofs.lemmas.Option.{slice_get-map, slice_get-get_or}
use Rattle.tk_shape.specs.Lengths.{turn_count}
use Rattle.tk_schedule.specs.declared.history.History.{History}
use Rattle.tk_schedule.specs.Schedule.{IsLegal, epoch_at}
use Rattle.tk_script.specs.declared.script.Script.{Script}
use Rattle.tk_words.specs.Words.{WordBook, IsBook, words_of}
use Rattle.tk_frames.specs.declared.read_frame.ReadFrame.{ReadFrame}
use Rattle.tk_frames.specs.declared.reply_frame.ReplyFrame.{ReplyFrame}
use Rattle.tk_frames.specs.Spelling.{read_frame, reply_frame}
use Rattle.tk_frames.specs.Ranges.{IsRead, IsReply}
use Rattle.tk_client.specs.Asked.{frame_with}
use Rattle.tk_client.specs.Reader.{Reader, at_epoch, after_read}
use Rattle.tk_client.specs.Replies.{answer_in}
use Rattle.tk_client.specs.Client.{ClientState, after_replies}
use Rattle.tk_client.proofs.Offers.{asked-in_range, frames_in-spelled}
use Rattle.tk_report.specs.Clients.{client_knowing, idle}
use Rattle.tk_report.specs.Queues.{writing_before}
use Rattle.tk_report.specs.Report.{read_over, target_for}
use Rattle.tk_report.proofs.Offers.{epoch-most}
use Rattle.tk_hostile.specs.declared.sides.Sides.{Sides}
use Rattle.tk_hostile.specs.Choice.{Choice, replies_by}
use Rattle.tk_hostile.specs.Wrong.{asks, reader_next, reader_asking}
use Rattle.tk_hostile.specs.Walks.{knows_before, read_in, asked_in, client_open, client_out}

-- ---- the frame of a server, among those of all

each-at : {X : Type 0} (P : X → Type 0) (f : ℕ → X) (a n j : ℕ) →
    AllByRecursion P (map f (range_with_len a n)) → a ≤ j → j < a + n → P (f j)
each-at P f a zero j all low high = absurd (omega (arith, low, high))
each-at P f a (suc n) j all low high =
    elim (cases_lt a j) [
      | inl above ↦ each-at P f (a + 1) n j all.1 (omega (arith, above)) (omega (arith, high))
      | inr at ↦ let here : a ≡ j = omega (arith, low, at) in subst (λ k. P (f k)) here all.0
    ]

module _ (S : Script) (b : WordBook) (H : History) (sides : Sides) (F : Choice) (g c j : ℕ)
    (low : 1 ≤ j) (high : j ≤ S.shape.servers) where
  pub frame-at : slice_get (map read_frame (asked_in S b H sides F g c)) (j - 1)
      ≡ Some (read_frame (read_in S b H sides F j g c))
  frame-at =
      let read : ℕ → ReadFrame = λ k. read_in S b H sides F k g c in
      let count = length-map-range_with_len read 1 S.shape.servers in
      slice_get-map read_frame (asked_in S b H sides F g c) (j - 1)
      ∙ ap (option_map read_frame)
      (slice_get-get_or (asked_in S b H sides F g c) (j - 1) (read j) (omega (arith, low, high, count))
      ∙ ap Some (get_or-map-range_with_len read 1 S.shape.servers (j - 1) j (read j)
      (omega (arith, low, high)) (omega (arith, low))))

  pub read-in_range : IsBook S.shape b → IsLegal S.shape H → g < turn_count S.shape →
      c < S.shape.clients → IsRead S.shape (read_in S b H sides F j g c)
  read-in_range served legal turn client =
      each-at (IsRead S.shape) (λ k. read_in S b H sides F k g c) 1 S.shape.servers j
      (asked-in_range S.shape b g c (epoch_at H g c)
      (target_for S (words_of S.shape b) H g c (knows_before S b H sides F g c)) served turn client
      (epoch-most S H g c legal turn client))
      low (omega (arith, high))

pub frames-counted : (S : Script) (b : WordBook) (H : History) (sides : Sides) (F : Choice)
    (g c : ℕ) → length (map read_frame (asked_in S b H sides F g c)) ≡ S.shape.servers
frames-counted S b H sides F g c =
    length-map (asked_in S b H sides F g c) read_frame
    ∙ length-map-range_with_len (λ j. read_in S b H sides F j g c) 1 S.shape.servers

-- ---- the client after the replies

module _ (S : Script) (b : WordBook) (H : History) (sides : Sides) (F : Choice) (g c : ℕ) where
  knows-next : knows_before S b H sides F (g + 1) c
      ≡ reader_next S (words_of S.shape b) H sides.hidden F (asks S.shape b H sides.asked) g c
      (knows_before S b H sides F g c)
  unfolding reader_asking
  knows-next =
      ap (reader_asking S (words_of S.shape b) H sides.hidden F (asks S.shape b H sides.asked) c)
      (add-one g)

  -- the replies of all servers to its read
  abbrev pub replies : List ReplyFrame
  replies =
      replies_by S.shape sides.hidden F (read_over S (words_of S.shape b) H g c)
      (read_in S b H sides F sides.asked g c)

  pub heard-is : (s new : ClientState) (bytes : List (List ℕ)) →
      s ≡ client_open S b H sides F g c → bytes ≡ map reply_frame replies →
      AllByRecursion (IsReply S.shape) replies → new ≡ after_replies (words_of s.shape b) bytes s →
      new ≡ client_out S b H sides F g c
  unfolding client_knowing frame_with
  heard-is s new bytes was are in_range heard =
      let w = words_of S.shape b in
      let r = knows_before S b H sides F g c in
      let t = target_for S w H g c r in
      let after : List ReplyFrame → Reader =
      λ rs. after_read S.shape (at_epoch (epoch_at H g c) r) t (answer_in S.shape w rs t)
      in
      let knowing : Reader → ClientState = idle S.shape c (writing_before S c (g + 1)) in
      heard
      ∙ ap₂ (λ (x : ClientState) (xs : List (List ℕ)). after_replies (words_of x.shape b) xs x) was
      are
      ∙ ap (λ (rs : List ReplyFrame). knowing (after rs))
      (frames_in-spelled S.shape replies in_range)
      ∙ ap knowing (sym knows-next)
