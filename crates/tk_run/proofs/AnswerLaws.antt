-- What a client takes from the replies to its read.
use Rattle.std.proofs.Common.{◌≡◌, refl, ap, sym, subst, ◌∙◌, ℕ, ◌+◌, List, add-one, length}
use Rattle.std.specs.Prelude.{IsSome}
use Rattle.std.specs.List.{AllByRecursion}
use Rattle.tk_shape.specs.declared.shape.Shape.{Shape}
use Rattle.tk_shape.specs.Lengths.{width}
use Rattle.tk_kernel.specs.Chosen.{chosen_sum}
use Rattle.tk_words.specs.Words.{WordBook, words_of}
use Rattle.tk_frames.specs.declared.read_frame.ReadFrame.{ReadFrame}
use Rattle.tk_frames.specs.declared.reply_frame.ReplyFrame.{ReplyFrame}
use Rattle.tk_frames.specs.Ranges.{IsRead, IsReply}
use Rattle.tk_frames.specs.Order.{Record}
use Rattle.tk_table.specs.Ordered.{AreOrdered}
use Rattle.tk_table.specs.Table.{layout}
use Rattle.tk_table.specs.Replies.{reply_to}
use Rattle.tk_bucket.specs.Bytes.{blocks_of}
use Rattle.tk_table.specs.Laws.{IsStorable}
use Rattle.tk_client.specs.Reader.{at_epoch, after_read}
use Rattle.tk_client.specs.Client.{ClientState, after_replies}
use Rattle.tk_client.specs.Replies.{answer_in, frames_in}
use Rattle.tk_client.proofs.Offers.{frames_in-spelled}
use Rattle.tk_schedule.specs.declared.history.History.{History}
use Rattle.tk_schedule.specs.Schedule.{epoch_at}
use Rattle.tk_script.specs.declared.script.Script.{Script}
use Rattle.tk_report.specs.Clients.{client_knowing, idle}
use Rattle.tk_report.specs.Queues.{writing_before}
use Rattle.tk_report.specs.Serving.{Serving, reader_under, target_under}
use Rattle.tk_report.proofs.Offers.{blocks-whole}
use Rattle.tk_run.specs.Under.{client_under, asked_under, replies_from, replied_under}
use Rattle.tk_run.specs.Sized.{sum-sized}

-- ---- replies in range

pub sum-long : (shape : Shape) (R : List Record) (vector : List ℕ) → AreOrdered shape R →
    AllByRecursion (IsStorable shape) R →
    length (chosen_sum (width shape) (blocks_of (layout shape R)) vector) ≡ width shape
sum-long shape R vector ordered storable =
    sum-sized (width shape) (blocks_of (layout shape R)) vector
    (blocks-whole shape R ordered storable).sized

-- a reply to a read in range is in range
pub reply-in_range : (shape : Shape) (R : List Record) (r : ReadFrame) → AreOrdered shape R →
    AllByRecursion (IsStorable shape) R → IsRead shape r → IsReply shape (reply_to shape R r)
reply-in_range shape R r ordered storable in_range =
    record {
      client = in_range.client;
      turn = in_range.turn;
      epoch = in_range.epoch;
      first_len = sum-long shape R r.first ordered storable;
      second_len = sum-long shape R r.second ordered storable;
    }

-- ---- in a run

-- from replies in range it goes on as under the serving
pub client-took : (S : Script) (b : WordBook) (H : History) (V : Serving) (g c : ℕ)
    {old new : ClientState} {replies : List (List ℕ)} →
    AllByRecursion (IsReply S.shape) (replies_from S b H V g S.shape.servers c) →
    old ≡ asked_under S b H V g c → replies ≡ replied_under S b H V g S.shape.servers c →
    new ≡ after_replies (words_of old.shape b) replies old → new ≡ client_under S b H V (g + 1) c
unfolding asked_under client_knowing reader_under replies_from
client-took S b H V g c {old} {new} {replies} whole asked_is replies_are is =
    let w = words_of S.shape b in
    let e = epoch_at H g c in
    let r = reader_under S b H V c g in
    let t = target_under S H V g c r in
    let rs = replies_from S b H V g S.shape.servers c in
    let read : frames_in S.shape replies ≡ rs =
    ap (frames_in S.shape) replies_are ∙ frames_in-spelled S.shape rs whole
    in
    is
    ∙ ap (λ (s : ClientState). after_replies (words_of s.shape b) replies s) asked_is
    ∙ ap (λ (fs : List ReplyFrame). idle S.shape c (writing_before S c (g + 1))
    (after_read S.shape (at_epoch e r) t (answer_in S.shape w fs t))) read
    ∙ ap (λ (n : ℕ). idle S.shape c (writing_before S c (g + 1)) (reader_under S b H V c n))
    (sym (add-one g))

-- ---- what a client is before it takes replies

module _ (S : Script) (b : WordBook) (H : History) (V : Serving) (g c : ℕ) (client : ClientState)
    (is : client ≡ asked_under S b H V g c) where
  pub asked-shape : client.shape ≡ S.shape
  unfolding asked_under client_knowing
  asked-shape = ap (λ (s : ClientState). s.shape) is

  pub asked-open : IsSome client.read
  unfolding asked_under client_knowing
  asked-open = subst (λ (s : ClientState). IsSome s.read) (sym is) refl
