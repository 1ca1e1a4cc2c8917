-- What a client reads in a turn, from the set that it pinned.
use Rattle.std.proofs.Common.{◌≡◌, ap, sym, ◌∙◌, ℕ, ◌+◌, ◌<◌, List, map}
use Rattle.std.specs.List.{range_with_len}
use Rattle.tk_shape.specs.Lengths.{turn_count}
use Rattle.tk_schedule.specs.declared.history.History.{History}
use Rattle.tk_schedule.specs.Schedule.{IsLegal}
use Rattle.tk_script.specs.declared.script.Script.{Script}
use Rattle.tk_words.specs.Words.{WordBook, words_of, IsBook}
use Rattle.tk_frames.specs.Spelling.{read_frame, reply_frame}
use Rattle.tk_client.specs.Client.{ClientState, after_replies}
use Rattle.tk_report.specs.Serving.{Serving, read_under}
use Rattle.tk_report.specs.Turns.{placed_before}
use Rattle.tk_report.proofs.Offers.{map-map, all-made}
use Rattle.tk_run.specs.Ranged.{Summing, MakesBlocks}
use Rattle.tk_run.specs.Ranging.{over_ranges, bytes_made}
use Rattle.tk_run.specs.Rows.{Frame}
use Rattle.tk_run.specs.Under.{client_under, asked_under, reply_under, replies_from, replied_under}
use Rattle.tk_run.proofs.AnswerLaws.{client-took}
use Rattle.tk_run.proofs.MadeLaws.{made-whole, replies-made}
use Rattle.tk_run.proofs.UnderLaws.{reads-whole}

replied-each : (S : Script) (b : WordBook) (H : History) (V : Serving) (g c : ℕ) →
    replied_under S b H V g S.shape.servers c
    ≡ map (λ j. reply_frame (reply_under S b H V g j c)) (range_with_len 1 S.shape.servers)
unfolding replies_from
replied-each S b H V g c =
    map-map reply_frame (λ (j : ℕ). reply_under S b H V g j c) (range_with_len 1 S.shape.servers)

-- what came of a read: the client, what it asked, and what was replied
pub record Read (S : Script) (b : WordBook) (H : History) (V : Serving) (g c : ℕ)
    (new : ClientState) (frames replies : List Frame) : Type 0 where
  pub client : new ≡ client_under S b H V (g + 1) c
  pub asks : frames
      ≡ map (λ j. read_frame (read_under S b H V g c j)) (range_with_len 1 S.shape.servers)
  pub replies_are : replies
      ≡ map (λ j. reply_frame (reply_under S b H V g j c)) (range_with_len 1 S.shape.servers)

-- a client that asked as the history says, and took what was made of the sums over the ranges
pub has_taken : (S : Script) (b : WordBook) (H : History) (shards : ℕ) (sum : Summing) (g c : ℕ)
    {asking new : ClientState} {frames replies : List Frame} →
    let V = over_ranges S b shards sum H in
    MakesBlocks sum → IsBook S.shape b → IsLegal S.shape H →
    g < turn_count S.shape → c < S.shape.clients →
    asking ≡ asked_under S b H V g c →
    frames ≡ map (λ j. read_frame (read_under S b H V g c j)) (range_with_len 1 S.shape.servers) →
    replies
    ≡ map (bytes_made sum shards S.shape (placed_before S (words_of S.shape b) H (g + 1))) frames →
    new ≡ after_replies (words_of asking.shape b) replies asking →
    Read S b H V g c new frames replies
has_taken S b H shards sum g c {asking} {new} {frames} {replies} sized book legal turn_in low
    asks are given took =
    let V = over_ranges S b shards sum H in
    let E = placed_before S (words_of S.shape b) H (g + 1) in
    let owed : replies
    ≡ map (λ j. reply_frame (reply_under S b H V g j c)) (range_with_len 1 S.shape.servers) =
    given ∙ ap (map (bytes_made sum shards S.shape E)) are
    ∙ replies-made S b H shards sum g c (range_with_len 1 S.shape.servers)
    (all-made S b H g legal turn_in) low (reads-whole S b H V g c book legal turn_in low)
    in
    record {
      client =
          client-took S b H V g c (made-whole S b H shards sum g c sized book legal turn_in low) asks
          (owed ∙ sym (replied-each S b H V g c)) took;
      asks = are;
      replies_are = owed;
    }
