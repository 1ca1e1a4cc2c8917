-- What a client asks in a turn.
use Rattle.std.proofs.Common.{◌≡◌, ap, ◌∙◌, ℕ, Bool, List, map, Option, None}
use Rattle.std.specs.List.{range_with_len}
use Rattle.tk_schedule.specs.declared.history.History.{History}
use Rattle.tk_schedule.specs.Schedule.{epoch_at}
use Rattle.tk_script.specs.declared.script.Script.{Script}
use Rattle.tk_words.specs.Words.{WordBook, words_of}
use Rattle.tk_frames.specs.Spelling.{read_frame}
use Rattle.tk_client.specs.Asked.{asked, shown_by}
use Rattle.tk_client.specs.declared.target.Target.{Target}
use Rattle.tk_client.specs.Reader.{target, at_epoch}
use Rattle.tk_client.specs.Client.{ClientState, opened, target_over}
use Rattle.tk_report.specs.Clients.{client_knowing}
use Rattle.tk_report.specs.Serving.{Serving, reader_under, read_under, target_under}
use Rattle.tk_report.proofs.Offers.{map-map}
use Rattle.tk_run.specs.Under.{wrote_under, asked_under}

module _ (S : Script) (b : WordBook) (H : History) (V : Serving) (g c e : ℕ) (marks : List Bool)
    (client : ClientState) (wrote : client ≡ wrote_under S b H V g c) (epoch : e ≡ epoch_at H g c)
    (shows : shown_by marks (words_of S.shape b) ≡ V.shows g c) where
  -- the client's target in the turn
  abbrev due : Option Target
  due = target_under S H V g c (reader_under S b H V c g)

  -- a client that has written asks for it, where a filter with these marks shows what it is told
  target-is : target_over (words_of client.shape b) marks e client ≡ due
  unfolding client_knowing
  target-is =
      let w = words_of S.shape b in
      let r = reader_under S b H V c g in
      ap (λ (s : ClientState). target_over (words_of s.shape b) marks e s) wrote
      ∙ ap (λ n. target S.shape (shown_by marks w) (at_epoch n r)) epoch
      ∙ ap (λ (f : ℕ → ℕ → Bool). target S.shape f (at_epoch (epoch_at H g c) r)) shows

  -- so its frames are those that the servers read
  pub frames-are : map read_frame (asked client.shape b g client.number e
      (target_over (words_of client.shape b) marks e client))
      ≡ map (λ j. read_frame (read_under S b H V g c j)) (range_with_len 1 S.shape.servers)
  unfolding client_knowing
  frames-are =
      ap (λ (t : Option Target). map read_frame (asked client.shape b g client.number e t)) target-is
      ∙ ap (λ (s : ClientState). map read_frame (asked s.shape b g s.number e due)) wrote
      ∙ ap (λ n. map read_frame (asked S.shape b g c n due)) epoch
      ∙ map-map read_frame (read_under S b H V g c) (range_with_len 1 S.shape.servers)

  -- and then the client waits for the replies
  pub client-asked : (new : ClientState) →
      new ≡ opened g e (target_over (words_of client.shape b) marks e client) client →
      new ≡ asked_under S b H V g c
  unfolding asked_under
  client-asked new is =
      is
      ∙ ap (λ (t : Option Target). opened g e t client) target-is
      ∙ ap (λ n. opened g n due client) epoch
      ∙ ap (opened g (epoch_at H g c) due) wrote

-- ---- what a client is before

module _ (S : Script) (b : WordBook) (H : History) (V : Serving) (g c : ℕ) (client : ClientState)
    (wrote : client ≡ wrote_under S b H V g c) where
  pub wrote-shape : client.shape ≡ S.shape
  unfolding client_knowing
  wrote-shape = ap (λ (s : ClientState). s.shape) wrote

  pub wrote-number : client.number ≡ c
  unfolding client_knowing
  wrote-number = ap (λ (s : ClientState). s.number) wrote

  pub wrote-closed : client.read ≡ None
  unfolding client_knowing
  wrote-closed = ap (λ (s : ClientState). s.read) wrote
