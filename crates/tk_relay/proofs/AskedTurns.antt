-- What a client asks in a turn of a run.
use Rattle.std.proofs.Common.{◌≡◌, refl, ap, sym, subst, ◌∙◌, arith, ℕ, ◌+◌, ◌<◌, Bool, List, [], ◌∷◌, map}
use Rattle.std.proofs.Common.{Option, None}
use Rattle.std.specs.List.{AllByRecursion, range_with_len}
use Rattle.std.proofs.lemmas.List.FromFn.{length-map-range_with_len, get_or-map-range_with_len}
use Rattle.tk_shape.specs.Lengths.{turn_count}
use Rattle.tk_schedule.specs.declared.history.History.{History}
use Rattle.tk_schedule.specs.Schedule.{IsLegal, epoch_at}
use Rattle.tk_script.specs.declared.script.Script.{Script}
use Rattle.tk_words.specs.Words.{WordBook, BookWords, words_of, IsBook}
use Rattle.tk_frames.specs.declared.read_frame.ReadFrame.{ReadFrame}
use Rattle.tk_frames.specs.Order.{Record, before}
use Rattle.tk_frames.specs.Ranges.{IsRead}
use Rattle.tk_bloom.specs.Filters.{all_marked}
use Rattle.tk_table.specs.Shown.{is_shown}
use Rattle.tk_client.specs.declared.target.Target.{Target}
use Rattle.tk_client.specs.Asked.{asked, frame_with, shown_by}
use Rattle.tk_client.specs.Client.{ClientState, opened, target_over}
use Rattle.tk_client.specs.Reader.{target, at_epoch}
use Rattle.tk_client.proofs.Offers.{asked-in_range}
use Rattle.tk_report.specs.Clients.{client_knowing}
use Rattle.tk_report.specs.Exchange.{blank_read, read_at, read_pair}
use Rattle.tk_report.specs.Report.{target_at, read_over, reader_before}
use Rattle.tk_report.specs.Turns.{placed_before}
use Rattle.tk_report.proofs.Offers.{all-made, epoch-most}
use Rattle.tk_relay.specs.Bundles.{AreOneRead, IsAlong, frame_of}
use Rattle.tk_relay.specs.Relayed.{frames_read}
use Rattle.tk_relay.specs.Running.{client_wrote, client_asked}

-- ---- a client that has written

module _ (S : Script) (w : BookWords) (H : History) (g c : ℕ) (client : ClientState)
    (wrote : client ≡ client_wrote S w H g c) where
  pub wrote-shape : client.shape ≡ S.shape
  unfolding client_knowing
  wrote-shape = ap (λ (s : ClientState). s.shape) wrote

  pub wrote-closed : client.read ≡ None
  unfolding client_knowing
  wrote-closed = ap (λ (s : ClientState). s.read) wrote

-- ---- what a client asks

pub asked-read : (S : Script) (b : WordBook) (H : History) (g c : ℕ) →
    asked S.shape b g c (epoch_at H g c) (target_at S (words_of S.shape b) H g c)
    ≡ frames_read S b H g c
unfolding read_at read_pair
asked-read S b H g c = refl

module _ (S : Script) (b : WordBook) (H : History) (g c e : ℕ) (marks : List Bool)
    (client : ClientState) (legal : IsLegal S.shape H) (turn_in : g < turn_count S.shape)
    (client_in : c < S.shape.clients) (named : e ≡ epoch_at H g c)
    (shows : (hits : List ℕ) → all_marked marks hits
    ≡ is_shown S.shape (before (placed_before S (words_of S.shape b) H (g + 1)) e) hits)
    (wrote : client ≡ client_wrote S (words_of S.shape b) H g c) where
  -- what the filter of an epoch shows is what the writes before its mark do
  filter-shows : (hits : List ℕ) →
      all_marked marks hits ≡ is_shown S.shape (read_over S (words_of S.shape b) H g c) hits
  filter-shows hits =
      let E = placed_before S (words_of S.shape b) H (g + 1) in
      shows hits
      ∙ ap (λ (R : List Record). is_shown S.shape R hits)
      (ap (before E) named ∙ all-made S b H g legal turn_in c client_in)

  -- so the client's target is that of the turn
  target-is : target_over (words_of client.shape b) marks e client
      ≡ target_at S (words_of S.shape b) H g c
  unfolding client_knowing
  target-is =
      let w = words_of S.shape b in
      let r = reader_before S w H c g in
      let same : shown_by marks w ≡ (λ log s. is_shown S.shape (read_over S w H g c) (w.hits log s)) =
      λ i log s. filter-shows (w.hits log s) i
      in
      ap (λ (s : ClientState). target_over (words_of s.shape b) marks e s) wrote
      ∙ ap (λ n. target S.shape (shown_by marks w) (at_epoch n r)) named
      ∙ ap (λ (f : ℕ → ℕ → Bool). target S.shape f (at_epoch (epoch_at H g c) r)) same

  pub client-asks : asked client.shape b g client.number e
      (target_over (words_of client.shape b) marks e client)
      ≡ frames_read S b H g c
  unfolding client_knowing
  client-asks =
      let t = target_at S (words_of S.shape b) H g c in
      ap (asked client.shape b g client.number e) target-is
      ∙ ap (λ (s : ClientState). asked s.shape b g s.number e t) wrote
      ∙ ap (λ n. asked S.shape b g c n t) named
      ∙ asked-read S b H g c

  -- and then it waits for the replies
  pub client-opens : (new : ClientState) →
      new ≡ opened g e (target_over (words_of client.shape b) marks e client) client →
      new ≡ client_asked S (words_of S.shape b) H g c
  unfolding client_asked
  client-opens new opens =
      let t = target_at S (words_of S.shape b) H g c in
      opens
      ∙ ap (λ (x : Option Target). opened g e x client) target-is
      ∙ ap (λ n. opened g n t client) named
      ∙ ap (opened g (epoch_at H g c) t) wrote

-- ---- the frames of a read

pub reads-in_range : (S : Script) (b : WordBook) (H : History) (g c : ℕ) → IsBook S.shape b →
    IsLegal S.shape H → g < turn_count S.shape → c < S.shape.clients →
    AllByRecursion (IsRead S.shape) (frames_read S b H g c)
reads-in_range S b H g c serves legal turn_in client_in =
    subst (AllByRecursion (IsRead S.shape)) (asked-read S b H g c)
    (asked-in_range S.shape b g c (epoch_at H g c) (target_at S (words_of S.shape b) H g c) serves
    turn_in client_in (epoch-most S H g c legal turn_in client_in))

-- they are of one client, turn and epoch
along-first : (S : Script) (b : WordBook) (H : History) (g c : ℕ) (js : List ℕ) →
    AllByRecursion (IsRead S.shape) (map (read_at S b H g c) js) →
    AllByRecursion (IsAlong S.shape (read_at S b H g c 1)) (map (read_at S b H g c) js)
unfolding read_at frame_with
along-first S b H g c [] all = tt
along-first S b H g c (j ∷ js) all = (
  record {
    client = refl;
    turn = refl;
    epoch = refl;
    vectors = record { first = all.0.first_len; second = all.0.second_len };
  },
  along-first S b H g c js all.1,
)

pub one-read : (S : Script) (b : WordBook) (H : History) (g c : ℕ) →
    AllByRecursion (IsRead S.shape) (frames_read S b H g c) →
    AreOneRead S.shape (frames_read S b H g c)
one-read S b H g c all =
    let several = S.shape.in_range.servers_low in
    let first : frame_of (frames_read S b H g c) 1 ≡ read_at S b H g c 1 =
    get_or-map-range_with_len (read_at S b H g c) 1 S.shape.servers 0 1 blank_read
    (omega (arith, several)) refl
    in
    record {
      counted = length-map-range_with_len (read_at S b H g c) 1 S.shape.servers;
      along =
          subst (λ (r : ReadFrame). AllByRecursion (IsAlong S.shape r) (frames_read S b H g c))
          (sym first) (along-first S b H g c (range_with_len 1 S.shape.servers) all);
    }
