-- What one who follows in a client's place would ask in a turn.
use Rattle.std.proofs.Common.{◌≡◌, ap, ◌∙◌, arith, ℕ, ◌+◌, ◌-◌, ◌<◌, ◌≤◌, Bool, List, Option}
use Rattle.std.specs.Prelude.{slice_index_or}
use Rattle.std.proofs.lemmas.List.FromFn.{get_or-map-range_with_len}
use Rattle.tk_schedule.specs.declared.history.History.{History}
use Rattle.tk_schedule.specs.Schedule.{epoch_at}
use Rattle.tk_script.specs.declared.script.Script.{Script}
use Rattle.tk_words.specs.Words.{WordBook, words_of}
use Rattle.tk_bloom.specs.Filters.{all_marked}
use Rattle.tk_frames.specs.declared.read_frame.ReadFrame.{ReadFrame}
use Rattle.tk_table.specs.Shown.{is_shown}
use Rattle.tk_client.specs.declared.target.Target.{Target}
use Rattle.tk_client.specs.Reader.{target, at_epoch}
use Rattle.tk_client.specs.Asked.{frame_for, asked, shown_by}
use Rattle.tk_client.specs.Looking.{FollowerState, looked_for}
use Rattle.tk_report.specs.Clients.{follower_before}
use Rattle.tk_report.specs.Exchange.{read_pair}
use Rattle.tk_report.specs.Report.{target_at, read_over, reader_before}
use Rattle.tk_report.specs.Ledgers.{IsLeftBy}
use Rattle.tk_report.specs.declared.marked.Marked.{Marked}
use Rattle.tk_privacy.specs.Privacy.{pairs_read, read_for}

-- a filter that shows what the writes before the epoch's mark do
abbrev pub Shows : Script → WordBook → History → ℕ → ℕ → List Bool → Type 0
Shows S b H g c marks =
    (hits : List ℕ) →
    all_marked marks hits ≡ is_shown S.shape (read_over S (words_of S.shape b) H g c) hits

-- that of what lies open to its read does
pub filter-shows : (S : Script) (b : WordBook) (H : History) (g c : ℕ) (open_now : Marked)
    (marks : List Bool) → IsLeftBy S.shape (read_over S (words_of S.shape b) H g c) open_now →
    marks ≡ open_now.filter → Shows S b H g c marks
filter-shows S b H g c open_now marks is same hits =
    ap (λ (m : List Bool). all_marked m hits) same ∙ is.shows hits

-- so it is looked for what a client reads in the turn
looked-is : (S : Script) (b : WordBook) (H : History) (g c e : ℕ) (marks : List Bool)
    (s : FollowerState) → let w = words_of S.shape b in
    s ≡ follower_before S w H g c → e ≡ epoch_at H g c → Shows S b H g c marks →
    looked_for (words_of s.shape b) marks e s ≡ target_at S w H g c
looked-is S b H g c e marks s was epoch shows =
    let w = words_of S.shape b in
    let r = reader_before S w H c g in
    let same : shown_by marks w ≡ (λ log k. is_shown S.shape (read_over S w H g c) (w.hits log k)) =
    λ i log k. shows (w.hits log k) i
    in
    ap (λ (l : FollowerState). looked_for (words_of l.shape b) marks e l) was
    ∙ ap (λ (n : ℕ). target S.shape (shown_by marks w) (at_epoch n r)) epoch
    ∙ ap (λ (f : ℕ → ℕ → Bool). target S.shape f (at_epoch (epoch_at H g c) r)) same

-- the frames for all servers are those that it asks with
asked-is : (S : Script) (b : WordBook) (H : History) (g c e : ℕ) (marks : List Bool)
    (s : FollowerState) → let w = words_of S.shape b in
    s ≡ follower_before S w H g c → e ≡ epoch_at H g c → Shows S b H g c marks →
    asked s.shape b g c e (looked_for (words_of s.shape b) marks e s)
    ≡ asked S.shape b g c (epoch_at H g c) (target_at S w H g c)
asked-is S b H g c e marks s was epoch shows =
    let w = words_of S.shape b in
    ap (λ (t : Option Target). asked s.shape b g c e t)
    (looked-is S b H g c e marks s was epoch shows)
    ∙ ap (λ (l : FollowerState). asked l.shape b g c e (target_at S w H g c)) was
    ∙ ap (λ (n : ℕ). asked S.shape b g c n (target_at S w H g c)) epoch

-- and of them a server sees the one at its place
pub read-is : (S : Script) (b : WordBook) (H : History) (g c e j : ℕ) (marks : List Bool)
    (s : FollowerState) (frames : List ReadFrame) (x : ReadFrame) →
    s ≡ follower_before S (words_of S.shape b) H g c → e ≡ epoch_at H g c →
    Shows S b H g c marks → 1 ≤ j → j ≤ S.shape.servers →
    frames ≡ asked s.shape b g c e (looked_for (words_of s.shape b) marks e s) →
    x ≡ slice_index_or frames (j - 1) x →
    x ≡ read_for S.shape b H (pairs_read S b H g c) g c j
unfolding read_pair
read-is S b H g c e j marks s frames x was epoch shows low high are here =
    let pair = pairs_read S b H g c in
    let within : j - 1 < S.shape.servers = omega (arith, low, high) in
    let at : 1 + (j - 1) ≡ j = omega (arith, low) in
    here
    ∙ ap (λ (xs : List ReadFrame). slice_index_or xs (j - 1) x)
    (are ∙ asked-is S b H g c e marks s was epoch shows)
    ∙ get_or-map-range_with_len (frame_for S.shape b g c (epoch_at H g c) pair) 1 S.shape.servers
    (j - 1) j
    x within at
