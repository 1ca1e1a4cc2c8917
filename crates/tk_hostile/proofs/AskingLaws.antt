-- What a client asks in a turn, and what it is then.
use Rattle.std.proofs.Common.{◌≡◌, ◌∙◌, ap, ap₂, ℕ, Bool, List, Option}
use Rattle.tk_schedule.specs.declared.history.History.{History}
use Rattle.tk_schedule.specs.Schedule.{epoch_at}
use Rattle.tk_script.specs.declared.script.Script.{Script}
use Rattle.tk_words.specs.Words.{WordBook, words_of}
use Rattle.tk_table.specs.Shown.{is_shown}
use Rattle.tk_client.specs.declared.target.Target.{Target}
use Rattle.tk_client.specs.Reader.{target, at_epoch}
use Rattle.tk_client.specs.Asked.{asked, shown_by}
use Rattle.tk_client.specs.Client.{ClientState, target_over, opened}
use Rattle.tk_report.specs.Clients.{client_knowing}
use Rattle.tk_report.specs.Report.{read_over, target_for}
use Rattle.tk_privacy.proofs.Offers.{Shows}
use Rattle.tk_hostile.specs.declared.sides.Sides.{Sides}
use Rattle.tk_hostile.specs.Choice.{Choice}
use Rattle.tk_hostile.specs.Walks.{knows_before, client_in, client_open, asked_in}

module _ (S : Script) (b : WordBook) (H : History) (sides : Sides) (F : Choice) (g c e : ℕ)
    (marks : List Bool) (s : ClientState) (was : s ≡ client_in S b H sides F g c)
    (epoch : e ≡ epoch_at H g c) (shows : Shows S b H g c marks) where
  -- it is for what the definitions say
  target-is : target_over (words_of s.shape b) marks e s
      ≡ target_for S (words_of S.shape b) H g c (knows_before S b H sides F g c)
  unfolding client_knowing
  target-is =
      let w = words_of S.shape b in
      let r = knows_before S b H sides F g c in
      let same : shown_by marks w
      ≡ (λ log k. is_shown S.shape (read_over S w H g c) (w.hits log k)) =
      λ i log k. shows (w.hits log k) i
      in
      ap (λ (x : ClientState). target_over (words_of x.shape b) marks e x) was
      ∙ ap (λ (n : ℕ). target S.shape (shown_by marks w) (at_epoch n r)) epoch
      ∙ ap (λ (f : ℕ → ℕ → Bool). target S.shape f (at_epoch (epoch_at H g c) r)) same

  pub asked-are : asked s.shape b g s.number e (target_over (words_of s.shape b) marks e s)
      ≡ asked_in S b H sides F g c
  unfolding client_knowing
  asked-are =
      let t = target_for S (words_of S.shape b) H g c (knows_before S b H sides F g c) in
      ap (λ (x : Option Target). asked s.shape b g s.number e x) target-is
      ∙ ap (λ (x : ClientState). asked x.shape b g x.number e t) was
      ∙ ap (λ (n : ℕ). asked S.shape b g c n t) epoch

  pub open-is : opened g e (target_over (words_of s.shape b) marks e s) s
      ≡ client_open S b H sides F g c
  open-is =
      ap (λ (x : Option Target). opened g e x s) target-is
      ∙ ap₂ (λ (n : ℕ) (x : ClientState). opened g n
      (target_for S (words_of S.shape b) H g c (knows_before S b H sides F g c)) x) epoch was
