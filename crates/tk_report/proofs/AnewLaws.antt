-- Servers that are alike make the same run; so do those that begin anew from their own checkpoints.
use Rattle.std.proofs.Common.{◌≡◌, refl, ap, ap₂, sym, ◌∙◌, arith, inl, inr, ℕ, zero, suc, ◌+◌, ◌-◌, ◌<◌, ◌≤◌}
use Rattle.std.proofs.Common.{List, [], ◌∷◌, ◌++◌, length, map, drop, Bool, cond}
use Rattle.std.proofs.Common.{le-leb, append_assoc, append-nil, zero-add}
use Rattle.std.proofs.lemmas.Bool.{cases_lt, lt-leb}
use Rattle.std.proofs.lemmas.List.{drop_at}
use Rattle.std.specs.List.{range_with_len}
use Rattle.tk_shape.specs.Lengths.{turn_count}
use Rattle.tk_schedule.specs.declared.history.History.{History}
use Rattle.tk_schedule.specs.Schedule.{IsLegal, epoch_at}
use Rattle.tk_script.specs.declared.script.Script.{Script}
use Rattle.tk_script.specs.Sent.{unsent_count}
use Rattle.tk_words.specs.Words.{WordBook, BookWords, IsBook, words_of}
use Rattle.tk_frames.specs.declared.entry.Placed.{Placed}
use Rattle.tk_frames.specs.declared.read_frame.ReadFrame.{ReadFrame}
use Rattle.tk_frames.specs.declared.reply_frame.ReplyFrame.{ReplyFrame}
use Rattle.tk_frames.specs.Order.{before}
use Rattle.tk_frames.specs.Spelling.{read_frame, reply_frame}
use Rattle.tk_table.specs.Replies.{reply_to}
use Rattle.tk_table.specs.Shown.{is_shown}
use Rattle.tk_client.specs.Reader.{Reader, at_epoch, after_read, target, got_in}
use Rattle.tk_client.specs.Asked.{frame_for, pair_for}
use Rattle.tk_client.specs.Replies.{answer_in}
use Rattle.tk_report.specs.Entries.{write_at, entries_at, entries_before}
use Rattle.tk_report.specs.Report.{read_over, reader_before}
use Rattle.tk_report.specs.Turns.{placed_before}
use Rattle.tk_report.proofs.AgreementLaws.{turns-agree}
use Rattle.tk_report.proofs.LeavingLaws.{reports-agree}
use Rattle.tk_report.specs.Serving.{Serving, honest, reader_under, read_replied, got_under}
use Rattle.tk_report.specs.Anew.{Alike, AlikeRuns, held_anew, anew, AnewFromOwn}
use Rattle.tk_report.proofs.SoundReads.{all-made}
use Rattle.tk_report.proofs.ServingLaws.{honest-readers, honest-exchange, honest-report}

-- a client's read under what it is told and replied
module _ (S : Script) (b : WordBook) (H : History) (g c : ℕ) where
  abbrev asks : (ℕ → ℕ → Bool) → Reader → ℕ → ReadFrame
  asks shows r j =
      frame_for S.shape b g c (epoch_at H g c)
      (pair_for (words_of S.shape b) g c (target S.shape shows (at_epoch (epoch_at H g c) r))) j

  abbrev after : (ℕ → ℕ → Bool) → (ℕ → ReadFrame → ReplyFrame) → Reader → Reader
  after shows reply r =
      let t = target S.shape shows (at_epoch (epoch_at H g c) r) in
      after_read S.shape (at_epoch (epoch_at H g c) r) t
      (answer_in S.shape (words_of S.shape b)
      (map (λ j. reply j (asks shows r j)) (range_with_len 1 S.shape.servers)) t)

  abbrev replied : (ℕ → ℕ → Bool) → (ℕ → ReadFrame → ReplyFrame) → Reader → ℕ → List (List ℕ)
  replied shows reply r j = read_frame (asks shows r j) ∷ reply_frame (reply j (asks shows r j)) ∷ []

module _ (S : Script) (b : WordBook) (H : History) (V W : Serving) (alike : Alike S V W) where
  same-readers : (c g : ℕ) → c < S.shape.clients → g ≤ turn_count S.shape →
      reader_under S b H V c g ≡ reader_under S b H W c g
  unfolding reader_under
  same-readers c zero client_in within = refl
  same-readers c (suc g) client_in within =
      let turn_in : g < turn_count S.shape = omega (arith, within) in
      let shows = alike.shows g c turn_in client_in in
      let reply = alike.reply g c turn_in client_in in
      let reader = same-readers c g client_in (omega (arith, within)) in
      λ i. after S b H g c (shows i) (reply i) (reader i)

  same-read : (g c j : ℕ) → g < turn_count S.shape → c < S.shape.clients →
      read_replied S b H V j g c ≡ read_replied S b H W j g c
  same-read g c j turn_in client_in =
      let shows = alike.shows g c turn_in client_in in
      let reply = alike.reply g c turn_in client_in in
      let reader = same-readers c g client_in (omega (arith, turn_in)) in
      λ i. replied S b H g c (shows i) (reply i) (reader i) j

pub alike-runs : AlikeRuns
alike-runs S b H V W alike =
    let turns = turn_count S.shape in
    record {
      readers = same-readers S b H V W alike;
      exchange = λ j.
          turns-agree S b H H turns (read_replied S b H V j) (read_replied S b H W j) (λ k low. refl)
          (λ g c turn_in client_in. same-read S b H V W alike g c j turn_in client_in);
      report =
          reports-agree S H (got_under S b H V) (got_under S b H W) (unsent_count S) (unsent_count S)
          (λ c log client_in.
          ap (λ (r : Reader). got_in r.follows log)
          (same-readers S b H V W alike c turns client_in (omega arith)))
          (λ c client_in. refl);
    }

-- ---- servers that begin anew

-- entries of a later turn begin with those of an earlier one
pub more-entries : (S : Script) (w : BookWords) (H : History) (due k : ℕ) →
    (F : List Placed) × (placed_before S w H (k + due) ≡ placed_before S w H due ++ F)
unfolding entries_before
more-entries S w H due zero = (
  [],
  ap (placed_before S w H) (zero-add due) ∙ sym (append-nil (placed_before S w H due)),
)
more-entries S w H due (suc k) =
    let past = more-entries S w H due k in
    let E = placed_before S w H due in
    let now = entries_at (write_at S w) H (k + due) in
    let there : suc k + due ≡ suc (k + due) = omega arith in (
      past.0 ++ now,
      ap (placed_before S w H) there
          ∙ ap (λ (xs : List Placed). xs ++ now) past.1 ∙ append_assoc E past.0 now,
    )

-- what is given back, and what is taken since, is all
put-back : (E F all : List Placed) → all ≡ E ++ F → E ++ drop (length E) all ≡ all
put-back E F all is =
    ap (λ (xs : List Placed). E ++ drop (length E) xs) is
    ∙ ap (λ (xs : List Placed). E ++ xs) (drop_at E F (length E) refl) ∙ sym is

held-own : (S : Script) (w : BookWords) (H : History) (due j g : ℕ) (given : ℕ → List Placed) →
    ((i : ℕ) → given i ≡ placed_before S w H due) →
    held_anew S w H due given j g ≡ placed_before S w H (g + 1)
held-own S w H due j g given own =
    let all = placed_before S w H (g + 1) in
    let E = placed_before S w H due in
    let anew_or = λ (p : Bool) (xs : List Placed). cond p (xs ++ drop (length E) all) all in
    elim (cases_lt g due) [
      | inl later ↦ ap (λ (p : Bool). anew_or p (given j)) (lt-leb due g later)
      | inr earlier ↦
          let past = more-entries S w H due (g + 1 - due) in
          let there : g + 1 - due + due ≡ g + 1 = omega (arith, earlier) in
          ap₂ anew_or (le-leb due g (omega (arith, earlier))) (own j)
          ∙ put-back E past.0 all (sym (ap (placed_before S w H) there) ∙ past.1)
    ]

own-alike : (S : Script) (b : WordBook) (H : History) (due : ℕ) (given : ℕ → List Placed) →
    IsLegal S.shape H → ((i : ℕ) → given i ≡ placed_before S (words_of S.shape b) H due) →
    Alike S (anew S (words_of S.shape b) H due given) (honest S (words_of S.shape b) H)
own-alike S b H due given legal own =
    let w = words_of S.shape b in
    let over : (g c j : ℕ) → g < turn_count S.shape → c < S.shape.clients →
    before (held_anew S w H due given j g) (epoch_at H g c) ≡ read_over S w H g c =
    λ g c j turn_in client_in.
    ap (λ (E : List Placed). before E (epoch_at H g c)) (held-own S w H due j g given own)
    ∙ all-made S b H g legal turn_in c client_in
    in
    record {
      shows = λ g c turn_in client_in. λ i log s.
          is_shown S.shape (over g c 1 turn_in client_in i) (w.hits log s);
      reply = λ g c turn_in client_in. λ i j r.
          reply_to S.shape (over g c j turn_in client_in i) r;
    }

-- each client knows what it knows in the run
pub anew-readers : (S : Script) (b : WordBook) (H : History) (due : ℕ) (given : ℕ → List Placed)
    (c g : ℕ) → IsBook S.shape b → IsLegal S.shape H →
    ((i : ℕ) → given i ≡ placed_before S (words_of S.shape b) H due) →
    c < S.shape.clients → g ≤ turn_count S.shape →
    reader_under S b H (anew S (words_of S.shape b) H due given) c g
    ≡ reader_before S (words_of S.shape b) H c g
anew-readers S b H due given c g serves legal own client_in within =
    let w = words_of S.shape b in
    (alike-runs S b H (anew S w H due given) (honest S w H)
    (own-alike S b H due given legal own)).readers c g client_in within
    ∙ honest-readers S b H c g serves legal client_in within

pub anew-from-own : AnewFromOwn
anew-from-own S b H due j given serves legal own =
    let same = alike-runs S b H (anew S (words_of S.shape b) H due given)
    (honest S (words_of S.shape b) H) (own-alike S b H due given legal own)
    in (
      same.exchange j ∙ honest-exchange S b H j serves legal,
      same.report ∙ honest-report S b H serves legal,
    )
