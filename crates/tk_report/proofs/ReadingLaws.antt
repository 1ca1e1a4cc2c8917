-- What a read over an epoch gives.
use Rattle.std.proofs.Common.{◌≡◌, refl, ap, sym, ◌∙◌, subst, arith, add-one}
use Rattle.std.proofs.Common.{ℕ, ◌+◌, ◌<◌, ◌≤◌, Bool, List, Option, Some, None}
use Rattle.std.specs.Prelude.{Result, Ok, Err, OnOk}
use Rattle.tk_shape.specs.declared.shape.Shape.{Shape}
use Rattle.tk_shape.specs.Lengths.{turn_count}
use Rattle.tk_schedule.specs.declared.history.History.{History}
use Rattle.tk_schedule.specs.Schedule.{IsLegal, epoch_at, phases_over}
use Rattle.tk_script.specs.declared.script.Script.{Script}
use Rattle.tk_words.specs.Words.{WordBook, BookWords, IsBook, words_of}
use Rattle.tk_frames.specs.Order.{Record, before}
use Rattle.tk_table.specs.Table.{layout, blocks_of}
use Rattle.tk_table.specs.Shown.{is_shown}
use Rattle.tk_client.specs.declared.target.Target.{Target}
use Rattle.tk_client.specs.Reader.{Reader, target, at_epoch, after_read}
use Rattle.tk_client.specs.Asked.{shown_by}
use Rattle.tk_client.specs.Looking.{FollowerState, text_for, after_look}
use Rattle.tk_report.specs.Clients.{follower_before}
use Rattle.tk_report.specs.Entries.{entries, write_at}
use Rattle.tk_report.specs.Ledgers.{IsLeftBy}
use Rattle.tk_report.specs.declared.marked.Marked.{Marked}
use Rattle.tk_report.specs.Report.{answered, reader_step, reader_before}
use Rattle.tk_report.specs.Turns.{placed_before}
use Rattle.tk_report.proofs.EpochLaws.{phases-next}
use Rattle.tk_report.proofs.StorableLaws.{one-mark}
use Rattle.tk_report.proofs.LaidOutLaws.{bytes-give-lookup}
use Rattle.tk_report.proofs.MarkedLaws.{before-over}

-- ---- the text of a target

text-answered : (S : Script) (b : WordBook) (H : History) (e : ℕ) (t : Option Target) →
    IsBook S.shape b → IsLegal S.shape H →
    let w = words_of S.shape b in
    let R = before (entries S w H) e in
    text_for S.shape w (blocks_of (layout S.shape R)) t ≡ answered S.shape w R t
text-answered S b H e None served legal = refl
text-answered S b H e (Some t) served legal = bytes-give-lookup S b H e t.log t.number served legal

-- ---- a reader

pub before-next : (S : Script) (w : BookWords) (H : History) (c g : ℕ) →
    reader_before S w H c (g + 1) ≡ reader_step S w H g c (reader_before S w H c g)
unfolding reader_before
before-next S w H c g = ap (reader_before S w H c) (add-one g)

-- the reader after a read over an epoch of a history
abbrev step_over : Script → BookWords → History → Reader → ℕ → Reader
step_over S w H r n =
    let R = before (entries S w H) n in
    let t = target S.shape (λ log s. is_shown S.shape R (w.hits log s)) (at_epoch n r) in
    after_read S.shape (at_epoch n r) t (answered S.shape w R t)

-- an epoch of a history
abbrev pub IsHeld : Script → WordBook → History → ℕ → Marked → Type 0
IsHeld S b H e held =
    IsLeftBy S.shape (before (entries S (words_of S.shape b) H) e) held

reader-next : (S : Script) (b : WordBook) (H : History) (g c e : ℕ) (held : Marked) →
    IsBook S.shape b → IsLegal S.shape H → IsHeld S b H e held → epoch_at H g c ≡ e →
    let w = words_of S.shape b in
    let now = at_epoch e (reader_before S w H c g) in
    let t = target S.shape (shown_by held.filter w) now in
    after_read S.shape now t (text_for S.shape w held.blocks.blocks t)
    ≡ reader_before S w H c (g + 1)
reader-next S b H g c e held served legal is epoch =
    let w = words_of S.shape b in
    let r = reader_before S w H c g in
    let now = at_epoch e r in
    let R = before (entries S w H) e in
    let t = target S.shape (shown_by held.filter w) now in
    let shows : shown_by held.filter w ≡ (λ log k. is_shown S.shape R (w.hits log k)) =
    λ i log k. is.shows (w.hits log k) i
    in
    ap (λ (blocks : List (List ℕ)). after_read S.shape now t (text_for S.shape w blocks t))
    is.blocks
    ∙ ap (after_read S.shape now t) (text-answered S b H e t served legal)
    ∙ ap (λ (f : ℕ → ℕ → Bool). after_read S.shape now (target S.shape f now)
    (answered S.shape w R (target S.shape f now))) shows
    ∙ ap (step_over S w H r) (sym epoch)
    ∙ sym (before-next S w H c g)

-- what the entries up to the end of a turn leave before a mark that was made by then
pub held-of : (S : Script) (b : WordBook) (H : History) (g e : ℕ) (held : Marked) →
    IsLegal S.shape H → g < turn_count S.shape → e ≤ phases_over S.shape (g + 1) →
    IsLeftBy S.shape (before (placed_before S (words_of S.shape b) H (g + 1)) e) held →
    IsHeld S b H e held
held-of S b H g e held legal within made is =
    let w = words_of S.shape b in
    subst (λ (R : List Record). IsLeftBy S.shape R held)
    (sym (before-over S.shape (write_at S w) H (g + 1) (turn_count S.shape) e legal
    (omega (arith, within)) (omega arith) made))
    is

-- a read is over the last epoch that was made by the end of its turn, or over the one before it
pub read-late : (shape : Shape) (H : History) (g c : ℕ) → IsLegal shape H → g < turn_count shape →
    c < shape.clients → phases_over shape (g + 1) ≤ epoch_at H g c + 1
read-late shape H g c legal within low =
    omega (
      arith,
      phases-next shape g,
      one-mark shape g,
      (legal.each_turn g within).newest_before c low,
    )

-- ---- one who looks

-- what a read over open buckets does
abbrev pub Looks : WordBook → ℕ → Marked → FollowerState → FollowerState → Type 0
Looks b e held old new =
    new ≡ after_look (words_of old.shape b) held.filter held.blocks.blocks e old

pub follower-next : (S : Script) (b : WordBook) (H : History) (g c e : ℕ) (held : Marked)
    (old new : FollowerState) → IsBook S.shape b → IsLegal S.shape H → IsHeld S b H e held →
    epoch_at H g c ≡ e → old ≡ follower_before S (words_of S.shape b) H g c →
    Looks b e held old new → new ≡ follower_before S (words_of S.shape b) H (g + 1) c
follower-next S b H g c e held old new served legal is epoch was looks =
    let w = words_of S.shape b in
    let follower = follower_before S w H g c in
    let then : Looks b e held follower new =
    subst (λ (k : FollowerState). Looks b e held k new) was looks
    in
    then
    ∙ ap (λ (r : Reader). looked S r) (reader-next S b H g c e held served legal is epoch)
  where
    looked : Script → Reader → FollowerState
    looked T r = record { shape = T.shape; reader = r }

-- ---- what holds where a call goes well

pub on-ok : {T E : Type 0} (r : Result T E) (P Q : Type 0) → (P → Q) → OnOk r P → OnOk r Q
on-ok (Ok x) P Q then holds = then holds
on-ok (Err e) P Q then holds = tt
