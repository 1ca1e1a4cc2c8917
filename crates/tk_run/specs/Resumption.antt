-- Plays in which servers begin anew before a turn, each from what it is given, and how calls end that play them.
use Rattle.std.specs.Prelude.{◌≡◌, ℕ, ◌*◌, ◌≤◌, List, ◌++◌, Option, Some, Result, IfOk, IfErr, OnOk, OnErr}
use Rattle.tk_io.specs.Tapped.{TapsGain, TapsGainFronts}
use Rattle.tk_shape.specs.Lengths.{turn_count}
use Rattle.tk_schedule.specs.declared.history.History.{History}
use Rattle.tk_schedule.specs.Schedule.{serial_history}
use Rattle.tk_script.specs.declared.script.Script.{Script}
use Rattle.tk_words.specs.Words.{WordBook}
use Rattle.tk_frames.specs.declared.entry.Placed.{Placed}
use Rattle.tk_report.specs.declared.plan.Plan.{Plan}
use Rattle.tk_report.specs.Exchange.{bytes_of}
use Rattle.tk_report.specs.Serving.{exchange_under}
use Rattle.tk_run.specs.declared.ended.Ended.{Ended}
use Rattle.tk_run.specs.declared.resume_error.ResumeError.{ResumeError}
use Rattle.tk_run.specs.declared.resume_error.ResumeError.TheVariants as resume
use Rattle.tk_run.specs.declared.run.Run.{Run}
use Rattle.tk_run.specs.Keeping.{AreAccepted, AreGiven, BeginFrom, HasRefused, HaveAccepted, IsEndUnder}
use Rattle.tk_run.specs.Keeping.{begun_anew, held_now, kept_up_to, saved_before, turn_due}
use Rattle.tk_run.specs.Plays.{PlayedScript, played_before, play_of, words_played}
use Rattle.tk_run.specs.Servers.{nothing_seen}
use Rattle.tk_run.specs.Under.{IsRunUnder}

-- a play, and the turn before which its servers begin anew, where one is due
pub record Resumed : Type 0 where
  pub play : PlayedScript
  pub due : Option ℕ

abbrev pub resumed_at : Script → WordBook → History → Option ℕ → Resumed
resumed_at S b H due = record { play = record { script = S; book = b; history = H }; due = due }

-- that of a plan
abbrev pub anew_of : {D : Type 0} {draws : _} → Plan D draws → Option ℕ → Resumed
anew_of plan due = record { play = play_of plan; due = due }

-- the serial play, once the turn has ended in which the mark of an epoch is ordered
abbrev pub resumed_after : Script → WordBook → ℕ → Resumed
resumed_after S b epoch = resumed_at S b (serial_history S.shape) (Some (epoch * S.shape.ticks))

-- its turns, and the one before which servers begin anew; one behind the end where none is due
abbrev pub turns_in : Resumed → ℕ
turns_in R = turn_count R.play.script.shape

abbrev pub due_in : Resumed → ℕ
due_in R = turn_due R.play.script R.due

-- ---- what is kept

-- what is kept up to a turn, and by the end
abbrev pub kept_by : Resumed → ℕ → List (List ℕ)
kept_by R g = kept_up_to R.due (saved_before R.play.script R.play.book R.play.history) g

abbrev pub kept_in_all : Resumed → List (List ℕ)
kept_in_all R = kept_by R (turns_in R)

-- the checkpoint that the serial play is resumed from
abbrev pub serial_saved : Script → WordBook → ℕ → List ℕ
serial_saved S b epoch = saved_before S b (serial_history S.shape) (epoch * S.shape.ticks)

-- where this is kept before the first turn, behind what was kept first
abbrev pub OnceOpen : Resumed → List (List ℕ) → (List (List ℕ) → Type 0) → Type 0
OnceOpen R kept says = (first : List (List ℕ)) → kept ≡ first ++ kept_by R 0 → says first

-- ---- what servers accept

-- how a call ends that a server refuses to go on from, or a tap
abbrev pub IfRefused : {X : Type 0} → Result X ResumeError → Type 0 → Type 0
IfRefused result P = IfErr result (λ e. e ≡ resume.Refused → P)

abbrev pub IfTapFails : {X : Type 0} → Result X ResumeError → Type 0 → Type 0
IfTapFails result P = IfErr result (λ e. e ≡ resume.Taps → P)

-- each server accepts what it is given
abbrev pub AllAccept : Resumed → (ℕ → List ℕ) → Type 0
AllAccept R gives = AreAccepted R.play.script.shape (played_before R.play (due_in R)) gives

-- one refuses what a keeper gives it that first kept this, or all have accepted that
module _ {K : Type 0} (R : Resumed) (first : List (List ℕ)) (kept : K → List (List ℕ))
    (gives : K → ℕ → List ℕ) (keeper : K) where
  abbrev pub RefusedSince : Type 0
  RefusedSince =
      HasRefused R.play.script R.play.book R.play.history (due_in R) first (kept keeper)
      (gives keeper)

  abbrev pub AcceptedSince : Type 0
  AcceptedSince =
      HaveAccepted R.play.script R.play.book R.play.history (due_in R) first (kept keeper)
      (gives keeper)

-- ---- what the run is, whatever entries each server is given the checkpoint of

-- as it stands before turn g
abbrev pub IsRunAnew : Resumed → (ℕ → List Placed) → ℕ → Run → Type 0
IsRunAnew R given g run =
    let P = R.play in
    IsRunUnder P.script P.book P.history (begun_anew P.script P.book P.history (due_in R) given) g
    (held_now P.script (words_played P) P.history (due_in R) given g) nothing_seen run

-- as it stands behind its last turn, and what is left of it
abbrev pub IsLastAnew : Resumed → (ℕ → List Placed) → Run → Type 0
IsLastAnew R given run = IsRunAnew R given (turns_in R) run

abbrev pub IsEndAnew : Resumed → (ℕ → List Placed) → Ended → Type 0
IsEndAnew R given end =
    let P = R.play in
    IsEndUnder P.script P.book P.history (begun_anew P.script P.book P.history (due_in R) given)
    (held_now P.script (words_played P) P.history (due_in R) given (turns_in R) 1) end

-- what server j sees of it
abbrev pub sight_anew : Resumed → (ℕ → List Placed) → ℕ → List ℕ
sight_anew R given j =
    let P = R.play in
    bytes_of (exchange_under P.script P.book P.history
    (begun_anew P.script P.book P.history (due_in R) given) j)

-- each tap gained that, or a front of it
module _ {T : Type 0} (R : Resumed) (given : ℕ → List Placed) (tap : T → ℕ → Option (List ℕ))
    (old new : T) where
  abbrev pub TapsGainAnew : Type 0
  TapsGainAnew = TapsGain R.play.script.shape.servers (sight_anew R given) (tap old) (tap new)

  abbrev pub TapsGainFrontsAnew : Type 0
  TapsGainFrontsAnew =
      TapsGainFronts R.play.script.shape.servers (sight_anew R given) (tap old) (tap new)

-- where they were given it by turn g, or by the end
abbrev pub GivenBy : Resumed → ℕ → (ℕ → List ℕ) → ((ℕ → List Placed) → Type 0) → Type 0
GivenBy R g gives says =
    (given : ℕ → List Placed) →
    (due_in R ≤ g → AreGiven R.play.script.shape (played_before R.play (due_in R)) gives given) →
    says given

abbrev pub GivenInAll : Resumed → (ℕ → List ℕ) → ((ℕ → List Placed) → Type 0) → Type 0
GivenInAll R gives says = GivenBy R (turns_in R) gives says

-- how a call ends whose keeper first kept this and gives them it
module _ {K : Type 0} (R : Resumed) (first : List (List ℕ)) (kept : K → List (List ℕ))
    (gives : K → ℕ → List ℕ) (keeper : K) where
  abbrev pub FromGiven : ((ℕ → List Placed) → Type 0) → Type 0
  FromGiven says =
      (given : ℕ → List Placed) →
      BeginFrom R.play.script R.play.book R.play.history (due_in R) first (kept keeper)
      (gives keeper) given →
      says given

  abbrev pub RunsAnew : {E : Type 0} → Result Run E → Type 0
  RunsAnew result = FromGiven (λ given. IfOk result (IsLastAnew R given))

  abbrev pub EndsAnew : {E : Type 0} → Result Ended E → Type 0
  EndsAnew result = FromGiven (λ given. IfOk result (IsEndAnew R given))

  abbrev pub GainsAnew :
      {T X E : Type 0} → Result X E → (T → ℕ → Option (List ℕ)) → T → T → Type 0
  GainsAnew result tap old new =
      FromGiven (λ given. OnOk result (TapsGainAnew R given tap old new))

  abbrev pub FrontsAnew :
      {T X E : Type 0} → Result X E → (T → ℕ → Option (List ℕ)) → T → T → Type 0
  FrontsAnew result tap old new =
      FromGiven (λ given. OnErr result (TapsGainFrontsAnew R given tap old new))

-- in each play of a script
abbrev pub InEachPlay : Script → Option ℕ → (Resumed → Type 0) → Type 0
InEachPlay S due says = (b : WordBook) (H : History) → says (resumed_at S b H due)
