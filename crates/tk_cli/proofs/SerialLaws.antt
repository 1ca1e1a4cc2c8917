-- How a request ends that is done by a serial run.
use Rattle.std.proofs.Common.{◌≡◌, ◌∙◌, refl, ℕ, List, Option}
use Rattle.std.specs.Prelude.{None, Result, Ok, Err, IfOk, IfErr, OnOk, OnErr}
use Rattle.tk_io.specs.Content.{Rose}
use Rattle.tk_io.specs.Tapped.{TapsGain, TapsGainFronts, TapsKeepBut}
use Rattle.tk_io.proofs.Offers.{fronts-of_all}
use Rattle.tk_schedule.specs.declared.history.History.{History}
use Rattle.tk_schedule.specs.Schedule.{serial_history}
use Rattle.tk_script.specs.declared.form.Form.{Form}
use Rattle.tk_script.specs.declared.input.Input.{Input}
use Rattle.tk_script.specs.declared.script.Script.{Script}
use Rattle.tk_script.specs.Book.{book_of}
use Rattle.tk_words.specs.declared.book.Book.{Book}
use Rattle.tk_words.specs.Book.{words_in}
use Rattle.tk_words.specs.Words.{WordBook, words_of}
use Rattle.tk_report.specs.declared.outcome.Outcome.{Outcome}
use Rattle.tk_report.specs.Outcomes.{IsLeftBy, OutcomesReport, outcome_text}
use Rattle.tk_run.specs.Plays.{serial_sight}
use Rattle.tk_run.specs.declared.run_error.RunError.{RunError}
use Rattle.tk_run.specs.declared.run_error.RunError.TheVariants as run_error
use Rattle.tk_cli.specs.declared.request.Request.{Request}
use Rattle.tk_cli.specs.declared.request.Request.TheVariants as request
use Rattle.tk_cli.specs.declared.ended.Ended.{Ended}
use Rattle.tk_cli.specs.Errors.{run_status}
use Rattle.tk_cli.specs.Puts.{PutsText, PutsNothing}
use Rattle.tk_cli.specs.Inputs.{IsDoneWith, HasScript}
use Rattle.tk_cli.specs.Outside.{Outside, NoCountFalls}
use Rattle.tk_cli.specs.Endings.{report_in, output_of, TapsSee, TapsSeeFronts, TapsGainAll, TapsGainSome}
use Rattle.tk_cli.specs.Endings.{HandsNothing, HandsAs, HandsSerial, HandsBack, LeavesTaps, Ends, relayed_sight}
use Rattle.tk_cli.proofs.EndingLaws.{told}
use Rattle.tk_cli.proofs.WordLaws.{ReadsInput, Taken, IsOverOk, serial-reads, relay-reads, resume-reads}
use Rattle.tk_cli.proofs.WordLaws.{run-early, run-told, as-input}

-- what a server sees of a serial run, of a script with the words of a book
abbrev pub Seen : Type 0
Seen = Script → WordBook → ℕ → List ℕ

-- what a serial run left, and what the taps gained
pub record IsSerialRun (seen : Seen) (S : Script) (b : WordBook) (left : Result Outcome RunError)
    (old new : ℕ → Option (List ℕ)) : Type 0 where
  pub left_by : IfOk left (IsLeftBy S (words_of S.shape b) (serial_history S.shape))
  pub ok : OnOk left (TapsGain S.shape.servers (seen S b) old new)
  pub err : OnErr left (TapsGainFronts S.shape.servers (seen S b) old new)
  pub others : TapsKeepBut S.shape.servers old new

-- a request that is done by such a run
pub record RunsSerially (r : Request) (seen : Seen) : Type 0 where
  pub reads : ReadsInput r
  pub taps : ¬ LeavesTaps r
  pub output : (input : Input) (H : History) → report_in input H ≡ output_of r input H
  pub all : (input : Input) (old new : Outside) →
      TapsSee input (seen input.first (book_of input)) old new →
      TapsGainAll r input (serial_history input.first.shape) old new
  pub some : (input : Input) (old new : Outside) →
      TapsSeeFronts input (seen input.first (book_of input)) old new →
      TapsGainSome r input (serial_history input.first.shape) old new
  pub back : (input : Input) (H : History) (e : Ended) → HandsSerial input H e →
      HandsBack r input H e

pub serial-runs : RunsSerially request.Serial serial_sight
serial-runs = record {
  reads = serial-reads;
  taps = λ no. no;
  output = λ input H. refl;
  all = λ input old new see. see;
  some = λ input old new see. see;
  back = λ input H e hands. hands;
}

pub relay-runs : RunsSerially request.Relay relayed_sight
relay-runs = record {
  reads = relay-reads;
  taps = λ no. no;
  output = λ input H. refl;
  all = λ input old new see. see;
  some = λ input old new see. see;
  back = λ input H e hands. hands;
}

pub resume-runs : (epoch : ℕ) → RunsSerially (request.Resume epoch) serial_sight
resume-runs epoch = record {
  reads = resume-reads epoch;
  taps = λ no. no;
  output = λ input H. refl;
  all = λ input old new see. see;
  some = λ input old new see. see;
  back = λ input H e hands. hands;
}

-- how the report of what was left was told, or why there was none
pub record IsTold (left : Result Outcome RunError) (e : Ended) (old new : Outside) : Type 0 where
  pub puts : IfOk left (λ o.
      PutsText e.status (outcome_text o) old.held new.held old.sink_faults new.sink_faults)
  pub handed : IfOk left (λ o. HandsAs e.status e o None)
  pub status : IfErr left (λ error. e.status ≡ run_status error)
  pub nothing : IfErr left (λ error. HandsNothing e)
  pub quiet : IfErr left (λ error.
      PutsNothing old.held new.held old.sink_faults new.sink_faults)

module _ (r : Request) (seen : Seen) (runs : RunsSerially r seen) (e : Ended) (old new : Outside)
    (counts : NoCountFalls old new) (reports : OutcomesReport) {X : Type 0} (x : X)
    (taken : Taken (IsOverOk x) old.left new.left) (input : Input)
    (due : IsDoneWith r old.left new.left input (serial_history input.first.shape)) where
  was-left : (left : Result Outcome RunError) →
      IsSerialRun seen input.first (book_of input) left old.tap new.tap → IsTold left e old new →
      IfErr left (λ error. error ≡ run_error.Taps → Rose old.tap_faults new.tap_faults) →
      Ends r e old new
  was-left (Ok o) run tells rose =
      let S = input.first in
      let H = serial_history S.shape in
      run-told r runs.reads e old new counts x taken runs.taps (outcome_text o)
      (told r e old new input H (outcome_text o) o None due
      (runs.all input old new (record { gained = run.ok; others = run.others }))
      (runs.some input old new (record {
        gained = fronts-of_all S.shape.servers (seen S (book_of input)) old.tap new.tap run.ok;
        others = run.others;
      }))
      (reports S (words_of S.shape (book_of input)) H o run.left_by ∙ runs.output input H)
      (λ handed closed. runs.back input H e
      (record { outcome = o; handed = handed; left = run.left_by; closed = closed }))
      e.status tells.puts tells.handed)
      tells.puts
  was-left (Err error) run tells rose =
      run-early r runs.reads e old new counts x taken runs.taps error tells.status tells.nothing
      (record { held = tells.quiet.same; faults = tells.quiet.none })
      (record {
        input = input;
        history = serial_history input.first.shape;
        due = due;
        taps = runs.some input old new (record { gained = run.err; others = run.others });
      })
      rose

-- of an input that was had
pub serial-ends : (r : Request) (seen : Seen) → RunsSerially r seen → (e : Ended)
    (old new : Outside) → NoCountFalls old new → OutcomesReport → {X : Type 0} (x : X) →
    Taken (IsOverOk x) old.left new.left → (f : Form) (script : Script) (book : Book)
    (ready : HasScript f old.left new.left script book) →
    IsDoneWith r old.left new.left ready.input (serial_history ready.input.first.shape) →
    (left : Result Outcome RunError) →
    IsSerialRun seen script (words_in book) left old.tap new.tap → IsTold left e old new →
    IfErr left (λ error. error ≡ run_error.Taps → Rose old.tap_faults new.tap_faults) →
    Ends r e old new
serial-ends r seen runs e old new counts reports x taken f script book ready due left run tells rose =
    was-left r seen runs e old new counts reports x taken ready.input due left
    (as-input f old.left new.left script book ready
    (λ (S : Script) (b : WordBook). IsSerialRun seen S b left old.tap new.tap) run)
    tells rose
