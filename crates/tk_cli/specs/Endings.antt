-- How the top call ends.
use Rattle.std.specs.Prelude.{◌≡◌, ◌⊎◌, ℕ, List, [], ◌++◌, take, Option, None, Some}
use Rattle.tk_io.specs.Content.{Rose, gained, TakesUpTo}
use Rattle.tk_io.specs.Tapped.{TapsGain, TapsGainFronts, TapsKeep, TapsKeepBut}
use Rattle.tk_schedule.specs.declared.history.History.{History}
use Rattle.tk_schedule.specs.Schedule.{serial_history}
use Rattle.tk_script.specs.declared.input.Input.{Input}
use Rattle.tk_script.specs.declared.script.Script.{Script}
use Rattle.tk_script.specs.Book.{book_of}
use Rattle.tk_script.specs.Lifting.{lifted_script}
use Rattle.tk_script.specs.Printing.{printed, printed_tape}
use Rattle.tk_words.specs.Words.{WordBook, keyed, drawn, words_of}
use Rattle.tk_words.specs.Lifting.{lifted_book}
use Rattle.tk_report.specs.Report.{report}
use Rattle.tk_report.specs.Exchange.{exchange, view, bytes_of}
use Rattle.tk_relay.specs.Relayed.{relayed_exchange, seeds_of}
use Rattle.tk_privacy.specs.Privacy.{mirror}
use Rattle.tk_hostile.specs.Choice.{Choice}
use Rattle.tk_hostile.specs.Wrong.{wrong_mirror}
use Rattle.tk_report.specs.declared.outcome.Outcome.{Outcome}
use Rattle.tk_report.specs.Outcomes.{IsLeftBy}
use Rattle.tk_report.specs.Shown.{ShowsHistory}
use Rattle.tk_cluster.specs.Closings.{Ended as Closed}
use Rattle.tk_run.specs.Threads.{IsRun}
use Rattle.tk_cli.specs.Limits.{input_limit}
use Rattle.tk_cli.specs.declared.request.Request.{Request}
use Rattle.tk_cli.specs.declared.request.Request.TheVariants as request
use Rattle.tk_cli.specs.declared.status.Status.{Status}
use Rattle.tk_cli.specs.declared.status.Status.TheVariants as status
use Rattle.tk_cli.specs.declared.ended.Ended.{Ended}
use Rattle.tk_cli.specs.Handles.{hex_lines}
use Rattle.tk_cli.specs.Chosen.{chosen}
use Rattle.tk_cli.specs.Puts.{PutsSome}
use Rattle.tk_cli.specs.Texts.{IsTextOf}
use Rattle.tk_cli.specs.Inputs.{ReadsWhole, IsDoneWith, IsHistoryFor, Stops, form_of, kept_in, refusal_of}
use Rattle.tk_cli.specs.Outside.{Outside, IsUnread, IsUnwritten, IsUntapped, NoCountFalls, outside}

-- ---- what a request gives

-- the report of an input's run, and what server j sees of it
abbrev pub report_in : Input → History → List ℕ
report_in input H = report input.first (book_of input) H

abbrev pub seen_in : Input → History → ℕ → List ℕ
seen_in input H j = bytes_of (exchange input.first (book_of input) H j)

-- the same where its reads go by way of server 1
abbrev pub relayed_in : Input → History → ℕ → List ℕ
relayed_in input H j =
    let b = book_of input in
    bytes_of (relayed_exchange input.first b (seeds_of b) H j)

-- so of the serial run of a script
abbrev pub relayed_sight : Script → WordBook → ℕ → List ℕ
relayed_sight S b j = bytes_of (relayed_exchange S b (seeds_of b) (serial_history S.shape) j)

-- the frames that a server sees of it, one a line
abbrev pub view_in : ℕ → Input → History → List ℕ
view_in server input H = hex_lines (view input.first (book_of input) H server)

-- the tape over which the second script shows the same to all servers but one
abbrev pub mirror_of : ℕ → Script → Option Script → History → List ℕ → List ℕ
mirror_of hidden A None H tape = []
mirror_of hidden A (Some B) H tape = printed_tape (mirror A B H hidden tape)

-- the same where the servers reply so
abbrev pub wrong_of : ℕ → Script → Option Script → History → Choice → List ℕ → List ℕ
wrong_of hidden A None H F tape = []
wrong_of hidden A (Some B) H F tape = printed_tape (wrong_mirror A B H hidden F tape)

-- a script, and the tape of a drawn one
abbrev pub tape_section : WordBook → List ℕ
tape_section (keyed handles seeds) = []
tape_section (drawn tape) = printed_tape tape

abbrev pub sections_of : Option Script → WordBook → List ℕ
sections_of None b = []
sections_of (Some S) b = printed S ++ tape_section b

-- the sections of a script in format 2 and of its book
abbrev pub lifted_in : Input → List ℕ
lifted_in input = sections_of (lifted_script input.first) (lifted_book input.first.shape (book_of input))

-- the text is the section of a script in format 2
pub record IsLiftedText (S : Script) (text : List ℕ) : Type 0 where
  pub script : Script
  pub lifted : lifted_script S ≡ Some script
  pub is : text ≡ printed script

-- what the sink gains
abbrev pub output_of : Request → Input → History → List ℕ
output_of request.Serial input H = report_in input H
output_of request.Relay input H = report_in input H
output_of (request.Resume epoch) input H = report_in input H
output_of (request.Run workers shards) input H = report_in input H
output_of (request.View server) input H = view_in server input H
output_of (request.Mirror hidden) input H =
    mirror_of hidden input.first input.second H (kept_in input.tape)
output_of (request.Wrong hidden) input H =
    wrong_of hidden input.first input.second H (chosen input.first.shape input.replies)
    (kept_in input.tape)
output_of request.Lift input H = lifted_in input
output_of _ input H = []

-- nothing refuses the input, and this text is what a request gives of it
pub record IsTextFor (r : Request) (input : Input) (text : List ℕ) : Type 0 where
  pub history : History
  pub accepted : refusal_of r input ≡ None
  pub due : IsHistoryFor r input history
  pub made : text ≡ output_of r input history

-- all was taken, and the text is the answer to the input that it spells
pub record IsAnswered (r : Request) (left left' : Option (List ℕ)) (text : List ℕ) : Type 0 where
  pub input : Input
  pub read : ReadsWhole (form_of r) left left' input
  pub answer : IsTextFor r input text

-- what the taps gain: what each server sees, and no other tap anything
pub record TapsSee (input : Input) (seen : ℕ → List ℕ) (old new : Outside) : Type 0 where
  pub gained : TapsGain input.first.shape.servers seen old.tap new.tap
  pub others : TapsKeepBut input.first.shape.servers old.tap new.tap

-- or fronts of it
pub record TapsSeeFronts (input : Input) (seen : ℕ → List ℕ) (old new : Outside) : Type 0 where
  pub gained : TapsGainFronts input.first.shape.servers seen old.tap new.tap
  pub others : TapsKeepBut input.first.shape.servers old.tap new.tap

abbrev pub TapsGainAll : Request → Input → History → Outside → Outside → Type 0
TapsGainAll request.Serial input H old new = TapsSee input (seen_in input H) old new
TapsGainAll request.Relay input H old new = TapsSee input (relayed_in input H) old new
TapsGainAll (request.Resume epoch) input H old new = TapsSee input (seen_in input H) old new
TapsGainAll (request.Run workers shards) input H old new = TapsSee input (seen_in input H) old new
TapsGainAll _ input H old new = Unit {0}

abbrev pub TapsGainSome : Request → Input → History → Outside → Outside → Type 0
TapsGainSome request.Serial input H old new = TapsSeeFronts input (seen_in input H) old new
TapsGainSome request.Relay input H old new = TapsSeeFronts input (relayed_in input H) old new
TapsGainSome (request.Resume epoch) input H old new = TapsSeeFronts input (seen_in input H) old new
TapsGainSome (request.Run workers shards) input H old new =
    TapsSeeFronts input (seen_in input H) old new
TapsGainSome _ input H old new = ⊥

-- nothing is handed back
pub record HandsNothing (e : Ended) : Type 0 where
  pub outcome : e.outcome ≡ None
  pub closed : e.closed ≡ None

-- this is handed back where all is done, and nothing else
abbrev pub HandsAs : Status → Ended → Outcome → Option Closed → Type 0
HandsAs status.Done e o c = (e.outcome ≡ Some o) × (e.closed ≡ c)
HandsAs _ e o c = HandsNothing e

-- what the serial run of an input left
pub record HandsSerial (input : Input) (H : History) (e : Ended) : Type 0 where
  pub outcome : Outcome
  pub handed : e.outcome ≡ Some outcome
  pub left : IsLeftBy input.first (words_of input.first.shape (book_of input)) H outcome
  pub closed : e.closed ≡ None

-- What its run with this history left, and what the cluster had; and the report, as it was written,
-- shows this history.
pub record HandsRun (input : Input) (H : History) (e : Ended) : Type 0 where
  pub outcome : Outcome
  pub closed : Closed
  pub handed : e.outcome ≡ Some outcome
  pub handed_closed : e.closed ≡ Some closed
  pub run : IsRun input.first (book_of input) H (outcome, closed)
  pub shown : ShowsHistory input.first.shape (report_in input H) H

abbrev pub HandsBack : Request → Input → History → Ended → Type 0
HandsBack request.Serial input H e = HandsSerial input H e
HandsBack request.Relay input H e = HandsSerial input H e
HandsBack (request.Resume epoch) input H e = HandsSerial input H e
HandsBack (request.Run workers shards) input H e = HandsRun input H e
HandsBack _ input H e = HandsNothing e

-- ---- how a request ends that reads an input

pub record Does (r : Request) (e : Ended) (old new : Outside) : Type 0 where
  pub input : Input
  pub history : History
  pub due : IsDoneWith r old.left new.left input history
  pub written : new.held ≡ gained old.held (output_of r input history)
  pub taps : TapsGainAll r input history old new
  pub handed : HandsBack r input history e

-- the sink failed
pub record FailsInSink (r : Request) (old new : Outside) : Type 0 where
  pub input : Input
  pub history : History
  pub due : IsDoneWith r old.left new.left input history
  pub front : ℕ
  pub written : new.held ≡ gained old.held (take front (output_of r input history))
  pub rose : Rose old.sink_faults new.sink_faults
  pub taps : TapsGainAll r input history old new

-- the taps gained fronts of what they would gain
pub record StopsInTaps (r : Request) (old new : Outside) : Type 0 where
  pub input : Input
  pub history : History
  pub due : IsDoneWith r old.left new.left input history
  pub taps : TapsGainSome r input history old new

-- a tap failed
pub record FailsInTaps (r : Request) (old new : Outside) : Type 0 where
  pub stopped : StopsInTaps r old new
  pub unwritten : IsUnwritten old new
  pub rose : Rose old.tap_faults new.tap_faults

-- nothing is handed back, and neither the sink nor a tap was touched
pub record TouchesNothing (e : Ended) (old new : Outside) : Type 0 where
  pub handed : HandsNothing e
  pub unwritten : IsUnwritten old new
  pub untapped : IsUntapped old new

abbrev pub EndsWith : Status → Request → Ended → Outside → Outside → Type 0
EndsWith status.Done r e old new = Does r e old new
EndsWith status.Memory r e old new =
    HandsNothing e × IsUnwritten old new × (StopsInTaps r old new ⊎ TapsKeep old.tap new.tap)
EndsWith status.Write r e old new =
    HandsNothing e × (FailsInSink r old new ⊎ FailsInTaps r old new)
EndsWith s r e old new =
    Stops r s old.left new.left old.source_faults new.source_faults × TouchesNothing e old new

-- ---- how a request ends that reads nothing

-- it writes a text that is one of the request, and hands nothing back
abbrev pub WritesText : Request → Ended → Outside → Outside → Type 0
WritesText r e old new = HandsNothing e
    × PutsSome (IsTextOf r) e.status old.held new.held old.sink_faults new.sink_faults

-- ---- how each request ends

-- the source is left alone
abbrev pub LeavesSource : Request → Type 0
LeavesSource (request.Handle id root) = Unit {0}
LeavesSource (request.Make n) = Unit {0}
LeavesSource (request.Tally n) = Unit {0}
LeavesSource request.Nothing = Unit {0}
LeavesSource _ = ⊥

-- the taps are left alone
abbrev pub LeavesTaps : Request → Type 0
LeavesTaps request.Serial = ⊥
LeavesTaps request.Relay = ⊥
LeavesTaps (request.Resume epoch) = ⊥
LeavesTaps (request.Run workers shards) = ⊥
LeavesTaps _ = Unit {0}

-- it ends with this status, with which nothing else comes
pub record IsOnly (s : Status) (e : Ended) (old new : Outside) : Type 0 where
  pub status : e.status ≡ s
  pub quiet : TouchesNothing e old new

abbrev pub HowEnds : Request → Ended → Outside → Outside → Type 0
HowEnds (request.Handle id root) e old new = WritesText (request.Handle id root) e old new
HowEnds (request.Make n) e old new = WritesText (request.Make n) e old new
HowEnds (request.Tally n) e old new = WritesText (request.Tally n) e old new
HowEnds request.Nothing e old new = IsOnly status.Usage e old new
HowEnds r e old new = EndsWith e.status r e old new

-- How a request ends. It is too long exactly where more than the limit was taken.
pub record Ends (r : Request) (e : Ended) (old new : Outside) : Type 0 where
  pub taken : (taken : List ℕ)
      × TakesUpTo input_limit old.left new.left (e.status ≡ status.TooLong) taken
  pub counts : NoCountFalls old new
  pub unread : LeavesSource r → IsUnread old new
  pub untapped : LeavesTaps r → IsUntapped old new
  pub how : HowEnds r e old new

-- so between a source, a sink and taps before and after, by what each tells
module _ {S K T : Type 0} (r : Request) (e : Ended) (left : S → Option (List ℕ)) (faults : S → ℕ)
    (held : K → Option (List ℕ)) (sink_faults : K → ℕ) (tap : T → ℕ → Option (List ℕ))
    (tap_faults : T → ℕ) where
  abbrev pub EndsFromTo : S → K → T → S → K → T → Type 0
  EndsFromTo s k t s' k' t' =
      Ends r e (outside (left s) (faults s) (held k) (sink_faults k) (tap t) (tap_faults t))
      (outside (left s') (faults s') (held k') (sink_faults k') (tap t') (tap_faults t'))
