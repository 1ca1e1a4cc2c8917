-- How a request ends.
use Rattle.std.proofs.Common.{◌≡◌, ◌∙◌, ◌↔◌, refl, ap, subst, inl, inr, ℕ, List, take, Option, Some}
use Rattle.tk_io.specs.Content.{gained}
use Rattle.tk_schedule.specs.declared.history.History.{History}
use Rattle.tk_script.specs.declared.input.Input.{Input}
use Rattle.tk_report.specs.declared.outcome.Outcome.{Outcome}
use Rattle.tk_cluster.specs.Closings.{Ended as Closed}
use Rattle.tk_run.specs.declared.run_error.RunError.{RunError}
use Rattle.tk_run.specs.declared.run_error.RunError.TheVariants as run_error
use Rattle.tk_cli.specs.declared.request.Request.{Request}
use Rattle.tk_cli.specs.declared.request.Request.TheVariants as request
use Rattle.tk_cli.specs.declared.status.Status.{Status}
use Rattle.tk_cli.specs.declared.status.Status.TheVariants as status
use Rattle.tk_cli.specs.declared.ended.Ended.{Ended}
use Rattle.tk_cli.specs.Errors.{run_status}
use Rattle.tk_cli.specs.Puts.{PutsText, PutsSome}
use Rattle.tk_cli.specs.Texts.{IsTextOf}
use Rattle.tk_cli.specs.Requests.{Words, Asks, AsksNothing}
use Rattle.tk_cli.proofs.RequestLaws.{asks-one}
use Rattle.tk_cli.specs.Inputs.{IsDoneWith, Stops}
use Rattle.tk_cli.specs.Outside.{Outside, IsUnwritten, IsUntapped}
use Rattle.tk_cli.specs.Endings.{output_of, TapsGainAll, TapsGainSome, IsAnswered, HandsNothing, HandsAs, HandsBack}
use Rattle.tk_cli.specs.Endings.{StopsInTaps, FailsInTaps, TouchesNothing, EndsWith, Ends}

-- an input wasn't had
pub stopped : (s : Status) (r : Request) (e : Ended) (old new : Outside) →
    Stops r s old.left new.left old.source_faults new.source_faults → TouchesNothing e old new →
    EndsWith s r e old new
stopped status.Done r e old new stops quiet = absurd stops
stopped status.Memory r e old new stops quiet =
    (quiet.handed, quiet.unwritten, inr quiet.untapped.tap)
stopped status.Usage r e old new stops quiet = absurd stops
stopped (status.Script line c) r e old new stops quiet = (stops, quiet)
stopped status.Read r e old new stops quiet = (stops, quiet)
stopped status.Write r e old new stops quiet = absurd stops
stopped status.TooLong r e old new stops quiet = (stops, quiet)
stopped s r e old new stops quiet = (stops, quiet)

-- a run stopped, of which the taps may have fronts
pub run_stopped : (error : RunError) (r : Request) (e : Ended) (old new : Outside) →
    HandsNothing e → IsUnwritten old new → StopsInTaps r old new →
    (error ≡ run_error.Taps → FailsInTaps r old new) →
    EndsWith (run_status error) r e old new
run_stopped run_error.Taps r e old new nothing unwritten stops fails =
    (nothing, inr (fails refl))
run_stopped run_error.Memory r e old new nothing unwritten stops fails =
    (nothing, unwritten, inl stops)

-- what was done was told to the sink, or a front of it, or nothing
module _ (r : Request) (e : Ended) (old new : Outside) (input : Input) (H : History)
    (text : List ℕ) (o : Outcome) (closed : Option Closed)
    (due : IsDoneWith r old.left new.left input H)
    (all : TapsGainAll r input H old new) (some : TapsGainSome r input H old new)
    (is : text ≡ output_of r input H)
    (back : e.outcome ≡ Some o → e.closed ≡ closed → HandsBack r input H e) where
  pub told : (s : Status) →
      PutsText s text old.held new.held old.sink_faults new.sink_faults → HandsAs s e o closed →
      EndsWith s r e old new
  told status.Done puts hands = record {
    input = input;
    history = H;
    due = due;
    written = puts ∙ ap (λ t. gained old.held t) is;
    taps = all;
    handed = back hands.0 hands.1;
  }
  told status.Write puts hands = (
    hands,
    inl record {
      input = input;
      history = H;
      due = due;
      front = puts.front;
      written = puts.written ∙ ap (λ t. gained old.held (take puts.front t)) is;
      rose = puts.rose;
      taps = all;
    },
  )
  told status.Memory puts hands = (
    hands,
    record { held = puts.same; faults = puts.none },
    inl record { input = input; history = H; due = due; taps = some },
  )
  told _ puts hands = absurd puts

-- ---- a text that is made without a run

-- it is one that leaves the taps alone and hands nothing back
pub record IsPlain (r : Request) (old new : Outside) : Type 0 where
  pub taps : (input : Input) (H : History) → TapsGainAll r input H old new
  pub back : (input : Input) (H : History) (e : Ended) → HandsNothing e → HandsBack r input H e

module _ (r : Request) (e : Ended) (old new : Outside) (text : List ℕ)
    (plain : IsPlain r old new) (made : IsAnswered r old.left new.left text)
    (nothing : HandsNothing e) (untapped : IsUntapped old new) where
  is-due : IsDoneWith r old.left new.left made.input made.answer.history
  is-due = record {
    read = made.read;
    accepted = made.answer.accepted;
    history = made.answer.due;
  }

  pub made-ends : (s : Status) →
      PutsText s text old.held new.held old.sink_faults new.sink_faults → EndsWith s r e old new
  made-ends status.Done puts = record {
    input = made.input;
    history = made.answer.history;
    due = is-due;
    written = puts ∙ ap (λ t. gained old.held t) made.answer.made;
    taps = plain.taps made.input made.answer.history;
    handed = plain.back made.input made.answer.history e nothing;
  }
  made-ends status.Write puts = (
    nothing,
    inl record {
      input = made.input;
      history = made.answer.history;
      due = is-due;
      front = puts.front;
      written = puts.written ∙ ap (λ t. gained old.held (take puts.front t)) made.answer.made;
      rose = puts.rose;
      taps = plain.taps made.input made.answer.history;
    },
  )
  made-ends status.Memory puts = (
    nothing,
    record { held = puts.same; faults = puts.none },
    inr untapped.tap,
  )
  made-ends _ puts = absurd puts

-- ---- by the words

-- no text is put with it
no_usage : (q : Request) (e : Ended) (old new : Outside) → e.status ≡ status.Usage →
    PutsSome (IsTextOf q) e.status old.held new.held old.sink_faults new.sink_faults → ⊥
no_usage q e old new is puts =
    (subst (λ s. PutsSome (IsTextOf q) s old.held new.held old.sink_faults new.sink_faults) is
    puts).2

-- it is usage exactly where the words ask for nothing
usage-none : (q : Request) (e : Ended) (old new : Outside) → Ends q e old new →
    e.status ≡ status.Usage → q ≡ request.Nothing
usage-none (request.Handle id root) e old new ends is =
    absurd (no_usage (request.Handle id root) e old new is ends.how.1)
usage-none (request.Make n) e old new ends is =
    absurd (no_usage (request.Make n) e old new is ends.how.1)
usage-none (request.Tally n) e old new ends is =
    absurd (no_usage (request.Tally n) e old new is ends.how.1)
usage-none request.Nothing e old new ends is = refl
usage-none q e old new ends is = absurd (subst (λ s. EndsWith s q e old new) is ends.how).0

module _ (words : Words) (q : Request) (e : Ended) (old new : Outside) (asked : Asks words q)
    (ends : Ends q e old new) where
  pub usage-is : (e.status ≡ status.Usage) ↔ AsksNothing words
  usage-is = (
    λ is. subst (Asks words) (usage-none q e old new ends is) asked,
    λ nothing. (subst (λ r. Ends r e old new)
        (asks-one words q request.Nothing asked nothing) ends).how.status,
  )

  pub ends-as : (r : Request) → Asks words r → Ends r e old new
  ends-as r asks = subst (λ x. Ends x e old new) (asks-one words q r asked asks) ends
