-- A course of threads over its stage: what holds of it between turns, within one, and of the taps.
use Rattle.std.specs.Prelude.{ℕ, List, Option, Result}
use Rattle.tk_schedule.specs.declared.history.History.{History}
use Rattle.tk_words.specs.Words.{words_of}
use Rattle.tk_report.specs.Entries.{write_at}
use Rattle.tk_report.specs.Serving.{Serving}
use Rattle.tk_run.specs.declared.actors.Desk.{Desk}
use Rattle.tk_run.specs.declared.course.Course.{Course}
use Rattle.tk_run.specs.declared.pinned_write.PinnedWrite.{PinnedWrite}
use Rattle.tk_run.specs.declared.stage.Stage.{Stage}
use Rattle.tk_run.specs.Acting.{Acted}
use Rattle.tk_run.specs.Courses.{AreSights, GoesOn, HasWritten, IsCourse, TapsAfterRun, TapsAfterTurn}
use Rattle.tk_run.specs.Ran.{Ran}
use Rattle.tk_run.specs.Ranging.{over_ranges}

module _ {B D G A : Type 0} {naming : _} {draws : _} {sums : _}
    (stage : Stage B D G A naming draws sums) where
  -- the serving that its servers make, by the history that comes about
  abbrev pub serving_on : History → Serving
  serving_on =
      over_ranges stage.script.now (draws.book stage.draws.now) stage.crew.shards
      (sums.sum stage.sums.now)

  abbrev pub IsCourseOn : ℕ → Course B → Type 0
  IsCourseOn g course =
      IsCourse stage.script.now (draws.book stage.draws.now) serving_on g course.turns.items
      course.group course.passes.items course.herald.publisher

  abbrev pub HasWrittenOn : ℕ → Course B → List PinnedWrite → List ℕ → Type 0
  HasWrittenOn g course deeds bytes =
      HasWritten stage.script.now (draws.book stage.draws.now) serving_on g course.turns.items
      course.group course.passes.items course.herald.publisher deeds bytes

  -- its passes and its publisher are where its turns lead, and what they do in one
  abbrev pub RanOn : Course B → Type 0
  RanOn course =
      let S = stage.script.now in
      Ran S.shape (write_at S (words_of S.shape (draws.book stage.draws.now))) course.turns.items
      course.passes.items course.herald.publisher

  abbrev pub ActedOn : ℕ → Course B → List Desk → List Desk → Course B → Type 0
  ActedOn g old was are new =
      Acted stage.script.now.shape g old.passes.items old.herald.publisher was are
      new.passes.items new.herald.publisher

  -- what each server saw of a turn, however the course goes on
  abbrev pub AreSightsOn : ℕ → Course B → List (List ℕ) → Type 0
  AreSightsOn g course sights =
      (H : History) → GoesOn stage.script.now.shape course.turns.items H →
      AreSights stage.script.now (draws.book stage.draws.now) H (serving_on H) g sights

  abbrev pub TapsAfterTurnOn : {X E : Type 0} → ℕ → Result X E → Course B → Course B
      → (ℕ → Option (List ℕ)) → (ℕ → Option (List ℕ)) → Type 0
  TapsAfterTurnOn g result before after old new =
      TapsAfterTurn stage.script.now (draws.book stage.draws.now) serving_on g result
      before.turns.items after.turns.items old new

  abbrev pub TapsAfterRunOn : {X E : Type 0} → Result X E → Course B
      → (ℕ → Option (List ℕ)) → (ℕ → Option (List ℕ)) → Type 0
  TapsAfterRunOn result after old new =
      TapsAfterRun stage.script.now (draws.book stage.draws.now) serving_on result
      after.turns.items old new
