-- A run of threads before a turn.
use Rattle.std.proofs.Common.{◌≡◌, ℕ, ◌<◌, ◌≤◌, List, [], length, refl, sym, ◌∙◌, arith}
use Rattle.std.proofs.Math.Nat.{div-lt_iff_lt-mul}
use Rattle.tk_shape.specs.declared.shape.Shape.{Shape}
use Rattle.tk_shape.specs.Lengths.{turn_count}
use Rattle.tk_frames.specs.declared.write_frame.WriteFrame.{WriteFrame}
use Rattle.tk_schedule.specs.declared.history.TurnOrder.{TurnOrder}
use Rattle.tk_schedule.specs.declared.history.History.{History}
use Rattle.tk_script.specs.declared.script.Script.{Script}
use Rattle.tk_words.specs.Words.{WordBook, words_of}
use Rattle.tk_report.specs.Entries.{write_at}
use Rattle.tk_report.specs.Clients.{AreClients, client_knowing, known_first}
use Rattle.tk_report.specs.Serving.{Serving}
use Rattle.tk_report.proofs.Offers.{said-none}
use Rattle.tk_cluster.specs.Passes.{Passing}
use Rattle.tk_cluster.specs.Tellings.{Telling}
use Rattle.tk_cluster.specs.Clusters.{Opened}
use Rattle.tk_report.specs.declared.group.Group.{Group}
use Rattle.tk_run.specs.Ran.{Ran}
use Rattle.tk_run.specs.Courses.{GoesOn, IsCourse}
use Rattle.tk_run.proofs.RanEnds.{ran_first}
use Rattle.tk_run.proofs.UnderLaws.{clients-first}
use Rattle.tk_run.proofs.GoesOnLaws.{filled}
use Rattle.tk_run.proofs.TurnSights.{some_goes_on}

-- all is opened as it is before the first turn
pub course_first : (S : Script) (b : WordBook) (V : History → Serving) (group : Group)
    {xs : List Passing} {p : Telling} →
    Opened S.shape p xs → group.said ≡ 0 →
    AreClients S.shape.clients (client_knowing S (known_first S) 0) group.clients.items →
    IsCourse S b V 0 [] group xs p
course_first S b V group {xs} {p} opened said clients =
    record {
      counted = refl;
      said = said ∙ sym (said-none S);
      ran = ran_first (write_at S (words_of S.shape b)) opened;
      clients = λ H goes. clients-first S b H (V H) group.clients.items clients;
    }

module _ {S : Script} {b : WordBook} {V : History → Serving} {g : ℕ} {K : List TurnOrder}
    {group : Group} {xs : List Passing} {p : Telling} (course : IsCourse S b V g K group xs p)
    (low : g < turn_count S.shape) where
  -- some legal history goes on from the turns so far
  pub course_goes : GoesOn S.shape K (filled S.shape K)
  course_goes = some_goes_on course.ran (omega (arith, low, course.counted))

  pub course_counted : length group.clients.items ≡ S.shape.clients
  course_counted = (course.clients (filled S.shape K) course_goes).counted

pub ran_room : {shape : Shape} {write : ℕ → ℕ → WriteFrame} {K : List TurnOrder} {xs : List Passing}
    {p : Telling} → Ran shape write K xs p → length K < turn_count shape → length p.shown ≤ shape.phases
ran_room {shape} {write} {K} ran low =
    let below = (div-lt_iff_lt-mul shape.in_range.ticks_low).1 low in omega (arith, ran.shown, below)
