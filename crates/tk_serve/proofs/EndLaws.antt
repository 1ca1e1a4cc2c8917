-- How a run ends, from how its next packet does.
use Rattle.std.proofs.Common.{◌≡◌, ℕ, ◌+◌, ◌⊎◌, refl, sym, subst, ◌∙◌, inl, inr, [], ◌∷◌, ◌++◌, Bool, false, IsTrue, ◌↔◌}
use Rattle.std.specs.Prelude.{Err}
use Rattle.tk_shape.specs.declared.shape.Shape.{Shape}
use Rattle.tk_packets.specs.Lines.{Gone}
use Rattle.tk_packets.proofs.Offers.{takes-nothing}
use Rattle.tk_serve.specs.declared.fault.Fault.{Fault}
use Rattle.tk_serve.specs.declared.server.Server.{Server}
use Rattle.tk_serve.specs.Seats.{empty_seats}
use Rattle.tk_serve.specs.Steps.{seats_after}
use Rattle.tk_serve.specs.Setup.{longest_frame}
use Rattle.tk_serve.specs.Courses.{Told, IsGoing, IsCourse, IsStill, StopsBehind, RanFront, HasRun}
use Rattle.tk_serve.specs.Nexts.{TakesNextFront, HasNext}
use Rattle.tk_serve.proofs.CourseLaws.{IsRunning, course-whole, course-front}

module _ (shape : Shape) (count : ℕ) (s : Server) (left middle : Told) (gone now : Gone)
    (runs : IsRunning shape count s left middle gone now) where
  pub ran-front : (rest : Told) (new : Gone) → IsGoing shape runs.frames →
      StopsBehind (8 + longest_frame shape) middle rest now new
      ⊎ TakesNextFront shape (seats_after shape (empty_seats shape) runs.frames) middle rest now new →
      RanFront shape left rest gone new
  ran-front rest new going (inl stops) =
      record {
        frames = runs.frames;
        middle = middle;
        course = course-whole shape runs.frames left middle gone now new stops.last runs.course stops.took;
        takes = stops.takes;
        over = λ is. absurd (going is);
      }
  ran-front rest new going (inr next) =
      record {
        frames = runs.frames ++ next.came ∷ [];
        middle = rest;
        course = course-front shape runs.frames left middle rest gone now new runs.course going next;
        takes = takes-nothing (8 + longest_frame shape) rest;
        over = λ _. refl;
      }

  still : (new : Gone) → IsStill now new → IsCourse shape runs.frames left middle gone new
  still new unchanged = subst (λ (h : Gone). IsCourse shape runs.frames left middle gone h) (sym unchanged) runs.course

  -- a fault of the next packet ends the run as it comes
  pub ran-ends : (e : Fault) (rest : Told) (new : Gone) → IsGoing shape runs.frames →
      HasNext (Err e) shape middle rest now new → HasRun {X = Unit {0}} (Err e) shape left rest gone new
  ran-ends e rest new going next =
      record {
        done = tt;
        setup = λ is. next.setup (cc (is));
        cut = λ is.
            let comes = next.cut (cc (is)) in
            record {
              frames = runs.frames;
              middle = middle;
              course = still new comes.unchanged;
              going = going;
              cut = comes.cut;
            };
        long = λ is.
            let comes = next.long (cc (is)) in
            record {
              frames = runs.frames;
              middle = middle;
              course = still new comes.unchanged;
              going = going;
              long = comes.long;
            };
        peer = λ is.
            let comes = next.peer (cc (is)) in
            record {
              frames = runs.frames;
              middle = middle;
              before = now;
              course = runs.course;
              going = going;
              stranger = comes.stranger;
              comes = comes.comes;
              short = comes.short;
              took = comes.took;
              nobody = comes.nobody;
            };
        whole = λ is.
            let stops = next.whole (cc (is)) in
            record {
              frames = runs.frames;
              middle = middle;
              course = still new stops.unchanged;
              going = going;
              takes = stops.takes;
            };
      }

-- ---- a server in the course of a run, by what its calls answer

-- what is tested holds just where the test passes
pub tested-not : {P : Type 0} (b : Bool) → (IsTrue b ↔ P) → b ≡ false → P → ⊥
tested-not b means fails holds = absurd (cc (sym (means.1 holds) ∙ fails))
