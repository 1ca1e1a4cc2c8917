-- A turn that is applied: its writes, and its mark.
use Rattle.std.proofs.Common.{◌≡◌, ℕ, ◌+◌, ◌^◌, ◌<◌, ap, sym, ◌∙◌, subst, arith, true, false, List, [], ◌∷◌, ◌++◌}
use Rattle.std.proofs.Common.{length}
use Rattle.tk_shape.specs.declared.shape.Shape.{Shape}
use Rattle.tk_shape.specs.Lengths.{turn_count}
use Rattle.tk_schedule.specs.Schedule.{serial_history, phases_over, is_closing}
use Rattle.tk_frames.specs.declared.write_frame.WriteFrame.{WriteFrame}
use Rattle.tk_frames.specs.declared.entry.Entry.TheVariants.{Mark}
use Rattle.tk_replica.specs.Replica.{ReplicaView, StandsFor}
use Rattle.tk_report.specs.Entries.{entries_before}
use Rattle.tk_report.specs.Turns.{next_placed}
use Rattle.tk_serve.specs.declared.server.Server.{Server}
use Rattle.tk_serve.specs.Seats.{taken_write, placed_to}
use Rattle.tk_serve.specs.Desks.{DeskView, MayTakeTurn, TakesTurn, MayComeNext, HasWrites, with_writes, turn_writes}
use Rattle.tk_serve.specs.Stands.{MayApply}
use Rattle.tk_serve.proofs.EntryLaws.{turn-open, turn-closed, mark-next, writes-marks, turns-marks}
use Rattle.tk_serve.proofs.SeatLaws.{turns-most}
use Rattle.tk_serve.proofs.StandsLaws.{may-take_turn, desks-clients}

pub takes-turn : (s : Server) (desks : List DeskView) → MayApply s → desks ≡ s.desks.items → TakesTurn s.state desks
takes-turn s desks may same =
    record {
      shape_of = may.shape_of;
      entries_of = placed_to may.shape_of may.seats_of may.turn_of;
      write_of = taken_write may.seats_of may.turn_of;
      may =
          subst (MayTakeTurn may.shape_of (placed_to may.shape_of may.seats_of may.turn_of)
          (taken_write may.seats_of may.turn_of) s.state) (sym same)
          (may-take_turn may.shape_of may.seats_of may.turn_of may.epoch_of s may.stands may.written);
    }

-- the turn is one of the run
pub turn-low : (s : Server) → MayApply s → s.turn < turn_count s.shape
turn-low s may =
    let is = may.stands in
    subst (λ (sh : Shape). s.turn < turn_count sh) (sym is.same)
    (omega (arith, is.turn_is, may.written, turns-most may.shape_of may.seats_of))

-- after all writes of the desks
pub has-writes : (s : Server) (count : ℕ) (state : ReplicaView) (may : MayApply s) → count ≡ length s.desks.items →
    StandsFor may.shape_of (with_writes (placed_to may.shape_of may.seats_of may.turn_of)
    (taken_write may.seats_of may.turn_of) count) state → HasWrites s.shape s.turn state
has-writes s count state may counted stands =
    let is = may.stands in
    let all : count ≡ (may.shape_of).clients =
    counted ∙ desks-clients may.shape_of may.seats_of may.turn_of may.epoch_of s is
    in
    subst (λ (sh : Shape). HasWrites sh s.turn state) (sym is.same)
    (subst (λ g. HasWrites may.shape_of g state) (sym is.turn_is)
    (record {
      write_of = taken_write may.seats_of;
      stands =
          subst (λ k. StandsFor may.shape_of (with_writes (placed_to may.shape_of may.seats_of may.turn_of)
          (taken_write may.seats_of may.turn_of) k) state) all stands;
    }))

-- ---- the mark

last-phases : (shape : Shape) (write : ℕ → ℕ → WriteFrame) (g : ℕ) (s : ReplicaView) → g < turn_count shape →
    StandsFor shape (turn_writes shape write g) s → s.last ≡ phases_over shape g
last-phases shape write g s low stands =
    stands.last ∙ writes-marks (entries_before write (serial_history shape) g) (write g) shape.clients
    ∙ turns-marks shape write g (omega (arith, low))

pub last-small : (shape : Shape) (g : ℕ) (s : ReplicaView) → g < turn_count shape → HasWrites shape g s →
    s.last + 1 < 2 ^ 32
last-small shape g s low has =
    let last = last-phases shape has.write_of g s low has.stands in
    let next = mark-next shape has.write_of g low (has.stands).order in
    let number = (next.in_range).entry.1 in
    omega (arith, (has.stands).last, number, shape.in_range.phases_high)

pub mark-comes : (shape : Shape) (g : ℕ) (s : ReplicaView) → g < turn_count shape → HasWrites shape g s →
    MayComeNext s (Mark (s.last + 1))
mark-comes shape g s low has =
    let all = turn_writes shape has.write_of g in
    subst (λ n. MayComeNext s (Mark (n + 1))) (sym (has.stands).last)
    (record {
      shape_of = shape;
      entries_of = all;
      stands = has.stands;
      next = mark-next shape has.write_of g low (has.stands).order;
    })

pub mark-stands : (shape : Shape) (write : ℕ → ℕ → WriteFrame) (g : ℕ) (s new : ReplicaView) →
    g < turn_count shape → is_closing shape g ≡ true → StandsFor shape (turn_writes shape write g) s →
    (let all = turn_writes shape write g in
    StandsFor shape (all ++ next_placed all (Mark (s.last + 1)) ∷ []) new) →
    StandsFor shape (entries_before write (serial_history shape) (g + 1)) new
mark-stands shape write g s new low closes before after =
    let all = turn_writes shape write g in
    subst (λ E. StandsFor shape E new)
    (ap (λ n. all ++ next_placed all (Mark (n + 1)) ∷ []) before.last ∙ sym (turn-closed shape write g low closes))
    after

pub open-stands : (shape : Shape) (write : ℕ → ℕ → WriteFrame) (g : ℕ) (s : ReplicaView) →
    g < turn_count shape → is_closing shape g ≡ false → StandsFor shape (turn_writes shape write g) s →
    StandsFor shape (entries_before write (serial_history shape) (g + 1)) s
open-stands shape write g s low open_still stands =
    subst (λ E. StandsFor shape E s) (sym (turn-open shape write g low open_still)) stands
