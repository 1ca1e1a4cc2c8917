-- A server before anything was taken.
use Rattle.std.proofs.Common.{◌≡◌, ℕ, zero, suc, ◌<◌, ◌≤◌, refl, ap, ap₂, sym, ◌∙◌, subst, arith, List, [], ◌∷◌}
use Rattle.std.proofs.Common.{length, map, replicate}
use Rattle.std.specs.Prelude.{slice_index_or}
use Rattle.std.proofs.Math.Seq.{drop-nil}
use Rattle.std.proofs.lemmas.List.{get_or-replicate, length-replicate}
use Rattle.std.proofs.lemmas.List.Elements.{All-from_get_or}
use Rattle.std.proofs.Math.Nat.{div-eq_of_lt}
use Rattle.tk_shape.specs.declared.shape.Shape.{Shape}
use Rattle.tk_schedule.specs.Schedule.{phases_over}
use Rattle.tk_replica.specs.Replica.{StandsFor}
use Rattle.tk_report.specs.Entries.{entries_before}
use Rattle.tk_serve.specs.declared.server.Server.{Server}
use Rattle.tk_serve.specs.Seats.{Seat, empty_seat, empty_seats, seat_of, IsSeatOf, AreSeats, turns_written}
use Rattle.tk_serve.specs.Told.{turns_read}
use Rattle.tk_serve.specs.Desks.{DeskView, desk, empty_desk, desk_by}
use Rattle.tk_serve.specs.Stands.{StandsAt, HasApplied}
use Rattle.tk_serve.proofs.SeatLaws.{turns-below}

pub empty-counted : (shape : Shape) → length (empty_seats shape) ≡ shape.clients
unfolding empty_seats
empty-counted shape = length-replicate shape.clients empty_seat

empty-at : (shape : Shape) (c : ℕ) (d : Seat) → c < shape.clients → slice_index_or (empty_seats shape) c d ≡ empty_seat
unfolding empty_seats
empty-at shape c d low = get_or-replicate shape.clients c empty_seat d low

pub empty-are : (shape : Shape) → AreSeats shape (empty_seats shape)
empty-are shape =
    record {
      counted = empty-counted shape;
      each = λ c d low.
          subst (IsSeatOf shape c) (sym (empty-at shape c d (omega (arith, low, empty-counted shape))))
          (record {
            few_writes = omega arith;
            few_reads = omega arith;
            write_each = λ i w there. absurd (omega (arith, there));
            read_each = λ i r there. absurd (omega (arith, there));
          });
    }

empty-turns : (shape : Shape) → turns_written shape (empty_seats shape) ≡ 0
empty-turns shape =
    let first = shape.in_range.clients_low in
    let below = turns-below shape (empty_seats shape) 0 (omega (arith, first, empty-counted shape)) in
    let none : length (seat_of (empty_seats shape) 0).writes ≡ 0 =
    ap (λ (s : Seat). length s.writes) (empty-at shape 0 empty_seat (omega (arith, first)))
    in
    omega (arith, below, none)

desks-empty : (shape : Shape) (n : ℕ) → map (desk_by shape 0 0) (replicate n empty_seat) ≡ replicate n empty_desk
desks-empty shape zero = refl
desks-empty shape (suc n) =
    ap₂ (λ (d : DeskView) (ds : List DeskView). d ∷ ds)
    (ap (λ rs. desk [] rs 0) (drop-nil (turns_read shape 0))) (desks-empty shape n)

pub stands-open : (shape : Shape) (s : Server) → s.shape ≡ shape → s.turn ≡ 0 → StandsFor shape [] s.state →
    s.state.floor ≡ 0 → s.desks.items ≡ replicate shape.clients empty_desk → HasApplied shape (empty_seats shape) s
unfolding entries_before empty_seats
stands-open shape s same first stands floor desks =
    let turns = empty-turns shape in
    let at : StandsAt shape (empty_seats shape) 0 0 s = record {
      same = same;
      are = empty-are shape;
      within = omega arith;
      turn_is = first;
      state_is = stands;
      desks_are = desks ∙ sym (desks-empty shape shape.clients);
      floor_low =
          All-from_get_or (λ (d : DeskView). s.state.floor ≤ phases_over shape d.asked) s.desks.items empty_desk
          (λ i low. omega (arith, floor));
    }
    in
    subst (λ g. StandsAt shape (empty_seats shape) g (phases_over shape g) s) (sym turns)
    (subst (λ n. StandsAt shape (empty_seats shape) 0 n s)
    (sym (div-eq_of_lt {n = 0} {m = shape.ticks} shape.in_range.ticks_low)) at)
