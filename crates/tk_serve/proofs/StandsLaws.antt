-- What a server stands for, as its parts change.
use Rattle.std.proofs.Common.{◌≡◌, ℕ, zero, suc, ◌+◌, ◌<◌, ◌≤◌, ap, ap₂, sym, ◌∙◌, arith, subst}
use Rattle.std.proofs.Common.{List, [], ◌∷◌, ◌++◌, length, map, set, drop}
use Rattle.std.specs.Prelude.{slice_index_or, All}
use Rattle.std.proofs.lemmas.List.{map-set, get_or-map, length-map}
use Rattle.std.proofs.lemmas.List.Elements.{All-set, All-map, All-get_or}
use Rattle.tk_shape.specs.declared.shape.Shape.{Shape}
use Rattle.tk_shape.specs.Lengths.{turn_count}
use Rattle.tk_schedule.specs.Schedule.{serial_history, phases_over}
use Rattle.tk_schedule.proofs.Offers.{serial-IsLegal}
use Rattle.tk_frames.specs.declared.write_frame.WriteFrame.{WriteFrame}
use Rattle.tk_frames.specs.declared.read_frame.ReadFrame.{ReadFrame}
use Rattle.tk_frames.specs.Order.{before}
use Rattle.tk_replica.specs.Replica.{ReplicaView, StandsFor}
use Rattle.tk_report.proofs.Offers.{before-over}
use Rattle.tk_serve.specs.declared.server.Server.{Server}
use Rattle.tk_serve.specs.Seats.{Seat, empty_seat, seat_of, seat_with_write, seat_with_read, with_write, with_read}
use Rattle.tk_serve.specs.Seats.{IsWriteOf, IsReadDue, blank_write, taken_write, turns_written, placed_to}
use Rattle.tk_serve.specs.Told.{turns_read}
use Rattle.tk_serve.specs.Desks.{DeskView, desk, empty_desk, desk_by, desk_behind, desk_answered, WaitsFirst}
use Rattle.tk_serve.specs.Desks.{MayTakeTurn}
use Rattle.tk_serve.specs.Stands.{StandsAt, desk_at, due_at}
use Rattle.tk_serve.specs.declared.due.Due.{Due}
use Rattle.tk_serve.specs.Refusals.{due_of}
use Rattle.tk_serve.proofs.EntryLaws.{turns-records, turn-room}
use Rattle.tk_serve.proofs.Lists.{map-both}
use Rattle.tk_serve.proofs.SeatLaws.{turns-most, turns-below, placed-kept, turns-kept, seats-with_write}
use Rattle.tk_serve.proofs.SeatLaws.{read-turns, read-placed, seats-with_read}
use Rattle.tk_serve.proofs.DeskLaws.{desk-with_write, desk-next_turn, desk-next_epoch, desk-with_read}
use Rattle.tk_serve.proofs.DeskLaws.{desk-with_waiting, first-behind}
use Rattle.tk_serve.proofs.ToldLaws.{SameUpTo}
use Rattle.tk_serve.proofs.Phases.{phases-grow}

-- ---- desks

module _ (shape : Shape) (seats : List Seat) (g n : ℕ) (s : Server) (is : StandsAt shape seats g n s) where
  pub desks-counted : length s.desks.items ≡ length seats
  desks-counted = ap length is.desks_are ∙ length-map seats (desk_by shape g n)

  pub desks-clients : length s.desks.items ≡ shape.clients
  desks-clients = desks-counted ∙ is.are.counted

  pub desk-at : (c : ℕ) (d : DeskView) → c < length seats →
      slice_index_or s.desks.items c d ≡ desk_by shape g n (seat_of seats c)
  desk-at c d low =
      ap (λ ds. slice_index_or ds c d) is.desks_are ∙ get_or-map (desk_by shape g n) seats c empty_seat d low

  -- what is due of a client is what its seat says
  pub due-is : (c : ℕ) → c < length seats → due_at s c ≡ due_of seats c
  due-is c low =
      let at = desk-at c empty_desk low in
      let below = turns-below shape seats c low in
      ap₂ (λ (w r : ℕ). record { client = c; write = w; read = r })
      (ap₂ (λ (a b : ℕ). a + b) is.turn_is (ap (λ (d : DeskView). length d.waiting) at)
      ∙ drop-counted g (seat_of seats c).writes (omega (arith, below, is.within)))
      (ap (λ (d : DeskView). d.asked) at)
    where
      drop-counted : {X : Type 0} (k : ℕ) (xs : List X) → k ≤ length xs → k + length (drop k xs) ≡ length xs
      drop-counted zero xs le = omega arith
      drop-counted (suc k) [] le = absurd (omega (arith, le))
      drop-counted (suc k) (x ∷ xs) le = let h = drop-counted k xs (omega (arith, le)) in omega (arith, h)

  pub floor-at : (c : ℕ) → c < length seats → s.state.floor ≤ phases_over shape (length (seat_of seats c).reads)
  floor-at c low =
      let inside : c < length s.desks.items = omega (arith, low, desks-counted) in
      subst (λ (d : DeskView). s.state.floor ≤ phases_over shape d.asked) (desk-at c empty_desk low)
      (All-get_or (λ (d : DeskView). s.state.floor ≤ phases_over shape d.asked) s.desks.items c empty_desk inside
      is.floor_low)

  -- ---- a write

  pub desks-with_write : (c : ℕ) (w : WriteFrame) (items : List DeskView) → c < length seats →
      (let d = desk_at s c in items ≡ set s.desks.items c (desk (d.waiting ++ w ∷ []) d.asking d.asked)) →
      items ≡ map (desk_by shape g n) (with_write seats c w)
  desks-with_write c w items low put =
      let below = turns-below shape seats c low in
      let inside : g ≤ length (seat_of seats c).writes = omega (arith, below, is.within) in
      let at = desk-at c empty_desk low in
      put
      ∙ ap₂ (λ (ds : List DeskView) (d : DeskView). set ds c (desk (d.waiting ++ w ∷ []) d.asking d.asked))
      is.desks_are at
      ∙ ap (set (map (desk_by shape g n) seats) c) (desk-with_write shape g n (seat_of seats c) w inside)
      ∙ sym (map-set (desk_by shape g n) seats c (seat_with_write (seat_of seats c) w))

  pub stands-with_write : (c : ℕ) (w : WriteFrame) (new : Server) → c < length seats →
      IsWriteOf shape c (length (seat_of seats c).writes) w → new.shape ≡ s.shape → new.turn ≡ s.turn →
      new.state ≡ s.state →
      (let d = desk_at s c in new.desks.items ≡ set s.desks.items c (desk (d.waiting ++ w ∷ []) d.asking d.asked)) →
      StandsAt shape (with_write seats c w) g n new
  stands-with_write c w new low next same_shape same_turn same_state put =
      let below = turns-below shape seats c low in
      let inside : g ≤ length (seat_of seats c).writes = omega (arith, below, is.within) in
      let at = desk-at c empty_desk low in
      let kept : placed_to shape (with_write seats c w) g ≡ placed_to shape seats g =
      placed-kept seats c low shape w g inside
      in
      record {
        same = same_shape ∙ is.same;
        are = seats-with_write seats c low shape w is.are next;
        within = omega (arith, is.within, turns-kept seats c low shape w);
        turn_is = same_turn ∙ is.turn_is;
        state_is =
            subst (λ E. StandsFor shape E new.state) (sym kept)
            (subst (StandsFor shape (placed_to shape seats g)) (sym same_state) is.state_is);
        desks_are = desks-with_write c w new.desks.items low put;
        floor_low =
            subst (λ ds. All (λ (d : DeskView). new.state.floor ≤ phases_over shape d.asked) ds) (sym put)
            (subst (λ (v : ReplicaView). All (λ (d : DeskView). v.floor ≤ phases_over shape d.asked)
            (set s.desks.items c (desk ((desk_at s c).waiting ++ w ∷ []) (desk_at s c).asking (desk_at s c).asked)))
            (sym same_state)
            (All-set (λ (d : DeskView). s.state.floor ≤ phases_over shape d.asked) s.desks.items c
            (desk ((desk_at s c).waiting ++ w ∷ []) (desk_at s c).asking (desk_at s c).asked)
            (subst (λ (d : DeskView). s.state.floor ≤ phases_over shape d.asked) (sym at) (floor-at c low))
            is.floor_low));
      }

  -- ---- a read

  -- any change of a desk that counts one more read
  read-stands : (c : ℕ) (r : ReadFrame) (new : Server) (d : DeskView) → c < length seats →
      IsReadDue shape c (length (seat_of seats c).reads) r → new.shape ≡ s.shape → new.turn ≡ s.turn →
      new.state ≡ s.state → new.desks.items ≡ set s.desks.items c d →
      d ≡ desk_by shape g n (seat_with_read (seat_of seats c) r) →
      s.state.floor ≤ phases_over shape d.asked → StandsAt shape (with_read seats c r) g n new
  read-stands c r new d low next same_shape same_turn same_state put made floor =
      record {
        same = same_shape ∙ is.same;
        are = seats-with_read seats c low shape r is.are next;
        within = omega (arith, is.within, read-turns seats c low shape r);
        turn_is = same_turn ∙ is.turn_is;
        state_is =
            subst (λ E. StandsFor shape E new.state) (sym (read-placed seats c low shape r g))
            (subst (StandsFor shape (placed_to shape seats g)) (sym same_state) is.state_is);
        desks_are =
            put ∙ ap₂ (λ (ds : List DeskView) (e : DeskView). set ds c e) is.desks_are made
            ∙ sym (map-set (desk_by shape g n) seats c (seat_with_read (seat_of seats c) r));
        floor_low =
            subst (λ (ds : List DeskView). All (λ (e : DeskView). new.state.floor ≤ phases_over shape e.asked) ds)
            (sym put)
            (subst (λ (v : ReplicaView). All (λ (e : DeskView). v.floor ≤ phases_over shape e.asked)
            (set s.desks.items c d)) (sym same_state)
            (All-set (λ (e : DeskView). s.state.floor ≤ phases_over shape e.asked) s.desks.items c d floor
            is.floor_low));
      }

  floor-next : (c : ℕ) → c < length seats → s.state.floor ≤ phases_over shape (length (seat_of seats c).reads + 1)
  floor-next c low =
      omega (
        arith,
        floor-at c low,
        phases-grow shape.ticks (length (seat_of seats c).reads) shape.in_range.ticks_low,
      )

  -- one whose epoch is there
  pub stands-with_read : (c : ℕ) (r : ReadFrame) (new : Server) → c < length seats →
      length (seat_of seats c).reads < turns_read shape n →
      IsReadDue shape c (length (seat_of seats c).reads) r → new.shape ≡ s.shape → new.turn ≡ s.turn →
      new.state ≡ s.state →
      (let d = desk_at s c in new.desks.items ≡ set s.desks.items c (desk d.waiting d.asking (d.asked + 1))) →
      StandsAt shape (with_read seats c r) g n new
  stands-with_read c r new low there next same_shape same_turn same_state put =
      let at = desk-at c empty_desk low in
      let d = desk (desk_at s c).waiting (desk_at s c).asking ((desk_at s c).asked + 1) in
      read-stands c r new d low next same_shape same_turn same_state put
      (ap (λ (e : DeskView). desk e.waiting e.asking (e.asked + 1)) at
      ∙ desk-with_read shape g n (seat_of seats c) r there)
      (subst (λ (e : DeskView). s.state.floor ≤ phases_over shape (e.asked + 1)) (sym at) (floor-next c low))

  -- one that waits
  pub stands-with_waiting : (c : ℕ) (r : ReadFrame) (new : Server) → c < length seats →
      turns_read shape n ≤ length (seat_of seats c).reads →
      IsReadDue shape c (length (seat_of seats c).reads) r → new.shape ≡ s.shape → new.turn ≡ s.turn →
      new.state ≡ s.state →
      (let d = desk_at s c in
      new.desks.items ≡ set s.desks.items c (desk d.waiting (d.asking ++ r ∷ []) (d.asked + 1))) →
      StandsAt shape (with_read seats c r) g n new
  stands-with_waiting c r new low past next same_shape same_turn same_state put =
      let at = desk-at c empty_desk low in
      let d = desk (desk_at s c).waiting ((desk_at s c).asking ++ r ∷ []) ((desk_at s c).asked + 1) in
      read-stands c r new d low next same_shape same_turn same_state put
      (ap (λ (e : DeskView). desk e.waiting (e.asking ++ r ∷ []) (e.asked + 1)) at
      ∙ desk-with_waiting shape g n (seat_of seats c) r past)
      (subst (λ (e : DeskView). s.state.floor ≤ phases_over shape (e.asked + 1)) (sym at) (floor-next c low))

  -- ---- a turn

  pub may-take_turn : g < turns_written shape seats →
      MayTakeTurn shape (placed_to shape seats g) (taken_write seats g) s.state s.desks.items
  may-take_turn written =
      let most = turns-most shape seats in
      record {
        stands = is.state_is;
        room =
            omega (
              arith,
              turns-records shape (taken_write seats) g (omega (arith, written, most)),
              desks-clients,
              turn-room shape g (omega (arith, written, most)),
            );
        wait = λ c d low.
            let there : c < length seats = omega (arith, low, desks-counted) in
            let own = is.are.each c empty_seat there in
            let later : g < length (seat_of seats c).writes = omega (arith, written, turns-below shape seats c there) in
            subst (WaitsFirst shape (taken_write seats g c)) (sym (desk-at c d there))
            (record {
              in_range = (own.write_each g blank_write later).in_range;
              first = first-behind (seat_of seats c).writes g blank_write later;
            });
      }

  pub stands-next_turn : (new : Server) → g < turns_written shape seats → new.shape ≡ s.shape →
      new.turn ≡ s.turn + 1 → new.state.floor ≡ s.state.floor →
      StandsFor shape (placed_to shape seats (g + 1)) new.state →
      new.desks.items ≡ map desk_behind s.desks.items → StandsAt shape seats (g + 1) n new
  stands-next_turn new written same_shape next_turn same_floor stands behind =
      record {
        same = same_shape ∙ is.same;
        are = is.are;
        within = omega (arith, written);
        turn_is = next_turn ∙ ap (λ k. k + 1) is.turn_is;
        state_is = stands;
        desks_are =
            behind ∙ ap (map desk_behind) is.desks_are
            ∙ map-both desk_behind (desk_by shape g n) (desk_by shape (g + 1) n) seats (desk-next_turn shape g n);
        floor_low =
            subst (λ (ds : List DeskView). All (λ (d : DeskView). new.state.floor ≤ phases_over shape d.asked) ds)
            (sym behind)
            (subst (λ k. All (λ (d : DeskView). k ≤ phases_over shape d.asked) (map desk_behind s.desks.items))
            (sym same_floor)
            (All-map (λ (d : DeskView). s.state.floor ≤ phases_over shape d.asked) desk_behind s.desks.items
            is.floor_low));
      }

  -- ---- an epoch

  pub stands-next_epoch : (new : Server) → new.shape ≡ s.shape → new.turn ≡ s.turn → new.state ≡ s.state →
      new.desks.items ≡ map (desk_answered shape.ticks) s.desks.items → StandsAt shape seats g (n + 1) new
  stands-next_epoch new same_shape same_turn same_state answered =
      record {
        same = same_shape ∙ is.same;
        are = is.are;
        within = is.within;
        turn_is = same_turn ∙ is.turn_is;
        state_is = subst (StandsFor shape (placed_to shape seats g)) (sym same_state) is.state_is;
        desks_are =
            answered ∙ ap (map (desk_answered shape.ticks)) is.desks_are
            ∙ map-both (desk_answered shape.ticks) (desk_by shape g n) (desk_by shape g (n + 1)) seats
            (desk-next_epoch shape g n);
        floor_low =
            subst (λ (ds : List DeskView). All (λ (d : DeskView). new.state.floor ≤ phases_over shape d.asked) ds)
            (sym answered)
            (subst (λ (v : ReplicaView). All (λ (d : DeskView). v.floor ≤ phases_over shape d.asked)
            (map (desk_answered shape.ticks) s.desks.items)) (sym same_state)
            (All-map (λ (d : DeskView). s.state.floor ≤ phases_over shape d.asked) (desk_answered shape.ticks)
            s.desks.items is.floor_low));
      }

  -- ---- epochs are let go

  pub stands-released : (new : Server) → new.shape ≡ s.shape → new.turn ≡ s.turn → new.desks ≡ s.desks →
      StandsFor shape (placed_to shape seats g) new.state →
      All (λ (d : DeskView). new.state.floor ≤ phases_over shape d.asked) s.desks.items → StandsAt shape seats g n new
  stands-released new same_shape same_turn same_desks stands low =
      record {
        same = same_shape ∙ is.same;
        are = is.are;
        within = is.within;
        turn_is = same_turn ∙ is.turn_is;
        state_is = stands;
        desks_are = ap (λ ds. ds.items) same_desks ∙ is.desks_are;
        floor_low =
            subst (λ ds. All (λ (d : DeskView). new.state.floor ≤ phases_over shape d.asked) ds)
            (ap (λ ds. ds.items) (sym same_desks)) low;
      }

-- ---- all turns so far

-- the epochs that were there stay as they are
pub same-epochs : (shape : Shape) (seats new : List Seat) (g h : ℕ) → g ≤ h → h ≤ turn_count shape →
    placed_to shape new g ≡ placed_to shape seats g →
    SameUpTo (phases_over shape g) (placed_to shape seats g) (placed_to shape new h)
same-epochs shape seats new g h later within kept =
    record {
      each = λ e low.
          before-over shape (taken_write new) (serial_history shape) g h e (serial-IsLegal shape) later within low
          ∙ ap (λ E. before E e) kept;
    }

-- ---- what is small

-- the next turn of a client is one of the run, or the one after it
pub due-low : (shape : Shape) (seats : List Seat) (g n : ℕ) (s : Server) → StandsAt shape seats g n s → (c : ℕ) →
    c < length s.desks.items → s.turn + length (desk_at s c).waiting ≤ turn_count s.shape
due-low shape seats g n s is c low =
    let there : c < length seats = omega (arith, low, desks-counted shape seats g n s is) in
    let due : s.turn + length (desk_at s c).waiting ≡ length (seat_of seats c).writes =
    ap (λ (d : Due). d.write) (due-is shape seats g n s is c there)
    in
    let few = (is.are.each c empty_seat there).few_writes in
    subst (λ (sh : Shape). s.turn + length (desk_at s c).waiting ≤ turn_count sh) (sym is.same)
    (omega (arith, due, few))
