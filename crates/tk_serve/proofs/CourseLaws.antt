-- A run, packet after packet.
use Rattle.std.proofs.Common.{◌≡◌, ℕ, ◌+◌, refl, ap, sym, ◌∙◌, arith, subst, inl, inr}
use Rattle.std.proofs.Common.{List, [], ◌∷◌, ◌++◌, length, take, Option, None, append-nil, append_assoc, length-append}
use Rattle.std.proofs.lemmas.Bool.{cases_lt}
use Rattle.std.proofs.lemmas.Grind.{flat_map-append}
use Rattle.std.proofs.lemmas.List.{take-append-le}
use Rattle.std.proofs.Math.Seq.{take-append_seam}
use Rattle.tk_io.specs.Content.{before_taking, gained}
use Rattle.tk_io.proofs.Offers.{before_taking-append, before_taking-nothing}
use Rattle.tk_io.proofs.Offers.{gained-twice, gained-nothing, front-of_all, front-of_second}
use Rattle.tk_shape.specs.declared.shape.Shape.{Shape}
use Rattle.tk_frames.proofs.Offers.{each-push}
use Rattle.tk_packets.specs.Packets.{PacketView, packet_bytes, packets_bytes}
use Rattle.tk_packets.specs.Lines.{Gone, passed, taken, dealt, after_taking, exchanges}
use Rattle.tk_packets.proofs.Offers.{passed-twice, passed-nothing, front-whole, front-second, taking-order, taking-bytes}
use Rattle.tk_packets.proofs.Offers.{state_after, exchanges-one}
use Rattle.tk_serve.specs.declared.server.Server.{Server}
use Rattle.tk_serve.specs.Seats.{Seat, empty_seats}
use Rattle.tk_serve.specs.Steps.{IsOfClient, IsOver, step_on, seats_after, answers}
use Rattle.tk_serve.specs.Courses.{Told, IsShort, Takes, IsGoing, Goes, answered, seats_next}
use Rattle.tk_serve.specs.Courses.{answers_next, exchanged, IsCourse, IsCourseFront}
use Rattle.tk_serve.specs.Stands.{HasApplied}
use Rattle.tk_serve.specs.Nexts.{TakesNext, TakesNextFront}

-- ---- one more packet

abbrev outgoing : Shape → List PacketView → PacketView → List PacketView
outgoing shape ps p = (step_on shape (seats_after shape (empty_seats shape) ps) p).packets

seats-more : (shape : Shape) (seats : List Seat) (ps : List PacketView) (p : PacketView) →
    seats_after shape seats (ps ++ p ∷ []) ≡ (step_on shape (seats_after shape seats ps) p).seats
seats-more shape seats [] p = refl
seats-more shape seats (q ∷ ps) p = seats-more shape (step_on shape seats q).seats ps p

answers-more : (shape : Shape) (seats : List Seat) (ps : List PacketView) (p : PacketView) →
    answers shape seats (ps ++ p ∷ [])
    ≡ answers shape seats ps ++ (step_on shape (seats_after shape seats ps) p).packets
answers-more shape seats [] p = append-nil (step_on shape seats p).packets
answers-more shape seats (q ∷ ps) p =
    let s = step_on shape seats q in
    ap (λ out. s.packets ++ out) (answers-more shape s.seats ps p)
    ∙ sym (append_assoc s.packets (answers shape s.seats ps) (step_on shape (seats_after shape s.seats ps) p).packets)

answered-more : (shape : Shape) (ps : List PacketView) (p : PacketView) →
    answered shape (ps ++ p ∷ []) ≡ answered shape ps ++ packets_bytes (outgoing shape ps p)
unfolding answered
answered-more shape ps p =
    ap packets_bytes (answers-more shape (empty_seats shape) ps p)
    ∙ flat_map-append packet_bytes (answers shape (empty_seats shape) ps) (outgoing shape ps p)

pub after-is : (shape : Shape) (seats : List Seat) (ps : List PacketView) →
    state_after (seats_next shape) seats ps ≡ seats_after shape seats ps
after-is shape seats [] = refl
after-is shape seats (p ∷ ps) = after-is shape (step_on shape seats p).seats ps

exchanged-more : (shape : Shape) (ps : List PacketView) (p : PacketView) →
    exchanged shape (ps ++ p ∷ []) ≡ exchanged shape ps ++ dealt p (outgoing shape ps p)
unfolding exchanged
exchanged-more shape ps p =
    let seats = empty_seats shape in
    exchanges-one (seats_next shape) (answers_next shape) seats ps p
    ∙ ap (λ now. exchanges (seats_next shape) (answers_next shape) seats ps ++ dealt p (answers_next shape now p))
    (after-is shape seats ps)

bytes-more : (ps : List PacketView) (p : PacketView) →
    packets_bytes (ps ++ p ∷ []) ≡ packets_bytes ps ++ packet_bytes p
bytes-more ps p =
    flat_map-append packet_bytes ps (p ∷ [])
    ∙ ap (λ bytes. packets_bytes ps ++ bytes) (append-nil (packet_bytes p))

takes-more : (shape : Shape) (ps : List PacketView) (p : PacketView) (left middle rest : Told) →
    Takes shape ps left middle → IsOfClient shape p → IsShort shape p →
    middle ≡ before_taking (packet_bytes p) rest → Takes shape (ps ++ p ∷ []) left rest
takes-more shape ps p left middle rest takes of short taken =
    record {
      of_clients = each-push (IsOfClient shape) ps p takes.of_clients of;
      short = each-push (IsShort shape) ps p takes.short short;
      taken =
          takes.taken ∙ ap (before_taking (packets_bytes ps)) taken
          ∙ sym (before_taking-append (packets_bytes ps) (packet_bytes p) rest)
          ∙ ap (λ bytes. before_taking bytes rest) (sym (bytes-more ps p));
    }

-- one more packet is taken where the run isn't over
goes-more : (shape : Shape) (ps : List PacketView) (p : PacketView) → Goes shape ps →
    IsGoing shape ps → Goes shape (ps ++ p ∷ [])
goes-more shape ps p goes still_going k before over = elim (cases_lt k (length ps)) [
  | inl low ↦
      goes k low
      (subst (λ qs. IsOver shape (seats_after shape (empty_seats shape) qs))
      (take-append-le k ps (p ∷ []) (omega (arith, low))) over)
  | inr high ↦
      let last : k ≡ length ps = omega (arith, high, before, length-append ps (p ∷ [])) in
      still_going
      (subst (λ qs. IsOver shape (seats_after shape (empty_seats shape) qs))
      (ap (λ n. take n (ps ++ p ∷ [])) last ∙ take-append_seam ps (p ∷ [])) over)
]

-- ---- courses

pub course-none : (shape : Shape) (left : Told) (gone : Gone) → IsCourse shape [] left left gone gone
unfolding answered exchanged
course-none shape left gone =
    record {
      takes = record { of_clients = tt; short = tt; taken = sym (before_taking-nothing left) };
      goes = λ k before over. absurd (omega (arith, before));
      puts = sym (gained-nothing gone.bytes);
      order = sym (passed-nothing gone.past);
    }

-- all went out, and a packet may have been taken behind it
pub course-whole : (shape : Shape) (ps : List PacketView) (left middle : Told) (gone now new : Gone)
    (last : Option PacketView) → IsCourse shape ps left middle gone now → new ≡ after_taking last now →
    IsCourseFront shape ps left middle gone new
course-whole shape ps left middle gone now new last course took =
    let bytes : new.bytes ≡ gained gone.bytes (answered shape ps) =
    ap (λ (g : Gone). g.bytes) took ∙ taking-bytes last now ∙ course.puts
    in
    let all : new.past ≡ passed gone.past (exchanged shape ps ++ taken last) =
    ap (λ (g : Gone). g.past) took ∙ taking-order last now ∙ ap (λ o. passed o (taken last)) course.order
    ∙ passed-twice gone.past (exchanged shape ps) (taken last)
    in
    let front = front-of_all gone.bytes new.bytes (answered shape ps) bytes in
    let order = front-whole gone.past new.past (exchanged shape ps ++ taken last) all in
    record {
      takes = course.takes;
      goes = course.goes;
      count = front.0;
      puts = front.1;
      last = last;
      so_far = order.0;
      order = order.1;
    }

pub course-next : (shape : Shape) (ps : List PacketView) (s : Server) (left middle rest : Told) (gone now new : Gone) →
    IsCourse shape ps left middle gone now → IsGoing shape ps →
    (next : TakesNext shape (seats_after shape (empty_seats shape) ps) s middle rest now new) →
    IsCourse shape (ps ++ next.came ∷ []) left rest gone new
course-next shape ps s left middle rest gone now new course going next =
    record {
      takes = takes-more shape ps next.came left middle rest course.takes next.of_client next.short next.taken;
      goes = goes-more shape ps next.came course.goes going;
      puts =
          next.puts ∙ ap (λ h. gained h (packets_bytes (outgoing shape ps next.came))) course.puts
          ∙ gained-twice gone.bytes (answered shape ps) (packets_bytes (outgoing shape ps next.came))
          ∙ ap (gained gone.bytes) (sym (answered-more shape ps next.came));
      order =
          next.order ∙ ap (λ o. passed o (dealt next.came (outgoing shape ps next.came))) course.order
          ∙ passed-twice gone.past (exchanged shape ps) (dealt next.came (outgoing shape ps next.came))
          ∙ ap (passed gone.past) (sym (exchanged-more shape ps next.came));
    }

pub course-front : (shape : Shape) (ps : List PacketView) (left middle rest : Told) (gone now new : Gone) →
    IsCourse shape ps left middle gone now → IsGoing shape ps →
    (next : TakesNextFront shape (seats_after shape (empty_seats shape) ps) middle rest now new) →
    IsCourseFront shape (ps ++ next.came ∷ []) left rest gone new
course-front shape ps left middle rest gone now new course going next =
    let front = front-of_second gone.bytes now.bytes new.bytes (answered shape ps)
    (packets_bytes (outgoing shape ps next.came)) course.puts (next.count, next.puts)
    in
    let order = front-second gone.past now.past new.past (exchanged shape ps)
    (dealt next.came (outgoing shape ps next.came)) next.so_far course.order next.order
    in
    record {
      takes = takes-more shape ps next.came left middle rest course.takes next.of_client next.short next.taken;
      goes = goes-more shape ps next.came course.goes going;
      count = front.0;
      puts = front.1 ∙ ap (λ bytes. gained gone.bytes (take front.0 bytes)) (sym (answered-more shape ps next.came));
      last = None;
      so_far = order.0;
      order =
          order.1
          ∙ ap (λ xs. passed gone.past (take order.0 xs))
          (sym (exchanged-more shape ps next.came) ∙ sym (append-nil (exchanged shape (ps ++ next.came ∷ []))));
    }

-- ---- a server in the course of a run

-- so many packets were taken, and the server stands for the seats after them
pub record IsRunning (shape : Shape) (count : ℕ) (s : Server) (left middle : Told) (gone now : Gone)
    : Type 0 where
  pub frames : List PacketView
  pub counted : length frames ≡ count
  pub course : IsCourse shape frames left middle gone now
  pub stands : HasApplied shape (seats_after shape (empty_seats shape) frames) s

pub running-first : (shape : Shape) (s : Server) (left : Told) (gone : Gone) → HasApplied shape (empty_seats shape) s →
    IsRunning shape 0 s left left gone gone
running-first shape s left gone stands =
    record { frames = []; counted = refl; course = course-none shape left gone; stands = stands }

pub running-next : (shape : Shape) (count : ℕ) (s new : Server) (left middle rest : Told)
    (gone now more : Gone) (runs : IsRunning shape count s left middle gone now) →
    IsGoing shape runs.frames →
    TakesNext shape (seats_after shape (empty_seats shape) runs.frames) new middle rest now more →
    IsRunning shape (count + 1) new left rest gone more
running-next shape count s new left middle rest gone now more runs going next =
    record {
      frames = runs.frames ++ next.came ∷ [];
      counted = length-append runs.frames (next.came ∷ []) ∙ ap (λ n. n + 1) runs.counted;
      course = course-next shape runs.frames new left middle rest gone now more runs.course going next;
      stands =
          subst (λ seats. HasApplied shape seats new)
          (sym (seats-more shape (empty_seats shape) runs.frames next.came)) next.stands;
    }
