-- What a server told a client is a front of what it tells it once all came.
use Rattle.tk_meeting.proofs.Terms.{◌≡◌, ℕ, ◌≤◌, ◌<◌, List, [], ◌∷◌, length, map, flat_map, ◌+◌, ◌==◌, cond, ◌++◌, ◌∙◌}
use Rattle.tk_meeting.proofs.Terms.{refl, ap, sym, zero, suc, arith, subst, drop, eq-eqb, ne_eqb, drop-append_seam}
use Rattle.tk_meeting.proofs.Terms.{range_with_len, AllByRecursion, Shape, each-append, each-behind, PacketView}
use Rattle.tk_meeting.proofs.Terms.{after-is, flat_map-one, told-stays, empty_seats, IsOfClient, packets_to, told}
use Rattle.tk_meeting.proofs.Terms.{for_peer, frames_for, IsFront, seats_from, ComesOf, ServersTellAgain}
use Rattle.tk_frames.specs.Laws.{AreBytes}
use Rattle.tk_serve.specs.Laws.{Comes}
use Rattle.tk_meeting.proofs.courses.Picks.{pick}
use Rattle.tk_meeting.proofs.members.Packets.{frames-append}
use Rattle.tk_meeting.proofs.servers.Gains.{frames-own, frames-none, frames-each}
use Rattle.tk_meeting.proofs.restarts.Seats.{stand-again}

-- ---- what holds of all

all-numbers : {X : Type 0} (P : X → Type 0) (f : ℕ → List X) (a n : ℕ) →
    ((k : ℕ) → a ≤ k → k < a + n → AllByRecursion P (f k)) → AllByRecursion P (flat_map f (range_with_len a n))
all-numbers P f a zero each = tt
all-numbers P f a (suc n) each =
    each-append P (f a) (flat_map f (range_with_len (a + 1) n)) (each a (omega arith) (omega arith))
    (all-numbers P f (a + 1) n (λ k low high. each k (omega (arith, low)) (omega (arith, high))))

module _ (shape : Shape) where
  of-clients : (ps : List PacketView) → AllByRecursion (Comes shape) ps → AllByRecursion (IsOfClient shape) ps
  of-clients [] all = tt
  of-clients (p ∷ ps) all = (all.0.of_client, of-clients ps all.1)

  of-bytes : (k : ℕ) (ps : List PacketView) → AllByRecursion (Comes shape) ps → AllByRecursion AreBytes (frames_for k ps)
  of-bytes k [] all = tt
  of-bytes k (p ∷ ps) all =
      let rest = for_peer k ps in
      pick (λ b. AllByRecursion AreBytes (map (λ (q : PacketView). q.bytes) (cond b (p ∷ rest) rest))) (p.peer == k)
      (λ _. (all.0.of_bytes, of-bytes k ps all.1)) (λ _. of-bytes k ps all.1)

  frames-come : (c : ℕ) (frames : List (List ℕ)) → c < shape.clients → AllByRecursion AreBytes frames →
      AllByRecursion (Comes shape) (packets_to c frames)
  frames-come c [] low all = tt
  frames-come c (frame ∷ frames) low all = (
    record {
      of_client = record { low = omega arith; high = omega (arith, low) };
      of_bytes = all.0;
    },
    frames-come c frames low all.1,
  )

  -- ---- what is still to come

  module _ (sent came : List PacketView) (all : AllByRecursion (Comes shape) sent) (of : ComesOf shape sent came) where
    rest_of : ℕ → List (List ℕ)
    rest_of c = drop (length (frames_for (c + 1) came)) (frames_for (c + 1) sent)

    rest-is : (c : ℕ) (low : c < shape.clients) → rest_of c ≡ (of.fronts c low).rest
    unfolding rest_of
    rest-is c low =
        let here = frames_for (c + 1) came in
        let front = of.fronts c low in
        ap (drop (length here)) (sym front.whole) ∙ drop-append_seam here front.rest

    rest_packets : List PacketView
    rest_packets = flat_map (λ c. packets_to c (rest_of c)) (range_with_len 0 shape.clients)

    rest-comes : AllByRecursion (Comes shape) rest_packets
    unfolding rest_packets
    rest-comes =
        all-numbers (Comes shape) (λ c. packets_to c (rest_of c)) 0 shape.clients (λ c _ high.
        let low : c < shape.clients = omega (arith, high) in
        let front = of.fronts c low in
        let bytes : AllByRecursion AreBytes front.rest =
        each-behind AreBytes (frames_for (c + 1) came) front.rest
        (subst (AllByRecursion AreBytes) (sym front.whole) (of-bytes (c + 1) sent all))
        in
        frames-come c (rest_of c) low (subst (AllByRecursion AreBytes) (sym (rest-is c low)) bytes))

    rest-frames : (c : ℕ) → c < shape.clients → frames_for (c + 1) rest_packets ≡ rest_of c
    unfolding rest_packets
    rest-frames c low =
        frames-each (c + 1) (λ k. packets_to k (rest_of k)) 0 shape.clients
        ∙ flat_map-one (λ k. frames_for (c + 1) (packets_to k (rest_of k))) shape.clients c low
        (λ k _ other. frames-none (c + 1) (k + 1) (rest_of k)
        (ne_eqb (k + 1) (c + 1) (λ same. other (omega (arith, same)))))
        ∙ frames-own (c + 1) (c + 1) (rest_of c) (eq-eqb (c + 1) (c + 1) refl)

    same-frames : (c : ℕ) → c < shape.clients →
        frames_for (c + 1) (came ++ rest_packets) ≡ frames_for (c + 1) sent
    same-frames c low =
        let here = frames_for (c + 1) came in
        frames-append (c + 1) came rest_packets
        ∙ ap (λ l. here ++ l) (rest-frames c low ∙ rest-is c low) ∙ (of.fronts c low).whole

    all-come : AllByRecursion (Comes shape) (came ++ rest_packets)
    all-come = each-append (Comes shape) came rest_packets of.comes rest-comes

    pub tells : (c : ℕ) → c < shape.clients →
        IsFront (told shape (seats_from shape came) c) (told shape (seats_from shape sent) c)
    tells c low =
        let both = came ++ rest_packets in
        let grows = told-stays shape came rest_packets c all-come low in
        let same : seats_from shape both ≡ seats_from shape sent =
        stand-again shape sent both (of-clients sent all) (of-clients both all-come) same-frames
        in
        record {
          rest = grows.0;
          whole =
              ap (λ s. told shape s c ++ grows.0) (after-is shape (empty_seats shape) came) ∙ sym grows.1
              ∙ ap (λ s. told shape s c) (sym (after-is shape (empty_seats shape) both) ∙ same);
        }

pub tell-again : ServersTellAgain
tell-again shape sent came c all of low = tells shape sent came all of c low
