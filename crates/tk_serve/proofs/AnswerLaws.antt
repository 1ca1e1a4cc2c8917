-- What an epoch that is kept gives is what is told of it.
use Rattle.std.proofs.Common.{◌≡◌, ℕ, suc, ◌+◌, ◌*◌, ◌<◌, ◌≤◌, refl, ap, ap₂, sym, ◌∙◌, arith, subst}
use Rattle.std.proofs.Common.{List, [], ◌∷◌, ◌++◌, length, map, take, drop, get_or, flat_map, cond, zero-add}
use Rattle.std.proofs.Common.{add-zero, Bool, true, false}
use Rattle.std.specs.Prelude.{slice_index_or, nat_le, All}
use Rattle.std.specs.List.{range_with_len}
use Rattle.std.proofs.lemmas.List.{get_or-take, get_or-drop, length-take, length-drop}
use Rattle.std.proofs.lemmas.List.Elements.{All-from_get_or}
use Rattle.std.proofs.lemmas.Simd.{map-map}
use Rattle.tk_shape.specs.declared.shape.Shape.{Shape}
use Rattle.tk_frames.specs.declared.read_frame.ReadFrame.{ReadFrame}
use Rattle.tk_frames.specs.declared.entry.Placed.{Placed}
use Rattle.tk_frames.specs.Spelling.{reply_frame}
use Rattle.tk_frames.specs.Ranges.{IsRead}
use Rattle.tk_report.specs.Exchange.{blank_read}
use Rattle.tk_replica.specs.declared.epoch.Epoch.{Epoch}
use Rattle.tk_replica.specs.Epochs.{IsEpochOf}
use Rattle.tk_replica.specs.Replies.{frame_over}
use Rattle.tk_replica.proofs.Offers.{over-epoch}
use Rattle.tk_packets.specs.Frames.{epoch_frame, marks_len}
use Rattle.std.proofs.lemmas.List.FromFn.{length-map-range_with_len}
use Rattle.tk_packets.specs.Marks.{mark_byte, mark_bytes}
use Rattle.tk_packets.specs.Packets.{PacketView, packet}
use Rattle.tk_schedule.proofs.Offers.{one_more}
use Rattle.tk_serve.specs.Seats.{Seat, empty_seat, seat_of, AreSeats}
use Rattle.tk_serve.specs.Told.{reply_told, epoch_bytes, brought, packets_brought}
use Rattle.tk_serve.specs.Desks.{desk_by}
use Rattle.tk_serve.specs.Answering.{packet_over, epoch_of, news_of, news_for, IsAnswerable}
use Rattle.tk_serve.proofs.Lists.{map-each}
use Rattle.tk_serve.proofs.Phases.{phase-before, phase-past}
use Rattle.tk_serve.proofs.ToldLaws.{AreReadsOf}

pub frame-told : (shape : Shape) (E : List Placed) (e : ℕ) (epoch : Epoch) (r : ReadFrame) →
    IsEpochOf shape E e epoch → r.epoch ≡ e → frame_over epoch r ≡ reply_told shape E r
unfolding reply_told
frame-told shape E e epoch r is named = ap reply_frame (over-epoch shape E e epoch r is named)

pub epoch-told : (shape : Shape) (E : List Placed) (e : ℕ) (epoch : Epoch) → IsEpochOf shape E e epoch →
    epoch_frame (epoch_of shape epoch) ≡ epoch_bytes shape E e
unfolding epoch_bytes
epoch-told shape E e epoch is =
    ap₂ (λ (n : ℕ) (marks : List ℕ). epoch_frame (record { epoch = n; marks = marks })) is.number
    (ap (mark_bytes (marks_len shape)) is.stands.filter)

-- the reads over epoch n of a client
module _ (shape : Shape) (n c : ℕ) (reads : List ReadFrame) (are : AreReadsOf shape c reads) where
  over-at : (i : ℕ) → i < length (take shape.ticks (drop (n * shape.ticks) reads)) →
      (r : ReadFrame) × (get_or (take shape.ticks (drop (n * shape.ticks) reads)) i blank_read ≡ r)
      × (r.client ≡ c) × (r.epoch ≡ n) × IsRead shape r
  over-at i low =
      let k = n * shape.ticks in
      let some = shape.in_range.ticks_low in
      let counted = length-take shape.ticks (drop k reads) in
      let behind = length-drop k reads in
      let there : k + i < length reads = omega (arith, low, counted, behind) in
      let front : i < shape.ticks = omega (arith, low, counted) in
      let is = are (k + i) blank_read there in
      let past = phase-past shape.ticks n (k + i) some (omega arith) in
      let before = phase-before shape.ticks (n + 1) (k + i) some (omega (arith, front, one_more n shape.ticks)) in
      let over = is.over in (
        slice_index_or reads (k + i) blank_read,
        get_or-take shape.ticks (drop k reads) i blank_read front ∙ get_or-drop k reads i blank_read,
        is.of,
        omega (arith, over, past, before),
        is.in_range,
      )

  pub answered-told : (E : List Placed) (epoch : Epoch) → IsEpochOf shape E n epoch →
      map (packet_over epoch) (take shape.ticks (drop (n * shape.ticks) reads))
      ≡ map (packet (c + 1)) (map (reply_told shape E) (take shape.ticks (drop (n * shape.ticks) reads)))
  answered-told E epoch is =
      let waited = take shape.ticks (drop (n * shape.ticks) reads) in
      map-each (packet_over epoch) (λ r. packet (c + 1) (reply_told shape E r)) waited blank_read (λ i low.
      let at = over-at i low in
      ap (packet_over epoch) at.1
      ∙ ap₂ (λ (k : ℕ) (bytes : List ℕ). packet (k + 1) bytes) at.2 (frame-told shape E n epoch at.0 is at.3)
      ∙ ap (λ r. packet (c + 1) (reply_told shape E r)) (sym at.1))
      ∙ sym (map-map (packet (c + 1)) (reply_told shape E) waited)

  pub may-answer : (epoch : Epoch) → epoch.shape ≡ shape → c < shape.clients →
      All (IsAnswerable epoch) (take shape.ticks (drop (n * shape.ticks) reads))
  may-answer epoch same low =
      All-from_get_or (IsAnswerable epoch) (take shape.ticks (drop (n * shape.ticks) reads)) blank_read (λ i inside.
      let at = over-at i inside in
      subst (IsAnswerable epoch) (sym at.1)
      (record {
        in_range = subst (λ sh. IsRead sh at.0) (sym same) at.4;
        numbered = omega (arith, at.2, low, shape.in_range.clients_high);
      }))

-- what an epoch brings to a client with a desk is what it brings to the client with its seat
news-brought : (shape : Shape) (E : List Placed) (g n c : ℕ) (epoch : Epoch) (s : Seat) →
    IsEpochOf shape E (n + 1) epoch → AreReadsOf shape c s.reads →
    news_of shape epoch c (desk_by shape g n s) ≡ map (packet (c + 1)) (brought shape E (n + 1) s.reads)
news-brought shape E g n c epoch s is are =
    let told = map (reply_told shape E) (take shape.ticks (drop ((n + 1) * shape.ticks) s.reads)) in
    ap₂ (λ (a b : List PacketView). a ++ b)
    (ap (λ k. cond (nat_le (k * shape.ticks) (length s.reads))
    (packet (c + 1) (epoch_frame (epoch_of shape epoch)) ∷ []) [])
    is.number
    ∙ ap (λ bytes. cond (nat_le ((n + 1) * shape.ticks) (length s.reads)) (packet (c + 1) bytes ∷ []) [])
    (epoch-told shape E (n + 1) epoch is))
    (answered-told shape (n + 1) c s.reads are E epoch is)
    ∙ joined (nat_le ((n + 1) * shape.ticks) (length s.reads)) (epoch_bytes shape E (n + 1)) told
  where
    joined : (b : Bool) (bytes : List ℕ) (xs : List (List ℕ)) →
        cond b (packet (c + 1) bytes ∷ []) [] ++ map (packet (c + 1)) xs
        ≡ map (packet (c + 1)) (cond b (bytes ∷ []) [] ++ xs)
    joined true bytes xs = refl
    joined false bytes xs = refl

-- to all clients, by number
pub news-all : (shape : Shape) (E : List Placed) (g n : ℕ) (epoch : Epoch) (seats : List Seat) →
    IsEpochOf shape E (n + 1) epoch → AreSeats shape seats →
    news_for shape epoch 0 (map (desk_by shape g n) seats)
    ≡ flat_map (packets_brought shape seats E (n + 1)) (range_with_len 0 shape.clients)
news-all shape E g n epoch seats is are =
    from 0 seats (λ i low. ap (seat_of seats) (sym (zero-add i))) (omega arith)
    ∙ ap (λ k. flat_map (packets_brought shape seats E (n + 1)) (range_with_len 0 k)) are.counted
  where
    moved : (a b : ℕ) → a + suc b ≡ a + 1 + b
    moved a b = omega arith

    from : (c : ℕ) (rest : List Seat) →
        ((i : ℕ) → i < length rest → slice_index_or rest i empty_seat ≡ seat_of seats (c + i)) →
        c + length rest ≤ length seats →
        news_for shape epoch c (map (desk_by shape g n) rest)
        ≡ flat_map (packets_brought shape seats E (n + 1)) (range_with_len c (length rest))
    from c [] same within = refl
    from c (s ∷ rest) same within =
        let here : s ≡ seat_of seats c = same 0 (omega arith) ∙ ap (seat_of seats) (add-zero c) in
        let reads = (are.each c empty_seat (omega (arith, within))).read_each in
        ap₂ (λ (a b : List PacketView). a ++ b)
        (ap (λ x. news_of shape epoch c (desk_by shape g n x)) here
        ∙ news-brought shape E g n c epoch (seat_of seats c) is reads)
        (from (c + 1) rest (λ i low.
        same (suc i) (omega (arith, low)) ∙ ap (seat_of seats) (moved c i))
        (omega (arith, within)))

pub marks-length : (count : ℕ) (marks : List Bool) → length (mark_bytes count marks) ≡ count
unfolding mark_bytes
marks-length count marks = length-map-range_with_len (mark_byte marks) 0 count
