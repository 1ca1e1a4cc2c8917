-- What a server tells each client when it takes a frame is what comes next of what it tells that client.
use Rattle.tk_meeting.proofs.Terms.{◌≡◌, ℕ, ◌≤◌, ◌<◌, List, [], ◌∷◌, length, map, flat_map, ◌+◌, ◌==◌, cond, ◌++◌, Bool}
use Rattle.tk_meeting.proofs.Terms.{true, false, filter, ◌∙◌, refl, ap, sym, zero, suc, arith, drop, eq-eqb, ap₂}
use Rattle.tk_meeting.proofs.Terms.{ne_eqb, drop-append_seam, range_with_len, Shape, WordBook, Script, PacketView}
use Rattle.tk_meeting.proofs.Terms.{packet, flat_map-one, Seat, SeatsAndPackets, gain, all_gained, packets_gained, told}
use Rattle.tk_meeting.proofs.Terms.{frames_for}
use Rattle.tk_meeting.proofs.Canonical.{AreFronts, stream}
use Rattle.tk_meeting.proofs.Course.{newest_by}
use Rattle.tk_meeting.proofs.servers.Streams.{told-is}
use Rattle.tk_meeting.proofs.servers.Numbers.{stream-grows}
use Rattle.tk_meeting.proofs.members.Packets.{frames-append}

-- ---- the frames for one peer

abbrev bytes_in : PacketView → List ℕ
bytes_in p = p.bytes

-- of packets for the peer all frames, and of packets for another none
pub frames-own : (peer other : ℕ) (frames : List (List ℕ)) → (other == peer) ≡ true →
    frames_for peer (map (packet other) frames) ≡ frames
frames-own peer other [] same = refl
frames-own peer other (x ∷ xs) same =
    let rest = filter (λ (p : PacketView). p.peer == peer) (map (packet other) xs) in
    ap (λ (b : Bool). map bytes_in (cond b (packet other x ∷ rest) rest)) same
    ∙ ap (λ (ys : List (List ℕ)). x ∷ ys) (frames-own peer other xs same)

pub frames-none : (peer other : ℕ) (frames : List (List ℕ)) → (other == peer) ≡ false →
    frames_for peer (map (packet other) frames) ≡ []
frames-none peer other [] differ = refl
frames-none peer other (x ∷ xs) differ =
    let rest = filter (λ (p : PacketView). p.peer == peer) (map (packet other) xs) in
    ap (λ (b : Bool). map bytes_in (cond b (packet other x ∷ rest) rest)) differ
    ∙ frames-none peer other xs differ

pub frames-each : (peer : ℕ) (f : ℕ → List PacketView) (a n : ℕ) →
    frames_for peer (flat_map f (range_with_len a n)) ≡ flat_map (λ k. frames_for peer (f k)) (range_with_len a n)
frames-each peer f a zero = refl
frames-each peer f a (suc n) =
    frames-append peer (f a) (flat_map f (range_with_len (a + 1) n))
    ∙ ap (λ (xs : List (List ℕ)). frames_for peer (f a) ++ xs) (frames-each peer f (a + 1) n)

-- the frames that a client gains
pub frames-gained : (shape : Shape) (old new : List Seat) (d : ℕ) → d < shape.clients →
    frames_for (d + 1) (all_gained shape old new) ≡ gain shape old new d
unfolding all_gained
frames-gained shape old new d client =
    frames-each (d + 1) (packets_gained shape old new) 0 shape.clients
    ∙ flat_map-one (λ k. frames_for (d + 1) (packets_gained shape old new k)) shape.clients d client
    (λ k _ other. frames-none (d + 1) (k + 1) (gain shape old new k)
    (ne_eqb (k + 1) (d + 1) (λ same. other (omega (arith, same)))))
    ∙ frames-own (d + 1) (d + 1) (gain shape old new d) (eq-eqb (d + 1) (d + 1) refl)

-- ---- a frame that is taken

-- Of seats that were the first writes and reads of each client a step made the first of later numbers,
-- and it told each client what comes next.
pub record TakesFrame (S : Script) (b : WordBook) (j : ℕ) (writes reads later_writes later_reads : ℕ → ℕ)
    (s : SeatsAndPackets) : Type 0 where
  pub fronts : AreFronts S b j later_writes later_reads s.seats
  pub tells : (d : ℕ) → d < S.shape.clients →
      stream S b d j (newest_by S.shape writes) (reads d) ++ frames_for (d + 1) s.packets
      ≡ stream S b d j (newest_by S.shape later_writes) (later_reads d)

pub tells-next : (S : Script) (b : WordBook) (j : ℕ) (writes reads later_writes later_reads : ℕ → ℕ)
    (old new : List Seat) → AreFronts S b j writes reads old → AreFronts S b j later_writes later_reads new →
    newest_by S.shape writes ≤ newest_by S.shape later_writes → ((d : ℕ) → reads d ≤ later_reads d) →
    TakesFrame S b j writes reads later_writes later_reads
    (record { seats = new; packets = all_gained S.shape old new })
unfolding gain
tells-next S b j writes reads later_writes later_reads old new was now epochs turns =
    record {
      fronts = now;
      tells = λ d client.
          let shape = S.shape in
          let before = stream S b d j (newest_by shape writes) (reads d) in
          let after = stream S b d j (newest_by shape later_writes) (later_reads d) in
          let grows = stream-grows S b d j (newest_by shape writes) (newest_by shape later_writes)
          (reads d) (later_reads d) epochs (turns d) in
          let told_before : told shape old d ≡ before = told-is S b j writes reads old was d client in
          let told_after : told shape new d ≡ after = told-is S b j later_writes later_reads new now d client in
          ap (λ (xs : List (List ℕ)). before ++ xs)
          (frames-gained shape old new d client
          ∙ ap₂ (λ (xs ys : List (List ℕ)). drop (length xs) ys) told_before (told_after ∙ grows.1)
          ∙ drop-append_seam before grows.0)
          ∙ sym grows.1;
    }
