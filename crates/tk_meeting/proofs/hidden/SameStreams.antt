-- What a server has and tells of two scripts that have each client write and ask it the same.
use Rattle.tk_meeting.proofs.Terms.{◌≡◌, ℕ, ◌≤◌, ◌<◌, min, List, [], ◌∷◌, map, flat_map, ◌+◌, ◌∙◌, refl, ap, arith, ap₂}
use Rattle.tk_meeting.proofs.Terms.{range_with_len, turn_count, Shape, WordBook, words_of, write_frame, read_frame}
use Rattle.tk_meeting.proofs.Terms.{Placed, ReadFrame, WriteFrame, serial-IsLegal, serial_history, Script}
use Rattle.tk_meeting.proofs.Terms.{flat_map-agree, write_at, entries_before, map-range_same, told_of, turns_read}
use Rattle.tk_meeting.proofs.Canonical.{write_in, read_from, whole, seat_with, told_in_turn, stream}
use Rattle.tk_meeting.proofs.Pace.{Kind, Wrote, Asked}
use Rattle.tk_meeting.proofs.Standing.{frames_of}
use Rattle.tk_meeting.proofs.servers.SameEntries.{same-entries}

-- each client writes the same in each turn
pub record WriteAlike (A B : Script) (b d : WordBook) : Type 0 where
  pub shapes : A.shape ≡ B.shape
  pub writes : (g c : ℕ) → g < turn_count A.shape → c < A.shape.clients →
      write_in A b c g ≡ write_in B d c g

-- and asks server j the same
pub record AskAlike (A B : Script) (b d : WordBook) (j : ℕ) : Type 0 where
  pub reads : (g c : ℕ) → g < turn_count A.shape → c < A.shape.clients →
      read_from A b c j g ≡ read_from B d c j g

-- the turns of the frames that are sent are turns of the run
abbrev pub AreOfRun : ℕ → ℕ → ℕ → List Kind → Type 0
AreOfRun turns g k [] = Unit {0}
AreOfRun turns g k (Wrote ∷ kinds) = (g < turns) × AreOfRun turns (g + 1) k kinds
AreOfRun turns g k (Asked ∷ kinds) = (k < turns) × AreOfRun turns g (k + 1) kinds

module _ (A B : Script) (b d : WordBook) (w : WriteAlike A B b d) where
  pub same-whole : whole A b ≡ whole B d
  same-whole =
      same-entries A.shape (serial_history A.shape) (write_at A (words_of A.shape b))
      (write_at B (words_of B.shape d)) (turn_count A.shape) (serial-IsLegal A.shape) (omega arith)
      (λ g c turn client. w.writes g c turn client)
      ∙ ap (λ (shape : Shape). entries_before (write_at B (words_of B.shape d)) (serial_history shape)
      (turn_count shape)) w.shapes

  module _ (j : ℕ) (r : AskAlike A B b d j) where
    pub same-seat : (c n k : ℕ) → c < A.shape.clients → n ≤ turn_count A.shape →
        k ≤ turn_count A.shape → seat_with A b c j n k ≡ seat_with B d c j n k
    same-seat c n k client low_writes low_reads =
        let writes : map (write_in A b c) (range_with_len 0 n) ≡ map (write_in B d c) (range_with_len 0 n)
        = map-range_same (write_in A b c) (write_in B d c) 0 n
        (λ g turn. w.writes g c (omega (arith, turn, low_writes)) client) in
        let reads : map (read_from A b c j) (range_with_len 0 k)
        ≡ map (read_from B d c j) (range_with_len 0 k)
        = map-range_same (read_from A b c j) (read_from B d c j) 0 k
        (λ g turn. r.reads g c (omega (arith, turn, low_reads)) client) in
        λ i. record { writes = writes i; reads = reads i }

    same-told : (c n g : ℕ) → c < A.shape.clients → g < turn_count A.shape →
        told_in_turn A b c j n g ≡ told_in_turn B d c j n g
    same-told c n g client turn =
        ap (λ (shape : Shape). told_of shape (whole A b) n (read_from A b c j g)) w.shapes
        ∙ ap₂ (λ (E : List Placed) (x : ReadFrame). told_of B.shape E n x) same-whole
        (r.reads g c turn client)

    pub same-stream : (c n k : ℕ) → c < A.shape.clients → k ≤ turn_count A.shape →
        stream A b c j n k ≡ stream B d c j n k
    unfolding stream
    same-stream c n k client low =
        flat_map-agree (told_in_turn A b c j n) (told_in_turn B d c j n) 0
        (min k (turns_read A.shape n))
        (λ g _ turn. same-told c n g client (omega (arith, turn, low)))
        ∙ ap (λ (shape : Shape). flat_map (told_in_turn B d c j n)
        (range_with_len 0 (min k (turns_read shape n)))) w.shapes

    pub same-frames : (c g k : ℕ) (kinds : List Kind) → c < A.shape.clients →
        AreOfRun (turn_count A.shape) g k kinds →
        frames_of A b c j g k kinds ≡ frames_of B d c j g k kinds
    unfolding frames_of
    same-frames c g k [] client turns = refl
    same-frames c g k (Wrote ∷ kinds) client turns =
        ap₂ (λ (x : WriteFrame) (xs : List (List ℕ)). write_frame x ∷ xs) (w.writes g c turns.0 client)
        (same-frames c (g + 1) k kinds client turns.1)
    same-frames c g k (Asked ∷ kinds) client turns =
        ap₂ (λ (x : ReadFrame) (xs : List (List ℕ)). read_frame x ∷ xs) (r.reads k c turns.0 client)
        (same-frames c g (k + 1) kinds client turns.1)
