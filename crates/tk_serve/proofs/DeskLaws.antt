-- What is kept of a seat, as it changes.
use Rattle.std.proofs.Common.{◌≡◌, ℕ, zero, suc, ◌+◌, ◌<◌, ◌≤◌, refl, ap, ap₂, sym, ◌∙◌, arith}
use Rattle.std.proofs.Common.{List, [], ◌∷◌, ◌++◌, length, drop, length-append}
use Rattle.std.specs.Prelude.{slice_index_or}
use Rattle.std.proofs.lemmas.List.{drop-drop, drop_all, drop-append-le}
use Rattle.tk_shape.specs.declared.shape.Shape.{Shape}
use Rattle.tk_frames.specs.declared.write_frame.WriteFrame.{WriteFrame}
use Rattle.tk_frames.specs.declared.read_frame.ReadFrame.{ReadFrame}
use Rattle.tk_schedule.proofs.Offers.{one_more}
use Rattle.tk_serve.specs.Seats.{Seat, seat_with_write, seat_with_read}
use Rattle.tk_serve.specs.Told.{turns_read}
use Rattle.tk_serve.specs.Desks.{desk, desk_by, desk_behind, desk_answered}

-- a write more waits
pub desk-with_write : (shape : Shape) (g n : ℕ) (s : Seat) (w : WriteFrame) → g ≤ length s.writes →
    (let d = desk_by shape g n s in desk (d.waiting ++ w ∷ []) d.asking d.asked
    ≡ desk_by shape g n (seat_with_write s w))
desk-with_write shape g n s w within =
    ap (λ ws. desk ws (drop (turns_read shape n) s.reads) (length s.reads))
    (sym (drop-append-le g s.writes (w ∷ []) within))

-- a turn more is in the order
pub desk-next_turn : (shape : Shape) (g n : ℕ) (s : Seat) → desk_behind (desk_by shape g n s)
    ≡ desk_by shape (g + 1) n s
desk-next_turn shape g n s =
    ap (λ ws. desk ws (drop (turns_read shape n) s.reads) (length s.reads)) (drop-drop 1 g s.writes)

-- an epoch more is there
pub desk-next_epoch : (shape : Shape) (g n : ℕ) (s : Seat) →
    desk_answered shape.ticks (desk_by shape g n s) ≡ desk_by shape g (n + 1) s
desk-next_epoch shape g n s =
    ap (λ rs. desk (drop g s.writes) rs (length s.reads))
    (drop-drop shape.ticks (turns_read shape n) s.reads
    ∙ ap (λ k. drop k s.reads) (sym (one_more (n + 1) shape.ticks)))

-- a read more, whose epoch is there
pub desk-with_read : (shape : Shape) (g n : ℕ) (s : Seat) (r : ReadFrame) → length s.reads < turns_read shape n →
    (let d = desk_by shape g n s in desk d.waiting d.asking (d.asked + 1) ≡ desk_by shape g n (seat_with_read s r))
desk-with_read shape g n s r low =
    let k = turns_read shape n in
    let longer = length-append s.reads (r ∷ []) in
    ap₂ (λ (rs : List ReadFrame) (m : ℕ). desk (drop g s.writes) rs m)
    (drop_all k s.reads (omega (arith, low)) ∙ sym (drop_all k (s.reads ++ r ∷ []) (omega (arith, low, longer))))
    (sym longer)

-- a read more, which waits
pub desk-with_waiting : (shape : Shape) (g n : ℕ) (s : Seat) (r : ReadFrame) → turns_read shape n ≤ length s.reads →
    (let d = desk_by shape g n s in
    desk d.waiting (d.asking ++ r ∷ []) (d.asked + 1) ≡ desk_by shape g n (seat_with_read s r))
desk-with_waiting shape g n s r past =
    ap₂ (λ (rs : List ReadFrame) (m : ℕ). desk (drop g s.writes) rs m)
    (sym (drop-append-le (turns_read shape n) s.reads (r ∷ []) past))
    (sym (length-append s.reads (r ∷ [])))

-- of a list with an element at a place that element comes first behind the ones before it
pub first-behind : {X : Type 0} (xs : List X) (i : ℕ) (d : X) → i < length xs →
    drop i xs ≡ slice_index_or xs i d ∷ drop 1 (drop i xs)
first-behind [] i d low = absurd (omega (arith, low))
first-behind (x ∷ xs) zero d low = refl
first-behind (x ∷ xs) (suc i) d low = first-behind xs i d (omega (arith, low))
