-- Writes that agree in the first turns make the same entries of them.
use Rattle.tk_meeting.proofs.Terms.{◌≡◌, ℕ, ◌≤◌, ◌<◌, List, length, ◌+◌, ◌++◌, ◌∙◌, refl, ap, zero, suc, arith, get_or}
use Rattle.tk_meeting.proofs.Terms.{count_by, turn_count, Shape, is_mark_entry, Placed, WriteFrame, turn_within}
use Rattle.tk_meeting.proofs.Terms.{blank_turn, IsLegal, order_at, History, entries_before, placed_after, same-placed}

-- the entries of the first n turns are made of the writes of these turns
pub same-entries : (shape : Shape) (H : History) (f g : ℕ → ℕ → WriteFrame) (n : ℕ) →
    IsLegal shape H → n ≤ turn_count shape →
    ((k c : ℕ) → k < n → c < shape.clients → f k c ≡ g k c) →
    entries_before f H n ≡ entries_before g H n
unfolding entries_before
same-entries shape H f g zero legal low same = refl
same-entries shape H f g (suc n) legal low same =
    let before =
    same-entries shape H f g n legal (omega (arith, low))
    (λ k c turn client. same k c (omega (arith, turn)) client)
    in
    let E = entries_before g H n in
    ap (λ (xs : List Placed). xs ++ placed_after (f n) xs (order_at H n)) before
    ∙ ap (λ ys. E ++ ys)
    (same-placed (f n) (g n) shape.clients (λ c client. same n c (omega arith) client) (length E + 1)
    (count_by is_mark_entry E + 1) (order_at H n)
    (turn_within shape n (get_or H n blank_turn) (legal.each_turn n (omega (arith, low)))))
