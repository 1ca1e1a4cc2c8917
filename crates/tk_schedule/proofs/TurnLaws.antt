-- A turn is legal exactly where its order and its epochs pass their tests, and the epochs of one
-- that doesn't close are all the newest before it.
use Rattle.std.proofs.Common.{◌≡◌, ℕ, ◌+◌, ◌/◌, ◌%◌, ◌<◌, ◌≤◌, List, length, replicate, Bool, true, false, sym, subst, ◌∙◌, arith, zero-add, count_by, get_or, eqb-true, eq-eqb}
use Rattle.std.specs.Prelude.{◌==◌, nat_le, ◌&&◌}
use Rattle.std.specs.List.{list_all, range_with_len}
use Rattle.std.proofs.lemmas.Bool.{and_parts, and_from, eqb-false, leb-true, le-leb}
use Rattle.std.proofs.lemmas.Nat.{le-div, div-add-mod'}
use Rattle.std.proofs.lemmas.List.{ext_get_or, length-replicate, get_or-replicate}
use Rattle.std.proofs.lemmas.List.Elements.{All-get_or, All-from_get_or}
use Rattle.std.proofs.lemmas.List.FromFn.{length-range_with_len, get_or-range_with_len}
use Rattle.std.proofs.lemmas.List.Sums.{AllPass-from_list_all, list_all-from_AllPass}
use Rattle.tk_shape.specs.declared.shape.Shape.{Shape}
use Rattle.tk_schedule.specs.declared.history.TurnOrder.{TurnOrder}
use Rattle.tk_schedule.specs.Schedule.{is_of, is_closing, phases_over, IsTurn, serial_turn}
use Rattle.tk_schedule.specs.Due.{is_order, are_epochs}
use Rattle.tk_schedule.proofs.ScheduleLaws.{serial_turn-IsTurn}

at_each : (p : ℕ → Bool) (xs : List ℕ) → list_all p xs ≡ true → (i : ℕ) → i < length xs →
    p (get_or xs i 0) ≡ true
at_each p xs e i l = All-get_or (λ x. p x ≡ true) xs i 0 l (AllPass-from_list_all p xs e)

from_each : (p : ℕ → Bool) (xs : List ℕ) → ((i : ℕ) → i < length xs → p (get_or xs i 0) ≡ true) →
    list_all p xs ≡ true
from_each p xs h = list_all-from_AllPass p xs (All-from_get_or (λ x. p x ≡ true) xs 0 h)

below : (p : ℕ → Bool) (n : ℕ) → list_all p (range_with_len 0 n) ≡ true → (c : ℕ) → c < n →
    p c ≡ true
below p n e c l =
    subst (λ k. p k ≡ true) (get_or-range_with_len 0 n c 0 l ∙ zero-add c)
    (at_each p (range_with_len 0 n) e c (omega (arith, length-range_with_len 0 n)))

from_below : (p : ℕ → Bool) (n : ℕ) → ((c : ℕ) → c < n → p c ≡ true) →
    list_all p (range_with_len 0 n) ≡ true
from_below p n h = from_each p (range_with_len 0 n) (λ i l.
    let low : i < n = omega (arith, length-range_with_len 0 n) in
    subst (λ k. p k ≡ true) (sym (get_or-range_with_len 0 n i 0 low ∙ zero-add i)) (h i low))

pub legal_turn : (shape : Shape) (g : ℕ) (turn : TurnOrder) → is_order shape g turn.order ≡ true
    → are_epochs shape g turn.epochs ≡ true → IsTurn shape g turn
legal_turn shape g turn ordered read =
    let three = and_parts _ _ ordered in
    let two = and_parts _ _ three.0 in
    let readers = and_parts _ _ read in
    let counted : length turn.epochs ≡ shape.clients = eqb-true _ _ readers.0 in
    let within = λ (c : ℕ) (l : c < shape.clients). and_parts _ _
    (at_each _ turn.epochs readers.1 c (omega arith)) in
    record {
      counted = eqb-true _ _ two.0;
      each_once = λ c l. eqb-true _ _ (below (λ d. count_by (is_of d) turn.order == 1) shape.clients
          two.1 c l);
      marks = eqb-true _ _ three.1;
      readers = counted;
      newest_before = λ c l. leb-true _ _ (within c l).0;
      none_ahead = λ c l. leb-true _ _ (within c l).1;
    }

pub legal_order : (shape : Shape) (g : ℕ) (turn : TurnOrder) → IsTurn shape g turn →
    is_order shape g turn.order ≡ true
legal_order shape g turn legal =
    and_from _ _ (and_from _ _ (eq-eqb _ _ legal.counted)
    (from_below (λ d. count_by (is_of d) turn.order == 1) shape.clients
    (λ c l. eq-eqb _ _ (legal.each_once c l))))
    (eq-eqb _ _ legal.marks)

pub legal_epochs : (shape : Shape) (g : ℕ) (turn : TurnOrder) → IsTurn shape g turn →
    are_epochs shape g turn.epochs ≡ true
legal_epochs shape g turn legal =
    and_from _ _ (eq-eqb _ _ legal.readers)
    (from_each (λ e. nat_le (phases_over shape g) e && nat_le e (phases_over shape (g + 1)))
    turn.epochs (λ i l.
    let low : i < shape.clients = omega (arith, legal.readers) in
    and_from _ _ (le-leb _ _ (legal.newest_before i low)) (le-leb _ _ (legal.none_ahead i low))))

pub newest_are_epochs : (shape : Shape) (g : ℕ) →
    are_epochs shape g (replicate shape.clients (phases_over shape g)) ≡ true
newest_are_epochs shape g = legal_epochs shape g (serial_turn shape g) (serial_turn-IsTurn shape g)

-- where something is left over, the number before has that quotient too
same_quotient : (g t : ℕ) → 0 < t → ((g + 1) % t == 0) ≡ false → (g + 1) / t ≤ g / t
same_quotient g t some left =
    let over : (g + 1) % t ≡ 0 → ⊥ = eqb-false ((g + 1) % t) 0 left in
    le-div ((g + 1) / t) g t some (omega (arith, div-add-mod' (g + 1) t))

-- no epoch is made in a turn that doesn't close
pub none_made : (shape : Shape) (g : ℕ) → is_closing shape g ≡ false →
    phases_over shape (g + 1) ≤ phases_over shape g
none_made shape g stays = same_quotient g shape.ticks shape.in_range.ticks_low stays

pub epochs_of_open : (shape : Shape) (g : ℕ) (turn : TurnOrder) → is_closing shape g ≡ false →
    IsTurn shape g turn
    → turn.epochs ≡ replicate shape.clients (phases_over shape g)
epochs_of_open shape g turn stays legal =
    ext_get_or 0 turn.epochs (replicate shape.clients (phases_over shape g))
    (legal.readers ∙ sym (length-replicate shape.clients (phases_over shape g)))
    (λ i l.
    let low : i < shape.clients = omega (arith, legal.readers) in
    let made = none_made shape g stays in
    let is : get_or turn.epochs i 0 ≡ phases_over shape g = omega
    (arith, legal.newest_before i low, legal.none_ahead i low, made) in
    is ∙ sym (get_or-replicate shape.clients i (phases_over shape g) 0 low))
