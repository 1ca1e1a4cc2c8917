-- The serial history is legal, and a legal turn has no client out of range.
use Rattle.std.proofs.Common.{◌≡◌, ℕ, zero, suc, ◌+◌, ◌<◌, ◌≤◌, List, [], ◌∷◌, ◌++◌, length, map, replicate, Bool, true, false, cond, refl, ap₂, sym, ◌∙◌, arith, count_by, get_or, length-append, ne_eqb, eqb-true, le_trans, div-mul-le_self, le-div_iff_mul-le}
use Rattle.std.specs.Prelude.{◌==◌, nat_le, nat_lt}
use Rattle.std.specs.List.{range_with_len, list_all}
use Rattle.std.proofs.lemmas.List.Sums.{sum_by-cons, sum_by-append}
use Rattle.std.proofs.lemmas.List.FromFn.{length-map-range_with_len, get_or-map-range_with_len}
use Rattle.std.proofs.Common.{le_of_eq, tests}
use Rattle.std.proofs.lemmas.List.{length-replicate, get_or-replicate}
use Rattle.tk_shape.specs.declared.shape.Shape.{Shape}
use Rattle.tk_schedule.specs.declared.item.Item.{Item}
use Rattle.tk_schedule.specs.declared.item.Item.TheVariants.{Client, Publish}
use Rattle.tk_schedule.specs.declared.history.TurnOrder.{TurnOrder}
use Rattle.tk_shape.specs.Lengths.{turn_count}
use Rattle.tk_schedule.specs.Schedule.{is_of, is_mark, is_within, marks_due, phases_over, blank_turn, IsTurn, IsLegal, serial_turn, serial_history}

-- count_by by cases
count-cons : {X : Type 0} (p : X → Bool) (x : X) (xs : List X) →
    count_by p (x ∷ xs) ≡ cond (p x) 1 0 + count_by p xs
count-cons p x xs = sum_by-cons (λ y. cond (p y) 1 0) x xs

count-append : {X : Type 0} (p : X → Bool) (xs ys : List X) →
    count_by p (xs ++ ys) ≡ count_by p xs + count_by p ys
count-append p xs ys = sum_by-append (λ y. cond (p y) 1 0) xs ys

pub no_marks : (a n : ℕ) → count_by is_mark (map Client (range_with_len a n)) ≡ 0
no_marks a zero = refl
no_marks a (suc n) =
    count-cons is_mark (Client a) (map Client (range_with_len (a + 1) n))
    ∙ omega (arith, no_marks (a + 1) n)

only_marks : (n : ℕ) → count_by is_mark (replicate n Publish) ≡ n
only_marks zero = refl
only_marks (suc n) = count-cons is_mark Publish (replicate n Publish) ∙ omega (arith, only_marks n)

no_client : (c n : ℕ) → count_by (is_of c) (replicate n Publish) ≡ 0
no_client c zero = refl
no_client c (suc n) =
    count-cons (is_of c) Publish (replicate n Publish) ∙ omega (arith, no_client c n)

not_again : (c a n : ℕ) → c < a → count_by (is_of c) (map Client (range_with_len a n)) ≡ 0
not_again c a zero h = refl
not_again c a (suc n) h =
    let other : (c == a) ≡ false = search (arith, ne_eqb c a (omega arith)) in
    count-cons (is_of c) (Client a) (map Client (range_with_len (a + 1) n))
    ∙ rw other (omega (arith, not_again c (a + 1) n (omega arith)))

once : (c a n : ℕ) → a ≤ c → c < a + n → count_by (is_of c) (map Client (range_with_len a n)) ≡ 1
once c a zero low high = absurd (omega arith)
once c a (suc n) low high =
    let later = count_by (is_of c) (map Client (range_with_len (a + 1) n)) in
    count-cons (is_of c) (Client a) (map Client (range_with_len (a + 1) n))
    ∙ elim (c == a) as (λ b. (c == a) ≡ b → cond b 1 0 + later ≡ 1) [
      | true ↦ λ e. omega (arith, not_again c (a + 1) n (omega (arith, eqb-true c a e)))
      | false ↦ λ e. omega (arith, once c (a + 1) n (beyond e) (omega arith))
    ] refl
  where
    beyond : (c == a) ≡ false → a + 1 ≤ c
    beyond e = search (arith, e, low)

closing_after : (shape : Shape) (g : ℕ) → phases_over shape g ≤ phases_over shape (g + 1)
closing_after shape g =
    let some : 0 < shape.ticks = shape.in_range.ticks_low in
    (le-div_iff_mul-le some).1 (le_trans (div-mul-le_self g shape.ticks) (omega arith))

pub serial_turn-IsTurn : (shape : Shape) (g : ℕ) → IsTurn shape g (serial_turn shape g)
serial_turn-IsTurn shape g =
    let clients = map Client (range_with_len 0 shape.clients) in
    let marks = replicate (marks_due shape g) Publish in
    let due = marks_due shape g in
    record {
      counted = length-append clients marks
          ∙ ap₂ (λ x y. x + y) (length-map-range_with_len Client 0 shape.clients)
          (length-replicate due Publish);
      each_once = λ c h. count-append (is_of c) clients marks
          ∙ omega (arith, once c 0 shape.clients (omega arith) (omega arith), no_client c due);
      marks = count-append is_mark clients marks
          ∙ omega (arith, no_marks 0 shape.clients, only_marks due);
      readers = length-replicate shape.clients (phases_over shape g);
      newest_before = λ c h.
          le_of_eq (sym (get_or-replicate shape.clients c (phases_over shape g) 0 h));
      none_ahead = λ c h. rw get_or-replicate (closing_after shape g);
    }

pub serial-IsLegal : (shape : Shape) → IsLegal shape (serial_history shape)
unfolding serial_history
serial-IsLegal shape =
    record {
      turns_counted = length-map-range_with_len (serial_turn shape) 0 (turn_count shape);
      each_turn = λ g h.
          let at : get_or (serial_history shape) g blank_turn ≡ serial_turn shape g =
          get_or-map-range_with_len (serial_turn shape) 0 (turn_count shape) g g blank_turn h
          (omega arith)
          in
          rw at (serial_turn-IsTurn shape g);
    }

-- ---- how many items there are

-- a client that isn't below n
abbrev is_beyond : ℕ → Item → Bool
is_beyond n (Client c) = nat_le n c
is_beyond n Publish = false

-- how often the clients below n stand in a list, together
abbrev times_below : ℕ → List Item → ℕ
times_below zero xs = 0
times_below (suc n) xs = times_below n xs + count_by (is_of n) xs

one_test : (c n : ℕ) →
    ◌≡◌ {A = ℕ} (cond (nat_lt c (suc n)) 1 0) (cond (nat_lt c n) 1 0 + cond (n == c) 1 0)
one_test c n = grind (arith, tests)

either_test : (c n : ℕ) → ◌≡◌ {A = ℕ} (cond (nat_lt c n) 1 0 + cond (nat_le n c) 1 0) 1
either_test c n = grind (arith, tests)

none_test : (c : ℕ) → ◌≡◌ {A = ℕ} (cond (nat_lt c 0) 1 0) 0
none_test c = grind (arith, tests)

once_below : (n c : ℕ) (xs : List Item) →
    times_below n (Client c ∷ xs) ≡ cond (nat_lt c n) 1 0 + times_below n xs
once_below zero c xs = omega (arith, none_test c)
once_below (suc n) c xs =
    omega (arith, once_below n c xs, count-cons (is_of n) (Client c) xs, one_test c n)

none_below : (n : ℕ) → times_below n [] ≡ 0
none_below zero = refl
none_below (suc n) = omega (arith, none_below n)

mark_below : (n : ℕ) (xs : List Item) → times_below n (Publish ∷ xs) ≡ times_below n xs
mark_below zero xs = refl
mark_below (suc n) xs = omega (arith, mark_below n xs, count-cons (is_of n) Publish xs)

-- each item is a mark, or a client below n, or one beyond
items_counted : (n : ℕ) (xs : List Item) →
    length xs ≡ count_by is_mark xs + times_below n xs + count_by (is_beyond n) xs
items_counted n [] = omega (arith, none_below n)
items_counted n (Client c ∷ xs) =
    let marked = count-cons is_mark (Client c) xs in
    let beyond = count-cons (is_beyond n) (Client c) xs in
    omega (arith, items_counted n xs, marked, beyond, once_below n c xs, either_test c n)
items_counted n (Publish ∷ xs) =
    let marked = count-cons is_mark Publish xs in
    let beyond = count-cons (is_beyond n) Publish xs in
    omega (arith, items_counted n xs, marked, beyond, mark_below n xs)

all_once : (n : ℕ) (xs : List Item) → ((c : ℕ) → c < n → count_by (is_of c) xs ≡ 1) →
    times_below n xs ≡ n
all_once zero xs h = refl
all_once (suc n) xs h = omega (arith, all_once n xs (λ c l. h c (omega arith)), h n (omega arith))

-- a legal turn has no client out of range
none_beyond : (shape : Shape) (g : ℕ) (turn : TurnOrder) → IsTurn shape g turn →
    count_by (is_beyond shape.clients) turn.order ≡ 0
none_beyond shape g turn legal =
    let all = items_counted shape.clients turn.order in
    let once = all_once shape.clients turn.order legal.each_once in
    omega (arith, all, once, legal.counted, legal.marks)

-- with none beyond n, each item is the mark or a client below n
all_within : (n : ℕ) (xs : List Item) → count_by (is_beyond n) xs ≡ 0 →
    list_all (is_within n) xs ≡ true
all_within n [] none = refl
all_within n (Client c ∷ xs) none =
    let counted = count-cons (is_beyond n) (Client c) xs in
    let rest = all_within n xs (omega (arith, counted, none)) in
    let below : nat_lt c n ≡ true = grind (arith, tests, counted, none) in
    rw (below, rest) refl
all_within n (Publish ∷ xs) none =
    let counted = count-cons (is_beyond n) Publish xs in
    all_within n xs (omega (arith, counted, none))

pub turn_within : (shape : Shape) (g : ℕ) (turn : TurnOrder) → IsTurn shape g turn →
    list_all (is_within shape.clients) turn.order ≡ true
turn_within shape g turn legal =
    all_within shape.clients turn.order (none_beyond shape g turn legal)
