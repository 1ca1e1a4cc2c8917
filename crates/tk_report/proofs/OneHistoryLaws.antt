-- Bytes show one history at most.
use Rattle.std.proofs.Common.{◌≡◌, refl, ap, sym, ◌∙◌, subst, arith, inl, inr}
use Rattle.std.proofs.Common.{ℕ, zero, suc, ◌+◌, ◌<◌, ◌≤◌, ◌^◌, true, false, cond}
use Rattle.std.proofs.Common.{List, [], ◌∷◌, ◌++◌, map, codes, decimal, append_assoc}
use Rattle.std.specs.Prelude.{◌==◌, not, flat_map, nat_lt, slice_index_or}
use Rattle.std.specs.List.{AllByRecursion, list_all, range_with_len}
use Rattle.std.proofs.lemmas.Bool.{cases_lt, ltb-true, and_parts as parts}
use Rattle.std.proofs.lemmas.Fmt.{decimal_injective}
use Rattle.std.proofs.lemmas.List.{ext_get_or, append_cancel_left}
use Rattle.std.proofs.Math.Nat.{div-le_self, mod-lt}
use Rattle.tk_shape.specs.declared.shape.Shape.{Shape}
use Rattle.tk_shape.specs.Lengths.{turn_count}
use Rattle.tk_schedule.specs.declared.item.Item.{Item}
use Rattle.tk_schedule.specs.declared.item.Item.TheVariants.{Client, Publish}
use Rattle.tk_schedule.specs.declared.history.TurnOrder.{TurnOrder}
use Rattle.tk_schedule.specs.declared.history.History.{History}
use Rattle.tk_schedule.specs.Schedule.{phase_of, tick_of, is_closing, phases_over, order_at, epoch_at}
use Rattle.tk_schedule.specs.Schedule.{blank_turn, is_within, IsTurn, IsLegal}
use Rattle.tk_schedule.proofs.Offers.{turn_within, epochs_of_open, same_turn}
use Rattle.tk_script.proofs.Offers.{feed_by_test, lacks_by_test, same_first, same_rest, cons_both, all_digits}
use Rattle.tk_frames.proofs.Offers.{turn_count_small}
use Rattle.tk_script.specs.Grammar.{item_word}
use Rattle.tk_report.specs.Report.{line, turn_lines, history_lines}
use Rattle.tk_report.specs.Histories.{ShowsOne}
use Rattle.tk_report.proofs.LineCuts.{IsField, decimal-field, cut_line}

-- ---- the fields of an order

-- a word is a field if no byte of it is a space or a line feed
pub word-field : (word : List ℕ) → list_all (λ b. not (b == 0x0A)) word ≡ true →
    list_all (λ b. not (b == 0x20)) word ≡ true → IsField word
word-field word feed space =
    record { no_space = lacks_by_test word space; no_feed = feed_by_test word feed }

mark-field : IsField (codes "mark")
mark-field = word-field (codes "mark") refl refl

pub items-fields : (n : ℕ) (items : List Item) → n ≤ 64 → list_all (is_within n) items ≡ true →
    AllByRecursion IsField (map item_word items)
items-fields n [] small within = tt
items-fields n (Client c ∷ items) small within =
    let both = parts (nat_lt c n) (list_all (is_within n) items) within in
    let low = ltb-true c n both.0 in
    (decimal-field c (omega (arith, low, small)), items-fields n items small both.1)
items-fields n (Publish ∷ items) small within =
    (mark-field, items-fields n items small within)

-- no number is spelled as the mark is
pub not_mark : (c : ℕ) → c < 2 ^ 64 → decimal c ≡ codes "mark" → ⊥
not_mark c small e =
    let digit = all_digits (codes "mark") c small (sym e) 0 (omega arith) in
    omega (arith, digit.1)

-- fields tell one order
items-same : (n : ℕ) (xs ys : List Item) → n ≤ 64 → list_all (is_within n) xs ≡ true →
    list_all (is_within n) ys ≡ true → map item_word xs ≡ map item_word ys → xs ≡ ys
items-same n [] [] small p q e = refl
items-same n [] (y ∷ ys) small p q e = absurd (cc e)
items-same n (x ∷ xs) [] small p q e = absurd (cc e)
items-same n (Client c ∷ xs) (Client d ∷ ys) small p q e =
    let one = parts (nat_lt c n) (list_all (is_within n) xs) p in
    let two = parts (nat_lt d n) (list_all (is_within n) ys) q in
    let low = ltb-true c n one.0 in
    let also = ltb-true d n two.0 in
    let same = decimal_injective c d (omega (arith, low, small)) (omega (arith, also, small))
    (same_first (decimal c) (decimal d) (map item_word xs) (map item_word ys) e)
    in
    cons_both (Client c) (Client d) xs ys (ap (λ k. Client k) same)
    (items-same n xs ys small one.1 two.1
    (same_rest (decimal c) (decimal d) (map item_word xs) (map item_word ys) e))
items-same n (Client c ∷ xs) (Publish ∷ ys) small p q e =
    let one = parts (nat_lt c n) (list_all (is_within n) xs) p in
    let low = ltb-true c n one.0 in
    absurd (not_mark c (omega (arith, low, small))
    (same_first (decimal c) (codes "mark") (map item_word xs) (map item_word ys) e))
items-same n (Publish ∷ xs) (Client d ∷ ys) small p q e =
    let two = parts (nat_lt d n) (list_all (is_within n) ys) q in
    let low = ltb-true d n two.0 in
    absurd (not_mark d (omega (arith, low, small))
    (sym (same_first (codes "mark") (decimal d) (map item_word xs) (map item_word ys) e)))
items-same n (Publish ∷ xs) (Publish ∷ ys) small p q e =
    cons_both Publish Publish xs ys refl
    (items-same n xs ys small p q
    (same_rest (codes "mark") (codes "mark") (map item_word xs) (map item_word ys) e))

-- ---- the fields of epochs

abbrev pub epoch_fields : History → ℕ → ℕ → ℕ → List (List ℕ)
epoch_fields H g a n = map (λ c. decimal (epoch_at H g c)) (range_with_len a n)

epochs-fields : (H : History) (g a n : ℕ) →
    ((c : ℕ) → a ≤ c → c < a + n → epoch_at H g c < 2 ^ 64) →
    AllByRecursion IsField (epoch_fields H g a n)
epochs-fields H g a zero small = tt
epochs-fields H g a (suc n) small = (
  decimal-field (epoch_at H g a) (small a (omega arith) (omega arith)),
  epochs-fields H g (a + 1) n (λ c low high. small c (omega (arith, low)) (omega (arith, high))),
)

epochs-same : (H K : History) (g a n : ℕ) →
    ((c : ℕ) → a ≤ c → c < a + n → epoch_at H g c < 2 ^ 64) →
    ((c : ℕ) → a ≤ c → c < a + n → epoch_at K g c < 2 ^ 64) →
    epoch_fields H g a n ≡ epoch_fields K g a n →
    (c : ℕ) → a ≤ c → c < a + n → epoch_at H g c ≡ epoch_at K g c
epochs-same H K g a zero small also e c low high = absurd (omega (arith, low, high))
epochs-same H K g a (suc n) small also e c low high =
    let one = epoch_fields H g (a + 1) n in
    let two = epoch_fields K g (a + 1) n in
    elim (cases_lt a c) [
      | inl behind ↦ epochs-same H K g (a + 1) n
          (λ d l h. small d (omega (arith, l)) (omega (arith, h)))
          (λ d l h. also d (omega (arith, l)) (omega (arith, h)))
          (same_rest (decimal (epoch_at H g a)) (decimal (epoch_at K g a)) one two e)
          c (omega (arith, behind)) (omega (arith, high))
      | inr not_behind ↦
          let here : a ≡ c = omega (arith, low, not_behind) in
          subst (λ d. epoch_at H g d ≡ epoch_at K g d) here
          (decimal_injective (epoch_at H g a) (epoch_at K g a)
          (small a (omega arith) (omega arith)) (also a (omega arith) (omega arith))
          (same_first (decimal (epoch_at H g a)) (decimal (epoch_at K g a)) one two e))
    ]

-- ---- the lines of a turn

abbrev pub turn_of : History → ℕ → TurnOrder
turn_of H g = slice_index_or H g blank_turn

-- what the numbers of a turn have in common
pub record IsSmall (shape : Shape) (g : ℕ) : Type 0 where
  pub phase : phase_of shape g < 2 ^ 64
  pub tick : tick_of shape g < 2 ^ 64
  pub over : phases_over shape (g + 1) < 2 ^ 64

pub is-small : (shape : Shape) (g : ℕ) → g < turn_count shape → IsSmall shape g
is-small shape g low =
    let few = turn_count_small shape in
    let phase = div-le_self g shape.ticks in
    let tick = mod-lt g shape.in_range.ticks_low in
    let ticks = shape.in_range.ticks_high in
    let over = div-le_self (g + 1) shape.ticks in
    record {
      phase = omega (arith, few, low, phase);
      tick = omega (arith, tick, ticks);
      over = omega (arith, few, low, over);
    }

abbrev pub order_fields : Shape → History → ℕ → List (List ℕ)
order_fields shape H g =
    decimal (phase_of shape g) ∷ decimal (tick_of shape g) ∷ map item_word (order_at H g)

abbrev pub reads_fields : Shape → History → ℕ → List (List ℕ)
reads_fields shape H g =
    decimal (phase_of shape g) ∷ decimal (tick_of shape g) ∷ epoch_fields H g 0 shape.clients

pub order-fields : (shape : Shape) (H : History) (g : ℕ) → IsSmall shape g →
    IsTurn shape g (turn_of H g) → AllByRecursion IsField (codes "order" ∷ order_fields shape H g)
order-fields shape H g small legal = (
  word-field (codes "order") refl refl,
  (
    decimal-field (phase_of shape g) small.phase,
    (
      decimal-field (tick_of shape g) small.tick,
      items-fields shape.clients (order_at H g) shape.in_range.clients_high
          (turn_within shape g (turn_of H g) legal),
    ),
  ),
)

pub epoch-small : (shape : Shape) (H : History) (g c : ℕ) → IsSmall shape g →
    IsTurn shape g (turn_of H g) → c < 0 + shape.clients → epoch_at H g c < 2 ^ 64
epoch-small shape H g c small legal client =
    let ahead = legal.none_ahead c (omega (arith, client)) in
    let over = small.over in
    omega (arith, ahead, over)

pub reads-fields : (shape : Shape) (H : History) (g : ℕ) → IsSmall shape g →
    IsTurn shape g (turn_of H g) → AllByRecursion IsField (codes "reads" ∷ reads_fields shape H g)
reads-fields shape H g small legal = (
  word-field (codes "reads") refl refl,
  (
    decimal-field (phase_of shape g) small.phase,
    (
      decimal-field (tick_of shape g) small.tick,
      epochs-fields H g 0 shape.clients
          (λ c low high. epoch-small shape H g c small legal high),
    ),
  ),
)

behind_three : (a b c : List ℕ) (fs gs : List (List ℕ)) → a ∷ b ∷ c ∷ fs ≡ a ∷ b ∷ c ∷ gs → fs ≡ gs
behind_three a b c fs gs e = cc e

-- the epochs of a closing turn, and what follows
reads-same : (shape : Shape) (H K : History) (g : ℕ) (x y : List ℕ) → IsSmall shape g →
    IsTurn shape g (turn_of H g) → IsTurn shape g (turn_of K g) →
    line (codes "reads" ∷ reads_fields shape H g) ++ x
    ≡ line (codes "reads" ∷ reads_fields shape K g) ++ y →
    ((turn_of H g).epochs ≡ (turn_of K g).epochs) × (x ≡ y)
reads-same shape H K g x y small legal also e =
    let cut = cut_line (codes "reads") (codes "reads") (reads_fields shape H g)
    (reads_fields shape K g) x y (reads-fields shape H g small legal)
    (reads-fields shape K g small also) e
    in
    let told = behind_three (codes "reads") (decimal (phase_of shape g))
    (decimal (tick_of shape g)) (epoch_fields H g 0 shape.clients)
    (epoch_fields K g 0 shape.clients) cut.0
    in
    let same = epochs-same H K g 0 shape.clients
    (λ c low high. epoch-small shape H g c small legal high)
    (λ c low high. epoch-small shape K g c small also high) told
    in (
      ext_get_or 0 (turn_of H g).epochs (turn_of K g).epochs (legal.readers ∙ sym also.readers)
          (λ c low. same c (omega arith) (omega (arith, low, legal.readers))),
      cut.1,
    )

-- the epochs of a turn, whether it closes or not, and what follows
epochs-told : (shape : Shape) (H K : History) (g : ℕ) (x y : List ℕ) → IsSmall shape g →
    IsTurn shape g (turn_of H g) → IsTurn shape g (turn_of K g) →
    cond (is_closing shape g) (line (codes "reads" ∷ reads_fields shape H g)) [] ++ x
    ≡ cond (is_closing shape g) (line (codes "reads" ∷ reads_fields shape K g)) [] ++ y →
    ((turn_of H g).epochs ≡ (turn_of K g).epochs) × (x ≡ y)
epochs-told shape H K g x y small legal also e =
    elim (is_closing shape g)
    as (λ b. is_closing shape g ≡ b →
    cond b (line (codes "reads" ∷ reads_fields shape H g)) [] ++ x
    ≡ cond b (line (codes "reads" ∷ reads_fields shape K g)) [] ++ y →
    ((turn_of H g).epochs ≡ (turn_of K g).epochs) × (x ≡ y)) [
      | true ↦ λ _ told. reads-same shape H K g x y small legal also told
      | false ↦ λ open_turn rest. (
        epochs_of_open shape g (turn_of H g) open_turn legal
            ∙ sym (epochs_of_open shape g (turn_of K g) open_turn also),
        rest,
      )
    ] refl e

-- the lines of a turn tell it, and what follows
turn-told : (shape : Shape) (H K : History) (g : ℕ) (x y : List ℕ) → g < turn_count shape →
    IsTurn shape g (turn_of H g) → IsTurn shape g (turn_of K g) →
    turn_lines shape H g ++ x ≡ turn_lines shape K g ++ y → (turn_of H g ≡ turn_of K g) × (x ≡ y)
turn-told shape H K g x y low legal also e =
    let small = is-small shape g low in
    let first = line (codes "order" ∷ order_fields shape H g) in
    let other = line (codes "order" ∷ order_fields shape K g) in
    let reads = cond (is_closing shape g) (line (codes "reads" ∷ reads_fields shape H g)) [] in
    let others = cond (is_closing shape g) (line (codes "reads" ∷ reads_fields shape K g)) [] in
    let cut = cut_line (codes "order") (codes "order") (order_fields shape H g)
    (order_fields shape K g) (reads ++ x) (others ++ y) (order-fields shape H g small legal)
    (order-fields shape K g small also)
    (sym (append_assoc first reads x) ∙ e ∙ append_assoc other others y)
    in
    let told = behind_three (codes "order") (decimal (phase_of shape g))
    (decimal (tick_of shape g)) (map item_word (order_at H g))
    (map item_word (order_at K g)) cut.0
    in
    let order = items-same shape.clients (order_at H g) (order_at K g) shape.in_range.clients_high
    (turn_within shape g (turn_of H g) legal) (turn_within shape g (turn_of K g) also) told
    in
    let epochs = epochs-told shape H K g x y small legal also cut.1 in
    (same_turn (turn_of H g) (turn_of K g) order epochs.0, epochs.1)

-- ---- all turns

turns-told : (shape : Shape) (H K : History) (a n : ℕ) (x y : List ℕ) → IsLegal shape H →
    IsLegal shape K → a + n ≤ turn_count shape →
    flat_map (turn_lines shape H) (range_with_len a n) ++ x
    ≡ flat_map (turn_lines shape K) (range_with_len a n) ++ y →
    (g : ℕ) → a ≤ g → g < a + n → turn_of H g ≡ turn_of K g
turns-told shape H K a zero x y legal also within e g low high = absurd (omega (arith, low, high))
turns-told shape H K a (suc n) x y legal also within e g low high =
    let behind = flat_map (turn_lines shape H) (range_with_len (a + 1) n) in
    let others = flat_map (turn_lines shape K) (range_with_len (a + 1) n) in
    let here : a < turn_count shape = omega (arith, within) in
    let first = turn-told shape H K a (behind ++ x) (others ++ y) here (legal.each_turn a here)
    (also.each_turn a here)
    (sym (append_assoc (turn_lines shape H a) behind x) ∙ e
    ∙ append_assoc (turn_lines shape K a) others y)
    in
    elim (cases_lt a g) [
      | inl later ↦ turns-told shape H K (a + 1) n x y legal also (omega (arith, within)) first.1 g
          (omega (arith, later)) (omega (arith, high))
      | inr not_later ↦
          let same : a ≡ g = omega (arith, low, not_later) in
          subst (λ k. turn_of H k ≡ turn_of K k) same first.0
    ]

pub shows-one : ShowsOne
unfolding history_lines
shows-one shape bytes H K shows also =
    let head = line (codes "report" ∷ []) in
    let whole = append_cancel_left head (history_lines shape H ++ shows.rest)
    (history_lines shape K ++ also.rest) (sym shows.front ∙ also.front)
    in
    let counted = shows.legal.turns_counted in
    ext_get_or blank_turn H K (counted ∙ sym also.legal.turns_counted)
    (λ g low. turns-told shape H K 0 (turn_count shape) shows.rest also.rest shows.legal also.legal
    (omega arith) whole g (omega arith) (omega (arith, low, counted)))
