-- What a client sends is in the order of its turns, and what it sends in one is found there.
use Rattle.std.proofs.Common.{◌≡◌, ◌≢◌, ◌∙◌, ap, sym, refl, subst, arith}
use Rattle.std.proofs.Common.{ℕ, zero, suc, ◌+◌, ◌<◌, ◌≤◌, max, Bool, true, false, cond}
use Rattle.std.proofs.Common.{List, [], ◌∷◌, length, filter, find, get_or, map, ne_eqb, eq-eqb, Some, None, inl, inr}
use Rattle.std.specs.Prelude.{◌==◌, All}
use Rattle.std.specs.List.{range_with_len}
use Rattle.std.specs.List.Sorted.{IsNonDecreasingBy, IsPartitionPoint}
use Rattle.std.proofs.lemmas.Bool.{cases_lt}
use Rattle.std.proofs.lemmas.List.{get_or_default}
use Rattle.std.proofs.lemmas.List.Elements.{All-weaker, All-filter}
use Rattle.std.proofs.lemmas.List.FromFn.{length-map-range_with_len, get_or-map-range_with_len}
use Rattle.tk_shape.specs.declared.shape.Shape.{Shape}
use Rattle.tk_schedule.specs.Schedule.{turn_at}
use Rattle.tk_script.specs.declared.script.Script.{Script}
use Rattle.tk_script.specs.declared.say.Say.{Say}
use Rattle.tk_script.specs.Sent.{Sending, sendings_from, in_run, sent, writer_of}
use Rattle.tk_script.proofs.Offers.{turns-behind}
use Rattle.tk_report.specs.Listings.{sent_by}

-- ---- in the order of the turns

abbrev pub turn_in : Sending → ℕ
turn_in y = y.turn

-- each is sent no later than those after it
abbrev AscendByTurn : List Sending → Type 0
AscendByTurn [] = Unit {0}
AscendByTurn (y ∷ ys) = All (λ (z : Sending). y.turn ≤ z.turn) ys × AscendByTurn ys

ascend-filter : (p : Sending → Bool) (ys : List Sending) → AscendByTurn ys →
    AscendByTurn (filter p ys)
ascend-filter p [] h = tt
ascend-filter p (y ∷ ys) h =
    elim (p y) as (λ b. AscendByTurn (cond b (y ∷ filter p ys) (filter p ys))) [
      | true ↦
          (All-filter p (λ (z : Sending). y.turn ≤ z.turn) ys h.0, ascend-filter p ys h.1)
      | false ↦ ascend-filter p ys h.1
    ]

sendings-ascend : (shape : Shape) (free : ℕ) (earlier says : List Say) →
    AscendByTurn (sendings_from shape free earlier says)
unfolding sendings_from
sendings-ascend shape free earlier [] = tt
sendings-ascend shape free earlier (y ∷ says) =
    let turn = max (turn_at shape y.phase y.tick) free in
    let later = sendings_from shape (turn + 1) (y ∷ earlier) says in (
      All-weaker (λ (z : Sending). turn + 1 ≤ z.turn) (λ (z : Sending). turn ≤ z.turn)
          (λ z h. omega (arith, h)) later (turns-behind shape (turn + 1) (y ∷ earlier) says),
      sendings-ascend shape (turn + 1) (y ∷ earlier) says,
    )

ascend-by_turn : (ys : List Sending) → AscendByTurn ys → IsNonDecreasingBy turn_in ys
ascend-by_turn [] h i j d less low = absurd (omega (arith, low))
ascend-by_turn (y ∷ ys) h zero zero d less low = omega arith
ascend-by_turn (y ∷ ys) h zero (suc j) d less low = h.0 j d (omega (arith, low))
ascend-by_turn (y ∷ ys) h (suc i) zero d less low = absurd (omega (arith, less))
ascend-by_turn (y ∷ ys) h (suc i) (suc j) d less low =
    ascend-by_turn ys h.1 i j d (omega (arith, less)) (omega (arith, low))

-- what a client sends is
pub sent_by-ascends : (S : Script) (c : ℕ) → IsNonDecreasingBy turn_in (sent_by S c)
sent_by-ascends S c =
    let mine = filter (λ (y : Say). writer_of S y.log == c) S.says in
    ascend-by_turn (sent_by S c)
    (ascend-filter (in_run S.shape) _ (sendings-ascend S.shape 0 [] mine))

-- ---- what is found

-- those before the place are sent in earlier turns, and the others are not
abbrev pub IsFirstFrom : ℕ → List Sending → ℕ → Type 0
IsFirstFrom g ys i =
    IsPartitionPoint (λ (z : Sending). z.turn < g) (λ (z : Sending). g ≤ z.turn) ys i

-- the first of a turn
pub find-turn : (ys : List Sending) (g i : ℕ) (y : Sending) → i < length ys → get_or ys i y ≡ y →
    y.turn ≡ g → ((k : ℕ) (d : Sending) → k < i → (get_or ys k d).turn < g) →
    find (λ (z : Sending). z.turn == g) ys ≡ Some y
find-turn [] g i y low here at before = absurd (omega (arith, low))
find-turn (x ∷ ys) g zero y low here at before =
    let rest = find (λ (z : Sending). z.turn == g) ys in
    ap (λ b. cond b (Some x) rest)
    (eq-eqb x.turn g (ap (λ (z : Sending). z.turn) here ∙ at))
    ∙ ap (λ (z : Sending). Some z) here
find-turn (x ∷ ys) g (suc i) y low here at before =
    let rest = find (λ (z : Sending). z.turn == g) ys in
    ap (λ b. cond b (Some x) rest)
    (ne_eqb x.turn g (λ e. let less = before 0 x (omega arith) in omega (arith, less, e)))
    ∙ find-turn ys g i y (omega (arith, low)) here at
    (λ k d less. before (suc k) d (omega (arith, less)))

-- nothing where none has the turn
pub find-none : (ys : List Sending) (g : ℕ) →
    ((k : ℕ) (d : Sending) → k < length ys → (get_or ys k d).turn ≢ g) →
    find (λ (z : Sending). z.turn == g) ys ≡ None
find-none [] g other = refl
find-none (x ∷ ys) g other =
    let rest = find (λ (z : Sending). z.turn == g) ys in
    ap (λ b. cond b (Some x) rest) (ne_eqb x.turn g (other 0 x (omega arith)))
    ∙ find-none ys g (λ k d low. other (suc k) d (omega (arith, low)))

-- what comes after those of earlier turns is of the turn
pub turn-found : (ys : List Sending) (g i : ℕ) (y : Sending) → i < length ys → y ≡ get_or ys i y →
    y.turn ≡ g → IsFirstFrom g ys i → find (λ (z : Sending). z.turn == g) ys ≡ Some y
turn-found ys g i y low here at point =
    find-turn ys g i y low (sym here) at (λ k d less. point.0 k d (omega arith) less)

-- or of a later one, and then so is each after it
pub turn-later : (ys : List Sending) (g i : ℕ) (y : Sending) → i < length ys → y ≡ get_or ys i y →
    y.turn ≢ g → IsNonDecreasingBy turn_in ys → IsFirstFrom g ys i →
    find (λ (z : Sending). z.turn == g) ys ≡ None
turn-later ys g i y low here other ascend point =
    let at : (d : Sending) → get_or ys i d ≡ y = λ d. get_or_default ys i d y low ∙ sym here in
    let late : g ≤ y.turn =
    subst (λ (z : Sending). g ≤ z.turn) (at y) (point.1 i y (omega arith) low)
    in
    find-none ys g (λ k d inside same. elim (cases_lt k i) [
      | inl before ↦
          let less = point.0 k d (omega arith) before in omega (arith, less, same)
      | inr later ↦
          let more = ascend i k d later inside in
          let first = ap (λ (z : Sending). z.turn) (at d) in
          other (omega (arith, more, first, late, same))
    ])

-- past all of them there is none
pub turn-past : (ys : List Sending) (g i : ℕ) → length ys ≤ i → IsFirstFrom g ys i →
    find (λ (z : Sending). z.turn == g) ys ≡ None
turn-past ys g i past point =
    find-none ys g (λ k d inside same.
    let less = point.0 k d (omega arith) (omega (arith, past, inside)) in
    omega (arith, less, same))

-- ---- among what each sends

-- what a client sends
pub sent_of : (S : Script) (all : List (List Sending)) (c : ℕ) (d : List Sending) →
    all ≡ map (sent_by S) (range_with_len 0 S.shape.clients) → c < S.shape.clients →
    get_or all c d ≡ sent_by S c
sent_of S all c d is low =
    ap (λ (xs : List (List Sending)). get_or xs c d) is
    ∙ get_or-map-range_with_len (sent_by S) 0 S.shape.clients c c d low (omega arith)

pub sent_each : (S : Script) (all : List (List Sending)) →
    all ≡ map (sent_by S) (range_with_len 0 S.shape.clients) → length all ≡ S.shape.clients
sent_each S all is =
    ap (λ (xs : List (List Sending)). length xs) is
    ∙ length-map-range_with_len (sent_by S) 0 S.shape.clients

-- what it sends in a turn is found in its list
found_in : (S : Script) (g c : ℕ) → find (λ (y : Sending). y.turn == g) (sent_by S c)
    ≡ sent S g c
unfolding sent
found_in S g c = refl

pub finds : (S : Script) (all : List (List Sending)) (g c : ℕ) (d : List Sending) →
    all ≡ map (sent_by S) (range_with_len 0 S.shape.clients) → c < S.shape.clients →
    find (λ (y : Sending). y.turn == g) (get_or all c d) ≡ sent S g c
finds S all g c d is low =
    ap (λ (ys : List Sending). find (λ (y : Sending). y.turn == g) ys) (sent_of S all c d is low)
    ∙ found_in S g c
