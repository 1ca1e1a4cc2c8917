-- Sums in a list, by turn, client and server.
use Rattle.std.proofs.Common.{◌≡◌, refl, ap, ap₂, sym, ◌∙◌, arith, add-mul, Bool, true, false, cond}
use Rattle.std.proofs.Common.{ℕ, ◌+◌, ◌-◌, ◌*◌, ◌/◌, ◌<◌, ◌≤◌, List, length, set, Option, Some, None}
use Rattle.std.specs.Prelude.{◌==◌, nat_lt, nat_le, ◌&&◌, slice_index_or}
use Rattle.std.proofs.lemmas.Bool.{and_parts, and_from, eqb-true, eq-eqb, ltb-true, lt-ltb, leb-true, le-leb}
use Rattle.std.proofs.lemmas.Bool.{false≢true, false_from_ne_true}
use Rattle.std.proofs.lemmas.List.{get_or-set_same, get_or-set_other}
use Rattle.std.proofs.lemmas.Nat.{div-mul-add}
use Rattle.tk_shape.specs.declared.shape.Shape.{Shape}
use Rattle.tk_shape.specs.Lengths.{turn_count}
use Rattle.tk_words.specs.CellLaws.{place_within}
use Rattle.tk_hostile.specs.declared.sums.Sums.{Sums}
use Rattle.tk_hostile.specs.Given.{given_count, is_in, place_of, sums_or_zeros, zero_sums, listed, with_sums}

-- ---- places in rows of rows

-- the place of a server's, in the row of a turn and a client
pub place-within : (g c j n m l : ℕ) → g < n → c < m → 1 ≤ j → j ≤ l →
    (g * m + c) * l + (j - 1) < n * m * l
place-within g c j n m l turn client low high =
    let all = place_within g c n m l turn client in
    let split = add-mul (g * m + c) 1 l in
    omega (arith, all, split, low, high)

-- two places in rows are one only in one row and column
rows-apart : (n a b a' b' : ℕ) → b < n → b' < n → a' * n + b' ≡ a * n + b → (a' ≡ a) × (b' ≡ b)
rows-apart n a b a' b' low low' same =
    let rows : a' ≡ a =
    sym (div-mul-add a' n b' low') ∙ ap (λ k. k / n) same ∙ div-mul-add a n b low
    in
    let starts : a' * n ≡ a * n = ap (λ k. k * n) rows in
    (rows, omega (arith, same, starts))

-- ---- turns, clients and servers that there are

pub record IsIn (shape : Shape) (g c j : ℕ) : Type 0 where
  pub turn_in : g < turn_count shape
  pub client_in : c < shape.clients
  pub low : 1 ≤ j
  pub high : j ≤ shape.servers

in-from : (shape : Shape) (g c j : ℕ) → is_in shape g c j ≡ true → IsIn shape g c j
in-from shape g c j e =
    let turn = nat_lt g (turn_count shape) in
    let client = nat_lt c shape.clients in
    let three = and_parts (turn && client && nat_le 1 j) (nat_le j shape.servers) e in
    let two = and_parts (turn && client) (nat_le 1 j) three.0 in
    let one = and_parts turn client two.0 in
    record {
      turn_in = ltb-true g (turn_count shape) one.0;
      client_in = ltb-true c shape.clients one.1;
      low = leb-true 1 j two.1;
      high = leb-true j shape.servers three.1;
    }

from-in : (shape : Shape) (g c j : ℕ) → IsIn shape g c j → is_in shape g c j ≡ true
from-in shape g c j is =
    and_from _ _
    (and_from _ _
    (and_from _ _ (lt-ltb g (turn_count shape) is.turn_in) (lt-ltb c shape.clients is.client_in))
    (le-leb 1 j is.low))
    (le-leb j shape.servers is.high)

-- ---- one place of the list is set

module _ (shape : Shape) (list : List (Option Sums)) (g c j : ℕ) (sums : Sums) where
  abbrev pub is_same : ℕ → ℕ → ℕ → Bool
  is_same g' c' j' = g' == g && c' == c && j' == j

  same-parts : (g' c' j' : ℕ) → is_same g' c' j' ≡ true → (g' ≡ g) × (c' ≡ c) × (j' ≡ j)
  same-parts g' c' j' e =
      let two = and_parts (g' == g && c' == c) (j' == j) e in
      let one = and_parts (g' == g) (c' == c) two.0 in
      (eqb-true g' g one.0, eqb-true c' c one.1, eqb-true j' j two.1)

  module _ (is : IsIn shape g c j) (counted : length list ≡ given_count shape) where
    within : place_of shape g c j < length list
    within =
        let less = place-within g c j (turn_count shape) shape.clients shape.servers is.turn_in
        is.client_in is.low is.high in
        omega (arith, less, counted)

    abbrev new : List (Option Sums)
    new = set list (place_of shape g c j) (Some sums)

    -- another place
    places-apart : (g' c' j' : ℕ) → IsIn shape g' c' j' →
        place_of shape g' c' j' ≡ place_of shape g c j → is_same g' c' j' ≡ true
    places-apart g' c' j' is' same =
        let reads = rows-apart shape.servers (g * shape.clients + c) (j - 1) (g' * shape.clients + c')
        (j' - 1) (omega (arith, is.low, is.high)) (omega (arith, is'.low, is'.high)) same in
        let turns = rows-apart shape.clients g c g' c' is.client_in is'.client_in reads.0 in
        let servers : j' ≡ j = omega (arith, reads.1, is.low, is'.low) in
        and_from _ _ (and_from _ _ (eq-eqb g' g turns.0) (eq-eqb c' c turns.1)) (eq-eqb j' j servers)

    inside : (g' c' j' : ℕ) → IsIn shape g' c' j' →
        sums_or_zeros shape (slice_index_or new (place_of shape g' c' j') None)
        ≡ cond (is_same g' c' j') sums
        (sums_or_zeros shape (slice_index_or list (place_of shape g' c' j') None))
    inside g' c' j' is' =
        let old = sums_or_zeros shape (slice_index_or list (place_of shape g' c' j') None) in
        elim (is_same g' c' j') as (λ t. is_same g' c' j' ≡ t →
        sums_or_zeros shape (slice_index_or new (place_of shape g' c' j') None) ≡ cond t sums old) [
          | true ↦ λ e.
              let parts = same-parts g' c' j' e in
              let row : g' * shape.clients + c' ≡ g * shape.clients + c =
              ap₂ (λ a b. a * shape.clients + b) parts.0 parts.1
              in
              let at : place_of shape g' c' j' ≡ place_of shape g c j =
              ap₂ (λ a b. a * shape.servers + (b - 1)) row parts.2
              in
              ap (λ k. sums_or_zeros shape (slice_index_or new k None)) at
              ∙ ap (sums_or_zeros shape)
              (get_or-set_same list (place_of shape g c j) (Some sums) None within)
          | false ↦ λ e.
              ap (sums_or_zeros shape)
              (get_or-set_other list (place_of shape g c j) (place_of shape g' c' j') (Some sums) None
              (λ at. false≢true (sym e ∙ places-apart g' c' j' is' at)))
        ] refl

    outside : (g' c' j' : ℕ) → is_in shape g' c' j' ≡ false →
        zero_sums shape ≡ cond (is_same g' c' j') sums (zero_sums shape)
    outside g' c' j' out =
        let other : is_same g' c' j' ≡ false =
        false_from_ne_true (is_same g' c' j') (λ e.
        let parts = same-parts g' c' j' e in
        let first : is_in shape g' c' j' ≡ is_in shape g c j' =
        ap₂ (λ a b. is_in shape a b j') parts.0 parts.1
        in
        let there = first ∙ ap (is_in shape g c) parts.2 ∙ from-in shape g c j is in
        false≢true (sym out ∙ there))
        in
        sym (ap (λ t. cond t sums (zero_sums shape)) other)

    pub listed-set : listed shape (set list (place_of shape g c j) (Some sums))
        ≡ with_sums g c j sums (listed shape list)
    listed-set = λ i g' c' j'. at g' c' j' i
      where
        at : (g' c' j' : ℕ) →
            listed shape new g' c' j'
            ≡ cond (is_same g' c' j') sums (listed shape list g' c' j')
        at g' c' j' =
            elim (is_in shape g' c' j') as (λ b. is_in shape g' c' j' ≡ b →
            cond b (sums_or_zeros shape (slice_index_or new (place_of shape g' c' j') None))
            (zero_sums shape)
            ≡ cond (is_same g' c' j') sums
            (cond b (sums_or_zeros shape (slice_index_or list (place_of shape g' c' j') None))
            (zero_sums shape))) [
              | true ↦ λ e. inside g' c' j' (in-from shape g' c' j' e)
              | false ↦ λ e. outside g' c' j' e
            ] refl

-- ---- what is listed
