-- An order's displaced writes, when one more entry comes.
use Rattle.std.proofs.Common.{◌≡◌, ◌∙◌, ℕ, ◌+◌, ◌*◌, ◌^◌, ◌<◌, ◌≤◌, refl, ap, ap₂, sym, subst, arith}
use Rattle.std.proofs.Common.{Bool, true, false, cond, List, [], ◌∷◌, ◌++◌, length, take}
use Rattle.std.specs.Prelude.{Option, Some, None, option_map, slice_index_or}
use Rattle.std.proofs.lemmas.List.{take_more, length-take-le}
use Rattle.std.proofs.lemmas.Nat.{mul-le}
use Rattle.tk_shape.specs.declared.shape.Shape.{Shape}
use Rattle.tk_shape.specs.Lengths.{turn_count}
use Rattle.tk_frames.specs.declared.entry.Entry.{Entry}
use Rattle.tk_frames.specs.declared.entry.Entry.TheVariants.{Write, Mark}
use Rattle.tk_frames.specs.declared.entry.Placed.{Placed as AtPlace}
use Rattle.tk_frames.specs.InOrder.{IsNext, IsNextAt, IsOrder, mark_count}
use Rattle.tk_frames.specs.Order.{record_at, records}
use Rattle.tk_frames.proofs.Offers.{record_of, records-write, records-mark, turn_count_small}
use Rattle.tk_frames.proofs.Offers.{order-entry}
use Rattle.tk_table.specs.declared.table.Put.{Put}
use Rattle.tk_table.specs.declared.table.Put.TheVariants.{Placed, Displaced}
use Rattle.tk_table.specs.Puts.{put_after, put_of}
use Rattle.tk_table.specs.Table.{is_displaced}
use Rattle.tk_report.specs.Displaced.{displaced_on, displaced_in}
use Rattle.tk_report.proofs.DisplacedLaws.{displaced-more}

-- ---- what became of the entry

-- how many displaced writes it is
abbrev pub one_where_displaced : Option Put → ℕ
one_where_displaced None = 0
one_where_displaced (Some Placed) = 0
one_where_displaced (Some Displaced) = 1

one-told : (displaced : Bool) →
    cond displaced 1 0 ≡ one_where_displaced (Some (cond displaced Displaced Placed))
one-told true = refl
one-told false = refl

displaced-next : (shape : Shape) (E : List AtPlace) (p : AtPlace) (entry : Entry) →
    p.entry ≡ entry →
    displaced_in shape (E ++ p ∷ []) ≡ displaced_in shape E + one_where_displaced
    (option_map (put_after shape (records E)) (record_at p.position entry))
unfolding put_after
displaced-next shape E p (Write w) at =
    ap (displaced_on shape [] []) (records-write E p w at)
    ∙ displaced-more shape (records E) (record_of p w)
    ∙ ap (λ (n : ℕ). displaced_in shape E + n)
    (one-told (is_displaced shape (records E) (record_of p w)))
displaced-next shape E p (Mark e) at =
    let none : displaced_in shape E ≡ displaced_in shape E + 0 = omega arith in
    ap (displaced_on shape [] []) (records-mark E p e at) ∙ none

-- so many more are displaced
pub displaced-told : (shape : Shape) (E : List AtPlace) (p : AtPlace) (before : ℕ)
    (put told : Option Put) → before ≡ displaced_in shape E → put ≡ put_of shape E p →
    put ≡ told → before + one_where_displaced told ≡ displaced_in shape (E ++ p ∷ [])
displaced-told shape E p before put told so_far is this =
    ap₂ (λ (n : ℕ) (x : Option Put). n + one_where_displaced x) so_far (sym this ∙ is)
    ∙ sym (displaced-next shape E p p.entry refl)

one-at-most : (put : Option Put) → one_where_displaced put ≤ 1
one-at-most None = omega arith
one-at-most (Some Placed) = omega arith
one-at-most (Some Displaced) = omega arith

-- that is one at most
pub displaced-most : (shape : Shape) (E : List AtPlace) (p : AtPlace) (before : ℕ)
    (put : Option Put) → before ≡ displaced_in shape E → put ≡ put_of shape E p →
    displaced_in shape (E ++ p ∷ []) ≤ before + 1
displaced-most shape E p before put so_far is =
    let told = displaced-told shape E p before put put so_far is refl in
    omega (arith, told, one-at-most put)

-- ---- there are few entries

-- no place is higher than 32 bits can count
pub next-few : (shape : Shape) (E : List AtPlace) (p : AtPlace) → IsNext shape E p →
    length E + 1 < 2 ^ 32
next-few shape E p next =
    let writes : shape.clients * turn_count shape ≤ 64 * 16384 =
    mul-le shape.clients (turn_count shape) 64 16384 shape.in_range.clients_high
    (turn_count_small shape)
    in
    omega (arith, next.at, next.in_range.position_high, writes, shape.in_range.phases_high)

-- ---- the entries of an order, one after the other

pub front-none : (E : List AtPlace) → [] ≡ take 0 E
front-none [] = refl
front-none (p ∷ E) = refl

module _ (shape : Shape) (E : List AtPlace) (order : IsOrder shape E) (i : ℕ) (p : AtPlace)
    (low : i < length E) (at : p ≡ slice_index_or E i p) where
  pub front-next : IsNext shape (take i E) p
  front-next =
      let long : length (take i E) ≡ i = length-take-le i E (omega (arith, low)) in
      subst (λ (q : AtPlace). IsNext shape (take i E) q) (sym at)
      (subst (λ (n : ℕ). IsNextAt shape (n + 1) (mark_count (take i E) + 1) (slice_index_or E i p))
      (sym long) (order-entry shape E i p order low))

  pub front-more : take i E ++ p ∷ [] ≡ take (i + 1) E
  front-more =
      ap (λ (q : AtPlace). take i E ++ q ∷ []) at ∙ sym (take_more E i p low)
