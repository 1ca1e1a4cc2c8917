-- Which text the slots of blocks give: the earliest of each block, and of two blocks the earlier.
use Rattle.std.proofs.Common.{◌≡◌, refl, ap, ap₂, sym, ◌∙◌, arith, inl, inr}
use Rattle.std.proofs.Common.{ℕ, ◌+◌, ◌*◌, ◌/◌, ◌<◌, Bool, true, false, cond, ◌&&◌}
use Rattle.std.proofs.Common.{List, [], ◌∷◌, ◌++◌, length, map, eq-eqb}
use Rattle.std.specs.Prelude.{◌==◌, not, Option, Some, None, option_map}
use Rattle.std.specs.List.{filter_map, cons_option}
use Rattle.std.proofs.lemmas.Bool.{ne_eqb, le-leb, lt-leb, cases_lt, and_from, cond-true}
use Rattle.std.proofs.lemmas.List.Elements.{filter_map-append}
use Rattle.std.proofs.lemmas.Nat.{div-mul-add}
use Rattle.tk_shape.specs.declared.shape.Shape.{Shape}
use Rattle.tk_shape.specs.Lengths.{slot_len, width}
use Rattle.tk_kernel.specs.Pieces.{pieces, all_pieces}
use Rattle.tk_kernel.proofs.Offers.{all_pieces-append, all_pieces_short}
use Rattle.tk_frames.specs.Slots.{Slot, slot_from, slots_in, Accepted, accepted, earlier_of, earliest, text_among}
use Rattle.tk_client.specs.Taken.{earlier_of_both}

-- ---- the earlier of several

earlier_of-assoc : (x y z : Accepted) →
    earlier_of (earlier_of x (Some y)) (Some z) ≡ earlier_of x (Some (earlier_of y (Some z)))
earlier_of-assoc x y z =
    elim (cases_lt y.0 x.0) [
      | inl yx ↦ elim (cases_lt z.0 y.0) [
        | inl zy ↦
            let a = lt-leb x.0 y.0 yx in
            let b = lt-leb y.0 z.0 zy in
            let d = lt-leb x.0 z.0 (omega (arith, yx, zy)) in
            simp (a, b, d)
        | inr yz ↦
            let a = lt-leb x.0 y.0 yx in
            let b = le-leb y.0 z.0 yz in
            simp (a, b)
      ]
      | inr xy ↦ elim (cases_lt z.0 y.0) [
        | inl zy ↦
            let a = le-leb x.0 y.0 xy in
            let b = lt-leb y.0 z.0 zy in
            simp (a, b)
        | inr yz ↦
            let a = le-leb x.0 y.0 xy in
            let b = le-leb y.0 z.0 yz in
            let d = le-leb x.0 z.0 (omega (arith, xy, yz)) in
            simp (a, b, d)
      ]
    ]

earlier-assoc : (x y z : Option Accepted) →
    earlier_of_both (earlier_of_both x y) z ≡ earlier_of_both x (earlier_of_both y z)
earlier-assoc None y z = refl
earlier-assoc (Some x) None z = refl
earlier-assoc (Some x) (Some y) None = refl
earlier-assoc (Some x) (Some y) (Some z) = ap {B = Option Accepted} Some (earlier_of-assoc x y z)

earlier-none : (x : Option Accepted) → earlier_of_both x None ≡ x
earlier-none None = refl
earlier-none (Some x) = refl

earliest-front : (gives : Slot → Option Accepted) (s : Slot) (ss : List Slot) →
    earliest (filter_map gives (s ∷ ss))
    ≡ earlier_of_both (gives s) (earliest (filter_map gives ss))
earliest-front gives s ss =
    let rest = filter_map gives ss in
    elim (gives s) as (λ o. earliest (cons_option o rest) ≡ earlier_of_both o (earliest rest))
    [ None ↦ refl | Some x ↦ refl ]

earliest-append : (xs ys : List Accepted) →
    earliest (xs ++ ys) ≡ earlier_of_both (earliest xs) (earliest ys)
earliest-append [] ys = refl
earliest-append (x ∷ xs) ys =
    ap (earlier_of_both (Some x)) (earliest-append xs ys)
    ∙ sym (earlier-assoc (Some x) (earliest xs) (earliest ys))

-- ---- what one slot gives

-- the slot isn't empty, and its buckets are the pair, in order
abbrev is_for : ℕ × ℕ → Slot → Bool
is_for pair slot = not (slot.position == 0) && slot.first == pair.0 && slot.second == pair.1

abbrev at_position : ℕ → Option (List ℕ) → Option Accepted
at_position position opened = option_map {U = Accepted} (λ (text : List ℕ). (position, text)) opened

pub accepted_text : (pair : ℕ × ℕ) (opens : List ℕ → Option (List ℕ)) (slot : Slot)
    (text : List ℕ) → (slot.position ≡ 0 → ⊥) → slot.first ≡ pair.0 → slot.second ≡ pair.1 →
    opens slot.block ≡ Some text → accepted pair opens slot ≡ Some (slot.position, text)
accepted_text pair opens slot text filled first second opened_is =
    let some = not (slot.position == 0) in
    let first_test = slot.first == pair.0 in
    let second_test = slot.second == pair.1 in
    let filled_is : some ≡ true = ap not (ne_eqb slot.position 0 filled) in
    let front = and_from some first_test filled_is (eq-eqb slot.first pair.0 first) in
    let all = and_from (some && first_test) second_test front (eq-eqb slot.second pair.1 second) in
    cond-true (is_for pair slot) (at_position slot.position (opens slot.block)) None all
    ∙ ap (at_position slot.position) opened_is

pub accepted_nothing : (pair : ℕ × ℕ) (opens : List ℕ → Option (List ℕ)) (slot : Slot) →
    opens slot.block ≡ None → accepted pair opens slot ≡ None
accepted_nothing pair opens slot closed =
    let nothing : Option Accepted = None in
    ap (λ (o : Option (List ℕ)). cond (is_for pair slot) (at_position slot.position o) None) closed
    ∙ elim (is_for pair slot) as (λ b. cond b nothing nothing ≡ nothing)
    [ true ↦ refl | false ↦ refl ]

-- ---- what a block's slots give, slot by slot

-- the earliest that whole slots one after the other give
abbrev pub given : Shape → ℕ × ℕ → (List ℕ → Option (List ℕ)) → List ℕ → Option Accepted
given shape pair opens bytes =
    earliest (filter_map (accepted pair opens) (map slot_from (all_pieces (slot_len shape) bytes)))

slot_some : (shape : Shape) → 0 < slot_len shape
slot_some shape = omega arith

given-front : (shape : Shape) (pair : ℕ × ℕ) (opens : List ℕ → Option (List ℕ))
    (bytes slot rest : List ℕ) →
    bytes ≡ slot ++ rest → length slot ≡ slot_len shape →
    given shape pair opens bytes
    ≡ earlier_of_both (accepted pair opens (slot_from slot)) (given shape pair opens rest)
given-front shape pair opens bytes slot rest split long =
    let size = slot_len shape in
    let each = accepted pair opens in
    ap (given shape pair opens) split
    ∙ ap (λ (ps : List (List ℕ)). earliest (filter_map each (map slot_from ps)))
    (all_pieces-append size slot rest (slot_some shape) long)
    ∙ earliest-front each (slot_from slot) (map slot_from (all_pieces size rest))

-- one slot further
pub given-next : (shape : Shape) (pair : ℕ × ℕ) (opens : List ℕ → Option (List ℕ))
    (block bytes slot rest : List ℕ) (so_far next after : Option Accepted) → bytes ≡ slot ++ rest →
    length slot ≡ slot_len shape → next ≡ accepted pair opens (slot_from slot) →
    after ≡ earlier_of_both so_far next →
    earlier_of_both so_far (given shape pair opens bytes) ≡ given shape pair opens block →
    earlier_of_both after (given shape pair opens rest) ≡ given shape pair opens block
given-next shape pair opens block bytes slot rest so_far next after
    split long next_is after_is whole =
    let later = given shape pair opens rest in
    ap (λ (o : Option Accepted). earlier_of_both o later)
    (after_is ∙ ap (earlier_of_both so_far) next_is)
    ∙ earlier-assoc so_far (accepted pair opens (slot_from slot)) later
    ∙ ap (earlier_of_both so_far) (sym (given-front shape pair opens bytes slot rest split long))
    ∙ whole

given-slots : (shape : Shape) (pair : ℕ × ℕ) (opens : List ℕ → Option (List ℕ)) (block : List ℕ) →
    length block ≡ width shape →
    given shape pair opens block
    ≡ earliest (filter_map (accepted pair opens) (slots_in shape block))
given-slots shape pair opens block whole =
    let size = slot_len shape in
    let same : length block ≡ shape.depth * size + 0 = omega (arith, whole) in
    let count : length block / size ≡ shape.depth =
    ap (λ n. n / size) same ∙ div-mul-add shape.depth size 0 (slot_some shape)
    in
    ap (λ (ps : List (List ℕ)). earliest (filter_map (accepted pair opens) (map slot_from ps)))
    (ap (λ n. pieces size n block) count)

-- with no slot left
pub given-all : (shape : Shape) (pair : ℕ × ℕ) (opens : List ℕ → Option (List ℕ))
    (block rest : List ℕ) (found : Option Accepted) →
    length block ≡ width shape → length rest < slot_len shape →
    earlier_of_both found (given shape pair opens rest) ≡ given shape pair opens block →
    found ≡ earliest (filter_map (accepted pair opens) (slots_in shape block))
given-all shape pair opens block rest found whole short all =
    let each = accepted pair opens in
    let gives = λ (ps : List (List ℕ)). earliest (filter_map each (map slot_from ps)) in
    sym (earlier-none found)
    ∙ ap (λ (ps : List (List ℕ)). earlier_of_both found (gives ps))
    (sym (all_pieces_short (slot_len shape) rest short))
    ∙ all ∙ given-slots shape pair opens block whole

-- ---- two blocks

pub text_of_two : (shape : Shape) (pair : ℕ × ℕ) (opens : List ℕ → Option (List ℕ))
    (first second : List ℕ) (one other both : Option Accepted) →
    one ≡ earliest (filter_map (accepted pair opens) (slots_in shape first)) →
    other ≡ earliest (filter_map (accepted pair opens) (slots_in shape second)) →
    both ≡ earlier_of_both one other →
    option_map (λ (x : Accepted). x.1) both
    ≡ text_among pair opens (slots_in shape first ++ slots_in shape second)
text_of_two shape pair opens first second one other both one_is other_is both_is =
    let each = accepted pair opens in
    let xs = slots_in shape first in
    let ys = slots_in shape second in
    ap (option_map (λ (x : Accepted). x.1))
    (both_is ∙ ap₂ earlier_of_both one_is other_is
    ∙ sym (earliest-append (filter_map each xs) (filter_map each ys))
    ∙ ap earliest (sym (filter_map-append each xs ys)))
