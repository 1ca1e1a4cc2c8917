-- The first part of a line, and what the parts of one spell, read one by one.
use Rattle.std.proofs.Common.{◌≡◌, ◌≢◌, refl, ap, ap₂, sym, ◌∙◌, arith, codes}
use Rattle.std.proofs.Common.{ℕ, ◌+◌, ◌<◌, ◌^◌, zero, suc, Bool, true, false, cond}
use Rattle.std.proofs.Common.{List, [], ◌∷◌, ◌++◌, length, take, drop, get_or, decimal}
use Rattle.std.proofs.Common.{Option, Some, None, ne_eqb, eq-eqb}
use Rattle.std.specs.Prelude.{◌==◌}
use Rattle.std.specs.List.{onto_first}
use Rattle.std.specs.Str.{bytes_eq}
use Rattle.tk_script.specs.Reading.{parts_of, number_spelled, numbers_spelled, items_spelled, no_turn, turn_parts}
use Rattle.tk_script.proofs.CauseLaws.{differ}
use Rattle.tk_script.proofs.PartLaws.{number_spelled-decimal}
use Rattle.tk_script.specs.Reading.{order_said, reads_said, turn_said, read_turn}
use Rattle.tk_script.specs.TurnHead.{HasHead}

-- ---- the first part

-- a text whose first space stands at i
pub parts-first : (text : List ℕ) (i : ℕ) → i < length text → get_or text i 0 ≡ 0x20 →
    ((k : ℕ) → k < i → get_or text k 0 ≢ 0x20) →
    parts_of text ≡ take i text ∷ parts_of (drop (i + 1) text)
parts-first [] i within space before = absurd (omega (arith, within))
parts-first (b ∷ bs) zero within space before = rw (eq-eqb b 0x20 space) refl
parts-first (b ∷ bs) (suc i) within space before =
    rw (ne_eqb b 0x20 (before 0 (omega arith)))
    (ap (onto_first b) (parts-first bs i (omega (arith, within)) space
    (λ k h. before (suc k) (omega (arith, h))))
    ∙ ap (λ (n : ℕ). (b ∷ take i bs) ∷ parts_of (drop n (b ∷ bs))) one_more)
  where
    one_more : suc (i + 1) ≡ suc i + 1
    one_more = omega arith

-- one without a space
pub parts-whole : (text : List ℕ) → ((k : ℕ) → k < length text → get_or text k 0 ≢ 0x20) →
    parts_of text ≡ text ∷ []
parts-whole [] none = refl
parts-whole (b ∷ bs) none =
    rw (ne_eqb b 0x20 (none 0 (omega arith)))
    (ap (onto_first b) (parts-whole bs (λ k h. none (suc k) (omega (arith, h)))))

-- ---- what parts spell

-- a list in front of one that may be there
abbrev pub in_front : {X : Type 0} → List X → Option (List X) → Option (List X)
in_front xs None = None
in_front xs (Some ys) = Some (xs ++ ys)

-- ---- numbers of 32 bits

pub some-spelled : (text : List ℕ) (n : ℕ) → text ≡ decimal n → n < 2 ^ 32 →
    number_spelled text ≡ Some n
some-spelled text n is small = ap number_spelled is ∙ number_spelled-decimal n small

-- ---- the head of a line

none-by : (word : List ℕ) (o : Option ℕ) (rest : List (List ℕ)) →
    (turn_said word None o rest ≡ no_turn) × (turn_said word o None rest ≡ no_turn)
none-by word o rest =
    (first (bytes_eq word (codes "order")), second (bytes_eq word (codes "order")) o)
  where
    inner : (t : Bool) → cond t no_turn no_turn ≡ no_turn
    inner true = refl
    inner false = refl

    without : (t : Bool) (o : Option ℕ) →
        cond t (reads_said o None (numbers_spelled rest)) no_turn ≡ no_turn
    without true None = refl
    without true (Some n) = refl
    without false o = refl

    first : (t : Bool) →
        cond t no_turn (cond (bytes_eq word (codes "reads")) no_turn no_turn) ≡ no_turn
    first true = refl
    first false = inner (bytes_eq word (codes "reads"))

    second : (t : Bool) (o : Option ℕ) →
        cond t (order_said o None (items_spelled rest))
        (cond (bytes_eq word (codes "reads")) (reads_said o None (numbers_spelled rest)) no_turn)
        ≡ no_turn
    second true None = refl
    second true (Some n) = refl
    second false o = without (bytes_eq word (codes "reads")) o

pub kind-one : (line w : List ℕ) → parts_of line ≡ w ∷ [] → read_turn line ≡ no_turn
kind-one line w e = ap turn_parts e

pub kind-two : (line w rest p : List ℕ) → parts_of line ≡ w ∷ parts_of rest →
    parts_of rest ≡ p ∷ [] → read_turn line ≡ no_turn
kind-two line w rest p e f = ap turn_parts (e ∙ ap (λ (ps : List (List ℕ)). w ∷ ps) f)

pub kind-three : (line w rest p more t : List ℕ) → parts_of line ≡ w ∷ parts_of rest →
    parts_of rest ≡ p ∷ parts_of more → parts_of more ≡ t ∷ [] → read_turn line ≡ no_turn
kind-three line w rest p more t e f g =
    ap turn_parts (e ∙ ap (λ (ps : List (List ℕ)). w ∷ ps)
    (f ∙ ap (λ (ps : List (List ℕ)). p ∷ ps) g))

-- a word, a phase, a tick and what follows
pub parts-four : (line w rest p more t last : List ℕ) → parts_of line ≡ w ∷ parts_of rest →
    parts_of rest ≡ p ∷ parts_of more → parts_of more ≡ t ∷ parts_of last →
    parts_of line ≡ w ∷ p ∷ t ∷ parts_of last
parts-four line w rest p more t last e f g =
    e ∙ ap (λ (ps : List (List ℕ)). w ∷ ps) (f ∙ ap (λ (ps : List (List ℕ)). p ∷ ps) g)

-- a part at least
record HasPart (text : List ℕ) : Type 0 where
  first : List ℕ
  behind : List (List ℕ)
  parts : parts_of text ≡ first ∷ behind

some-part : (text : List ℕ) → HasPart text
some-part [] = record { first = []; behind = []; parts = refl }
some-part (b ∷ bs) =
    let later = some-part bs in
    elim (b == 0x20)
    as (λ t. (b == 0x20) ≡ t → HasPart (b ∷ bs)) [
      | true ↦ λ e. record {
        first = [];
        behind = parts_of bs;
        parts = ap (λ t. cond t ([] ∷ parts_of bs) (onto_first b (parts_of bs))) e;
      }
      | false ↦ λ e. record {
        first = b ∷ later.first;
        behind = later.behind;
        parts = ap (λ t. cond t ([] ∷ parts_of bs) (onto_first b (parts_of bs))) e
            ∙ ap (onto_first b) later.parts;
      }
    ] refl

kind-by : (line w p t last : List ℕ) → parts_of line ≡ w ∷ p ∷ t ∷ parts_of last →
    read_turn line ≡ turn_said w (number_spelled p) (number_spelled t) (parts_of last)
kind-by line w p t last e =
    let some = some-part last in
    ap turn_parts (e ∙ ap (λ (ps : List (List ℕ)). w ∷ p ∷ t ∷ ps) some.parts)
    ∙ ap (turn_said w (number_spelled p) (number_spelled t)) (sym some.parts)

pub kind-no_phase : (line w p t last : List ℕ) → parts_of line ≡ w ∷ p ∷ t ∷ parts_of last →
    number_spelled p ≡ None → read_turn line ≡ no_turn
kind-no_phase line w p t last e none =
    kind-by line w p t last e
    ∙ ap (λ (o : Option ℕ). turn_said w o (number_spelled t) (parts_of last)) none
    ∙ (none-by w (number_spelled t) (parts_of last)).0

pub kind-no_tick : (line w p t last : List ℕ) → parts_of line ≡ w ∷ p ∷ t ∷ parts_of last →
    number_spelled t ≡ None → read_turn line ≡ no_turn
kind-no_tick line w p t last e none =
    kind-by line w p t last e
    ∙ ap (λ (o : Option ℕ). turn_said w (number_spelled p) o (parts_of last)) none
    ∙ (none-by w (number_spelled p) (parts_of last)).1

head-by : (line word last : List ℕ) (phase tick : ℕ) →
    HasHead (parts_of line) word phase tick (parts_of last) →
    read_turn line ≡ turn_said word (Some phase) (Some tick) (parts_of last)
head-by line word last phase tick has =
    kind-by line word has.phase_text has.tick_text last has.whole
    ∙ ap₂ (λ (a b : Option ℕ). turn_said word a b (parts_of last)) has.phase_is has.tick_is

pub head-order : (line word last : List ℕ) (phase tick : ℕ) →
    HasHead (parts_of line) word phase tick (parts_of last) → word ≡ codes "order" →
    order_said (Some phase) (Some tick) (items_spelled (parts_of last)) ≡ read_turn line
head-order line word last phase tick has is =
    sym (head-by line word last phase tick has
    ∙ ap (λ (w : List ℕ). turn_said w (Some phase) (Some tick) (parts_of last)) is)

pub head-reads : (line word last : List ℕ) (phase tick : ℕ) →
    HasHead (parts_of line) word phase tick (parts_of last) → word ≡ codes "reads" →
    reads_said (Some phase) (Some tick) (numbers_spelled (parts_of last)) ≡ read_turn line
head-reads line word last phase tick has is =
    sym (head-by line word last phase tick has
    ∙ ap (λ (w : List ℕ). turn_said w (Some phase) (Some tick) (parts_of last)) is)

pub head-other : (line word last : List ℕ) (phase tick : ℕ) →
    HasHead (parts_of line) word phase tick (parts_of last) → (word ≡ codes "order" → ⊥) →
    (word ≡ codes "reads" → ⊥) → no_turn ≡ read_turn line
head-other line word last phase tick has not_order not_reads =
    let order = order_said (Some phase) (Some tick) (items_spelled (parts_of last)) in
    let reads = reads_said (Some phase) (Some tick) (numbers_spelled (parts_of last)) in
    sym (head-by line word last phase tick has
    ∙ ap (λ b. cond b order (cond (bytes_eq word (codes "reads")) reads no_turn))
    (differ word (codes "order") not_order)
    ∙ ap (λ b. cond b reads no_turn) (differ word (codes "reads") not_reads))
