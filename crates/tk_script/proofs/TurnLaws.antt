-- The lines of a history.
use Rattle.std.proofs.Common.{◌≡◌, ◌∙◌, ℕ, ◌≤◌, List, [], ◌∷◌, length, map, decimal, codes, cond, Bool, true, false, IsTrue, ◌⊎◌, inl, inr, Option, Some, None, Ok, Err, refl, ap, sym, subst, arith}
use Rattle.std.specs.Int.{IsInRange}
use Rattle.std.specs.List.{AllByRecursion}
use Rattle.std.specs.Option.{option_map}
use Rattle.std.specs.Str.{bytes_eq}
use Rattle.std.proofs.lemmas.List.{length-map}
use Rattle.std.proofs.lemmas.List.Splits.{join_with_byte-slice_split}
use Rattle.std.proofs.lemmas.Slice.Eq.{bytes_eq-Decides}
use Rattle.std.proofs.lemmas.Option.{same_Some}
use Rattle.tk_schedule.specs.declared.item.Item.{Item}
use Rattle.tk_schedule.specs.declared.item.Item.TheVariants.{Client, Publish}
use Rattle.tk_schedule.specs.declared.raw.RawKind.{RawKind}
use Rattle.tk_schedule.specs.declared.raw.RawKind.TheVariants.{Order, Reads, End}
use Rattle.tk_script.specs.declared.cause.Cause.TheVariants as cause
use Rattle.tk_script.specs.Fields.{LacksSpace}
use Rattle.tk_script.specs.Grammar.{Line, fields, item_word, raw_line, IsItem, IsNumber, IsTurn}
use Rattle.tk_script.specs.Reading.{Verdict, parts_of, number_spelled, numbers_spelled, item_spelled, item_before, items_spelled, order_said, reads_said, turn_said, turn_parts, read_turn}
use Rattle.tk_script.proofs.CauseLaws.{differ, lacks_by_test}
use Rattle.tk_script.proofs.FieldLaws.{LacksSpace-decimal}
use Rattle.tk_script.proofs.ListLaws.{cons_both}
use Rattle.tk_script.proofs.NumberLaws.{all_digits}
use Rattle.tk_script.proofs.OptionLaws.{ok_same, verdict_if}
use Rattle.tk_script.proofs.PartLaws.{split_field, one_field, number_spelled-decimal, number_spelled-is, numbers_spelled-decimals, numbers_spelled-are}

-- fields without spaces are the parts of their line
pub parts_of-all : (w : List ℕ) (ws : List (List ℕ)) → LacksSpace w →
    AllByRecursion LacksSpace ws → parts_of (fields (w ∷ ws)) ≡ w ∷ ws
parts_of-all w [] lacks all = one_field w lacks
parts_of-all w (v ∷ ws) lacks all =
    split_field w (fields (v ∷ ws)) lacks
    ∙ ap (λ t. w ∷ t) (parts_of-all v ws all.0 all.1)

-- ---- items

item_lacks : (x : Item) → IsItem x → LacksSpace (item_word x)
item_lacks (Client c) is = LacksSpace-decimal c is
item_lacks Publish is = lacks_by_test (codes "mark") refl

pub items_lack : (items : List Item) → AllByRecursion IsItem items →
    AllByRecursion LacksSpace (map item_word items)
items_lack [] are = tt
items_lack (x ∷ items) are = (item_lacks x are.0, items_lack items are.1)

-- the decimal of a number is no mark
no_mark : (c : ℕ) → IsNumber c → decimal c ≡ codes "mark" → ⊥
no_mark c is e =
    let first : IsInRange 48 57 109 = all_digits (codes "mark") c (omega (arith, is)) (sym e) 0
    (omega arith) in
    omega (arith, first.1)

item_own : (x : Item) → IsItem x → item_spelled (item_word x) ≡ Some x
item_own (Client c) is =
    rw (differ (decimal c) (codes "mark") (no_mark c is))
    (ap (option_map Client) (number_spelled-decimal c is))
item_own Publish is = refl

pub items_own : (items : List Item) → AllByRecursion IsItem items →
    items_spelled (map item_word items) ≡ Some items
items_own [] are = refl
items_own (x ∷ items) are =
    ap (λ o. item_before o (items_spelled (map item_word items))) (item_own x are.0)
    ∙ ap (item_before (Some x)) (items_own items are.1)

-- ---- numbers

pub numbers_lack : (ns : List ℕ) → AllByRecursion IsNumber ns →
    AllByRecursion LacksSpace (map decimal ns)
numbers_lack [] are = tt
numbers_lack (n ∷ ns) are = (LacksSpace-decimal n are.0, numbers_lack ns are.1)

-- ---- a line gives its turn

-- the parts of a line that has a word, a phase, a tick and more
parts_of-turn : (word : List ℕ) (phase tick : ℕ) (ws : List (List ℕ)) → LacksSpace word →
    IsNumber phase → IsNumber tick → AllByRecursion LacksSpace ws →
    parts_of (fields (word ∷ decimal phase ∷ decimal tick ∷ ws))
    ≡ word ∷ decimal phase ∷ decimal tick ∷ ws
parts_of-turn word phase tick ws lacks p t all =
    parts_of-all word (decimal phase ∷ decimal tick ∷ ws) lacks
    (LacksSpace-decimal phase p, (LacksSpace-decimal tick t, all))

said_so : (word : List ℕ) (phase tick : ℕ) (ws : List (List ℕ)) → 1 ≤ length ws →
    IsNumber phase → IsNumber tick →
    turn_parts (word ∷ decimal phase ∷ decimal tick ∷ ws)
    ≡ turn_said word (Some phase) (Some tick) ws
said_so word phase tick [] some p t = absurd (omega (arith, some))
said_so word phase tick (w ∷ ws) some p t =
    ap (λ o. turn_said word o (number_spelled (decimal tick)) (w ∷ ws))
    (number_spelled-decimal phase p)
    ∙ ap (λ o. turn_said word (Some phase) o (w ∷ ws)) (number_spelled-decimal tick t)

pub turn_whole : (line : Line) (kind : RawKind) → line ≡ raw_line kind → IsTurn kind →
    read_turn line ≡ Ok kind
turn_whole line (Order phase tick items) e is =
    let ws = map item_word items in
    let some : 1 ≤ length ws = subst (λ n. 1 ≤ n) (sym (length-map items item_word)) is.3 in
    ap read_turn e
    ∙ ap turn_parts (parts_of-turn (codes "order") phase tick ws
    (lacks_by_test (codes "order") refl) is.0 is.1 (items_lack items is.2))
    ∙ said_so (codes "order") phase tick ws some is.0 is.1
    ∙ ap (order_said (Some phase) (Some tick)) (items_own items is.2)
turn_whole line (Reads phase tick epochs) e is =
    let ws = map decimal epochs in
    let some : 1 ≤ length ws = subst (λ n. 1 ≤ n) (sym (length-map epochs decimal)) is.3 in
    ap read_turn e
    ∙ ap turn_parts (parts_of-turn (codes "reads") phase tick ws
    (lacks_by_test (codes "reads") refl) is.0 is.1 (numbers_lack epochs is.2))
    ∙ said_so (codes "reads") phase tick ws some is.0 is.1
    ∙ ap (reads_said (Some phase) (Some tick)) (numbers_spelled-decimals epochs is.2)
turn_whole line End e is = absurd is

-- ---- what a line gives

some_from : (o : Option ℕ) (x : Item) → option_map Client o ≡ Some x →
    (c : ℕ) × (o ≡ Some c) × (Client c ≡ x)
some_from None x e = absurd (cc e)
some_from (Some c) x e = (c, refl, cc e)

-- the text of this item
abbrev IsItemText : List ℕ → Item → Type 0
IsItemText text x = (text ≡ item_word x) × IsItem x

item_by : (text : List ℕ) (x : Item) (b : Bool) → bytes_eq text (codes "mark") ≡ b →
    cond b (Some Publish) (option_map Client (number_spelled text)) ≡ Some x → IsItemText text x
item_by text x true same e =
    subst (IsItemText text) (same_Some Publish x e)
    ((bytes_eq-Decides text (codes "mark")).0 same, tt)
item_by text x false same e =
    let client = some_from (number_spelled text) x e in
    let number = number_spelled-is text client.0 client.1 in
    subst (IsItemText text) client.2 (number.1, number.0)

item_from : (text : List ℕ) (x : Item) → item_spelled text ≡ Some x → IsItemText text x
item_from text x e = item_by text x (bytes_eq text (codes "mark")) refl e

before_from : (o : Option Item) (p : Option (List Item)) (xs : List Item) →
    item_before o p ≡ Some xs →
    (x : Item) × (rest : List Item) × (o ≡ Some x) × (p ≡ Some rest) × (x ∷ rest ≡ xs)
before_from None p xs e = absurd (cc e)
before_from (Some x) None xs e = absurd (cc e)
before_from (Some x) (Some rest) xs e = (x, rest, refl, refl, cc e)

-- texts of these items
abbrev AreItems : List (List ℕ) → List Item → Type 0
AreItems ts xs = (ts ≡ map item_word xs) × AllByRecursion IsItem xs

no_items : (xs : List Item) → Some [] ≡ Some xs → AreItems [] xs
no_items [] e = (refl, tt)
no_items (x ∷ xs) e = absurd (cc e)

items_from : (ts : List (List ℕ)) (xs : List Item) → items_spelled ts ≡ Some xs → AreItems ts xs
items_from [] xs e = no_items xs e
items_from (t ∷ ts) xs e =
    let h = before_from (item_spelled t) (items_spelled ts) xs e in
    let first = item_from t h.0 h.2 in
    let rest = items_from ts h.1 h.3 in
    subst (AreItems (t ∷ ts)) h.4
    (cons_both t (item_word h.0) ts (map item_word h.1) first.0 rest.0, (first.1, rest.1))

-- the line of this turn
abbrev pub IsTurnLine : Line → RawKind → Type 0
IsTurnLine line kind = (line ≡ raw_line kind) × IsTurn kind

some_long : {X : Type 0} (xs : List X) (f : X → List ℕ) (t : List ℕ) (ts : List (List ℕ)) →
    t ∷ ts ≡ map f xs → 1 ≤ length xs
some_long [] f t ts e = absurd (cc e)
some_long (x ∷ xs) f t ts e = omega arith

order_from : (p t : List ℕ) (t1 : List ℕ) (ts : List (List ℕ)) (phase tick : Option ℕ)
    (items : Option (List Item)) (kind : RawKind) → number_spelled p ≡ phase →
    number_spelled t ≡ tick → items_spelled (t1 ∷ ts) ≡ items →
    order_said phase tick items ≡ Ok kind →
    IsTurnLine (fields (codes "order" ∷ p ∷ t ∷ t1 ∷ ts)) kind
order_from p t t1 ts None tick items kind a b c e = absurd (cc e)
order_from p t t1 ts (Some phase) None items kind a b c e = absurd (cc e)
order_from p t t1 ts (Some phase) (Some tick) None kind a b c e = absurd (cc e)
order_from p t t1 ts (Some phase) (Some tick) (Some items) kind a b c e =
    let phase_is = number_spelled-is p phase a in
    let tick_is = number_spelled-is t tick b in
    let are = items_from (t1 ∷ ts) items c in
    subst (IsTurnLine (fields (codes "order" ∷ p ∷ t ∷ t1 ∷ ts)))
    (ok_same (Order phase tick items) kind e) (
      ap (λ u. fields (codes "order" ∷ u ∷ t ∷ t1 ∷ ts)) phase_is.1
          ∙ ap (λ u. fields (codes "order" ∷ decimal phase ∷ u ∷ t1 ∷ ts)) tick_is.1
          ∙ ap (λ us. fields (codes "order" ∷ decimal phase ∷ decimal tick ∷ us)) are.0,
      (phase_is.0, tick_is.0, are.1, some_long items item_word t1 ts are.0),
    )

reads_from : (p t : List ℕ) (t1 : List ℕ) (ts : List (List ℕ)) (phase tick : Option ℕ)
    (epochs : Option (List ℕ)) (kind : RawKind) → number_spelled p ≡ phase →
    number_spelled t ≡ tick → numbers_spelled (t1 ∷ ts) ≡ epochs →
    reads_said phase tick epochs ≡ Ok kind →
    IsTurnLine (fields (codes "reads" ∷ p ∷ t ∷ t1 ∷ ts)) kind
reads_from p t t1 ts None tick epochs kind a b c e = absurd (cc e)
reads_from p t t1 ts (Some phase) None epochs kind a b c e = absurd (cc e)
reads_from p t t1 ts (Some phase) (Some tick) None kind a b c e = absurd (cc e)
reads_from p t t1 ts (Some phase) (Some tick) (Some epochs) kind a b c e =
    let phase_is = number_spelled-is p phase a in
    let tick_is = number_spelled-is t tick b in
    let are = numbers_spelled-are (t1 ∷ ts) epochs c in
    subst (IsTurnLine (fields (codes "reads" ∷ p ∷ t ∷ t1 ∷ ts)))
    (ok_same (Reads phase tick epochs) kind e) (
      ap (λ u. fields (codes "reads" ∷ u ∷ t ∷ t1 ∷ ts)) phase_is.1
          ∙ ap (λ u. fields (codes "reads" ∷ decimal phase ∷ u ∷ t1 ∷ ts)) tick_is.1
          ∙ ap (λ us. fields (codes "reads" ∷ decimal phase ∷ decimal tick ∷ us)) are.0,
      (phase_is.0, tick_is.0, are.1, some_long epochs decimal t1 ts are.0),
    )

two_words : (a b : Bool) (r q : Verdict RawKind) (kind : RawKind) →
    cond a r (cond b q (Err cause.Form)) ≡ Ok kind →
    (IsTrue a × (r ≡ Ok kind)) ⊎ (IsTrue b × (q ≡ Ok kind))
two_words true b r q kind e = inl (refl, e)
two_words false b r q kind e = inr (verdict_if b q kind cause.Form e)

word_from : (w p t t1 : List ℕ) (ts : List (List ℕ)) (kind : RawKind) →
    (IsTrue (bytes_eq w (codes "order"))
    × (order_said (number_spelled p) (number_spelled t) (items_spelled (t1 ∷ ts)) ≡ Ok kind))
    ⊎ (IsTrue (bytes_eq w (codes "reads"))
    × (reads_said (number_spelled p) (number_spelled t) (numbers_spelled (t1 ∷ ts)) ≡ Ok kind)) →
    IsTurnLine (fields (w ∷ p ∷ t ∷ t1 ∷ ts)) kind
word_from w p t t1 ts kind (inl h) =
    subst (λ v. IsTurnLine (fields (v ∷ p ∷ t ∷ t1 ∷ ts)) kind)
    (sym ((bytes_eq-Decides w (codes "order")).0 h.0))
    (order_from p t t1 ts (number_spelled p) (number_spelled t) (items_spelled (t1 ∷ ts)) kind
    refl refl refl h.1)
word_from w p t t1 ts kind (inr h) =
    subst (λ v. IsTurnLine (fields (v ∷ p ∷ t ∷ t1 ∷ ts)) kind)
    (sym ((bytes_eq-Decides w (codes "reads")).0 h.0))
    (reads_from p t t1 ts (number_spelled p) (number_spelled t) (numbers_spelled (t1 ∷ ts)) kind
    refl refl refl h.1)

parts_from : (ps : List (List ℕ)) (kind : RawKind) → turn_parts ps ≡ Ok kind →
    IsTurnLine (fields ps) kind
parts_from [] kind e = absurd (cc e)
parts_from (w ∷ []) kind e = absurd (cc e)
parts_from (w ∷ p ∷ []) kind e = absurd (cc e)
parts_from (w ∷ p ∷ t ∷ []) kind e = absurd (cc e)
parts_from (w ∷ p ∷ t ∷ t1 ∷ ts) kind e =
    word_from w p t t1 ts kind (two_words (bytes_eq w (codes "order"))
    (bytes_eq w (codes "reads"))
    (order_said (number_spelled p) (number_spelled t) (items_spelled (t1 ∷ ts)))
    (reads_said (number_spelled p) (number_spelled t) (numbers_spelled (t1 ∷ ts))) kind e)

pub turn_is : (line : Line) (kind : RawKind) → read_turn line ≡ Ok kind → IsTurnLine line kind
turn_is line kind e =
    subst (λ l. IsTurnLine l kind) (join_with_byte-slice_split 0x20 line)
    (parts_from (parts_of line) kind e)
