-- Three numbers of a line, and the text after them.
use Rattle.std.proofs.Common.{◌≡◌, ◌∙◌, ℕ, ◌<◌, ◌^◌, List, [], ◌∷◌, ◌++◌, decimal, cond, Bool, true, false, Option, Some, None, refl, ap, sym, subst, eqb}
use Rattle.std.specs.List.{join_with_byte, onto_first}
use Rattle.std.specs.Str.{bytes_eq}
use Rattle.std.proofs.lemmas.List.Splits.{join_with_byte-slice_split}
use Rattle.std.proofs.lemmas.Slice.Eq.{bytes_eq-Decides}
use Rattle.tk_script.specs.Fields.{LacksSpace}
use Rattle.tk_script.specs.Grammar.{Line, fields}
use Rattle.tk_script.specs.Reading.{ThreeAndText, parts_of, number_spelled, number_before, numbers_spelled, three_with, three_in, three_after}
use Rattle.tk_script.proofs.FieldLaws.{LacksSpace-decimal}
use Rattle.tk_script.proofs.PartLaws.{split_field, same_bytes, none_by, some_test, number_spelled-decimal, numbers_spelled-are}

-- ---- the parts

some_by : (t : Bool) (b : ℕ) (ps : List (List ℕ)) →
    (x : List ℕ) × (xs : List (List ℕ)) × (cond t ([] ∷ ps) (onto_first b ps) ≡ x ∷ xs)
some_by true b ps = ([], ps, refl)
some_by false b [] = (b ∷ [], [], refl)
some_by false b (p ∷ ps) = (b ∷ p, ps, refl)

some_parts : (text : List ℕ) →
    (x : List ℕ) × (xs : List (List ℕ)) × (parts_of text ≡ x ∷ xs)
some_parts [] = ([], [], refl)
some_parts (b ∷ bs) = some_by (eqb b 0x20) b (parts_of bs)

abbrev pub three_line : List ℕ → ℕ → ℕ → ℕ → List ℕ → Line
three_line word a b c text = fields (word ∷ decimal a ∷ decimal b ∷ decimal c ∷ text ∷ [])

parts_of-three : (word : List ℕ) (a b c : ℕ) (text : List ℕ) → LacksSpace word → a < 2 ^ 32 →
    b < 2 ^ 32 → c < 2 ^ 32 →
    parts_of (three_line word a b c text)
    ≡ word ∷ decimal a ∷ decimal b ∷ decimal c ∷ parts_of text
parts_of-three word a b c text lacks sa sb sc =
    let third = split_field (decimal c) text (LacksSpace-decimal c sc) in
    let second = split_field (decimal b) (decimal c ++ 0x20 ∷ text) (LacksSpace-decimal b sb)
    ∙ ap (λ r. decimal b ∷ r) third in
    let first = split_field (decimal a) (decimal b ++ 0x20 ∷ (decimal c ++ 0x20 ∷ text))
    (LacksSpace-decimal a sa) ∙ ap (λ r. decimal a ∷ r) second in
    split_field word (decimal a ++ 0x20 ∷ (decimal b ++ 0x20 ∷ (decimal c ++ 0x20 ∷ text))) lacks
    ∙ ap (λ r. word ∷ r) first

three_numbers : (a b c : ℕ) → a < 2 ^ 32 → b < 2 ^ 32 → c < 2 ^ 32 →
    numbers_spelled (decimal a ∷ decimal b ∷ decimal c ∷ []) ≡ Some (a ∷ b ∷ c ∷ [])
three_numbers a b c sa sb sc =
    ap (λ o. number_before o (number_before (number_spelled (decimal b))
    (number_before (number_spelled (decimal c)) (Some [])))) (number_spelled-decimal a sa)
    ∙ ap (λ o. number_before (Some a) (number_before o
    (number_before (number_spelled (decimal c)) (Some [])))) (number_spelled-decimal b sb)
    ∙ ap (λ o. number_before (Some a) (number_before (Some b) (number_before o (Some []))))
    (number_spelled-decimal c sc)

-- ---- a line that has them

three_own : (word : List ℕ) (a b c : ℕ) (x : List ℕ) (xs : List (List ℕ)) → a < 2 ^ 32 →
    b < 2 ^ 32 → c < 2 ^ 32 →
    three_in word (word ∷ decimal a ∷ decimal b ∷ decimal c ∷ x ∷ xs)
    ≡ Some (a, b, c, join_with_byte 0x20 (x ∷ xs))
three_own word a b c x xs sa sb sc =
    rw (same_bytes word)
    (ap (three_with (join_with_byte 0x20 (x ∷ xs))) (three_numbers a b c sa sb sc))

pub three_taken : (word line : List ℕ) (a b c : ℕ) (text : List ℕ) → LacksSpace word →
    a < 2 ^ 32 → b < 2 ^ 32 → c < 2 ^ 32 → line ≡ three_line word a b c text →
    three_after word line ≡ Some (a, b, c, text)
three_taken word line a b c text lacks sa sb sc e =
    let h = some_parts text in
    let joined = ap (join_with_byte 0x20) (sym h.2) ∙ join_with_byte-slice_split 0x20 text in
    ap (three_after word) e
    ∙ ap (three_in word) (parts_of-three word a b c text lacks sa sb sc
    ∙ ap (λ r. word ∷ decimal a ∷ decimal b ∷ decimal c ∷ r) h.2)
    ∙ three_own word a b c h.0 h.1 sa sb sc
    ∙ ap (λ u. Some (a, b, c, u)) joined

-- the line of what is taken
pub record IsThree (word line : List ℕ) (x : ThreeAndText) : Type 0 where
  pub whole : line ≡ three_line word x.0 x.1 x.2 x.3
  pub first : x.0 < 2 ^ 32
  pub second : x.1 < 2 ^ 32
  pub third : x.2 < 2 ^ 32

same_fields : (word p q r a b c x : List ℕ) (rest : List (List ℕ)) →
    p ∷ q ∷ r ∷ [] ≡ a ∷ b ∷ c ∷ [] →
    fields (word ∷ p ∷ q ∷ r ∷ x ∷ rest) ≡ fields (word ∷ a ∷ b ∷ c ∷ x ∷ rest)
same_fields word p q r a b c x rest e =
    let first : p ≡ a = cc e in
    let second : q ≡ b = cc e in
    let third : r ≡ c = cc e in
    λ i. fields (word ∷ first i ∷ second i ∷ third i ∷ x ∷ rest)

with_is : (word p q r x : List ℕ) (rest : List (List ℕ)) (o : Option (List ℕ))
    (y : ThreeAndText) → numbers_spelled (p ∷ q ∷ r ∷ []) ≡ o →
    three_with (join_with_byte 0x20 (x ∷ rest)) o ≡ Some y →
    IsThree word (fields (word ∷ p ∷ q ∷ r ∷ x ∷ rest)) y
with_is word p q r x rest None y e f = absurd (cc f)
with_is word p q r x rest (Some []) y e f = absurd (cc f)
with_is word p q r x rest (Some (a ∷ [])) y e f = absurd (cc f)
with_is word p q r x rest (Some (a ∷ b ∷ [])) y e f = absurd (cc f)
with_is word p q r x rest (Some (a ∷ b ∷ c ∷ [])) y e f =
    let h = numbers_spelled-are (p ∷ q ∷ r ∷ []) (a ∷ b ∷ c ∷ []) e in
    subst (IsThree word (fields (word ∷ p ∷ q ∷ r ∷ x ∷ rest))) (cc f) (record {
      whole = same_fields word p q r (decimal a) (decimal b) (decimal c) x rest h.0;
      first = h.1.0;
      second = h.1.1.0;
      third = h.1.1.1.0;
    })
with_is word p q r x rest (Some (a ∷ b ∷ c ∷ more ∷ ns)) y e f = absurd (cc f)

in_is : (word : List ℕ) (parts : List (List ℕ)) (y : ThreeAndText) →
    three_in word parts ≡ Some y → IsThree word (fields parts) y
in_is word [] y e = absurd (cc e)
in_is word (w ∷ []) y e = absurd (cc e)
in_is word (w ∷ p ∷ []) y e = absurd (cc e)
in_is word (w ∷ p ∷ q ∷ []) y e = absurd (cc e)
in_is word (w ∷ p ∷ q ∷ r ∷ []) y e = absurd (cc e)
in_is word (w ∷ p ∷ q ∷ r ∷ x ∷ rest) y e =
    let spelled = numbers_spelled (p ∷ q ∷ r ∷ []) in
    let test = some_test (bytes_eq w word) (three_with (join_with_byte 0x20 (x ∷ rest)) spelled) y e in
    subst (λ v. IsThree word (fields (v ∷ p ∷ q ∷ r ∷ x ∷ rest)) y)
    (sym ((bytes_eq-Decides w word).0 test.0))
    (with_is word p q r x rest spelled y refl test.1)

pub three_is : (word line : List ℕ) (x : ThreeAndText) → three_after word line ≡ Some x →
    IsThree word line x
three_is word line x e =
    subst (λ l. IsThree word l x) (join_with_byte-slice_split 0x20 line)
    (in_is word (parts_of line) x e)

-- ---- a line that has none

abbrev pub HasNoThree : List ℕ → Line → Type 0
HasNoThree word line = (a b c : ℕ) (text : List ℕ) → a < 2 ^ 32 → b < 2 ^ 32 → c < 2 ^ 32 →
    line ≡ three_line word a b c text → ⊥

pub three_none : (word : List ℕ) (line : Line) → HasNoThree word line →
    three_after word line ≡ None
three_none word line never =
    none_by (three_after word line) (λ x e.
    let h = three_is word line x e in
    never x.0 x.1 x.2 x.3 h.first h.second h.third h.whole)
