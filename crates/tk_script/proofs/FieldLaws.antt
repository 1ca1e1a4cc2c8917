-- Fields of a line: where they end, and the numbers of a line of numbers.
use Rattle.std.proofs.Common.{◌≡◌, ℕ, suc, ◌<◌, ◌^◌, List, [], ◌∷◌, ◌++◌, length, map, decimal, refl, ap, sym, ◌∙◌, arith, append_assoc, append-nil}
use Rattle.std.specs.List.{AllByRecursion}
use Rattle.tk_script.specs.Fields.{IsFieldEnd, LacksSpace}
use Rattle.tk_script.specs.Grammar.{fields, IsNumber}
use Rattle.tk_script.proofs.ListLaws.{cons_both}
use Rattle.tk_script.proofs.NumberLaws.{all_digits}

begins_so : (a : List ℕ) (y : ℕ) (t : List ℕ) → IsFieldEnd a → a ≡ y ∷ t → y ≡ 0x20
begins_so [] y t end e = absurd (cc e)
begins_so (c ∷ a) y t end e = cc (e, end)

-- a text has one first field
pub cut : (xs ys a b : List ℕ) → LacksSpace xs → LacksSpace ys → IsFieldEnd a → IsFieldEnd b →
    xs ++ a ≡ ys ++ b →
    (xs ≡ ys) × (a ≡ b)
cut [] [] a b p q ea eb e = (refl, e)
cut [] (y ∷ ys) a b p q ea eb e = absurd (q 0 (omega arith) (begins_so a y (ys ++ b) ea e))
cut (x ∷ xs) [] a b p q ea eb e = absurd (p 0 (omega arith) (begins_so b x (xs ++ a) eb (sym e)))
cut (x ∷ xs) (y ∷ ys) a b p q ea eb e =
    let rest = cut xs ys a b (λ k h. p (suc k) (omega (arith, h)))
    (λ k h. q (suc k) (omega (arith, h))) ea eb (cc e) in
    (cons_both x y xs ys (cc e) rest.0, rest.1)

below_64 : (n : ℕ) → n < 2 ^ 32 → n < 2 ^ 64
below_64 n small = omega (arith, small)

pub LacksSpace-decimal : (n : ℕ) → n < 2 ^ 32 → LacksSpace (decimal n)
LacksSpace-decimal n small k within e =
    let digit = all_digits (decimal n) n (below_64 n small) refl k within in
    omega (arith, digit.0, e)

-- the first field is the number's
pub field_is : (text field rest : List ℕ) (n : ℕ) (behind : List ℕ) → text ≡ field ++ rest →
    LacksSpace field → IsFieldEnd rest →
    n < 2 ^ 32 → IsFieldEnd behind → text ≡ decimal n ++ behind →
    (field ≡ decimal n) × (rest ≡ behind)
field_is text field rest n behind whole lacks end small last e =
    cut field (decimal n) rest behind lacks (LacksSpace-decimal n small) end last (sym whole ∙ e)

-- ---- a line of numbers

pub words-push : (ns : List ℕ) (n : ℕ) → AllByRecursion IsNumber ns → IsNumber n →
    AllByRecursion IsNumber (ns ++ n ∷ [])
words-push [] n words small = (small, tt)
words-push (m ∷ ns) n words small = (words.0, words-push ns n words.1 small)

-- numbers, with one space in front of each
abbrev pub spaced : List ℕ → List ℕ
spaced [] = []
spaced (n ∷ ns) = 0x20 ∷ (decimal n ++ spaced ns)

pub fields-spaced : (word : List ℕ) (ns : List ℕ) →
    fields (word ∷ map decimal ns) ≡ word ++ spaced ns
fields-spaced word [] = sym (append-nil word)
fields-spaced word (n ∷ ns) = ap (λ t. word ++ 0x20 ∷ t) (fields-spaced (decimal n) ns)

pub IsFieldEnd-spaced : (ns : List ℕ) → IsFieldEnd (spaced ns)
IsFieldEnd-spaced [] = tt
IsFieldEnd-spaced (n ∷ ns) = refl

spaced-push : (ns : List ℕ) (n : ℕ) (behind : List ℕ) →
    spaced (ns ++ n ∷ []) ++ behind ≡ spaced ns ++ 0x20 ∷ (decimal n ++ behind)
spaced-push [] n behind = ap (λ t. 0x20 ∷ (t ++ behind)) (append-nil (decimal n))
spaced-push (m ∷ ns) n behind =
    ap (λ t. 0x20 ∷ t) (append_assoc (decimal m) (spaced (ns ++ n ∷ [])) behind
    ∙ ap (λ t. decimal m ++ t) (spaced-push ns n behind)
    ∙ sym (append_assoc (decimal m) (spaced ns) (0x20 ∷ (decimal n ++ behind))))

-- whatever numbers the text spells, the ones that are left stand in the rest
pub record Left (numbers rest ns : List ℕ) : Type 0 where
  pub more : List ℕ
  pub words : AllByRecursion IsNumber more
  pub both : ns ≡ numbers ++ more
  pub spelled : rest ≡ spaced more

-- the numbers so far, and the rest of the text
pub record Read (text numbers rest : List ℕ) : Type 0 where
  pub front : text ≡ spaced numbers ++ rest
  pub only : (ns : List ℕ) → AllByRecursion IsNumber ns → text ≡ spaced ns → Left numbers rest ns

-- the rest begins with this number alone
abbrev pub IsNext : List ℕ → ℕ → List ℕ → Type 0
IsNext rest n behind = (m : ℕ) (after : List ℕ) → m < 2 ^ 32 → IsFieldEnd after →
    rest ≡ 0x20 ∷ (decimal m ++ after) →
    (n ≡ m) × (behind ≡ after)

more_left : (numbers rest ns : List ℕ) (n : ℕ) (behind more : List ℕ) → AllByRecursion IsNumber more →
    ns ≡ numbers ++ more →
    rest ≡ spaced more → rest ≡ 0x20 ∷ (decimal n ++ behind) → IsNext rest n behind →
    Left (numbers ++ n ∷ []) behind ns
more_left numbers rest ns n behind [] words both spelled e next = absurd (cc (spelled, e))
more_left numbers rest ns n behind (m ∷ more) words both spelled e next =
    let same = next m (spaced more) words.0 (IsFieldEnd-spaced more) spelled in
    record {
      more = more;
      words = words.1;
      both = both ∙ ap (λ k. numbers ++ k ∷ more) (sym same.0)
          ∙ sym (append_assoc numbers (n ∷ []) more);
      spelled = same.1;
    }

pub Read-more : (text numbers rest : List ℕ) (n : ℕ) (behind : List ℕ) → Read text numbers rest →
    rest ≡ 0x20 ∷ (decimal n ++ behind) →
    IsNext rest n behind → Read text (numbers ++ n ∷ []) behind
Read-more text numbers rest n behind r e next = record {
  front = r.front ∙ ap (λ t. spaced numbers ++ t) e ∙ sym (spaced-push numbers n behind);
  only = λ ns words spells.
      let left = r.only ns words spells in
      more_left numbers rest ns n behind left.more left.words left.both left.spelled e next;
}

-- the rest begins with no number
abbrev pub HasNoNext : List ℕ → Type 0
HasNoNext rest = (m : ℕ) (after : List ℕ) → m < 2 ^ 32 → IsFieldEnd after →
    rest ≡ 0x20 ∷ (decimal m ++ after) → ⊥

stuck_left : (rest more : List ℕ) → AllByRecursion IsNumber more → rest ≡ spaced more →
    0 < length rest → HasNoNext rest → ⊥
stuck_left rest [] words spelled some none = omega (arith, ap length spelled, some)
stuck_left rest (m ∷ more) words spelled some none =
    none m (spaced more) words.0 (IsFieldEnd-spaced more) spelled

pub Read-stuck : (text numbers rest : List ℕ) → Read text numbers rest → 0 < length rest →
    HasNoNext rest →
    (ns : List ℕ) → AllByRecursion IsNumber ns → text ≡ spaced ns → ⊥
Read-stuck text numbers rest r some none ns words spells =
    let left = r.only ns words spells in
    stuck_left rest left.more left.words left.spelled some none

done_left : (numbers rest ns more : List ℕ) → ns ≡ numbers ++ more → rest ≡ spaced more →
    length rest ≡ 0 → numbers ≡ ns
done_left numbers rest ns [] both spelled none = sym (both ∙ append-nil numbers)
done_left numbers rest ns (m ∷ more) both spelled none =
    absurd (omega (arith, ap length spelled, none))

pub Read-done : (text numbers rest : List ℕ) → Read text numbers rest → length rest ≡ 0 →
    (ns : List ℕ) → AllByRecursion IsNumber ns → text ≡ spaced ns → numbers ≡ ns
Read-done text numbers rest r none ns words spells =
    let left = r.only ns words spells in
    done_left numbers rest ns left.more left.both left.spelled none

empty_rest : (numbers rest : List ℕ) → length rest ≡ 0 → spaced numbers ++ rest ≡ spaced numbers
empty_rest numbers [] none = append-nil (spaced numbers)
empty_rest numbers (b ∷ rest) none = absurd (omega (arith, none))

pub Read-whole : (text numbers rest : List ℕ) → Read text numbers rest → length rest ≡ 0 →
    text ≡ spaced numbers
Read-whole text numbers rest r none = r.front ∙ empty_rest numbers rest none
