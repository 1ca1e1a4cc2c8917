-- The parts of a line between single spaces, and the numbers that they spell.
use Rattle.std.proofs.Common.{◌≡◌, ℕ, suc, ◌<◌, ◌^◌, List, [], ◌∷◌, ◌++◌, map, decimal, cond, Bool, true, false, ◌&&◌, IsTrue, Option, Some, None, refl, ap, sym, ◌∙◌, subst, arith, ne_eqb}
use Rattle.std.specs.Prelude.{nat_lt}
use Rattle.std.specs.List.{AllByRecursion, onto_first}
use Rattle.std.specs.Str.{bytes_eq}
use Rattle.std.specs.Str.Parse.{digits_value}
use Rattle.std.proofs.lemmas.List.Splits.{join_with_byte-slice_split}
use Rattle.std.proofs.lemmas.Slice.Eq.{bytes_eq-Decides}
use Rattle.std.proofs.lemmas.Bool.{and_parts, ltb-true, lt-ltb}
use Rattle.tk_script.specs.Fields.{LacksSpace}
use Rattle.tk_script.specs.Grammar.{fields, IsNumber}
use Rattle.tk_script.specs.Reading.{parts_of, number_if, number_spelled, number_before, numbers_spelled, word_then, numbers_after}
use Rattle.tk_script.proofs.FieldLaws.{LacksSpace-decimal}
use Rattle.tk_script.proofs.ListLaws.{cons_both}
use Rattle.tk_script.proofs.NumberLaws.{digits_value-spelled}

-- ---- parts

rest_lacks : (x : ℕ) (xs : List ℕ) → LacksSpace (x ∷ xs) → LacksSpace xs
rest_lacks x xs lacks k within = lacks (suc k) (omega (arith, within))

-- a field and a space are a part
pub split_field : (xs ys : List ℕ) → LacksSpace xs →
    parts_of (xs ++ 0x20 ∷ ys) ≡ xs ∷ parts_of ys
split_field [] ys lacks = refl
split_field (x ∷ xs) ys lacks =
    rw (ne_eqb x 0x20 (lacks 0 (omega arith)))
    (ap (onto_first x) (split_field xs ys (rest_lacks x xs lacks)))

-- a field alone is the one part
pub one_field : (xs : List ℕ) → LacksSpace xs → parts_of xs ≡ xs ∷ []
one_field [] lacks = refl
one_field (x ∷ xs) lacks =
    rw (ne_eqb x 0x20 (lacks 0 (omega arith)))
    (ap (onto_first x) (one_field xs (rest_lacks x xs lacks)))

pub parts_of-fields : (word : List ℕ) (ns : List ℕ) → LacksSpace word → AllByRecursion IsNumber ns →
    parts_of (fields (word ∷ map decimal ns)) ≡ word ∷ map decimal ns
parts_of-fields word [] lacks words = one_field word lacks
parts_of-fields word (n ∷ ns) lacks words =
    split_field word (fields (decimal n ∷ map decimal ns)) lacks
    ∙ ap (λ t. word ∷ t) (parts_of-fields (decimal n) ns (LacksSpace-decimal n words.0) words.1)

-- ---- numbers

by_test : (b : Bool) (k n : ℕ) → cond b (Some k) None ≡ Some n → IsTrue b × (k ≡ n)
by_test true k n e = (refl, cc e)
by_test false k n e = absurd (cc e)

pub same_bytes : (xs : List ℕ) → bytes_eq xs xs ≡ true
same_bytes xs = (bytes_eq-Decides xs xs).1 refl

number_if-own : (n : ℕ) → n < 2 ^ 32 → number_if n (decimal n) ≡ Some n
number_if-own n small = rw (lt-ltb n 4294967296 small, same_bytes (decimal n)) refl

number_if-is : (k n : ℕ) (text : List ℕ) → number_if k text ≡ Some n →
    (n < 2 ^ 32) × (text ≡ decimal n)
number_if-is k n text e =
    let test = by_test (nat_lt k 4294967296 && bytes_eq (decimal k) text) k n e in
    let both = and_parts (nat_lt k 4294967296) (bytes_eq (decimal k) text) test.0 in (
      subst (λ m. m < 2 ^ 32) test.1 (ltb-true k 4294967296 both.0),
      sym ((bytes_eq-Decides (decimal k) text).0 both.1) ∙ ap decimal test.1,
    )

pub number_spelled-decimal : (n : ℕ) → n < 2 ^ 32 → number_spelled (decimal n) ≡ Some n
number_spelled-decimal n small =
    ap (λ k. number_if k (decimal n))
    (digits_value-spelled (decimal n) n (omega (arith, small)) refl)
    ∙ number_if-own n small

pub number_spelled-is : (text : List ℕ) (n : ℕ) → number_spelled text ≡ Some n →
    (n < 2 ^ 32) × (text ≡ decimal n)
number_spelled-is text n e = number_if-is (digits_value 10 text) n text e

pub numbers_spelled-decimals : (ns : List ℕ) → AllByRecursion IsNumber ns →
    numbers_spelled (map decimal ns) ≡ Some ns
numbers_spelled-decimals [] words = refl
numbers_spelled-decimals (n ∷ ns) words =
    ap (λ o. number_before o (numbers_spelled (map decimal ns))) (number_spelled-decimal n words.0)
    ∙ ap (number_before (Some n)) (numbers_spelled-decimals ns words.1)

before_some : (o : Option ℕ) (p : Option (List ℕ)) (ns : List ℕ) → number_before o p ≡ Some ns →
    (n : ℕ) × (rest : List ℕ) × (o ≡ Some n) × (p ≡ Some rest) × (n ∷ rest ≡ ns)
before_some None p ns e = absurd (cc e)
before_some (Some n) None ns e = absurd (cc e)
before_some (Some n) (Some rest) ns e = (n, rest, refl, refl, cc e)

-- texts that spell these numbers
abbrev pub AreSpelled : List (List ℕ) → List ℕ → Type 0
AreSpelled ts ns = (ts ≡ map decimal ns) × AllByRecursion IsNumber ns

no_numbers : (ns : List ℕ) → Some [] ≡ Some ns → AreSpelled [] ns
no_numbers [] e = (refl, tt)
no_numbers (n ∷ ns) e = absurd (cc e)

pub numbers_spelled-are : (ts : List (List ℕ)) (ns : List ℕ) → numbers_spelled ts ≡ Some ns →
    AreSpelled ts ns
numbers_spelled-are [] ns e = no_numbers ns e
numbers_spelled-are (t ∷ ts) ns e =
    let h = before_some (number_spelled t) (numbers_spelled ts) ns e in
    let first = number_spelled-is t h.0 h.2 in
    let rest = numbers_spelled-are ts h.1 h.3 in
    subst (AreSpelled (t ∷ ts)) h.4
    (cons_both t (decimal h.0) ts (map decimal h.1) first.1 rest.0, (first.0, rest.1))

-- ---- a word and numbers

word_then-own : (word : List ℕ) (ns : List ℕ) → AllByRecursion IsNumber ns →
    word_then word (word ∷ map decimal ns) ≡ Some ns
word_then-own word ns words = rw (same_bytes word) (numbers_spelled-decimals ns words)

-- the numbers of the line that they make
pub numbers_after-fields : (word : List ℕ) (ns : List ℕ) → LacksSpace word →
    AllByRecursion IsNumber ns →
    numbers_after word (fields (word ∷ map decimal ns)) ≡ Some ns
numbers_after-fields word ns lacks words =
    ap (word_then word) (parts_of-fields word ns lacks words) ∙ word_then-own word ns words

pub some_test : {A : Type 0} (b : Bool) (o : Option A) (x : A) → cond b o None ≡ Some x →
    IsTrue b × (o ≡ Some x)
some_test true o x e = (refl, e)
some_test false o x e = absurd (cc e)

word_then-is : (word : List ℕ) (ts : List (List ℕ)) (ns : List ℕ) → word_then word ts ≡ Some ns →
    (ts ≡ word ∷ map decimal ns) × AllByRecursion IsNumber ns
word_then-is word [] ns e = absurd (cc e)
word_then-is word (w ∷ ts) ns e =
    let test = some_test (bytes_eq w word) (numbers_spelled ts) ns e in
    let rest = numbers_spelled-are ts ns test.1 in
    (cons_both w word ts (map decimal ns) ((bytes_eq-Decides w word).0 test.0) rest.0, rest.1)

-- the line of the numbers that it has
pub numbers_after-are : (word line : List ℕ) (ns : List ℕ) → numbers_after word line ≡ Some ns →
    (line ≡ fields (word ∷ map decimal ns)) × AllByRecursion IsNumber ns
numbers_after-are word line ns e =
    let h = word_then-is word (parts_of line) ns e in
    (sym (join_with_byte-slice_split 0x20 line) ∙ ap fields h.0, h.1)

pub none_by : {A : Type 0} (o : Option A) → ((x : A) → o ≡ Some x → ⊥) → o ≡ None
none_by None never = refl
none_by (Some x) never = absurd (never x refl)

-- a line that no numbers have
pub numbers_after-none : (word line : List ℕ) →
    ((ns : List ℕ) → AllByRecursion IsNumber ns → line ≡ fields (word ∷ map decimal ns) → ⊥) →
    numbers_after word line ≡ None
numbers_after-none word line never =
    none_by (numbers_after word line) (λ ns e.
    let h = numbers_after-are word line ns e in
    never ns h.1 h.0)

pub numbers_after-some : (word line : List ℕ) (ns : List ℕ) → LacksSpace word →
    AllByRecursion IsNumber ns → line ≡ fields (word ∷ map decimal ns) →
    numbers_after word line ≡ Some ns
numbers_after-some word line ns lacks words e =
    ap (numbers_after word) e ∙ numbers_after-fields word ns lacks words
