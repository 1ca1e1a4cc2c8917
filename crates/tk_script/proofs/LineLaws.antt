-- The first line of a text.
use Rattle.std.proofs.Common.{◌≡◌, ◌≢◌, ℕ, zero, suc, ◌+◌, ◌<◌, List, [], ◌∷◌, length, take, drop, get_or, Bool, true, false, cond, refl, ap, ◌∙◌, arith, eqb, eq-eqb, ne_eqb}
use Rattle.std.specs.List.{onto_first}
use Rattle.tk_script.specs.Grammar.{Line, lines_of}

pub lines_of-feed : (b : ℕ) (bs : List ℕ) → b ≡ 0x0A → lines_of (b ∷ bs) ≡ [] ∷ lines_of bs
unfolding lines_of
lines_of-feed b bs feed = rw (eq-eqb b 0x0A feed) refl

pub lines_of-other : (b : ℕ) (bs : List ℕ) → b ≢ 0x0A →
    lines_of (b ∷ bs) ≡ onto_first b (lines_of bs)
unfolding lines_of
lines_of-other b bs other = rw (ne_eqb b 0x0A other) refl

-- a text whose first line feed stands at i
pub lines_of-first : (text : List ℕ) (i : ℕ) → i < length text → get_or text i 0 ≡ 0x0A →
    ((k : ℕ) → k < i → get_or text k 0 ≢ 0x0A) →
    lines_of text ≡ take i text ∷ lines_of (drop (i + 1) text)
lines_of-first [] i within feed before = absurd (omega (arith, within))
lines_of-first (b ∷ bs) zero within feed before = lines_of-feed b bs feed
lines_of-first (b ∷ bs) (suc i) within feed before =
    lines_of-other b bs (before 0 (omega arith))
    ∙ ap (onto_first b) (lines_of-first bs i (omega (arith, within)) feed
    (λ k h. before (suc k) (omega (arith, h))))
    ∙ ap (λ n. (b ∷ take i bs) ∷ lines_of (drop n (b ∷ bs))) one_more
  where
    one_more : suc (i + 1) ≡ suc i + 1
    one_more = omega arith

empty_onto : (b : ℕ) → onto_first b (lines_of []) ≡ (b ∷ []) ∷ []
unfolding lines_of
empty_onto b = refl

-- a text without a line feed
pub lines_of-last : (b : ℕ) (bs : List ℕ) → ((k : ℕ) → k < length (b ∷ bs) →
    get_or (b ∷ bs) k 0 ≢ 0x0A) →
    lines_of (b ∷ bs) ≡ (b ∷ bs) ∷ []
lines_of-last b [] none = lines_of-other b [] (none 0 (omega arith)) ∙ empty_onto b
lines_of-last b (c ∷ bs) none =
    lines_of-other b (c ∷ bs) (none 0 (omega arith))
    ∙ ap (onto_first b) (lines_of-last c bs (λ k h. none (suc k) (omega (arith, h))))

pub lines_of-empty : lines_of [] ≡ []
unfolding lines_of
lines_of-empty = refl

-- a text that isn't empty and has no line feed
pub lines_of-whole : (text : List ℕ) → 0 < length text →
    ((k : ℕ) → k < length text → get_or text k 0 ≢ 0x0A) →
    lines_of text ≡ text ∷ []
lines_of-whole [] some none = absurd (omega (arith, some))
lines_of-whole (b ∷ bs) some none = lines_of-last b bs none

pub empty_lines : (text : List ℕ) → length text ≡ 0 → lines_of text ≡ []
empty_lines [] none = lines_of-empty
empty_lines (b ∷ bs) none = absurd (omega (arith, none))

onto_some : (b : ℕ) (ls : List Line) → onto_first b ls ≡ [] → ⊥
onto_some b [] e = absurd (cc e)
onto_some b (l ∷ ls) e = absurd (cc e)

some_lines : (b : ℕ) (bs : List ℕ) (feed : Bool) →
    cond feed ([] ∷ lines_of bs) (onto_first b (lines_of bs)) ≡ [] → ⊥
some_lines b bs true e = absurd (cc e)
some_lines b bs false e = onto_some b (lines_of bs) e

-- a text without lines is empty
pub no_lines : (text : List ℕ) → lines_of text ≡ [] → text ≡ []
unfolding lines_of
no_lines [] e = refl
no_lines (b ∷ bs) e = absurd (some_lines b bs (eqb b 0x0A) e)
