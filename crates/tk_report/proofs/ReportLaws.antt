-- Lines of fields, and lists that are written one by one.
use Rattle.std.proofs.Common.{◌≡◌, ◌<◌, ℕ, ◌+◌, List, [], ◌∷◌, ◌++◌, length, map, flat_map, take}
use Rattle.std.proofs.Common.{get_or, ap, ap₂, sym, ◌∙◌, append_assoc, append-nil, zero-add}
use Rattle.std.specs.List.{join_with_byte, range_with_len}
use Rattle.std.proofs.lemmas.List.{flat_map_more, map-id, take_more}
use Rattle.std.proofs.lemmas.List.FromFn.{map-range_with_len_more}
use Rattle.tk_report.specs.Report.{line}

-- ---- fields

-- each field with a space in front
abbrev pub spaced : {X : Type 0} → (X → List ℕ) → List X → List ℕ
spaced field xs = flat_map (λ x. 0x20 ∷ field x) xs

-- more fields after a word and some fields
pub fields_more : {X : Type 0} (field : X → List ℕ) (word : List ℕ) (fields : List (List ℕ))
    (xs : List X) →
    join_with_byte 0x20 (word ∷ (fields ++ map field xs))
    ≡ join_with_byte 0x20 (word ∷ fields) ++ spaced field xs
fields_more field word [] [] = sym (append-nil word)
fields_more field word [] (x ∷ xs) =
    ap (λ rest. word ++ 0x20 ∷ rest) (fields_more field (field x) [] xs)
fields_more field word (next ∷ fields) xs =
    ap (λ rest. word ++ 0x20 ∷ rest) (fields_more field next fields xs)
    ∙ sym (append_assoc word (0x20 ∷ join_with_byte 0x20 (next ∷ fields)) (spaced field xs))

-- a line, after what was there: a word and some fields, more fields, and the end
pub line_of_more : {X : Type 0} (field : X → List ℕ) (word : List ℕ) (fields : List (List ℕ))
    (xs : List X) (old : List ℕ) {some more new : List ℕ} →
    some ≡ old ++ join_with_byte 0x20 (word ∷ fields) → more ≡ some ++ spaced field xs →
    new ≡ more ++ 0x0A ∷ [] →
    new ≡ old ++ line (word ∷ (fields ++ map field xs))
line_of_more field word fields xs old {more = more} some_is more_is new_is =
    let all = join_with_byte 0x20 (word ∷ (fields ++ map field xs)) in
    let joined : more ≡ old ++ all =
    more_is
    ∙ ap (λ bytes. bytes ++ spaced field xs) some_is
    ∙ append_assoc old (join_with_byte 0x20 (word ∷ fields)) (spaced field xs)
    ∙ ap (λ bytes. old ++ bytes) (sym (fields_more field word fields xs))
    in
    new_is ∙ ap (λ bytes. bytes ++ 0x0A ∷ []) joined ∙ append_assoc old all (0x0A ∷ [])

-- ---- one more of a list

-- what one more number gives, after what the ones below it gave
pub next_number : {A : Type 0} (f : ℕ → List A) (n : ℕ) (old : List A) {before here new : List A} →
    before ≡ old ++ flat_map f (range_with_len 0 n) → new ≡ before ++ here → here ≡ f n →
    new ≡ old ++ flat_map f (range_with_len 0 (n + 1))
next_number f n old before_is new_is here_is =
    new_is
    ∙ ap₂ (λ front back. front ++ back) before_is here_is
    ∙ flat_map_more f old (range_with_len 0 n) n
    ∙ ap (λ numbers. old ++ flat_map f numbers) (sym more)
  where
    more : range_with_len 0 (n + 1) ≡ range_with_len 0 n ++ n ∷ []
    more =
        sym (map-id (range_with_len 0 (n + 1)))
        ∙ map-range_with_len_more {X = ℕ} (λ k. k) 0 n n (zero-add n)
        ∙ ap (λ numbers. numbers ++ n ∷ []) (map-id (range_with_len 0 n))

-- what one more element gives, after what the ones before it gave
pub next_element : {X A : Type 0} (f : X → List A) (xs : List X) (i : ℕ) (d : X) (old : List A)
    {before here new : List A} →
    i < length xs → before ≡ old ++ flat_map f (take i xs) → new ≡ before ++ here →
    here ≡ f (get_or xs i d) →
    new ≡ old ++ flat_map f (take (i + 1) xs)
next_element f xs i d old within before_is new_is here_is =
    new_is
    ∙ ap₂ (λ front back. front ++ back) before_is here_is
    ∙ flat_map_more f old (take i xs) (get_or xs i d)
    ∙ ap (λ elements. old ++ flat_map f elements) (sym (take_more xs i d within))

-- five parts, one after the other, after what was there
pub five_parts : {A : Type 0} (old a b c d e : List A) {to_a to_b to_c to_d to_e : List A} →
    to_a ≡ old ++ a → to_b ≡ to_a ++ b → to_c ≡ to_b ++ c → to_d ≡ to_c ++ d → to_e ≡ to_d ++ e →
    to_e ≡ old ++ (a ++ b ++ c ++ d ++ e)
five_parts old a b c d e {to_e = to_e} a_is b_is c_is d_is e_is =
    let chain : to_e ≡ ((((old ++ a) ++ b) ++ c) ++ d) ++ e = cc in
    chain ∙ simp append_assoc
