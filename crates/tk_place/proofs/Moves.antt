-- The moves of a chain lead to a placement.
use Rattle.std.proofs.Common.{◌≡◌, ◌≢◌, ℕ, zero, suc, ◌+◌, ◌<◌, ◌≤◌, List, [], ◌∷◌, ◌++◌, length, Bool, true, false, cond, ◌&&◌, ◌||◌, ◌==◌, get_or, refl, ap, ap₂, sym, ◌∙◌, arith, ◌⊎◌, inl, inr, eqb-true, true≢false, eq-eqb, subst, is_none, Option, Some, None}
use Rattle.std.specs.List.{list_any}
use Rattle.std.proofs.lemmas.List.Elements.{All-get_or}
use Rattle.std.proofs.lemmas.List.Quantifiers.{position-Some}
use Rattle.std.proofs.lemmas.List.Sums.{sum_by-append}
use Rattle.tk_place.specs.Place.{Others, Spot, slots_of, lowest_empty}
use Rattle.tk_place.specs.Chain.{is_on, IsPath}
use Rattle.tk_place.specs.Pairs.{pairs_in, pairs_from, pairs_with, AreOwn, HasPlacement}
use Rattle.tk_place.specs.Table.{slot_at, IsTable}
use Rattle.tk_place.proofs.Fits.{given, given-cons}
use Rattle.tk_place.proofs.Reaching.{eqb-self, eqb-other, or_first, or_second}

given-append : (b : ℕ) (xs ys : List ℕ) → given b (xs ++ ys) ≡ given b xs + given b ys
given-append b xs ys = sum_by-append (λ c. cond (c == b) 1 0) xs ys

abbrev is_spot : Spot → ℕ → ℕ → Bool
is_spot s b i = (b == s.0) && (i == s.1)

abbrev is_moved : List Spot → ℕ → ℕ → Bool
is_moved spots b i = list_any (λ s. is_spot s b i) spots

-- where the entries of a bucket's slots from number i on lie, if those that are moved lie in their other bucket
abbrev given_in : (ℕ → ℕ → Bool) → ℕ → ℕ → List (Option ℕ) → List ℕ
given_in moved b i [] = []
given_in moved b i (None ∷ ss) = given_in moved b (i + 1) ss
given_in moved b i (Some other ∷ ss) = cond (moved b i) other b ∷ given_in moved b (i + 1) ss

abbrev given_from : (ℕ → ℕ → Bool) → ℕ → Others → List ℕ
given_from moved b [] = []
given_from moved b (ss ∷ T) = given_in moved b 0 ss ++ given_from moved (suc b) T

-- ---- each in one of its own buckets

AreOwn-append : (ps qs : List (ℕ × ℕ)) (cs ds : List ℕ) → AreOwn ps cs → AreOwn qs ds → AreOwn (ps ++ qs) (cs ++ ds)
AreOwn-append [] qs [] ds h k = k
AreOwn-append [] qs (c ∷ cs) ds h k = absurd h
AreOwn-append (p ∷ ps) qs [] ds h k = absurd h
AreOwn-append (p ∷ ps) qs (c ∷ cs) ds h k = (h.0, AreOwn-append ps qs cs ds h.1 k)

own_in : (moved : ℕ → ℕ → Bool) (b i : ℕ) (ss : List (Option ℕ)) → AreOwn (pairs_in b ss) (given_in moved b i ss)
own_in moved b i [] = tt
own_in moved b i (None ∷ ss) = own_in moved b (i + 1) ss
own_in moved b i (Some other ∷ ss) =
    (elim (moved b i) as (λ s. (cond s other b ≡ b) ⊎ (cond s other b ≡ other)) [ true ↦ inr refl | false ↦ inl refl ], own_in moved b (i + 1) ss)

own_from : (moved : ℕ → ℕ → Bool) (b : ℕ) (T : Others) → AreOwn (pairs_from b T) (given_from moved b T)
own_from moved b [] = tt
own_from moved b (ss ∷ T) =
    AreOwn-append (pairs_in b ss) (pairs_from (suc b) T) (given_in moved b 0 ss) (given_from moved (suc b) T) (own_in moved b 0 ss) (own_from moved (suc b) T)

-- ---- one entry more that is moved

given_in-same : (moved more : ℕ → ℕ → Bool) (b i : ℕ) (ss : List (Option ℕ)) → ((k : ℕ) → i ≤ k → more b k ≡ moved b k) → given_in more b i ss ≡ given_in moved b i ss
given_in-same moved more b i [] h = refl
given_in-same moved more b i (None ∷ ss) h = given_in-same moved more b (i + 1) ss (λ k l. h k (omega arith))
given_in-same moved more b i (Some other ∷ ss) h =
    ap₂ (λ m r. cond m other b ∷ r) (h i (omega arith)) (given_in-same moved more b (i + 1) ss (λ k l. h k (omega arith)))

given_from-same : (moved more : ℕ → ℕ → Bool) (b : ℕ) (T : Others) → ((c k : ℕ) → b ≤ c → more c k ≡ moved c k) → given_from more b T ≡ given_from moved b T
given_from-same moved more b [] h = refl
given_from-same moved more b (ss ∷ T) h =
    ap₂ (λ xs ys. xs ++ ys) (given_in-same moved more b 0 ss (λ k l. h b k (omega arith))) (given_from-same moved more (suc b) T (λ c k l. h c k (omega arith)))

module _ (moved : ℕ → ℕ → Bool) (t j : ℕ) (unmoved : moved t j ≡ false) (other c : ℕ) where
  abbrev more : ℕ → ℕ → Bool
  more b i = is_spot (t, j) b i || moved b i

  more-other : (b k : ℕ) → b ≢ t → more b k ≡ moved b k
  more-other b k apart = ap (λ s. (s && (k == j)) || moved b k) (eqb-other b t apart)

  more-apart : (b k : ℕ) → k ≢ j → more b k ≡ moved b k
  more-apart b k apart = ap (λ s. ((b == t) && s) || moved b k) (eqb-other k j apart) ∙ ap (λ s. s || moved b k) (and-false (b == t))
    where
      and-false : (a : Bool) → (a && false) ≡ false
      and-false true = refl
      and-false false = refl

  more-here : more t j ≡ true
  more-here = ap₂ (λ r s. (r && s) || moved t j) (eqb-self t) (eqb-self j)

  moves_in : (i k : ℕ) (ss : List (Option ℕ)) → j ≡ i + k → get_or ss k None ≡ Some other →
      given c (given_in more t i ss) + cond (t == c) 1 0 ≡ given c (given_in moved t i ss) + cond (other == c) 1 0
  moves_in i k [] at filled = absurd cc
  moves_in i zero (None ∷ ss) at filled = absurd cc
  moves_in i (suc k) (None ∷ ss) at filled = moves_in (i + 1) k ss (omega arith) filled
  moves_in i zero (Some x ∷ ss) at filled =
      let here : i ≡ j = omega arith in
      let is_more : more t i ≡ true = ap (λ i. more t i) here ∙ more-here in
      let is_not : moved t i ≡ false = ap (λ i. moved t i) here ∙ unmoved in
      let same : x ≡ other = cc in
      let rest : given_in more t (i + 1) ss ≡ given_in moved t (i + 1) ss =
      given_in-same moved more t (i + 1) ss (λ k l. more-apart t k (omega arith)) in
      let left : given c (cond (more t i) x t ∷ given_in more t (i + 1) ss) ≡ cond (other == c) 1 0 + given c (given_in moved t (i + 1) ss) =
      ap₂ (λ m r. given c (cond m x t ∷ r)) is_more rest ∙ given-cons c x (given_in moved t (i + 1) ss) ∙ ap {B = ℕ} (λ x. cond (x == c) 1 0 + given c (given_in moved t (i + 1) ss)) same in
      let right : given c (cond (moved t i) x t ∷ given_in moved t (i + 1) ss) ≡ cond (t == c) 1 0 + given c (given_in moved t (i + 1) ss) =
      ap (λ m. given c (cond m x t ∷ given_in moved t (i + 1) ss)) is_not ∙ given-cons c t (given_in moved t (i + 1) ss) in
      omega (arith, left, right)
  moves_in i (suc k) (Some x ∷ ss) at filled =
      let apart : more t i ≡ moved t i = more-apart t i (omega arith) in
      let head : ℕ = cond (moved t i) x t in
      let left : given c (cond (more t i) x t ∷ given_in more t (i + 1) ss) ≡ cond (head == c) 1 0 + given c (given_in more t (i + 1) ss) =
      ap (λ m. given c (cond m x t ∷ given_in more t (i + 1) ss)) apart ∙ given-cons c head (given_in more t (i + 1) ss) in
      omega (arith, left, given-cons c head (given_in moved t (i + 1) ss), moves_in (i + 1) k ss (omega arith) filled)

  moves_from : (b k : ℕ) (T : Others) → t ≡ b + k → slot_at T k j ≡ Some other →
      given c (given_from more b T) + cond (t == c) 1 0 ≡ given c (given_from moved b T) + cond (other == c) 1 0
  moves_from b k [] at filled = absurd cc
  moves_from b zero (ss ∷ T) at filled =
      let here : t ≡ b = omega arith in
      let At : ℕ → Type 0 = λ b. given c (given_in more b 0 ss) + cond (t == c) 1 0 ≡ given c (given_in moved b 0 ss) + cond (other == c) 1 0 in
      let inside : At b = subst At here (moves_in 0 j ss (omega arith) filled) in
      let rest : given_from more (suc b) T ≡ given_from moved (suc b) T =
      given_from-same moved more (suc b) T (λ d k l. more-other d k (omega arith)) in
      omega (arith, inside, ap (given c) rest, given-append c (given_in more b 0 ss) (given_from more (suc b) T), given-append c (given_in moved b 0 ss) (given_from moved (suc b) T))
  moves_from b (suc k) (ss ∷ T) at filled =
      let front : given_in more b 0 ss ≡ given_in moved b 0 ss = given_in-same moved more b 0 ss (λ k l. more-other b k (omega arith)) in
      omega (arith, moves_from (suc b) k T (omega arith) filled, ap (given c) front, given-append c (given_in more b 0 ss) (given_from more (suc b) T), given-append c (given_in moved b 0 ss) (given_from moved (suc b) T))

-- ---- all along a path

-- the bucket where a path begins
abbrev root : ℕ → List Spot → ℕ
root b [] = b
root b (s ∷ ss) = root s.0 ss

root_own : (T : Others) (new : ℕ × ℕ) (b : ℕ) (spots : List Spot) → IsPath T new b spots → (root b spots ≡ new.0) ⊎ (root b spots ≡ new.1)
root_own T new b [] path = path
root_own T new b (s ∷ ss) path = root_own T new s.0 ss path.2

not_on : (T : Others) (new : ℕ × ℕ) (b : ℕ) (spots : List Spot) → IsPath T new b spots → is_on spots b ≡ false
not_on T new b [] path = refl
not_on T new b (s ∷ ss) path = path.1

not_moved : (spots : List Spot) (b i : ℕ) → is_on spots b ≡ false → is_moved spots b i ≡ false
not_moved [] b i h = refl
not_moved (s ∷ ss) b i h =
    ap₂ (λ r m. (r && (i == s.1)) || m) (or_first (b == s.0) (is_on ss b) h) (not_moved ss b i (or_second (b == s.0) (is_on ss b) h))

-- with the new entry where the path begins, the bucket where it ends has one entry more
along_path : (T : Others) (new : ℕ × ℕ) (b : ℕ) (spots : List Spot) (c : ℕ) → IsPath T new b spots →
    cond (root b spots == c) 1 0 + given c (given_from (is_moved spots) 0 T) ≡ cond (b == c) 1 0 + given c (given_from (is_moved []) 0 T)
along_path T new b [] c path = refl
along_path T new b (s ∷ ss) c path =
    let ih = along_path T new s.0 ss c path.2 in
    let unmoved = not_moved ss s.0 s.1 (not_on T new s.0 ss path.2) in
    omega (arith, ih, moves_from (is_moved ss) s.0 s.1 unmoved b c 0 s.0 T (omega arith) path.0)

-- ---- where nothing is moved

-- how many slots have an entry
abbrev filled : List (Option ℕ) → ℕ
filled [] = 0
filled (None ∷ ss) = filled ss
filled (Some other ∷ ss) = suc (filled ss)

filled-le : (ss : List (Option ℕ)) → filled ss ≤ length ss
filled-le [] = omega arith
filled-le (None ∷ ss) = omega (arith, filled-le ss)
filled-le (Some other ∷ ss) = omega (arith, filled-le ss)

filled-lt : (ss : List (Option ℕ)) (i : ℕ) → i < length ss → is_none (get_or ss i None) ≡ true → filled ss < length ss
filled-lt [] i l h = absurd (omega arith)
filled-lt (None ∷ ss) i l h = omega (arith, filled-le ss)
filled-lt (Some other ∷ ss) zero l h = absurd (true≢false (sym h))
filled-lt (Some other ∷ ss) (suc i) l h = omega (arith, filled-lt ss i (omega arith) h)

stays_in : (b i c : ℕ) (ss : List (Option ℕ)) → given c (given_in (is_moved []) b i ss) ≡ cond (b == c) (filled ss) 0
stays_in b i c [] = elim (b == c) as (λ s. let none : ℕ = 0 in none ≡ cond s 0 0) [ true ↦ refl | false ↦ refl ]
stays_in b i c (None ∷ ss) = stays_in b (i + 1) c ss
stays_in b i c (Some other ∷ ss) =
    given-cons c b (given_in (is_moved []) b (i + 1) ss) ∙ ap (λ n. cond (b == c) 1 0 + n) (stays_in b (i + 1) c ss)
    ∙ elim (b == c) as (λ s. cond s 1 0 + cond s (filled ss) 0 ≡ cond s (suc (filled ss)) 0) [ true ↦ omega arith | false ↦ omega arith ]

stays_before : (b c : ℕ) (T : Others) → c < b → given c (given_from (is_moved []) b T) ≡ 0
stays_before b c [] l = refl
stays_before b c (ss ∷ T) l =
    let apart : (b == c) ≡ false = eqb-other b c (omega arith) in
    let none : given c (given_in (is_moved []) b 0 ss) ≡ 0 = stays_in b 0 c ss ∙ ap {B = ℕ} (λ s. cond s (filled ss) 0) apart in
    omega (arith, given-append c (given_in (is_moved []) b 0 ss) (given_from (is_moved []) (suc b) T), none, stays_before (suc b) c T (omega arith))

stays_from : (b c k : ℕ) (T : Others) → c ≡ b + k → given c (given_from (is_moved []) b T) ≡ filled (slots_of T k)
stays_from b c k [] at = refl
stays_from b c zero (ss ∷ T) at =
    let same : (b == c) ≡ true = eq-eqb b c (omega arith) in
    let all : given c (given_in (is_moved []) b 0 ss) ≡ filled ss = stays_in b 0 c ss ∙ ap {B = ℕ} (λ s. cond s (filled ss) 0) same in
    omega (arith, given-append c (given_in (is_moved []) b 0 ss) (given_from (is_moved []) (suc b) T), all, stays_before (suc b) c T (omega arith))
stays_from b c (suc k) (ss ∷ T) at =
    let apart : (b == c) ≡ false = eqb-other b c (omega arith) in
    let none : given c (given_in (is_moved []) b 0 ss) ≡ 0 = stays_in b 0 c ss ∙ ap {B = ℕ} (λ s. cond s (filled ss) 0) apart in
    omega (arith, given-append c (given_in (is_moved []) b 0 ss) (given_from (is_moved []) (suc b) T), none, stays_from (suc b) c k T (omega arith))

-- ---- the placement

pub placed_along : (T : Others) (depth : ℕ) (new : ℕ × ℕ) (b slot : ℕ) (spots : List Spot) → IsTable depth T → IsPath T new b spots →
    lowest_empty T b ≡ Some slot → HasPlacement (length T) depth (pairs_with T new)
placed_along T depth new b slot spots table path empty =
    let places = root b spots ∷ given_from (is_moved spots) 0 T in (
      places,
      record {
        own = (root_own T new b spots path, own_from (is_moved spots) 0 T);
        within = λ c l.
            let sized : length (slots_of T c) ≡ depth = All-get_or (λ s. length s ≡ depth) T c [] l table.sized in
            let all : given c places ≡ cond (b == c) 1 0 + filled (slots_of T c) =
            given-cons c (root b spots) (given_from (is_moved spots) 0 T) ∙ along_path T new b spots c path
            ∙ ap (λ n. cond (b == c) 1 0 + n) (stays_from 0 c c T (omega arith)) in
            rw all (rw (← sized) (room_for c));
      },
    )
  where
    room_for : (c : ℕ) → cond (b == c) 1 0 + filled (slots_of T c) ≤ length (slots_of T c)
    room_for c =
        elim (b == c) as (λ s. (b == c) ≡ s → cond s 1 0 + filled (slots_of T c) ≤ length (slots_of T c)) [
          | true ↦ λ e.
              let same : b ≡ c = eqb-true b c e in
              let at = position-Some is_none (slots_of T c) slot None (ap (lowest_empty T) (sym same) ∙ empty) in
              omega (arith, filled-lt (slots_of T c) slot at.0 at.1)
          | false ↦ λ e. omega (arith, filled-le (slots_of T c))
        ] refl
