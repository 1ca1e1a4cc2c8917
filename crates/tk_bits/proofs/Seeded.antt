-- Shares: drawn vectors with their seeds, and the vector that completes them.
use Rattle.std.proofs.Common.{◌≡◌, ℕ, zero, suc, ◌<◌, Some, List, [], ◌∷◌, ◌++◌, length, map, get_or, refl, ap, sym, ◌∙◌, arith}
use Rattle.std.specs.List.{slice_get}
use Rattle.tk_kernel.specs.Xor.{xor_all}
use Rattle.tk_kernel.specs.Chosen.{chosen_sum}
use Rattle.tk_bits.specs.Shares.{Share, last_share, share, seeded, completed, shares, vectors_in, share_at}
use Rattle.tk_bits.specs.Laws.{LastIsComputed, SharesJoin, AnswersJoin}
use Rattle.tk_bits.proofs.Wanted.{completed_join, completed_answers}

-- ---- the vectors

-- whatever the seeds are, the vectors are the drawn ones and the one more
vectors-behind : (seeds drawn : List (List ℕ)) (last : List ℕ) →
    vectors_in (seeded seeds drawn ++ share [] last ∷ []) ≡ drawn ++ last ∷ []
vectors-behind seeds [] last = refl
vectors-behind [] (v ∷ vs) last = ap (λ ws. v ∷ ws) (vectors-behind [] vs last)
vectors-behind (s ∷ seeds) (v ∷ vs) last = ap (λ ws. v ∷ ws) (vectors-behind seeds vs last)

pub vectors-shares : (size i : ℕ) (seeds drawn : List (List ℕ)) →
    vectors_in (shares size i seeds drawn) ≡ completed size i drawn
vectors-shares size i seeds drawn = vectors-behind seeds drawn (last_share size i drawn)

pub shares_join : SharesJoin
shares_join size i seeds drawn sized =
    ap (xor_all size) (vectors-shares size i seeds drawn) ∙ completed_join size i drawn sized

pub answers_join : AnswersJoin
answers_join width size i blocks seeds drawn wide each sized within =
    completed_answers width size i blocks drawn wide each sized within
    ∙ ap (λ vs. Some (xor_all width (map (chosen_sum width blocks) vs))) (sym (vectors-shares size i seeds drawn))

-- ---- the share of a place

vector-of_place : (all : List Share) (j : ℕ) → (share_at all j).vector ≡ get_or (vectors_in all) j []
vector-of_place [] j = refl
vector-of_place (s ∷ all) zero = refl
vector-of_place (s ∷ all) (suc j) = vector-of_place all j

pub vector-at : (size i j : ℕ) (seeds drawn : List (List ℕ)) →
    (share_at (shares size i seeds drawn) j).vector ≡ get_or (completed size i drawn) j []
vector-at size i j seeds drawn =
    vector-of_place (shares size i seeds drawn) j ∙ ap (λ vs. get_or vs j []) (vectors-shares size i seeds drawn)

-- where there is no seed for a place, it is empty
no_seed : (j : ℕ) → get_or {A = List ℕ} [] j [] ≡ []
no_seed zero = refl
no_seed (suc j) = refl

place-before : (seeds drawn : List (List ℕ)) (last : List ℕ) (j : ℕ) → j < length drawn →
    slice_get (seeded seeds drawn ++ share [] last ∷ []) j ≡ Some (share (get_or seeds j []) (get_or drawn j []))
place-before seeds [] last j low = absurd (omega (arith, low))
place-before [] (v ∷ vs) last zero low = refl
place-before [] (v ∷ vs) last (suc j) low =
    place-before [] vs last j (omega (arith, low)) ∙ ap (λ s. Some (share s (get_or vs j []))) (no_seed j)
place-before (s ∷ seeds) (v ∷ vs) last zero low = refl
place-before (s ∷ seeds) (v ∷ vs) last (suc j) low = place-before seeds vs last j (omega (arith, low))

place-last : (seeds drawn : List (List ℕ)) (last : List ℕ) →
    slice_get (seeded seeds drawn ++ share [] last ∷ []) (length drawn) ≡ Some (share [] last)
place-last seeds [] last = refl
place-last [] (v ∷ vs) last = place-last [] vs last
place-last (s ∷ seeds) (v ∷ vs) last = place-last seeds vs last

pub last_is_computed : LastIsComputed
last_is_computed size i seeds drawn = (
  λ j low. place-before seeds drawn (last_share size i drawn) j low,
  place-last seeds drawn (last_share size i drawn),
)

seed-before : (seeds drawn : List (List ℕ)) (last : List ℕ) (j : ℕ) → j < length drawn →
    (share_at (seeded seeds drawn ++ share [] last ∷ []) j).seed ≡ get_or seeds j []
seed-before seeds [] last j low = absurd (omega (arith, low))
seed-before [] (v ∷ vs) last zero low = refl
seed-before [] (v ∷ vs) last (suc j) low = seed-before [] vs last j (omega (arith, low)) ∙ no_seed j
seed-before (s ∷ seeds) (v ∷ vs) last zero low = refl
seed-before (s ∷ seeds) (v ∷ vs) last (suc j) low = seed-before seeds vs last j (omega (arith, low))

-- the seed that a server is given, and the last one's, which is none
pub seed-at : (size i j : ℕ) (seeds drawn : List (List ℕ)) → j < length drawn →
    (share_at (shares size i seeds drawn) j).seed ≡ get_or seeds j []
seed-at size i j seeds drawn low = seed-before seeds drawn (last_share size i drawn) j low
