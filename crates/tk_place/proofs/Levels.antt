-- The search without an end has reached every bucket that an entry of a reached bucket names.
use Rattle.std.proofs.Common.{◌≡◌, ℕ, zero, suc, ◌+◌, ◌<◌, ◌≤◌, List, [], ◌∷◌, ◌++◌, length, true, false, cond, ◌||◌, refl, ap, sym, ◌∙◌, arith, append_assoc, append-nil, length-append, ◌⊎◌, eqb-true, true≢false, inl, inr, subst}
use Rattle.std.specs.Prelude.{◌==◌}
use Rattle.std.proofs.lemmas.Grind.{flat_map-append}
use Rattle.std.proofs.lemmas.Bool.{or_cases}
use Rattle.std.proofs.Math.Bool.{or-true}
use Rattle.tk_place.specs.Place.{Others, Reached, has_bucket, not_before, next_level, levels_from}
use Rattle.tk_place.proofs.Ends.{named_by, names, no_levels}
use Rattle.tk_place.proofs.Reaching.{has-append}

-- what is left out stood before
pub not_before-covers : (before ps : List Reached) (b : ℕ) → has_bucket ps b ≡ true → (has_bucket before b || has_bucket (not_before before ps) b) ≡ true
not_before-covers before [] b h = absurd (true≢false (sym h))
not_before-covers before (p ∷ ps) b h =
    elim (has_bucket before p.bucket) as (λ seen. has_bucket before p.bucket ≡ seen → (has_bucket before b || has_bucket (cond seen (not_before before ps) (p ∷ not_before (p ∷ before) ps)) b) ≡ true) [
      | true ↦ λ seen. elim (b == p.bucket) as (λ same. (b == p.bucket) ≡ same → (same || has_bucket ps b) ≡ true → (has_bucket before b || has_bucket (not_before before ps) b) ≡ true) [
        | true ↦ λ e _. ap (λ x. x || has_bucket (not_before before ps) b) (ap (has_bucket before) (eqb-true b p.bucket e) ∙ seen)
        | false ↦ λ e h. not_before-covers before ps b h
      ] refl h
      | false ↦ λ seen. elim (b == p.bucket) as (λ same. (b == p.bucket) ≡ same → (same || has_bucket ps b) ≡ true → (has_bucket before b || (same || has_bucket (not_before (p ∷ before) ps) b)) ≡ true) [
        | true ↦ λ e h. or-true (has_bucket before b)
        | false ↦ λ e h. rw e at (not_before-covers (p ∷ before) ps b h)
      ] refl h
    ] refl

names-append : (T : Others) (xs ys : List Reached) → names T (xs ++ ys) ≡ names T xs ++ names T ys
names-append T xs ys = flat_map-append (named_by T) xs ys

-- every bucket that an entry of these names is among those
abbrev pub AreNamedIn : Others → List Reached → List Reached → Type 0
AreNamedIn T places among = (b : ℕ) → has_bucket (names T places) b ≡ true → has_bucket among b ≡ true

-- what a level names is among the places so far and the next level
next_level-covers : (T : Others) (before level : List Reached) → AreNamedIn T level (before ++ next_level T before level)
next_level-covers T before level b h =
    has-append before (next_level T before level) b ∙ not_before-covers before (names T level) b h

pub in_front : (xs ys : List Reached) (b : ℕ) → has_bucket xs b ≡ true → has_bucket (xs ++ ys) b ≡ true
in_front xs ys b h = has-append xs ys b ∙ rw h refl

-- one level more: what was named is named still
more_named : (T : Others) (done level : List Reached) → AreNamedIn T done (done ++ level) →
    AreNamedIn T (done ++ level) ((done ++ level) ++ next_level T (done ++ level) level)
more_named T done level h b n =
    let split : (has_bucket (names T done) b ≡ true) ⊎ (has_bucket (names T level) b ≡ true) =
    or_cases (has_bucket (names T done) b) (has_bucket (names T level) b)
    (sym (has-append (names T done) (names T level) b) ∙ ap (λ ps. has_bucket ps b) (sym (names-append T done level)) ∙ n) in
    elim split [
      | inl d ↦ in_front (done ++ level) (next_level T (done ++ level) level) b (h b d)
      | inr l ↦ next_level-covers T (done ++ level) level b l
    ]

-- There is room for no more levels than buckets: with this many to come the places so far would be more than the buckets.
abbrev pub IsPigeonhole : Others → (List Reached → Type 0) → Type 0
IsPigeonhole T Sound = (places : List Reached) → Sound places → length places ≤ length T

-- where Sound is kept from level to level
pub levels_closed : (T : Others) (Sound : List Reached → Type 0) → IsPigeonhole T Sound →
    ((done level : List Reached) → Sound (done ++ level) → Sound ((done ++ level) ++ next_level T (done ++ level) level)) →
    (n : ℕ) (done level : List Reached) → Sound (done ++ level) → AreNamedIn T done (done ++ level) →
    length T < length (done ++ level) + n → AreNamedIn T (done ++ levels_from T n (done ++ level) level) (done ++ levels_from T n (done ++ level) level)
unfolding levels_from
levels_closed T Sound few kept zero done level sound named long =
    absurd (let f : length (done ++ level) ≤ length T = few (done ++ level) sound in omega arith)
levels_closed T Sound few kept (suc n) done level sound named long =
    at (λ done' level' s m l. levels_closed T Sound few kept n done' level' s m l) (next_level T (done ++ level) level) refl
  where
    at : ((done' level' : List Reached) → Sound (done' ++ level') → AreNamedIn T done' (done' ++ level') → length T < length (done' ++ level') + n →
        AreNamedIn T (done' ++ levels_from T n (done' ++ level') level') (done' ++ levels_from T n (done' ++ level') level')) →
        (next : List Reached) → next_level T (done ++ level) level ≡ next →
        AreNamedIn T (done ++ (level ++ levels_from T n ((done ++ level) ++ next) next)) (done ++ (level ++ levels_from T n ((done ++ level) ++ next) next))
    at on [] e =
        let ended : AreNamedIn T (done ++ level) (done ++ level) =
        rw append-nil at (subst (λ next. AreNamedIn T (done ++ level) ((done ++ level) ++ next)) e (more_named T done level named)) in
        subst (λ L. AreNamedIn T (done ++ (level ++ L)) (done ++ (level ++ L))) (sym (no_levels T n ((done ++ level) ++ [])))
        (rw append-nil ended)
    at on (x ∷ next) e =
        let sound_on : Sound ((done ++ level) ++ x ∷ next) = subst (λ next. Sound ((done ++ level) ++ next)) e (kept done level sound) in
        let named_on : AreNamedIn T (done ++ level) ((done ++ level) ++ x ∷ next) =
        subst (λ next. AreNamedIn T (done ++ level) ((done ++ level) ++ next)) e (more_named T done level named) in
        let longer : length T < length ((done ++ level) ++ x ∷ next) + n =
        rw length-append (omega (arith, long)) in
        rw append_assoc at (on (done ++ level) (x ∷ next) sound_on named_on longer)
