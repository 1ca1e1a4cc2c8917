-- Each bucket reached has a path to it.
use Rattle.std.proofs.Common.{◌≡◌, ℕ, zero, suc, ◌+◌, List, [], ◌∷◌, ◌++◌, length, Bool, true, false, cond, ◌||◌, ◌==◌, get_or, refl, ap, sym, ◌∙◌, arith, append_assoc, inl, inr, eqb-true, true≢false, subst, Option, Some, None, find}
use Rattle.std.proofs.lemmas.Bool.{or_cases, false_from_ne_true}
use Rattle.std.proofs.Math.Bool.{or-true}
use Rattle.tk_place.specs.Chain.{is_on, IsPath, AreMoves}
use Rattle.tk_place.specs.Place.{Others, Spot, Reached, slots_of, has_bucket, named_in, first_level, next_level, levels_from, reached, search_end}
use Rattle.tk_place.specs.Table.{slot_at}
use Rattle.tk_place.proofs.Ends.{has_room, named_by, names}
use Rattle.tk_place.proofs.Reaching.{has-append, has-push, AllOf, AllOf-append, kept_by, eqb-self}

pub AllOf-weaker : (P Q : Reached → Type 0) → ((p : Reached) → P p → Q p) → (ps : List Reached) → AllOf P ps → AllOf Q ps
AllOf-weaker P Q w [] h = tt
AllOf-weaker P Q w (p ∷ ps) h = (w p h.0, AllOf-weaker P Q w ps h.1)

AllOf-behind : (P : Reached → Type 0) (xs ys : List Reached) → AllOf P (xs ++ ys) → AllOf P ys
AllOf-behind P [] ys h = h
AllOf-behind P (x ∷ xs) ys h = AllOf-behind P xs ys h.1

-- the buckets of a place's path are among these
pub record IsPlaced (T : Others) (new : ℕ × ℕ) (among : List Reached) (p : Reached) : Type 0 where
  pub path : IsPath T new p.bucket p.through
  pub within : (b : ℕ) → is_on p.through b ≡ true → has_bucket among b ≡ true

-- an entry in a bucket that was reached already names this one
record IsNamed (T : Others) (new : ℕ × ℕ) (before : List Reached) (p : Reached) : Type 0 where
  from : Reached
  slot : ℕ
  placed : IsPlaced T new before from
  had : has_bucket before from.bucket ≡ true
  named : slot_at T from.bucket slot ≡ Some p.bucket
  through : p.through ≡ (from.bucket, slot) ∷ from.through

-- all have a path, and those before are among them
record AreKept (T : Others) (new : ℕ × ℕ) (before places : List Reached) : Type 0 where
  placed : AllOf (IsPlaced T new places) places
  among : (b : ℕ) → has_bucket before b ≡ true → has_bucket places b ≡ true

clash : (a : Bool) → a ≡ true → a ≡ false → ⊥
clash a t f = true≢false (sym t ∙ f)

module _ (T : Others) (new : ℕ × ℕ) where
  had_more : (places : List Reached) (p : Reached) (b : ℕ) → has_bucket places b ≡ true → has_bucket (places ++ p ∷ []) b ≡ true
  had_more places p b h = has-push places p b ∙ ap (λ s. (b == p.bucket) || s) h ∙ or-true (b == p.bucket)

  placed_more : (before places : List Reached) (p : Reached) → AreKept T new before places → IsNamed T new before p → has_bucket places p.bucket ≡ false →
      AreKept T new before (places ++ p ∷ [])
  placed_more before places p kept named unseen =
      let from = named.from in
      let on_path : (b : ℕ) → is_on ((from.bucket, named.slot) ∷ from.through) b ≡ true → has_bucket before b ≡ true =
      λ b h. elim (or_cases (b == from.bucket) (is_on from.through b) h) [
        | inl e ↦ ap (has_bucket before) (eqb-true b from.bucket e) ∙ named.had
        | inr e ↦ named.placed.within b e
      ] in
      let apart : is_on ((from.bucket, named.slot) ∷ from.through) p.bucket ≡ false =
      false_from_ne_true (is_on ((from.bucket, named.slot) ∷ from.through) p.bucket) (λ h. clash (has_bucket places p.bucket) (kept.among p.bucket (on_path p.bucket h)) unseen) in
      let along : IsPath T new p.bucket ((from.bucket, named.slot) ∷ from.through) = (named.named, apart, named.placed.path) in
      record {
        placed = AllOf-append (IsPlaced T new (places ++ p ∷ [])) places (p ∷ [])
            (AllOf-weaker (IsPlaced T new places) (IsPlaced T new (places ++ p ∷ [])) (λ q h. record { path = h.path; within = λ b on. had_more places p b (h.within b on) }) places kept.placed) (
              record {
                path = subst (IsPath T new p.bucket) (sym named.through) along;
                within = λ b on. had_more places p b (kept.among b (on_path b (sym (ap (λ spots. is_on spots b) named.through) ∙ on)));
              },
              tt,
            );
        among = λ b h. had_more places p b (kept.among b h);
      }

  named_of : (before : List Reached) (p : Reached) (i : ℕ) (slots : List (Option ℕ)) → IsPlaced T new before p → has_bucket before p.bucket ≡ true →
      ((k : ℕ) → get_or slots k None ≡ slot_at T p.bucket (i + k)) → AllOf (IsNamed T new before) (named_in p i slots)
  named_of before p i [] placed had at = tt
  named_of before p i (None ∷ slots) placed had at = named_of before p (i + 1) slots placed had (λ k. at (suc k) ∙ ap (slot_at T p.bucket) (omega arith))
  named_of before p i (Some other ∷ slots) placed had at = (
    record {
      from = p;
      slot = i;
      placed = placed;
      had = had;
      named = sym (at 0 ∙ ap (slot_at T p.bucket) (omega arith));
      through = refl;
    },
    named_of before p (i + 1) slots placed had (λ k. at (suc k) ∙ ap (slot_at T p.bucket) (omega arith)),
  )

  -- a place that is among those before, and has its path there
  record IsThere (before : List Reached) (p : Reached) : Type 0 where
    placed : IsPlaced T new before p
    had : has_bucket before p.bucket ≡ true

  names_named : (before level : List Reached) → AllOf (IsThere before) level → AllOf (IsNamed T new before) (names T level)
  names_named before [] there = tt
  names_named before (p ∷ level) there =
      AllOf-append (IsNamed T new before) (named_by T p) (names T level)
      (named_of before p 0 (slots_of T p.bucket) there.0.placed there.0.had (λ k. ap (slot_at T p.bucket) (omega arith)))
      (names_named before level there.1)

  all_there : (before ps : List Reached) → AllOf (IsPlaced T new before) ps → ((b : ℕ) → has_bucket ps b ≡ true → has_bucket before b ≡ true) → AllOf (IsThere before) ps
  all_there before [] placed among = tt
  all_there before (p ∷ ps) placed among = (
    record { placed = placed.0; had = among p.bucket (ap (λ s. s || has_bucket ps p.bucket) (eqb-self p.bucket)) },
    all_there before ps placed.1 (λ b h. among b (ap (λ s. (b == p.bucket) || s) h ∙ or-true (b == p.bucket))),
  )

  placed_next : (done level : List Reached) → AllOf (IsPlaced T new (done ++ level)) (done ++ level) →
      AllOf (IsPlaced T new ((done ++ level) ++ next_level T (done ++ level) level)) ((done ++ level) ++ next_level T (done ++ level) level)
  placed_next done level placed =
      let before = done ++ level in
      let there = all_there before level (AllOf-behind (IsPlaced T new before) done level placed)
      (λ b h. has-append done level b ∙ ap (λ s. has_bucket done b || s) h ∙ or-true (has_bucket done b)) in
      (kept_by (AreKept T new before) (IsNamed T new before) (placed_more before) before (names T level)
      (record { placed = placed; among = λ b h. h }) (names_named before level there)).placed

  placed_levels : (n : ℕ) (done level : List Reached) → AllOf (IsPlaced T new (done ++ level)) (done ++ level) →
      AllOf (IsPlaced T new (done ++ levels_from T n (done ++ level) level)) (done ++ levels_from T n (done ++ level) level)
  unfolding levels_from
  placed_levels zero done level placed = placed
  placed_levels (suc n) done level placed =
      let before = done ++ level in
      let next = next_level T before level in
      let All : List Reached → Type 0 = λ ps. AllOf (IsPlaced T new ps) ps in
      subst All (append_assoc done level (levels_from T n (before ++ next) next)) (placed_levels n before next (placed_next done level placed))

  placed_first : AllOf (IsPlaced T new (first_level new)) (first_level new)
  placed_first =
      let first : Reached = record { bucket = new.0; through = [] } in
      let second : Reached = record { bucket = new.1; through = [] } in
      elim (new.1 == new.0 || false) as (λ s. let ps : List Reached = first ∷ cond s [] (second ∷ []) in AllOf (IsPlaced T new ps) ps) [
        | true ↦ (record { path = inl refl; within = λ b on. absurd (true≢false (sym on)) }, tt)
        | false ↦ (record { path = inl refl; within = λ b on. absurd (true≢false (sym on)) }, (record { path = inr refl; within = λ b on. absurd (true≢false (sym on)) }, tt))
      ]

  pub placed_reached : AllOf (IsPlaced T new (reached T new)) (reached T new)
  placed_reached = placed_levels (length T) [] (first_level new) placed_first

found_is : (P : Reached → Type 0) (test : Reached → Bool) (ps : List Reached) (p : Reached) → AllOf P ps → find test ps ≡ Some p → P p
found_is P test [] p h e = absurd cc
found_is P test (q ∷ ps) p h e =
    elim (test q) as (λ s. cond s (Some q) (find test ps) ≡ Some p → P p)
    [ true ↦ λ e. let same : q ≡ p = cc in subst P same h.0 | false ↦ λ e. found_is P test ps p h.1 e ] e

pub path_to_end : (T : Others) (new : ℕ × ℕ) (end : Reached) → search_end T new ≡ Some end → IsPath T new end.bucket end.through
unfolding search_end
path_to_end T new end e = (found_is (IsPlaced T new (reached T new)) (has_room T) (reached T new) end (placed_reached T new) e).path

pub moves_to_end : (T : Others) (new : ℕ × ℕ) (end : Reached) (slot : ℕ) (steps : List Spot) → search_end T new ≡ Some end →
    steps ≡ (end.bucket, slot) ∷ end.through → AreMoves T new steps
moves_to_end T new end slot steps ended e = subst (AreMoves T new) (sym e) (path_to_end T new end ended)
