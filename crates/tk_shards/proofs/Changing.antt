-- Lists that are the same but for some elements.
use Rattle.std.proofs.Common.{◌≡◌, ◌≢◌, ℕ, ◌+◌, ◌<◌, ◌≤◌, List, [], ◌∷◌, ◌++◌, length, drop, set, ap, ap₂, sym, ◌∙◌}
use Rattle.std.proofs.Common.{subst, arith, inl, inr}
use Rattle.std.specs.Prelude.{slice_index_or}
use Rattle.std.proofs.lemmas.Bool.{cases_eq, cases_lt}
use Rattle.std.proofs.lemmas.List.{length-set, get_or-set_same, get_or-set_other, get_or_default, drop_more}
use Rattle.std.proofs.lemmas.List.{drop_all, same_lists, get_or_append_left, length-append}
use Rattle.std.proofs.Math.Seq.{get_or-append_seam}
use Rattle.std.specs.List.{All}
use Rattle.std.proofs.lemmas.List.Elements.{All-cons, All-nil}
use Rattle.tk_shards.specs.Shards.{Sharded, AreSameBut}
use Rattle.tk_shards.proofs.Row.{shown_as}

All-front : (P : ℕ → Type 0) (xs ys : List ℕ) → All P (xs ++ ys) → All P xs
All-front P xs ys all k d low =
    subst P (get_or_append_left xs ys d k low)
    (all k d (omega (arith, low, length-append xs ys)))

All-last : (P : ℕ → Type 0) (xs : List ℕ) (y : ℕ) → All P (xs ++ y ∷ []) → P y
All-last P xs y all =
    subst P (get_or-append_seam xs y [] y)
    (all (length xs) y (omega (arith, length-append xs (y ∷ []))))

-- the element of the next number taken over
changed-here : (i : ℕ) (rest : List ℕ) (new old : List (List ℕ)) → AreSameBut (i ∷ rest) new old → i < length old →
    AreSameBut rest new (set old i (slice_index_or new i []))
changed-here i rest new old same low =
    let x = slice_index_or new i [] in
    record {
      count = same.count ∙ sym (length-set old i x);
      others = λ j d within apart. elim (cases_eq i j) [
        | inl here ↦
            subst (λ k. slice_index_or new k d ≡ slice_index_or (set old i x) k d) here
            (get_or_default new i d [] (omega (arith, same.count)) ∙ sym (get_or-set_same old i x d low))
        | inr other ↦
            same.others j d within (All-cons (λ k. k ≢ j) i rest other apart)
            ∙ sym (get_or-set_other old i j x d (λ e. other (sym e)))
      ];
    }

-- a number that is no element's
changed-past : (i : ℕ) (rest : List ℕ) (new old : List (List ℕ)) → AreSameBut (i ∷ rest) new old → length old ≤ i →
    AreSameBut rest new old
changed-past i rest new old same high =
    record {
      count = same.count;
      others = λ j d within apart.
          let other : i ≢ j = omega (arith, same.count, within) in
          same.others j d within (All-cons (λ k. k ≢ j) i rest other apart);
    }

-- but for these numbers the set's blocks are the new ones, and all else is as it was
pub record IsTaking (old : Sharded) (left : List ℕ) (new : List (List ℕ)) (s : Sharded) : Type 0 where
  pub width : s.width ≡ old.width
  pub ranges : s.ranges ≡ old.ranges
  pub same : AreSameBut left new s.blocks

module _ (old : Sharded) (changed : List ℕ) (new : List (List ℕ)) (k : ℕ) (s : Sharded) where
  -- the next of the numbers
  pub taking-more : (after : Sharded) → k < length changed → IsTaking old (drop k changed) new s →
      slice_index_or changed k 0 < length s.blocks →
      after ≡ record s {
        blocks = set s.blocks (slice_index_or changed k 0)
            (slice_index_or new (slice_index_or changed k 0) []);
      } →
      IsTaking old (drop (k + 1) changed) new after
  taking-more after less taking low e =
      subst (IsTaking old (drop (k + 1) changed) new) (sym e)
      record {
        width = taking.width;
        ranges = taking.ranges;
        same = changed-here (slice_index_or changed k 0) (drop (k + 1) changed) new s.blocks
            (subst (λ xs. AreSameBut xs new s.blocks) (drop_more changed k 0 less) taking.same) low;
      }

  pub taking-beyond : (after : Sharded) → k < length changed → IsTaking old (drop k changed) new s →
      length s.blocks ≤ slice_index_or changed k 0 → after ≡ s → IsTaking old (drop (k + 1) changed) new after
  taking-beyond after less taking high e =
      subst (IsTaking old (drop (k + 1) changed) new) (sym e)
      record {
        width = taking.width;
        ranges = taking.ranges;
        same = changed-past (slice_index_or changed k 0) (drop (k + 1) changed) new s.blocks
            (subst (λ xs. AreSameBut xs new s.blocks) (drop_more changed k 0 less) taking.same) high;
      }

  -- at the end all are taken over
  pub taking-all : length changed ≤ k → IsTaking old (drop k changed) new s → s ≡ record old { blocks = new }
  taking-all last taking =
      let none : AreSameBut [] new s.blocks =
      subst (λ xs. AreSameBut xs new s.blocks) (drop_all k changed last) taking.same in
      let same : s.blocks ≡ new =
      sym (same_lists new s.blocks none.count (λ j d within. none.others j d within (All-nil (λ i. i ≢ j)))) in
      ap₂ (λ w r. shown_as w s.blocks r) taking.width taking.ranges
      ∙ ap (λ vs. shown_as old.width vs old.ranges) same

-- ---- numbers that are found

-- of the elements before number i those whose numbers aren't listed are the same
pub record IsFound (i : ℕ) (new old : List (List ℕ)) (changed : List ℕ) : Type 0 where
  pub others : (k : ℕ) → k < i → All (λ j. j ≢ k) changed →
      slice_index_or new k [] ≡ slice_index_or old k []

module _ {new old : List (List ℕ)} where
  pub found-none : {i : ℕ} {changed : List ℕ} → i ≡ 0 → IsFound i new old changed
  found-none none = record { others = λ k low apart. absurd (omega (arith, none, low)) }

  -- the next is listed
  pub found-listed : {i : ℕ} {changed more : List ℕ} → more ≡ changed ++ i ∷ [] →
      IsFound i new old changed → IsFound (i + 1) new old more
  found-listed {i} {changed} {more} is found =
      record {
        others = λ k low apart.
            let all : All (λ j. j ≢ k) (changed ++ i ∷ []) = subst (All (λ j. j ≢ k)) is apart in
            elim (cases_lt k i) [
              | inl before ↦ found.others k before (All-front (λ j. j ≢ k) changed (i ∷ []) all)
              | inr past ↦
                  let here : i ≡ k = omega (arith, past, low) in
                  absurd (All-last (λ j. j ≢ k) changed i all here)
            ];
      }

  -- the next is the same
  pub found-same : {i : ℕ} {changed : List ℕ} → slice_index_or new i [] ≡ slice_index_or old i [] →
      IsFound i new old changed → IsFound (i + 1) new old changed
  found-same {i} {changed} same found =
      record {
        others = λ k low apart. elim (cases_lt k i) [
          | inl before ↦ found.others k before apart
          | inr past ↦
              let here : i ≡ k = omega (arith, past, low) in
              subst (λ n. slice_index_or new n [] ≡ slice_index_or old n []) here same
        ];
      }

  -- at the end the lists are the same but for those
  pub found-all : {i : ℕ} {changed : List ℕ} → length new ≡ length old → length old ≤ i →
      IsFound i new old changed → AreSameBut changed new old
  found-all {i} {changed} counted past found =
      record {
        count = counted;
        others = λ k d low apart.
            get_or_default new k d [] low
            ∙ found.others k (omega (arith, low, counted, past)) apart
            ∙ get_or_default old k [] d (omega (arith, low, counted));
      }
