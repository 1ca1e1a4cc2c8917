-- The pairs of slots, kept beside the positions.
use Rattle.std.proofs.Common.{◌≡◌, ◌≢◌, ℕ, zero, suc, ◌+◌, ◌*◌, ◌<◌, ◌≤◌, ◌⊎◌, inl, inr, true, false}
use Rattle.std.proofs.Common.{cond, List, [], ◌∷◌, length, get_or, set, take, drop, replicate, refl, sym}
use Rattle.std.proofs.Common.{ap, ◌∙◌, subst, arith, eq-eqb}
use Rattle.std.specs.Prelude.{◌==◌, Some}
use Rattle.std.specs.List.{All}
use Rattle.std.proofs.lemmas.Bool.{cases_eq, cases_lt, ne_eqb}
use Rattle.std.proofs.lemmas.List.{length-replicate, drop-drop}
use Rattle.std.proofs.lemmas.List.Elements.{All-cons, All-head, All-tail, All-replicate}
use Rattle.tk_shape.specs.declared.shape.Shape.{Shape}
use Rattle.tk_shape.specs.Lengths.{slot_len}
use Rattle.tk_frames.specs.Lists.{IsIn}
use Rattle.tk_frames.specs.Slots.{slot_from}
use Rattle.tk_table.specs.Table.{Slot, is_empty, empty_slot}
use Rattle.tk_table.specs.Stands.{IsPair}
use Rattle.tk_table.specs.Inside.{pair_beside, IsKnown}
use Rattle.tk_table.specs.Restoring.{AreAscending, AreSound, IsNewEntry, slots_spelled, slot_number, learned}
use Rattle.tk_table.proofs.Spelled.{slot_spelled, length-slots_spelled}

-- ---- one pair is kept

pub length-learned : (ps : List ℕ) (qs : List (ℕ × ℕ)) (x : ℕ) (v : ℕ × ℕ) → length qs ≡ length ps →
    length (learned ps qs x v) ≡ length qs
length-learned [] qs x v long = refl
length-learned (p ∷ ps) [] x v long = refl
length-learned (p ∷ ps) (q ∷ qs) x v long =
    elim (x == p) as (λ t. length (cond t (v ∷ qs) (q ∷ learned ps qs x v)) ≡ suc (length qs)) [
      | true ↦ refl
      | false ↦ ap suc (length-learned ps qs x v (omega (arith, long)))
    ]

pub each-learned : (P : ℕ × ℕ → Type 0) (ps : List ℕ) (qs : List (ℕ × ℕ)) (x : ℕ) (v : ℕ × ℕ) →
    P v → All P qs → All P (learned ps qs x v)
each-learned P [] qs x v new each = each
each-learned P (p ∷ ps) [] x v new each = each
each-learned P (p ∷ ps) (q ∷ qs) x v new each =
    elim (x == p) as (λ t. All P (cond t (v ∷ qs) (q ∷ learned ps qs x v))) [
      | true ↦ All-cons P v qs new (All-tail P q qs each)
      | false ↦ All-cons P q (learned ps qs x v) (All-head P q qs each)
          (each-learned P ps qs x v new (All-tail P q qs each))
    ]

-- what is kept beside another position stays
pub beside_other : (ps : List ℕ) (qs : List (ℕ × ℕ)) (x y : ℕ) (v : ℕ × ℕ) → x ≢ y →
    pair_beside ps (learned ps qs x v) y ≡ pair_beside ps qs y
beside_other [] qs x y v other = refl
beside_other (p ∷ ps) [] x y v other = refl
beside_other (p ∷ ps) (q ∷ qs) x y v other =
    elim (cases_eq x p) [
      | inl same ↦
          let apart : y ≢ p = λ e. other (same ∙ sym e) in
          ap (λ t. pair_beside (p ∷ ps) (cond t (v ∷ qs) (q ∷ learned ps qs x v)) y) (eq-eqb x p same)
          ∙ ap (λ t. cond t (Some v) (pair_beside ps qs y)) (ne_eqb y p apart)
          ∙ sym (ap (λ t. cond t (Some q) (pair_beside ps qs y)) (ne_eqb y p apart))
      | inr apart ↦
          ap (λ t. pair_beside (p ∷ ps) (cond t (v ∷ qs) (q ∷ learned ps qs x v)) y) (ne_eqb x p apart)
          ∙ ap (λ o. cond (y == p) (Some q) o) (beside_other ps qs x y v other)
    ]

-- the pair is kept beside its position
pub beside_same : (ps : List ℕ) (qs : List (ℕ × ℕ)) (x : ℕ) (v : ℕ × ℕ) → IsIn ps x →
    length qs ≡ length ps → pair_beside ps (learned ps qs x v) x ≡ Some v
beside_same [] qs x v there long = absurd there
beside_same (p ∷ ps) [] x v there long = absurd (omega (arith, long))
beside_same (p ∷ ps) (q ∷ qs) x v there long =
    elim (cases_eq x p) [
      | inl same ↦
          ap (λ t. pair_beside (p ∷ ps) (cond t (v ∷ qs) (q ∷ learned ps qs x v)) x) (eq-eqb x p same)
          ∙ ap (λ t. cond t (Some v) (pair_beside ps qs x)) (eq-eqb x p same)
      | inr apart ↦
          ap (λ t. pair_beside (p ∷ ps) (cond t (v ∷ qs) (q ∷ learned ps qs x v)) x) (ne_eqb x p apart)
          ∙ ap (λ t. cond t (Some q) (pair_beside ps (learned ps qs x v) x)) (ne_eqb x p apart)
          ∙ beside_same ps qs x v (rest there apart) (omega (arith, long))
    ]
  where
    rest : IsIn (p ∷ ps) x → x ≢ p → IsIn ps x
    rest (inl e) apart = absurd (apart (sym e))
    rest (inr there) apart = there

-- ---- found by a search in ascending positions

pub ascending_above : (p : ℕ) (ps : List ℕ) (i : ℕ) → AreAscending p ps → i < length ps → p ≤ get_or ps i 0
ascending_above p [] i up low = absurd (omega arith)
ascending_above p (q ∷ qs) zero up low = up.0
ascending_above p (q ∷ qs) (suc i) up low =
    omega (arith, up.0, ascending_above (q + 1) qs i up.1 (omega (arith, low)))

pub ascending-sorted : (p : ℕ) (ps : List ℕ) → AreAscending p ps → (i j : ℕ) → i ≤ j → j < length ps →
    get_or ps i 0 ≤ get_or ps j 0
ascending-sorted p [] up i j order low = absurd (omega arith)
ascending-sorted p (q ∷ qs) up zero zero order low = omega arith
ascending-sorted p (q ∷ qs) up zero (suc j) order low =
    omega (arith, ascending_above (q + 1) qs j up.1 (omega (arith, low)))
ascending-sorted p (q ∷ qs) up (suc i) zero order low = absurd (omega arith)
ascending-sorted p (q ∷ qs) up (suc i) (suc j) order low =
    ascending-sorted (q + 1) qs up.1 i j (omega arith) (omega (arith, low))

-- the pair of the position that is found is set
pub learned_found : (p : ℕ) (ps : List ℕ) (qs : List (ℕ × ℕ)) (i x : ℕ) (v : ℕ × ℕ) → AreAscending p ps →
    length qs ≡ length ps → i < length ps → get_or ps i 0 ≡ x → set qs i v ≡ learned ps qs x v
learned_found p [] qs i x v up long low is = absurd (omega arith)
learned_found p (q ∷ ps) [] i x v up long low is = absurd (omega (arith, long))
learned_found p (q ∷ ps) (r ∷ qs) zero x v up long low is =
    sym (ap (λ t. cond t (v ∷ qs) (r ∷ learned ps qs x v)) (eq-eqb x q (sym is)))
learned_found p (q ∷ ps) (r ∷ qs) (suc i) x v up long low is =
    let above = ascending_above (q + 1) ps i up.1 (omega (arith, low)) in
    ap (λ rs. r ∷ rs) (learned_found (q + 1) ps qs i x v up.1 (omega (arith, long)) (omega (arith, low)) is)
    ∙ sym (ap (λ t. cond t (v ∷ qs) (r ∷ learned ps qs x v)) (ne_eqb x q (λ e. omega (arith, e, is, above))))

-- nothing is kept beside a position that isn't one of them
pub learned_none : (ps : List ℕ) (qs : List (ℕ × ℕ)) (x : ℕ) (v : ℕ × ℕ) → length qs ≡ length ps →
    ((k : ℕ) → k < length ps → get_or ps k 0 ≢ x) → qs ≡ learned ps qs x v
learned_none [] qs x v long none = refl
learned_none (p ∷ ps) [] x v long none = refl
learned_none (p ∷ ps) (q ∷ qs) x v long none =
    ap (λ rs. q ∷ rs) (learned_none ps qs x v (omega (arith, long)) (λ k low. none (suc k) (omega (arith, low))))
    ∙ sym (ap (λ t. cond t (v ∷ qs) (q ∷ learned ps qs x v)) (ne_eqb x p (λ e. none 0 (omega arith) (sym e))))

-- ---- slot after slot

-- the pairs of the slots so far are kept
pub record IsLearned (shape : Shape) (positions bytes : List ℕ) (read : ℕ) (pairs : List (ℕ × ℕ))
    (rest : List ℕ) : Type 0 where
  pub left : rest ≡ drop (read * slot_len shape) bytes
  pub beside : length pairs ≡ length positions
  pub each : All (IsPair shape) pairs
  pub known : (n : ℕ) → n < read → IsKnown positions pairs (slot_number (slots_spelled shape bytes) n)

module _ (shape : Shape) (positions bytes : List ℕ) where
  pub nothing_learned : (pairs : List (ℕ × ℕ)) → pairs ≡ replicate (length positions) (0, 0) →
      IsLearned shape positions bytes 0 pairs bytes
  nothing_learned pairs made =
      let low = shape.in_range.buckets_low in
      let none : 0 * slot_len shape ≡ 0 = omega arith in
      record {
        left = rw none refl;
        beside = ap length made ∙ length-replicate (length positions) (0, 0);
        each = subst (All (IsPair shape)) (sym made)
            (All-replicate (IsPair shape) (length positions) (0, 0) (omega (arith, low), omega (arith, low)));
        known = λ n h. absurd (omega arith);
      }

  module _ (sound : AreSound shape positions (slots_spelled shape bytes)) (read : ℕ)
      (low : read < shape.buckets * shape.depth) (pairs : List (ℕ × ℕ)) (rest slot : List ℕ)
      (is : IsLearned shape positions bytes read pairs rest) (piece : slot ≡ take (slot_len shape) rest) where
    here : Slot
    here = slot_number (slots_spelled shape bytes) read

    spelled : slot_number (slots_spelled shape bytes) read ≡ slot_from slot
    spelled =
        slot_spelled shape bytes read low
        ∙ ap (λ ys. slot_from (take (slot_len shape) ys)) (sym is.left) ∙ ap slot_from (sym piece)

    in_range : (slot_number (slots_spelled shape bytes) read ≡ empty_slot shape)
        ⊎ IsNewEntry shape positions (slots_spelled shape bytes) read →
        IsPair shape ((slot_from slot).first, (slot_from slot).second)
    in_range (inl e) =
        let few = shape.in_range.buckets_low in
        let first : (slot_from slot).first ≡ 0 = ap (λ (s : Slot). s.first) (sym spelled ∙ e) in
        let second : (slot_from slot).second ≡ 0 = ap (λ (s : Slot). s.second) (sym spelled ∙ e) in
        (omega (arith, few, first), omega (arith, few, second))
    in_range (inr new) = (
      subst (λ (s : Slot). s.first < shape.buckets) spelled new.entry.first,
      subst (λ (s : Slot). s.second < shape.buckets) spelled new.entry.second,
    )

    abbrev now : List (ℕ × ℕ)
    now = learned positions pairs (slot_from slot).position ((slot_from slot).first, (slot_from slot).second)

    known_here : (slot_number (slots_spelled shape bytes) read ≡ empty_slot shape)
        ⊎ IsNewEntry shape positions (slots_spelled shape bytes) read →
        IsKnown positions now (slot_number (slots_spelled shape bytes) read)
    known_here (inl e) = inl (ap is_empty e)
    known_here (inr new) =
        subst (IsKnown positions now) (sym spelled)
        (inr (beside_same positions pairs (slot_from slot).position _
        (subst (λ (s : Slot). IsIn positions s.position) spelled new.named) is.beside))

    known_before : (n : ℕ) → n < read → (slot_number (slots_spelled shape bytes) read ≡ empty_slot shape)
        ⊎ IsNewEntry shape positions (slots_spelled shape bytes) read →
        IsKnown positions pairs (slot_number (slots_spelled shape bytes) n) →
        IsKnown positions now (slot_number (slots_spelled shape bytes) n)
    known_before n before one (inl e) = inl e
    known_before n before (inl e) (inr found) =
        let zero_here : (slot_from slot).position ≡ 0 = ap (λ (s : Slot). s.position) (sym spelled ∙ e) in
        elim (cases_eq (slot_from slot).position (slot_number (slots_spelled shape bytes) n).position) [
          | inl same ↦ inl (eq-eqb (slot_number (slots_spelled shape bytes) n).position 0 (sym same ∙ zero_here))
          | inr other ↦ inr (beside_other positions pairs _ _ _ other ∙ found)
        ]
    known_before n before (inr new) (inr found) =
        let other : (slot_from slot).position ≢ (slot_number (slots_spelled shape bytes) n).position =
        λ e. new.alone n before (sym e ∙ ap (λ (s : Slot). s.position) (sym spelled)) in
        inr (beside_other positions pairs _ _ _ other ∙ found)

    pub one_more_learned : (next : List (ℕ × ℕ)) (others : List ℕ) → next ≡ now →
        others ≡ drop (slot_len shape) rest → IsLearned shape positions bytes (read + 1) next others
    unfolding in_range known_here known_before
    one_more_learned next others made left =
        let all = length-slots_spelled shape bytes in
        let one = sound read (omega (arith, all, low)) in
        let more : read * slot_len shape + slot_len shape ≡ (read + 1) * slot_len shape = omega arith in
        subst (λ qs. IsLearned shape positions bytes (read + 1) qs others) (sym made) (record {
          left = left ∙ ap (drop (slot_len shape)) is.left
              ∙ drop-drop (slot_len shape) (read * slot_len shape) bytes
              ∙ ap (λ n. drop n bytes) more;
          beside = length-learned positions pairs _ _ is.beside ∙ is.beside;
          each = each-learned (IsPair shape) positions pairs _ _ (in_range one) is.each;
          known = λ n h. elim (cases_lt n read) [
            | inl before ↦ known_before n before one (is.known n before)
            | inr past ↦ let at : read ≡ n = omega arith in
                subst (λ k. IsKnown positions now (slot_number (slots_spelled shape bytes) k)) at (known_here one)
          ];
        })
