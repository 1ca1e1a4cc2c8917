-- The slots of a pair's two buckets give the text that the earliest retained record gives.
use Rattle.std.proofs.Common.{◌≡◌, ℕ, ◌⊎◌, inl, inr, refl, ap, sym, ◌∙◌, subst, arith, List, []}
use Rattle.std.proofs.Common.{◌++◌, length, true, false, cond, eqb-true, ◌<◌, ◌≤◌, ◌&&◌, map, filter}
use Rattle.std.specs.Prelude.{◌==◌, Option, Some, None, not, option_map}
use Rattle.std.proofs.lemmas.List.Sorted.{IsPermutation-sym, Contains-permutation}
use Rattle.std.proofs.lemmas.Bool.{and_parts, cases_lt, ne_eqb}
use Rattle.std.proofs.lemmas.List.{get_or_past}
use Rattle.std.specs.List.{filter_map}
use Rattle.tk_shape.specs.declared.shape.Shape.{Shape}
use Rattle.tk_frames.specs.Order.{Record}
use Rattle.tk_table.specs.Table.{Slot, SlotTable, bucket_at, is_empty, retained, layout, slot_of}
use Rattle.tk_table.specs.Ordered.{AscendFrom}
use Rattle.tk_table.specs.Laws.{entries_in, IsSlotOf, IsLaidOut, AsWritten}
use Rattle.tk_frames.specs.Lists.{first_some, IsIn, IsFrom}
use Rattle.tk_frames.specs.Slots.{Accepted, accepted, earliest, text_among, text_in}
use Rattle.tk_frames.proofs.Offers.{in_from_contains, contains_from_in, all_in, in-append}
use Rattle.tk_frames.proofs.Offers.{in_front, in_back, in_map, from_map, in_filter}
use Rattle.tk_frames.proofs.Offers.{from_filter, in_filter_map, from_filter_map, in_flat_map, from_flat_map, nothing_in}
use Rattle.tk_table.proofs.Ascending.{ascend-above, retained-ascend}
use Rattle.tk_table.proofs.LaidOut.{layout-laid_out}
use Rattle.tk_table.proofs.Earliest.{IsLeast, earliest-least, IsFirst, first_some-none, first_some-first}
use Rattle.tk_lists.proofs.Offers.{option_map-from}

-- ---- what a record's slot gives

accepted-text : (pair : ℕ × ℕ) (opens : List ℕ → Option (List ℕ)) (r : Record) → 1 ≤ r.position →
    accepted pair opens (slot_of r) ≡ option_map (λ text. (r.position, text)) (text_in pair opens r)
accepted-text pair opens r low =
    ap (λ z. cond (not z && r.write.first == pair.0 && r.write.second == pair.1)
    (option_map {U = Accepted} (λ text. (r.position, text)) (opens r.write.block)) None)
    (ne_eqb r.position 0 (λ e. omega (arith, low, e)))
    ∙ elim (r.write.first == pair.0 && r.write.second == pair.1) as (λ t.
    Path (Option Accepted) (cond t
    (option_map (λ text. (r.position, text)) (opens r.write.block)) None)
    (option_map (λ text. (r.position, text)) (cond t (opens r.write.block) None)))
    [ true ↦ refl | false ↦ refl ]

text_in-pair : (pair : ℕ × ℕ) (opens : List ℕ → Option (List ℕ)) (r : Record) (text : List ℕ) →
    text_in pair opens r ≡ Some text → (r.write.first ≡ pair.0) × (r.write.second ≡ pair.1)
text_in-pair pair opens r text h =
    elim (r.write.first == pair.0 && r.write.second == pair.1) as
    (λ t. (r.write.first == pair.0 && r.write.second == pair.1) ≡ t →
    cond t (opens r.write.block) None ≡ Some text →
    (r.write.first ≡ pair.0) × (r.write.second ≡ pair.1)) [
      | true ↦ λ e _. let parts = and_parts (r.write.first == pair.0)
          (r.write.second == pair.1) e in
          (eqb-true r.write.first pair.0 parts.0, eqb-true r.write.second pair.1 parts.1)
      | false ↦ λ _ h. absurd (cc h)
    ] refl h

accepted-filled : (pair : ℕ × ℕ) (opens : List ℕ → Option (List ℕ)) (s : Slot) (y : Accepted) →
    accepted pair opens s ≡ Some y → is_empty s ≡ false
accepted-filled pair opens s y h =
    elim (s.position == 0) as (λ z. cond (not z && s.first == pair.0 && s.second == pair.1)
    (option_map {U = Accepted} (λ text. (s.position, text)) (opens s.block)) None ≡ Some y →
    z ≡ false)
    [ true ↦ λ h. absurd (cc h) | false ↦ λ _. refl ] h

-- ---- records and slots

-- each entry of a bucket is a record's
pub entry-record : (shape : Shape) (K : List Record) (T : SlotTable) (b : ℕ) (s : Slot) →
    IsLaidOut shape K T → IsIn (bucket_at T b) s → is_empty s ≡ false → IsFrom slot_of K s
entry-record shape K T b s laid there filled =
    let in_range : b < length T = elim (cases_lt b (length T)) [
      | inl low ↦ low
      | inr past ↦ absurd (subst (λ slots. IsIn slots s) (get_or_past T b [] past) there)
    ] in
    let kept : IsIn (filter (λ s. not (is_empty s)) (bucket_at T b)) s =
    in_filter (λ s. not (is_empty s)) (bucket_at T b) s there (ap not filled) in
    let among : IsIn (entries_in T) s =
    in_flat_map (λ slots. filter (λ s. not (is_empty s)) slots) T [] b s in_range kept in
    from_map slot_of K s
    (in_from_contains (map slot_of K) s
    (Contains-permutation (entries_in T) (map slot_of K) s
    (IsPermutation-sym (map slot_of K) (entries_in T) laid.entries)
    (contains_from_in (entries_in T) s among)))

-- each record has its slot in one of its buckets
record IsStored (T : SlotTable) (r : Record) : Type 0 where
  bucket : ℕ
  there : IsIn (bucket_at T bucket) (slot_of r)
  own : (r.write.first ≡ bucket) ⊎ (r.write.second ≡ bucket)

record-stored : (shape : Shape) (K : List Record) (T : SlotTable) (r : Record) →
    IsLaidOut shape K T → IsIn K r → 1 ≤ r.position → IsStored T r
record-stored shape K T r laid in_it low =
    let among : IsIn (entries_in T) (slot_of r) =
    in_from_contains (entries_in T) (slot_of r)
    (Contains-permutation (map slot_of K) (entries_in T) (slot_of r) laid.entries
    (contains_from_in (map slot_of K) (slot_of r) (in_map slot_of K r in_it))) in
    let at = from_flat_map (λ slots. filter (λ s. not (is_empty s)) slots) T [] (slot_of r) among in
    let there : IsIn (bucket_at T at.index) (slot_of r) =
    from_filter (λ s. not (is_empty s)) (bucket_at T at.index) (slot_of r) at.there in
    record {
      bucket = at.index;
      there = there;
      own = own_bucket at.index (all_in (IsSlotOf shape at.index) (bucket_at T at.index) (slot_of r)
          (laid.own at.index) there);
    }
  where
    own_bucket : (b : ℕ) → IsSlotOf shape b (slot_of r) → (r.write.first ≡ b) ⊎ (r.write.second ≡ b)
    own_bucket b (inl e) = absurd (let zero_position =
        ap (λ (s : Slot). s.position) e in omega (arith, low, zero_position))
    own_bucket b (inr h) = h.1

-- ---- the two buckets

-- each accepted slot of the two buckets is that of a record which gives the text
record IsGiven (pair : ℕ × ℕ) (opens : List ℕ → Option (List ℕ)) (K : List Record)
    (y : Accepted) : Type 0 where
  origin : Record
  there : IsIn K origin
  position : origin.position ≡ y.0
  gives : text_in pair opens origin ≡ Some y.1

given : (shape : Shape) (K : List Record) (T : SlotTable) (pair : ℕ × ℕ)
    (opens : List ℕ → Option (List ℕ)) (y : Accepted) →
    IsLaidOut shape K T → AscendFrom 1 K →
    IsIn (filter_map (accepted pair opens) (bucket_at T pair.0 ++ bucket_at T pair.1)) y →
    IsGiven pair opens K y
given shape K T pair opens y laid ascend h =
    elim (in-append (bucket_at T pair.0) (bucket_at T pair.1) slot.origin slot.there)
    [ inl l ↦ in_bucket pair.0 l | inr r ↦ in_bucket pair.1 r ]
  where
    slot : IsFrom (accepted pair opens) (bucket_at T pair.0 ++ bucket_at T pair.1) (Some y)
    slot = from_filter_map (accepted pair opens) (bucket_at T pair.0 ++ bucket_at T pair.1) y h

    in_bucket : (b : ℕ) → IsIn (bucket_at T b) slot.origin → IsGiven pair opens K y
    in_bucket b l =
        let from = entry-record shape K T b slot.origin laid l
        (accepted-filled pair opens slot.origin y slot.gives) in
        let low = ascend-above 1 K from.origin ascend from.there in
        let gives : option_map (λ text. (from.origin.position, text))
        (text_in pair opens from.origin) ≡ Some y =
        sym (accepted-text pair opens from.origin low) ∙ ap (accepted pair opens) from.gives
        ∙ slot.gives in
        let text = option_map-from (λ text. (from.origin.position, text))
        (text_in pair opens from.origin) y gives in
        record {
          origin = from.origin;
          there = from.there;
          position = ap (λ (v : Accepted). v.0) text.2;
          gives = text.1 ∙ ap (λ (v : Accepted). Some v.1) text.2;
        }

text-as_written : (shape : Shape) (K : List Record) (T : SlotTable) (pair : ℕ × ℕ)
    (opens : List ℕ → Option (List ℕ)) →
    IsLaidOut shape K T → AscendFrom 1 K →
    text_among pair opens (bucket_at T pair.0 ++ bucket_at T pair.1) ≡ first_some
    (text_in pair opens) K
text-as_written shape K T pair opens laid ascend = by_first (first_some (text_in pair opens) K) refl
  where
    slots : List Slot
    slots = bucket_at T pair.0 ++ bucket_at T pair.1

    no_text : first_some (text_in pair opens) K ≡ None → (y : Accepted) →
        IsIn (filter_map (accepted pair opens) slots) y → ⊥
    no_text none y h =
        let from = given shape K T pair opens y laid ascend h in
        let both = sym (first_some-none (text_in pair opens) K from.origin none from.there)
        ∙ from.gives in absurd (cc both)

    least : (text : List ℕ) (first : IsFirst (text_in pair opens) K text) →
        IsLeast (first.chosen.position, text) (filter_map (accepted pair opens) slots)
    least text first y h =
        let from = given shape K T pair opens y laid ascend h in
        let than = first.least from.origin y.1 from.there from.gives in
        let position = from.position in (
          omega (arith, than.0, position),
          λ back. let same_position : y.0 ≡ first.chosen.position =
              omega (arith, than.0, position, back) in
              let same_text : y.1 ≡ text = than.1 (omega (arith, position, back)) in
              ap {B = Accepted} (λ n. (n, y.1)) same_position
              ∙ ap {B = Accepted} (λ t. (first.chosen.position, t)) same_text,
        )

    stored : (text : List ℕ) (first : IsFirst (text_in pair opens) K text) →
        IsIn (filter_map (accepted pair opens) slots) (first.chosen.position, text)
    stored text first =
        let r = first.chosen in
        let low = ascend-above 1 K r ascend first.there in
        let at = record-stored shape K T r laid first.there low in
        let names = text_in-pair pair opens r text first.gives_text in
        let gives : accepted pair opens (slot_of r) ≡ Some (r.position, text) =
        accepted-text pair opens r low
        ∙ ap (option_map {U = Accepted} (λ text. (r.position, text))) first.gives_text in
        let there : IsIn slots (slot_of r) = elim at.own [
          | inl e ↦ in_front (bucket_at T pair.0) (bucket_at T pair.1) (slot_of r)
              (subst (λ b. IsIn (bucket_at T b) (slot_of r)) (sym e ∙ names.0) at.there)
          | inr e ↦ in_back (bucket_at T pair.0) (bucket_at T pair.1) (slot_of r)
              (subst (λ b. IsIn (bucket_at T b) (slot_of r)) (sym e ∙ names.1) at.there)
        ] in
        in_filter_map (accepted pair opens) slots (slot_of r) (r.position, text) there gives

    by_first : (o : Option (List ℕ)) → first_some (text_in pair opens) K ≡ o →
        text_among pair opens slots ≡ first_some (text_in pair opens) K
    by_first None e =
        ap (λ ys. option_map (λ (x : Accepted). x.1) (earliest ys))
        (nothing_in (filter_map (accepted pair opens) slots) (no_text e)) ∙ sym e
    by_first (Some text) e =
        let first = first_some-first (text_in pair opens) 1 K text ascend e in
        ap (option_map (λ (x : Accepted). x.1))
        (earliest-least (filter_map (accepted pair opens) slots) (first.chosen.position, text)
        (stored text first) (least text first)) ∙ sym e

-- what the two buckets give is what the retained records give
pub layout-as_written : AsWritten
layout-as_written shape R pair opens ordered =
    text-as_written shape (retained shape R) (layout shape R) pair opens
    (layout-laid_out shape R ordered) (retained-ascend shape 1 R ordered.ascend)
