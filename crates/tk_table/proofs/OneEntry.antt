-- A row of slots of which one has an entry.
use Rattle.std.proofs.Common.{◌≡◌, ◌≢◌, ℕ, zero, suc, ◌+◌, ◌*◌, ◌/◌, ◌<◌, ◌≤◌, ◌⊎◌, inl, inr, List, ◌∷◌, ◌++◌}
use Rattle.std.proofs.Common.{length, get_or, replicate, refl, sym, ap, ◌∙◌, subst, arith, length-append}
use Rattle.std.proofs.lemmas.Bool.{cases_eq}
use Rattle.std.proofs.lemmas.List.{get_or-replicate, length-replicate}
use Rattle.tk_shape.specs.declared.shape.Shape.{Shape}
use Rattle.tk_frames.specs.Lists.{IsIn}
use Rattle.tk_frames.specs.Slots.{slots_from}
use Rattle.tk_bucket.specs.Table.{empty_slot as empty_slot_of}
use Rattle.tk_table.specs.Table.{Slot, empty_slot}
use Rattle.tk_table.specs.Inside.{IsEntryOf}
use Rattle.tk_table.specs.Restoring.{AreSound, IsNewEntry, slot_number, slots_spelled}

-- one element among others that are alike
abbrev pub one_among : {X : Type 0} → ℕ → ℕ → X → X → List X
one_among before after x other = replicate before other ++ x ∷ replicate after other

the_one : {X : Type 0} (before after : ℕ) (x other d : X) →
    get_or (one_among before after x other) before d ≡ x
the_one zero after x other d = refl
the_one (suc before) after x other d = the_one before after x other d

the_others : {X : Type 0} (before after : ℕ) (x other d : X) (n : ℕ) → n < before + suc after → n ≢ before →
    get_or (one_among before after x other) n d ≡ other
the_others zero after x other d zero low apart = absurd (apart refl)
the_others zero after x other d (suc n) low apart = get_or-replicate after n other d (omega arith)
the_others (suc before) after x other d zero low apart = refl
the_others (suc before) after x other d (suc n) low apart =
    the_others before after x other d n (omega arith) (λ same. apart (ap suc same))

length-one_among : {X : Type 0} (before after : ℕ) (x other : X) →
    length (one_among before after x other) ≡ before + suc after
length-one_among before after x other =
    length-append (replicate before other) (x ∷ replicate after other)
    ∙ omega (arith, length-replicate before other, length-replicate after other)

-- slots of which one has an entry of its bucket, with one of the positions, are sound
pub one_entry_is_sound : (shape : Shape) (positions : List ℕ) (before after : ℕ) (entry : Slot) →
    IsEntryOf shape (before / shape.depth) entry → IsIn positions entry.position →
    AreSound shape positions (one_among before after entry (empty_slot shape))
one_entry_is_sound shape positions before after entry is named n low =
    let slots = one_among before after entry (empty_slot shape) in
    let count = length-one_among before after entry (empty_slot shape) in
    let here : slot_number slots before ≡ entry =
    the_one before after entry (empty_slot shape) (empty_slot_of 0) in
    elim (cases_eq n before) [
      | inl same ↦ inr (subst (λ k. IsNewEntry shape positions slots k) (sym same) (record {
        entry = subst (IsEntryOf shape (before / shape.depth)) (sym here) is;
        named = subst (λ (s : Slot). IsIn positions s.position) (sym here) named;
        alone = λ m less e.
            let none : slot_number slots m ≡ empty_slot shape =
            the_others before after entry (empty_slot shape) (empty_slot_of 0) m (omega (arith, less))
            (λ at. omega (arith, less, at)) in
            let zero_here : entry.position ≡ 0 =
            sym (ap (λ (s : Slot). s.position) here) ∙ sym e ∙ ap (λ (s : Slot). s.position) none in
            let some = is.position in
            omega (arith, some, zero_here);
      }))
      | inr other ↦ inl (the_others before after entry (empty_slot shape) (empty_slot_of 0) n
          (omega (arith, low, count)) other)
    ]

-- the sizes of a shape of which each bucket has one slot
pub record HasSizes (shape : Shape) (buckets block : ℕ) : Type 0 where
  pub buckets_are : shape.buckets ≡ buckets
  pub depth_is : shape.depth ≡ 1
  pub block_is : shape.block ≡ block

-- an entry of a bucket of so many, with one of the positions
pub record IsEntryAmong (buckets : ℕ) (positions : List ℕ) (bucket : ℕ) (entry : Slot) : Type 0 where
  pub position : 1 ≤ entry.position
  pub named : IsIn positions entry.position
  pub first : entry.first < buckets
  pub second : entry.second < buckets
  pub own : (entry.first ≡ bucket) ⊎ (entry.second ≡ bucket)

-- bytes of buckets of one slot, of which one has an entry, are sound
pub one_slot_is_sound : (shape : Shape) (buckets block : ℕ) (positions bytes : List ℕ) (bucket after : ℕ)
    (entry : Slot) → HasSizes shape buckets block →
    slots_from (16 + block) (buckets * 1) bytes ≡ one_among bucket after entry (empty_slot_of block) →
    IsEntryAmong buckets positions bucket entry → AreSound shape positions (slots_spelled shape bytes)
one_slot_is_sound shape buckets block positions bytes bucket after entry sizes spelled is =
    let own : bucket / shape.depth ≡ bucket = ap (λ n. bucket / n) sizes.depth_is ∙ div-one bucket in
    let entry_is : IsEntryOf shape (bucket / shape.depth) entry =
    record {
      position = is.position;
      first = subst (λ n. entry.first < n) (sym sizes.buckets_are) is.first;
      second = subst (λ n. entry.second < n) (sym sizes.buckets_are) is.second;
      own = subst (λ b. (entry.first ≡ b) ⊎ (entry.second ≡ b)) (sym own) is.own;
    } in
    let all : slots_spelled shape bytes ≡ one_among bucket after entry (empty_slot shape) =
    ap (λ n. slots_from (16 + n) (shape.buckets * shape.depth) bytes) sizes.block_is
    ∙ ap (λ n. slots_from (16 + block) (n * shape.depth) bytes) sizes.buckets_are
    ∙ ap (λ n. slots_from (16 + block) (buckets * n) bytes) sizes.depth_is
    ∙ spelled
    ∙ ap (λ n. one_among bucket after entry (empty_slot_of n)) (sym sizes.block_is)
    in
    subst (AreSound shape positions) (sym all)
    (one_entry_is_sound shape positions bucket after entry entry_is is.named)
  where
    div-one : (n : ℕ) → n / 1 ≡ n
    div-one n = omega arith
