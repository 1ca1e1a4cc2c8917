-- The slots in the checkpoint of entries are sound.
use Rattle.std.proofs.Common.{◌≡◌, ℕ, zero, suc, ◌+◌, ◌*◌, ◌/◌, ◌%◌, ◌≤◌, ◌<◌, true, false, not, ◌||◌, cond, List, [], ◌∷◌, ◌++◌, length, map, filter, take, drop, replicate, get_or, refl, sym, ap, ap₂, ◌∙◌, subst, arith, inl, inr, eqb-true}
use Rattle.std.specs.Prelude.{◌⊎◌, ◌==◌, nat_lt, None}
use Rattle.std.specs.List.{list_all, list_any, flat_map, sum_by}
use Rattle.std.proofs.lemmas.Bool.{cases_eq, ne_eqb, eq-eqb, lt-ltb, or_left, or_right}
use Rattle.std.proofs.lemmas.List.{map-append, length-map}
use Rattle.std.proofs.lemmas.List.Elements.{All-contains_itself}
use Rattle.std.proofs.Math.Nat.{div-lt_iff_lt-mul, mod-lt}
use Rattle.std.proofs.lemmas.Nat.{div-add-mod'}
use Rattle.std.proofs.lemmas.List.Sums.{sum_by-cons, sum_by-append, sum_by_more_le}
use Rattle.std.proofs.lemmas.List.Sorted.{sum_by-IsPermutation}
use Rattle.tk_kernel.specs.Pieces.{pieces}
use Rattle.tk_kernel.proofs.Offers.{pieces-add, length-pieces}
use Rattle.tk_shape.specs.declared.shape.Shape.{Shape}
use Rattle.tk_shape.specs.Lengths.{slot_len as slot_len_of}
use Rattle.tk_frames.specs.Order.{Record}
use Rattle.tk_frames.specs.Lists.{IsIn}
use Rattle.tk_frames.proofs.Offers.{in_from_contains, each-in, all-at}
use Rattle.tk_frames.specs.Slots.{slot_from, slots_from}
use Rattle.tk_bucket.specs.Sizes.{slot_len, bucket_len}
use Rattle.tk_bucket.specs.Packing.{bucket_in, table_in}
use Rattle.tk_bucket.specs.Table.{empty_slot as empty_slot_of}
use Rattle.tk_table.specs.Table.{Slot, SlotTable, slot_of, is_empty, empty_slot, bucket_at, slot_at, has_position, window, retained, layout}
use Rattle.tk_table.specs.Stands.{position_of}
use Rattle.tk_table.specs.Ordered.{AscendFrom, AreOrdered, HasBuckets}
use Rattle.tk_table.specs.Laws.{entries_in, IsLaidOut}
use Rattle.tk_table.specs.Restoring.{slots_spelled, table_spelled, slot_number}
use Rattle.tk_table.proofs.Offers.{retained-ascend, retained-in_window, retained-each, layout-laid_out, entry-record, slot_in_row}
use Rattle.tk_bucket.proofs.Offers.{pieces-take}
use Rattle.tk_checkpoint.specs.declared.error.RestoreError.TheVariants as refusal
use Rattle.tk_checkpoint.specs.Sound.{check, first_refusal, is_zeros, lies_in, has_slot, is_new_entry, is_sound_slot, slot_checks_of}
use Rattle.tk_checkpoint.proofs.Passing.{passed-range, all-three}

-- ---- the row of all slots

-- the slots of all buckets, bucket after bucket
abbrev pub row : SlotTable → List Slot
row T = flat_map (λ slots. slots) T

row-in : (depth block buckets : ℕ) (bytes : List ℕ) →
    row (map (bucket_in depth block) (pieces (bucket_len depth block) buckets bytes))
    ≡ slots_from (slot_len block) (buckets * depth) bytes
unfolding bucket_in
row-in depth block zero bytes = let none : 0 * depth ≡ 0 = omega arith in rw none refl
row-in depth block (suc buckets) bytes =
    let len = slot_len block in
    let more : depth + buckets * depth ≡ suc buckets * depth = omega arith in
    let rest = drop (depth * len) bytes in
    ap₂ (λ (xs ys : List Slot). xs ++ ys)
    (ap (map slot_from) (pieces-take len depth bytes))
    (row-in depth block buckets rest)
    ∙ sym (map-append slot_from (pieces len depth bytes) (pieces len (buckets * depth) rest))
    ∙ ap (map slot_from) (sym (pieces-add len depth (buckets * depth) bytes))
    ∙ ap (λ n. slots_from len n bytes) more

-- the row that bytes spell is that of the table that they spell
pub row-spelled : (shape : Shape) (bytes : List ℕ) → slots_spelled shape bytes ≡ row (table_spelled shape bytes)
unfolding table_in
row-spelled shape bytes = sym (row-in shape.depth shape.block shape.buckets bytes)

-- ---- how often a position occurs

-- 1 for a slot with this position
abbrev counts : ℕ → Slot → ℕ
counts p s = cond (s.position == p) 1 0

counts-one : (p : ℕ) (s : Slot) → s.position ≡ p → counts p s ≡ 1
counts-one p s same = ap (λ b. cond b 1 0) (eq-eqb s.position p same)

counts-none : (p : ℕ) (s : Slot) → (s.position ≡ p → ⊥) → counts p s ≡ 0
counts-none p s apart = ap (λ b. cond b 1 0) (ne_eqb s.position p apart)

-- records above a position don't have it
records-none : (p q : ℕ) (K : List Record) → AscendFrom q K → p < q → sum_by (counts p) (map slot_of K) ≡ 0
records-none p q [] ascend above = refl
records-none p q (r ∷ K) ascend above =
    let low = ascend.0 in
    let here = counts-none p (slot_of r) (λ same. omega (arith, low, above, same)) in
    let rest = records-none p (r.position + 1) K ascend.1 (omega (arith, low, above)) in
    let all = sum_by-cons (counts p) (slot_of r) (map slot_of K) in
    omega (arith, here, rest, all)

-- records in order have it once at most
records-once : (p q : ℕ) (K : List Record) → AscendFrom q K → sum_by (counts p) (map slot_of K) ≤ 1
records-once p q [] ascend = omega arith
records-once p q (r ∷ K) ascend =
    let all = sum_by-cons (counts p) (slot_of r) (map slot_of K) in
    elim (cases_eq r.position p) [
      | inl same ↦
          let here = counts-one p (slot_of r) same in
          let rest = records-none p (r.position + 1) K ascend.1 (omega (arith, same)) in
          omega (arith, here, rest, all)
      | inr apart ↦
          let here = counts-none p (slot_of r) apart in
          let rest = records-once p (r.position + 1) K ascend.1 in
          omega (arith, here, rest, all)
    ]

-- empty slots count for nothing
filled-count : (p : ℕ) → 1 ≤ p → (slots : List Slot) →
    sum_by (counts p) (filter (λ s. not (is_empty s)) slots) ≡ sum_by (counts p) slots
filled-count p some [] = refl
filled-count p some (s ∷ slots) =
    let rest = filled-count p some slots in
    let all = sum_by-cons (counts p) s slots in
    let kept = sum_by-cons (counts p) s (filter (λ s. not (is_empty s)) slots) in
    elim (s.position == 0) as (λ b. (s.position == 0) ≡ b →
    sum_by (counts p) (cond (not b) (s ∷ filter (λ s. not (is_empty s)) slots) (filter (λ s. not (is_empty s)) slots))
    ≡ sum_by (counts p) (s ∷ slots)) [
      | true ↦ λ e.
          let none = eqb-true s.position 0 e in
          let here = counts-none p s (λ same. omega (arith, some, none, same)) in
          omega (arith, here, rest, all)
      | false ↦ λ e. omega (arith, rest, all, kept)
    ] refl

entries-count : (p : ℕ) → 1 ≤ p → (T : SlotTable) →
    sum_by (counts p) (entries_in T) ≡ sum_by (counts p) (row T)
entries-count p some [] = refl
entries-count p some (slots ∷ T) =
    let kept = sum_by-append (counts p) (filter (λ s. not (is_empty s)) slots) (entries_in T) in
    let all = sum_by-append (counts p) slots (row T) in
    let here = filled-count p some slots in
    let rest = entries-count p some T in
    omega (arith, kept, all, here, rest)

no-slot : (p : ℕ) (xs : List Slot) → sum_by (counts p) xs ≡ 0 → has_slot xs p ≡ false
no-slot p [] none = refl
no-slot p (x ∷ xs) none =
    let all = sum_by-cons (counts p) x xs in
    elim (cases_eq x.position p) [
      | inl same ↦ absurd (let here = counts-one p x same in omega (arith, all, none, here))
      | inr apart ↦
          ap (λ b. b || has_slot xs p) (ne_eqb x.position p apart)
          ∙ no-slot p xs (let here = counts-none p x apart in omega (arith, all, none, here))
    ]

-- what occurs once at most stands in no slot before its own
pub alone-before : (p n : ℕ) (xs : List Slot) (d : Slot) → n < length xs → sum_by (counts p) xs ≤ 1 →
    (get_or xs n d).position ≡ p → has_slot (take n xs) p ≡ false
alone-before p n xs d low most same =
    no-slot p (take n xs)
    (let here = counts-one p (get_or xs n d) same in
    let both = sum_by_more_le (counts p) xs n d low in
    omega (arith, here, both, most))

-- ---- one slot

zeros-all : (n : ℕ) → list_all (λ b. b == 0) (replicate n 0) ≡ true
zeros-all zero = refl
zeros-all (suc n) = zeros-all n

empty-zeros : (shape : Shape) → is_zeros (empty_slot shape) ≡ true
empty-zeros shape = zeros-all shape.block

-- what the window has, its positions have
any-position : (W : List Record) (n : ℕ) → has_position W n ≡ true →
    list_any (λ p. p == n) (map position_of W) ≡ true
any-position [] n has = absurd cc
any-position (r ∷ W) n has = elim (cases_eq r.position n) [
  | inl same ↦ or_left (r.position == n) (list_any (λ p. p == n) (map position_of W)) (eq-eqb r.position n same)
  | inr apart ↦
      let other : (n == r.position) ≡ false = ne_eqb n r.position (λ same. apart (sym same)) in
      ap (λ b. b || list_any (λ p. p == n) (map position_of W)) (ne_eqb r.position n apart)
      ∙ any-position W n (sym (ap (λ b. b || has_position W n) other) ∙ has)
]

own-bucket : (first second b : ℕ) → (first ≡ b) ⊎ (second ≡ b) → (first == b || second == b) ≡ true
own-bucket first second b (inl e) = or_left (first == b) (second == b) (eq-eqb first b e)
own-bucket first second b (inr e) =
    elim (first == b) as (λ t. (t || second == b) ≡ true) [ true ↦ refl | false ↦ eq-eqb second b e ]

module _ (shape : Shape) (R : List Record) (ordered : AreOrdered shape R) where
  abbrev T : SlotTable
  T = layout shape R

  abbrev K : List Record
  K = retained shape R

  abbrev positions : List ℕ
  positions = map position_of (window shape R)

  laid : IsLaidOut shape K T
  laid = layout-laid_out shape R ordered

  -- an entry of a bucket has the buckets of a record, and its position is one of the window
  record IsNamed (s : Slot) : Type 0 where
    first : s.first < shape.buckets
    second : s.second < shape.buckets
    named : list_any (λ p. p == s.position) positions ≡ true

  record-named : (r : Record) → IsIn K r → IsNamed (slot_of r)
  record-named r there =
      let both = each-in (HasBuckets shape) K r (retained-each (HasBuckets shape) shape R ordered.within) there in
      record {
        first = both.first;
        second = both.second;
        named = any-position (window shape R) r.position
            (all-at (λ k. has_position (window shape R) k.position) K r (retained-in_window shape R) there);
      }

  entry-named : (b : ℕ) (s : Slot) → IsIn (bucket_at T b) s → is_empty s ≡ false → IsNamed s
  entry-named b s there filled =
      let from = entry-record shape K T b s laid there filled in
      subst IsNamed from.gives (record-named from.origin from.there)

  -- no position stands in two slots
  once : (p : ℕ) → 1 ≤ p → sum_by (counts p) (row T) ≤ 1
  once p some =
      let moved = sum_by-IsPermutation (counts p) (map slot_of K) (entries_in T) laid.entries in
      let one = records-once p 1 K (retained-ascend shape 1 R ordered.ascend) in
      let all = entries-count p some T in
      omega (arith, moved, one, all)

  -- ---- all slots of bytes that spell this table

  module _ (bytes : List ℕ) (back : table_spelled shape bytes ≡ T) where
    abbrev slots : List Slot
    slots = slots_spelled shape bytes

    count-slots : length slots ≡ shape.buckets * shape.depth
    count-slots =
        length-map (pieces (slot_len_of shape) (shape.buckets * shape.depth) bytes) slot_from
        ∙ length-pieces (slot_len_of shape) (shape.buckets * shape.depth) bytes

    row-back : slots ≡ row T
    row-back = row-spelled shape bytes ∙ ap row back

    module _ (n : ℕ) (low : n < shape.buckets * shape.depth) where
      abbrev bucket : ℕ
      bucket = n / shape.depth

      abbrev number : ℕ
      number = n % shape.depth

      abbrev found : Slot
      found = slot_at T (bucket, number)

      in-bucket : number < shape.depth
      in-bucket = mod-lt n shape.in_range.depth_low

      in-table : bucket < shape.buckets
      in-table = (div-lt_iff_lt-mul shape.in_range.depth_low).1 low

      in-slots : number < length (bucket_at T bucket)
      in-slots = omega (arith, laid.deep bucket in-table, in-bucket)

      -- slot n of the row is one of bucket n / depth
      slot-found : slot_number slots n ≡ found
      slot-found =
          let split : bucket * shape.depth + number ≡ n = div-add-mod' n shape.depth in
          ap (slot_number slots) (sym split)
          ∙ sym (slot_in_row shape bytes bucket number (empty_slot_of 0) in-table in-bucket)
          ∙ ap (λ t. slot_at t (bucket, number)) back

      alone : 1 ≤ found.position → has_slot (take n slots) found.position ≡ false
      alone some =
          alone-before found.position n slots (empty_slot_of 0)
          (omega (arith, low, count-slots))
          (subst (λ (xs : List Slot). sum_by (counts found.position) xs ≤ 1) (sym row-back) (once found.position some))
          (ap (λ (s : Slot). s.position) slot-found)

      entry-sound : (1 ≤ found.position) × ((found.first ≡ bucket) ⊎ (found.second ≡ bucket)) →
          is_new_entry shape positions (take n slots) bucket found ≡ true
      entry-sound entry =
          let some = entry.0 in
          let filled : is_empty found ≡ false = ne_eqb found.position 0 (λ none. omega (arith, some, none)) in
          let there : IsIn (bucket_at T bucket) found =
          in_from_contains (bucket_at T bucket) found
          (All-contains_itself (bucket_at T bucket) number (empty_slot_of 0) in-slots) in
          let named = entry-named bucket found there filled in
          all-three (lies_in shape bucket found) (list_any (λ p. p == found.position) positions)
          (not (has_slot (take n slots) found.position))
          (all-three (nat_lt found.first shape.buckets) (nat_lt found.second shape.buckets)
          (found.first == bucket || found.second == bucket)
          (lt-ltb found.first shape.buckets named.first) (lt-ltb found.second shape.buckets named.second)
          (own-bucket found.first found.second bucket entry.1))
          named.named (ap not (alone some))

      slot-sound : is_sound_slot shape positions slots n ≡ true
      slot-sound =
          ap (λ s. is_zeros s || is_new_entry shape positions (take n slots) bucket s) slot-found
          ∙ elim (laid.own bucket number (empty_slot_of 0) in-slots) [
            | inl empty ↦
                or_left (is_zeros found) (is_new_entry shape positions (take n slots) bucket found)
                (ap is_zeros empty ∙ empty-zeros shape)
            | inr entry ↦ or_right (is_zeros found) (is_new_entry shape positions (take n slots) bucket found) (entry-sound entry)
          ]

    pub slots-passed : first_refusal (slot_checks_of shape positions slots) ≡ None
    slots-passed =
        passed-range (λ n. check (refusal.Slot (n / shape.depth) (n % shape.depth)) (is_sound_slot shape positions slots n))
        0 (shape.buckets * shape.depth) (λ n from low. slot-sound n (omega (arith, low)))
