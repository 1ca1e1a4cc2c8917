-- Emptied in two buckets, a table is as if emptied in all, where no other bucket has the position.
use Rattle.std.proofs.Common.{◌≡◌, ℕ, inl, inr, refl, ap, sym, ◌∙◌, subst, arith, List, [], ◌∷◌}
use Rattle.std.proofs.Common.{length, map, true, false, cond, eqb-true, ◌<◌, ◌⊎◌}
use Rattle.std.specs.Prelude.{◌==◌}
use Rattle.std.proofs.lemmas.Bool.{cases_eq}
use Rattle.std.proofs.lemmas.List.{get_or-set_same, get_or-set_other, length-set, length-map}
use Rattle.tk_shape.specs.declared.shape.Shape.{Shape}
use Rattle.tk_frames.proofs.Offers.{all_in}
use Rattle.tk_bucket.specs.Table.{Contents, empty_slot}
use Rattle.tk_table.specs.Table.{Slot, SlotTable, bucket_at, is_empty}
use Rattle.tk_table.specs.Steps.{cleared, cleared_in, cleared_of, cleared_all}
use Rattle.tk_table.specs.Inside.{IsGrid, IsSlotIn, EachHas, HasPair}
use Rattle.tk_table.proofs.Buckets.{bucket-map}
use Rattle.tk_table.proofs.Clearing.{with_table}
use Rattle.tk_table.proofs.Expiring.{map-kept, same_tables, either_way}

module _ (block p : ℕ) where
  again : (s : Slot) → cleared block p (cleared block p s) ≡ cleared block p s
  again s =
      elim (s.position == p) as (λ t. (s.position == p) ≡ t →
      cleared block p (cond t (empty_slot block) s) ≡ cond t (empty_slot block) s) [
        | true ↦ λ _. either_way (0 == p) (empty_slot block)
        | false ↦ λ e. ap (λ t. cond t (empty_slot block) s) e
      ] refl

  twice : (slots : List Slot) →
      map (cleared block p) (map (cleared block p) slots) ≡ map (cleared block p) slots
  twice [] = refl
  twice (s ∷ slots) =
      ap (λ v. v ∷ map (cleared block p) (map (cleared block p) slots)) (again s)
      ∙ ap (λ vs. cleared block p s ∷ vs) (twice slots)

  own_bucket : (X : SlotTable) (b : ℕ) → b < length X →
      bucket_at (cleared_in block p X b) b ≡ map (cleared block p) (bucket_at X b)
  own_bucket X b low = get_or-set_same X b (map (cleared block p) (bucket_at X b)) [] low

  other_bucket : (X : SlotTable) (c b : ℕ) → (b ≡ c → ⊥) →
      bucket_at (cleared_in block p X c) b ≡ bucket_at X b
  other_bucket X c b other = get_or-set_other X c b (map (cleared block p) (bucket_at X c)) [] other

  length-cleared : (X : SlotTable) (c : ℕ) → length (cleared_in block p X c) ≡ length X
  length-cleared X c = length-set X c (map (cleared block p) (bucket_at X c))

module _ (block p : ℕ) (pair : ℕ × ℕ) (T : SlotTable)
    (others : (b : ℕ) → (b ≡ pair.0 → ⊥) → (b ≡ pair.1 → ⊥) →
    map (cleared block p) (bucket_at T b) ≡ bucket_at T b) where
  half : SlotTable
  half = cleared_in block p T pair.0

  -- the first bucket is emptied, or the second is another one
  first_half : (b : ℕ) → b < length T → (b ≡ pair.1 → ⊥) →
      bucket_at half b ≡ map (cleared block p) (bucket_at T b)
  unfolding half
  first_half b low second =
      elim (cases_eq b pair.0) [
        | inl e ↦ subst (λ c. bucket_at (cleared_in block p T c) b
            ≡ map (cleared block p) (bucket_at T b)) e (own_bucket block p T b low)
        | inr first ↦ other_bucket block p T pair.0 b first ∙ sym (others b first second)
      ]

  both_halves : (b : ℕ) → b < length T →
      map (cleared block p) (bucket_at half b) ≡ map (cleared block p) (bucket_at T b)
  unfolding half
  both_halves b low =
      elim (cases_eq b pair.0) [
        | inl e ↦ ap (map (cleared block p))
            (subst (λ c. bucket_at (cleared_in block p T c) b
            ≡ map (cleared block p) (bucket_at T b)) e (own_bucket block p T b low))
            ∙ twice block p (bucket_at T b)
        | inr other ↦ ap (map (cleared block p)) (other_bucket block p T pair.0 b other)
      ]

  each_bucket : (b : ℕ) → b < length T →
      bucket_at (cleared_of block p pair T) b ≡ map (cleared block p) (bucket_at T b)
  unfolding half
  each_bucket b low =
      elim (cases_eq b pair.1) [
        | inl e ↦ subst (λ c. bucket_at (cleared_in block p half c) b
            ≡ map (cleared block p) (bucket_at T b)) e
            (own_bucket block p half b
            (let same = length-cleared block p T pair.0 in omega (arith, low, same))
            ∙ both_halves b low)
        | inr other ↦ other_bucket block p half pair.1 b other ∙ first_half b low other
      ]

  pub cleared_of-all : cleared_of block p pair T ≡ cleared_all block p T
  unfolding half
  cleared_of-all =
      let long : length (cleared_of block p pair T) ≡ length T =
      length-cleared block p half pair.1 ∙ length-cleared block p T pair.0 in
      let after : length (cleared_all block p T) ≡ length T =
      length-map T (map (cleared block p)) in
      same_tables (cleared_of block p pair T) (cleared_all block p T) (long ∙ sym after)
      (λ b low. each_bucket b (omega (arith, low, after))
      ∙ sym (bucket-map (cleared block p) T b))

-- an entry with the position lies in one of the pair's buckets
entry-kept : (shape : Shape) (p : ℕ) (pair : ℕ × ℕ) (b : ℕ) (s : Slot) → IsSlotIn shape b s →
    HasPair p pair s → (b ≡ pair.0 → ⊥) → (b ≡ pair.1 → ⊥) → cleared shape.block p s ≡ s
entry-kept shape p pair b s (inl e) has first second =
    subst (λ s. cleared shape.block p s ≡ s) (sym e) (either_way (0 == p) (empty_slot shape.block))
entry-kept shape p pair b s (inr entry) has first second =
    elim (s.position == p) as (λ t. (s.position == p) ≡ t →
    cond t (empty_slot shape.block) s ≡ s) [
      | true ↦ λ e. absurd (out (has (eqb-true s.position p e)))
      | false ↦ λ _. refl
    ] refl
  where
    out : (is_empty s ≡ true) ⊎ ((s.first, s.second) ≡ pair) → ⊥
    out (inl nothing) =
        let zero_position = eqb-true s.position 0 nothing in
        let low = entry.position in
        omega (arith, zero_position, low)
    out (inr same) =
        elim entry.own [
          | inl own ↦ first (sym own ∙ ap (λ (q : ℕ × ℕ). q.0) same)
          | inr own ↦ second (sym own ∙ ap (λ (q : ℕ × ℕ). q.1) same)
        ]

-- the slots with a position are emptied, where their entries have this pair
pub expired_all : (shape : Shape) (c : Contents) (p : ℕ) (pair : ℕ × ℕ) → IsGrid shape c →
    EachHas (HasPair p pair) c.table →
    cleared_of shape.block p pair c.table ≡ cleared_all shape.block p c.table
expired_all shape c p pair grid has =
    cleared_of-all shape.block p pair c.table (λ b first second.
    map-kept (cleared shape.block p) (bucket_at c.table b) (λ s there.
    entry-kept shape p pair b s
    (all_in (IsSlotIn shape b) (bucket_at c.table b) s (grid.own b) there)
    (all_in (HasPair p pair) (bucket_at c.table b) s (has b) there) first second))

-- what two buckets are when they were emptied one after the other
pub expired_slots : (shape : Shape) (c once next : Contents) (p : ℕ) (pair : ℕ × ℕ) →
    IsGrid shape c → EachHas (HasPair p pair) c.table →
    once ≡ with_table c (cleared_in c.block p c.table pair.0) →
    next ≡ with_table once (cleared_in once.block p once.table pair.1) →
    next.table ≡ cleared_all shape.block p c.table
expired_slots shape c once next p pair grid has first second =
    ap (λ (n : Contents). n.table) second
    ∙ ap (λ (n : Contents). cleared_in n.block p n.table pair.1) first
    ∙ ap (λ n. cleared_of n p pair c.table) grid.block
    ∙ expired_all shape c p pair grid has
