-- A table of which each entry is in one of its two buckets, as a search sees it, and what the moves
-- to the search's end make of it.
use Rattle.std.proofs.Common.{◌≡◌, ℕ, ◌<◌, ◌≤◌, ◌⊎◌, inl, inr, refl, ap, sym, ◌∙◌, subst, arith}
use Rattle.std.proofs.Common.{List, [], ◌∷◌, length, true, false, cond, map, set}
use Rattle.std.specs.Prelude.{◌==◌, None}
use Rattle.std.specs.List.{All}
use Rattle.std.proofs.lemmas.Bool.{cases_eq}
use Rattle.std.proofs.lemmas.List.{get_or-set_same, get_or-set_other, length-set, length-map}
use Rattle.std.proofs.lemmas.List.Elements.{All-weaker, All-map}
use Rattle.tk_shape.specs.declared.shape.Shape.{Shape}
use Rattle.tk_place.specs.Place.{Spot, search_end}
use Rattle.tk_place.specs.Chain.{IsChain, IsAnswer, IsPath}
use Rattle.tk_place.specs.declared.search.Found.TheVariants.{Chain}
use Rattle.tk_place.specs.Table.{IsTable}
use Rattle.tk_bucket.specs.Table.{Contents}
use Rattle.tk_table.specs.Table.{Slot, SlotTable, bucket_at, slot_at}
use Rattle.tk_table.specs.Table.{empty_slot as empty_slot_of, others_from, shifted, placed_at, placed_in}
use Rattle.tk_table.specs.Table.{moved_up, is_empty}
use Rattle.tk_table.specs.Steps.{AreSteps, IsFree, first_of, moved_by, cleared, cleared_in}
use Rattle.tk_table.specs.Stands.{slot_with, IsPair}
use Rattle.tk_table.specs.Inside.{IsSlotIn, IsGrid, Laid}
use Rattle.tk_table.proofs.Buckets.{IsSized, EachSlot, IsWithin}
use Rattle.tk_place.proofs.Offers.{path_to_end}
use Rattle.tk_table.proofs.Seen.{IsEntryIn, IsHome, seen, lowest_empty-free}
use Rattle.tk_table.proofs.Searching.{searchable}
use Rattle.tk_table.proofs.Shifting.{shifted-filled}
use Rattle.tk_table.proofs.Clearing.{with_table}

home-from_own : (shape : Shape) (b : ℕ) (s : Slot) → IsSlotIn shape b s → IsHome shape b s
home-from_own shape b s (inl e) = inl e
home-from_own shape b s (inr entry) =
    inr (record {
      position = entry.position;
      first = entry.first;
      second = entry.second;
      own = entry.own;
    })

own-from_home : (shape : Shape) (b : ℕ) (s : Slot) → IsHome shape b s → IsSlotIn shape b s
own-from_home shape b s (inl e) = inl e
own-from_home shape b s (inr entry) =
    inr (record {
      position = entry.position;
      first = entry.first;
      second = entry.second;
      own = entry.own;
    })

pub sized_grid : (shape : Shape) (c : Contents) → IsGrid shape c →
    IsSized shape.buckets shape.depth c.table
sized_grid shape c grid = record { wide = grid.wide; deep = grid.deep }

pub home_grid : (shape : Shape) (c : Contents) → IsGrid shape c → EachSlot (IsHome shape) c.table
home_grid shape c grid b =
    All-weaker (IsSlotIn shape b) (IsHome shape b) (home-from_own shape b) (bucket_at c.table b)
    (grid.own b)

pub grid_with : (shape : Shape) (c : Contents) (T : SlotTable) → IsGrid shape c →
    IsSized shape.buckets shape.depth T → EachSlot (IsHome shape) T →
    IsGrid shape (record c { table = T })
grid_with shape c T grid sized home =
    record {
      buckets = grid.buckets;
      depth = grid.depth;
      block = grid.block;
      wide = sized.wide;
      deep = sized.deep;
      own = λ b. All-weaker (IsHome shape b) (IsSlotIn shape b) (own-from_home shape b)
          (bucket_at T b) (home b);
    }

-- the search can look for places in it
pub searchable_grid : (shape : Shape) (c : Contents) → IsGrid shape c →
    IsTable shape.depth (others_from 0 c.table)
searchable_grid shape c grid =
    let table = searchable shape c.table (sized_grid shape c grid) (home_grid shape c grid) in
    record { some = table.some; sized = table.sized; named = table.named }

-- ---- the chain to the search's end

through-steps : (shape : Shape) (T : SlotTable) (new : ℕ × ℕ) (free : Spot) (ats : List Spot) →
    IsSized shape.buckets shape.depth T → IsWithin T free →
    IsPath (others_from 0 T) new free.0 ats → AreSteps shape.buckets shape.depth (free ∷ ats)
through-steps shape T new free [] sized within through =
    let wide = sized.wide in
    let low : free.0 < shape.buckets = omega (arith, wide, within.bucket) in
    let deep = sized.deep free.0 low in
    (low, omega (arith, deep, within.slot), refl, tt)
through-steps shape T new free (at ∷ ats) sized within through =
    let wide = sized.wide in
    let low : free.0 < shape.buckets = omega (arith, wide, within.bucket) in
    let deep = sized.deep free.0 low in
    let here = seen shape T at free.0 through.0 in (
      low,
      omega (arith, deep, within.slot),
      through.1,
      through-steps shape T new at ats sized here.within through.2,
    )

-- an entry that is to come
pub record IsComing (shape : Shape) (pair : ℕ × ℕ) (s : Slot) : Type 0 where
  pub position : 1 ≤ s.position
  pub first : s.first ≡ pair.0
  pub second : s.second ≡ pair.1

coming-entry : (shape : Shape) (pair : ℕ × ℕ) (s : Slot) → IsPair shape pair →
    IsComing shape pair s → (b : ℕ) → (b ≡ s.first) ⊎ (b ≡ s.second) → IsEntryIn shape.buckets b s
coming-entry shape pair s within coming b own =
    let first = coming.first in
    let second = coming.second in
    record {
      position = coming.position;
      first = omega (arith, first, within.0);
      second = omega (arith, second, within.1);
      own = elim own [ inl e ↦ inl (sym e) | inr e ↦ inr (sym e) ];
    }

-- a table that keeps its size, and each entry in one of its buckets
record IsFilledTo (shape : Shape) (next : SlotTable) : Type 0 where
  sized : IsSized shape.buckets shape.depth next
  home : EachSlot (IsHome shape) next

-- The steps can be gone, and lead to the table of the definition.
pub record IsReady (shape : Shape) (T : SlotTable) (pair : ℕ × ℕ) (steps : List Spot) : Type 0 where
  pub some : 0 < length steps
  pub steps_are : AreSteps shape.buckets shape.depth steps
  pub free : IsFree T (first_of steps)
  pub placed : (s : Slot) → IsComing shape pair s → moved_by T steps s ≡ placed_in T s
  pub sized : (s : Slot) → IsComing shape pair s →
      IsSized shape.buckets shape.depth (moved_by T steps s)
  pub home : (s : Slot) → IsComing shape pair s → EachSlot (IsHome shape) (moved_by T steps s)

pub ready : (shape : Shape) (T : SlotTable) (pair : ℕ × ℕ) (steps : List Spot) →
    IsSized shape.buckets shape.depth T → EachSlot (IsHome shape) T → IsPair shape pair →
    IsChain (others_from 0 T) pair steps → IsReady shape T pair steps
ready shape T pair steps sized home within chain =
    subst (IsReady shape T pair) (sym chain.moves) (record {
      some = omega arith;
      steps_are = are;
      free = ap is_empty there.1;
      placed = λ s coming. same s ∙ sym (definition s coming);
      sized = λ s coming. subst (IsSized shape.buckets shape.depth) (sym (same s))
          (filled s coming).sized;
      home = λ s coming. subst (EachSlot (IsHome shape)) (sym (same s)) (filled s coming).home;
    })
  where
    at : Spot
    at = (chain.end.bucket, chain.slot)

    through : IsPath (others_from 0 T) pair chain.end.bucket chain.end.through
    through = path_to_end (others_from 0 T) pair chain.end chain.ended

    there : IsWithin T at × (slot_at T at ≡ empty_slot_of shape)
    there = lowest_empty-free shape T chain.end.bucket chain.slot home chain.empty

    are : AreSteps shape.buckets shape.depth (at ∷ chain.end.through)
    are = through-steps shape T pair at chain.end.through sized there.0 through

    same : (s : Slot) → moved_by T (at ∷ chain.end.through) s
        ≡ shifted T at chain.end.through s
    same s = refl

    definition : (s : Slot) → IsComing shape pair s →
        placed_in T s ≡ shifted T at chain.end.through s
    definition s coming =
        ap (λ f. placed_at T s (search_end (others_from 0 T) (f, s.second))) coming.first
        ∙ ap (λ f. placed_at T s (search_end (others_from 0 T) (pair.0, f))) coming.second
        ∙ ap (placed_at T s) chain.ended
        ∙ ap (moved_up T s chain.end) chain.empty

    filled : (s : Slot) → IsComing shape pair s →
        IsFilledTo shape (shifted T at chain.end.through s)
    filled s coming =
        let f = shifted-filled shape T at chain.end.through s sized home there.0
        (coming-entry shape pair s within coming)
        (subst (λ p. IsPath (others_from 0 T) p chain.end.bucket chain.end.through)
        (sym (ap (λ x. (x, s.second)) coming.first ∙ ap (λ x. (pair.0, x)) coming.second))
        through) in
        record { sized = f.sized; home = f.home }

-- with no end the table stays
pub stays : (shape : Shape) (T : SlotTable) (pair : ℕ × ℕ) (s : Slot) → IsComing shape pair s →
    search_end (others_from 0 T) pair ≡ None → placed_in T s ≡ T
stays shape T pair s coming none =
    ap (λ f. placed_at T s (search_end (others_from 0 T) (f, s.second))) coming.first
    ∙ ap (λ f. placed_at T s (search_end (others_from 0 T) (pair.0, f))) coming.second
    ∙ ap (placed_at T s) none

-- ---- the table of a grid

pub ready_grid : (shape : Shape) (c : Contents) (pair : ℕ × ℕ) (n : ℕ) (steps : List Spot) →
    IsGrid shape c → IsPair shape pair → IsAnswer (others_from 0 c.table) pair (Chain n) steps →
    IsReady shape c.table pair steps
ready_grid shape c pair n steps grid within answer =
    ready shape c.table pair steps (sized_grid shape c grid) (home_grid shape c grid) within
    answer.1

pub steps_grid : (shape : Shape) (c : Contents) (steps : List Spot) → IsGrid shape c →
    AreSteps shape.buckets shape.depth steps → AreSteps c.buckets c.depth steps
steps_grid shape c steps grid are =
    subst (λ n. AreSteps n c.depth steps) (sym grid.buckets)
    (subst (λ n. AreSteps shape.buckets n steps) (sym grid.depth) are)

pub moved_grid : (shape : Shape) (c next : Contents) (pair : ℕ × ℕ) (steps : List Spot)
    (s : Slot) → IsGrid shape c → IsReady shape c.table pair steps → IsComing shape pair s →
    next ≡ with_table c (moved_by c.table steps s) → IsGrid shape next
moved_grid shape c next pair steps s grid ready coming made =
    subst (IsGrid shape) (sym made)
    (grid_with shape c (moved_by c.table steps s) grid (ready.sized s coming) (ready.home s coming))

-- a grid with these slots
abbrev pub laid : Shape → SlotTable → Laid
laid shape T = record { shape = shape; slots = T }

pub moved_slots : (shape : Shape) (c next : Contents) (pair : ℕ × ℕ) (steps : List Spot)
    (s : Slot) → IsReady shape c.table pair steps → IsComing shape pair s →
    next ≡ with_table c (moved_by c.table steps s) →
    laid shape next.table ≡ laid shape (placed_in c.table s)
moved_slots shape c next pair steps s ready coming made =
    ap (λ (n : Contents). laid shape n.table) made ∙ ap (laid shape) (ready.placed s coming)

pub coming_with : (shape : Shape) (position : ℕ) (pair : ℕ × ℕ) (block : List ℕ) → 1 ≤ position →
    IsComing shape pair (slot_with position pair block)
coming_with shape position pair block low =
    record { position = low; first = refl; second = refl }

-- a grid of which slots are emptied
cleared-own : (shape : Shape) (p b : ℕ) (s : Slot) → IsSlotIn shape b s →
    IsSlotIn shape b (cleared shape.block p s)
cleared-own shape p b s h =
    elim (s.position == p) as (λ t. IsSlotIn shape b (cond t (empty_slot_of shape) s))
    [ true ↦ inl refl | false ↦ h ]

cleared-deep : (shape : Shape) (p : ℕ) (T : SlotTable) (at b : ℕ) → at < length T →
    length (bucket_at (cleared_in shape.block p T at) b) ≡ length (bucket_at T b)
cleared-deep shape p T at b low =
    let slots = map (cleared shape.block p) (bucket_at T at) in
    elim (cases_eq b at) [
      | inl e ↦ ap (λ n. length (bucket_at (set T at slots) n)) e
          ∙ ap length (get_or-set_same T at slots [] low)
          ∙ length-map (bucket_at T at) (cleared shape.block p)
          ∙ ap (λ n. length (bucket_at T n)) (sym e)
      | inr other ↦ ap length (get_or-set_other T at b slots [] other)
    ]

cleared-each : (shape : Shape) (p : ℕ) (T : SlotTable) (at b : ℕ) → at < length T →
    ((b : ℕ) → All (IsSlotIn shape b) (bucket_at T b)) →
    All (IsSlotIn shape b) (bucket_at (cleared_in shape.block p T at) b)
cleared-each shape p T at b low own =
    let f = cleared shape.block p in
    let slots = map f (bucket_at T at) in
    let here : All (IsSlotIn shape at) slots =
    All-map (IsSlotIn shape at) f (bucket_at T at)
    (All-weaker (IsSlotIn shape at) (λ s. IsSlotIn shape at (f s)) (cleared-own shape p at)
    (bucket_at T at) (own at)) in
    elim (cases_eq b at) [
      | inl e ↦ subst (λ n. All (IsSlotIn shape n) (bucket_at (set T at slots) n)) (sym e)
          (subst (All (IsSlotIn shape at)) (sym (get_or-set_same T at slots [] low)) here)
      | inr other ↦ subst (All (IsSlotIn shape b)) (sym (get_or-set_other T at b slots [] other))
          (own b)
    ]

pub cleared_grid : (shape : Shape) (c next : Contents) (p at : ℕ) → IsGrid shape c →
    at < shape.buckets → next ≡ with_table c (cleared_in c.block p c.table at) →
    IsGrid shape next
cleared_grid shape c next p at grid low made =
    let T = c.table in
    let wide = grid.wide in
    let within : at < length T = omega (arith, wide, low) in
    subst (IsGrid shape) (sym (made
    ∙ ap (λ n. with_table c (cleared_in n p T at)) grid.block)) (record {
      buckets = grid.buckets;
      depth = grid.depth;
      block = grid.block;
      wide = length-set T at (map (cleared shape.block p) (bucket_at T at)) ∙ wide;
      deep = λ b in_range. cleared-deep shape p T at b within ∙ grid.deep b in_range;
      own = λ b. cleared-each shape p T at b within grid.own;
    })
