-- What is left of a bucket when the slots with one position are emptied.
use Rattle.std.proofs.Common.{◌≡◌, ℕ, zero, suc, ◌+◌, ◌<◌, ◌≤◌, refl, ap, ◌∙◌, arith, List, []}
use Rattle.std.proofs.Common.{◌∷◌, length, map, set, get_or}
use Rattle.std.proofs.lemmas.List.{set-set, get_or-set_same}
use Rattle.tk_bucket.specs.Table.{Contents, IsSized, slot_at, empty_slot, with_slot}
use Rattle.tk_table.specs.Table.{Slot, SlotTable, bucket_at}
use Rattle.tk_table.specs.Steps.{cleared, cleared_in}

-- the first i slots of a bucket, each as f makes it, and the others as they were
abbrev pub first_mapped : {X : Type 0} → (X → X) → ℕ → List X → List X
first_mapped f zero xs = xs
first_mapped f (suc i) [] = []
first_mapped f (suc i) (x ∷ xs) = f x ∷ first_mapped f i xs

pub first_mapped-more : {X : Type 0} (f : X → X) (i : ℕ) (xs : List X) (d : X) → i < length xs →
    set (first_mapped f i xs) i (f (get_or (first_mapped f i xs) i d)) ≡ first_mapped f (suc i) xs
first_mapped-more f zero [] d low = absurd (omega (arith, low))
first_mapped-more f zero (x ∷ xs) d low = refl
first_mapped-more f (suc i) [] d low = absurd (omega (arith, low))
first_mapped-more f (suc i) (x ∷ xs) d low =
    ap (λ ys. f x ∷ ys) (first_mapped-more f i xs d (omega (arith, low)))

pub first_mapped-all : {X : Type 0} (f : X → X) (i : ℕ) (xs : List X) → length xs ≤ i →
    first_mapped f i xs ≡ map f xs
first_mapped-all f zero [] all = refl
first_mapped-all f zero (x ∷ xs) all = absurd (omega (arith, all))
first_mapped-all f (suc i) [] all = refl
first_mapped-all f (suc i) (x ∷ xs) all =
    ap (λ ys. f x ∷ ys) (first_mapped-all f i xs (omega (arith, all)))

-- the table of which the first i slots of bucket b were emptied
abbrev pub cleared_up_to : ℕ → ℕ → SlotTable → ℕ → ℕ → SlotTable
cleared_up_to block position T b i =
    set T b (first_mapped (cleared block position) i (bucket_at T b))

pub cleared-more : (block position : ℕ) (T : SlotTable) (b i : ℕ) → b < length T →
    i < length (bucket_at T b) →
    with_slot (cleared_up_to block position T b i) (b, i)
    (cleared block position (slot_at (cleared_up_to block position T b i) (b, i)))
    ≡ cleared_up_to block position T b (i + 1)
cleared-more block position T b i within low =
    let f : Slot → Slot = cleared block position in
    let now = first_mapped f i (bucket_at T b) in
    let one : suc i ≡ i + 1 = omega arith in
    let here : bucket_at (set T b now) b ≡ now = get_or-set_same T b now [] within in
    ap (λ slots. set (set T b now) b (set slots i (f (get_or slots i (empty_slot 0))))) here
    ∙ ap (λ slots. set (set T b now) b slots)
    (first_mapped-more f i (bucket_at T b) (empty_slot 0) low)
    ∙ set-set T b now (first_mapped f (suc i) (bucket_at T b))
    ∙ ap (λ n. set T b (first_mapped f n (bucket_at T b))) one

pub cleared-all : (block position : ℕ) (T : SlotTable) (b i : ℕ) → length (bucket_at T b) ≤ i →
    cleared_up_to block position T b i ≡ cleared_in block position T b
cleared-all block position T b i all =
    ap (λ slots. set T b slots) (first_mapped-all (cleared block position) i (bucket_at T b) all)

-- ---- a table with its sizes

abbrev pub with_table : Contents → SlotTable → Contents
with_table c T = record { buckets = c.buckets; depth = c.depth; block = c.block; table = T }

-- the table when one slot was looked at
abbrev pub cleared_at : ℕ → ℕ → ℕ → Contents → Contents
cleared_at position b i c =
    with_table c (with_slot c.table (b, i) (cleared c.block position (slot_at c.table (b, i))))

pub clearing-on : (old c next : Contents) (position b i : ℕ) → IsSized old → b < old.buckets →
    i < old.depth →
    c ≡ with_table old (cleared_up_to old.block position old.table b i) →
    next ≡ cleared_at position b i c →
    next ≡ with_table old (cleared_up_to old.block position old.table b (i + 1))
clearing-on old c next position b i sized within low so_far made =
    made ∙ ap (cleared_at position b i) so_far
    ∙ ap (with_table old) (cleared-more old.block position old.table b i
    (let count = sized.count in omega (arith, count, within))
    (let slots = sized.slots b within in omega (arith, slots, low)))

pub clearing-ends : (old c : Contents) (position b i : ℕ) → IsSized old → b < old.buckets →
    old.depth ≤ i →
    c ≡ with_table old (cleared_up_to old.block position old.table b i) →
    c ≡ with_table old (cleared_in old.block position old.table b)
clearing-ends old c position b i sized within all so_far =
    so_far ∙ ap (with_table old) (cleared-all old.block position old.table b i
    (let slots = sized.slots b within in omega (arith, slots, all)))
