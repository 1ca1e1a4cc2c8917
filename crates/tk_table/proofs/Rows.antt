-- A run of slots that is cut into buckets, and what a search sees of a table when a slot is set.
use Rattle.std.proofs.Common.{◌≡◌, ℕ, zero, suc, ◌+◌, ◌*◌, ◌<◌, ◌≤◌, inl, inr, refl, ap, sym}
use Rattle.std.proofs.Common.{◌∙◌, arith, List, [], ◌∷◌, length, take, drop, set, map, replicate, subst, cond}
use Rattle.std.specs.Prelude.{Option, Some, None, ◌==◌, IsSome, slice_index_or}
use Rattle.std.proofs.lemmas.Bool.{cases_eq, cases_lt, ne_eqb}
use Rattle.std.proofs.lemmas.List.{map-set, drop-drop, drop-set-lt, drop-set-add, take-set-le}
use Rattle.std.proofs.lemmas.List.{length-drop, take-replicate, drop-replicate, length-set}
use Rattle.std.proofs.lemmas.List.{get_or-set_same, get_or-set_other, set_past, length-take-le, get_or_past, length-map}
use Rattle.std.proofs.Math.Nat.{mul-le-mul_left}
use Rattle.std.proofs.Math.Seq.{take-set-lt}
use Rattle.tk_place.specs.Place.{Others, Spot, slots_of}
use Rattle.tk_bucket.specs.Table.{Contents, IsSized, empty_slot, empty_table, slot_at, with_moved}
use Rattle.tk_bucket.proofs.Offers.{bucket_ends}
use Rattle.tk_table.specs.Stands.{slot_with}
use Rattle.tk_table.proofs.Seen.{length-others, slots_seen}
use Rattle.tk_table.specs.Table.{Slot, SlotTable, bucket_at, with_slot, other_in, others_from}
use Rattle.tk_table.specs.Rows.{rows, with_other, IsRun}

-- ---- a run that is cut

pub length-rows : (buckets depth : ℕ) (run : List (Option ℕ)) →
    length (rows buckets depth run) ≡ buckets
length-rows zero depth run = refl
length-rows (suc n) depth run = ap suc (length-rows n depth (drop depth run))

pub row_at : (buckets depth b : ℕ) (run : List (Option ℕ)) → b < buckets →
    slots_of (rows buckets depth run) b ≡ take depth (drop (b * depth) run)
row_at zero depth b run low = absurd (omega (arith, low))
row_at (suc n) depth zero run low =
    let none : 0 * depth ≡ 0 = omega arith in rw none refl
row_at (suc n) depth (suc b) run low =
    let more : suc b * depth ≡ depth + b * depth = omega arith in
    rw (more, ← drop-drop (b * depth) depth run)
    (row_at n depth b (drop depth run) (omega (arith, low)))

pub rows-set : (buckets depth b i : ℕ) (run : List (Option ℕ)) (other : Option ℕ) →
    b < buckets → i < depth →
    rows buckets depth (set run (b * depth + i) other)
    ≡ with_other (rows buckets depth run) (b, i) other
rows-set zero depth b i run other low inner = absurd (omega (arith, low))
rows-set (suc n) depth zero i run other low inner =
    let at : 0 * depth + i ≡ i = omega arith in
    ap (λ k. rows (suc n) depth (set run k other)) at
    ∙ ap (λ row. row ∷ rows n depth (drop depth (set run i other)))
    (take-set-lt depth run i other inner)
    ∙ ap (λ rest. set (take depth run) i other ∷ rows n depth rest)
    (drop-set-lt depth run i other inner)
rows-set (suc n) depth (suc b) i run other low inner =
    let at : suc b * depth + i ≡ depth + (b * depth + i) = omega arith in
    ap (λ k. rows (suc n) depth (set run k other)) at
    ∙ ap (λ row. row ∷ rows n depth (drop depth (set run (depth + (b * depth + i)) other)))
    (take-set-le depth run (depth + (b * depth + i)) other (omega arith))
    ∙ ap (λ rest. take depth run ∷ rows n depth rest) (drop-set-add depth run (b * depth + i) other)
    ∙ ap (λ rest. take depth run ∷ rest)
    (rows-set n depth b i (drop depth run) other (omega (arith, low)) inner)

pub rows-empty : (buckets depth : ℕ) →
    rows buckets depth (replicate (buckets * depth) None) ≡ replicate buckets (replicate depth None)
rows-empty zero depth = refl
rows-empty (suc n) depth =
    let rest : drop depth (replicate (suc n * depth) None) ≡ replicate (n * depth) None =
    drop-replicate depth (suc n * depth) None ∙ ap (λ k. replicate k None) (omega arith) in
    ap (λ row. row ∷ rows n depth (drop depth (replicate (suc n * depth) None)))
    (take-replicate depth (suc n * depth) None (omega arith))
    ∙ ap (λ run. replicate depth None ∷ rows n depth run) rest
    ∙ ap (λ T. replicate depth None ∷ T) (rows-empty n depth)

-- ---- what a search sees of a table

others_from-with_slot : (k : ℕ) (T : SlotTable) (b i : ℕ) (s : Slot) →
    others_from k (with_slot T (b, i) s)
    ≡ with_other (others_from k T) (b, i) (other_in (k + b) s)
others_from-with_slot k [] b i s = refl
others_from-with_slot k (slots ∷ T) zero i s =
    let same : k ≡ k + 0 = omega arith in
    ap (λ row. row ∷ others_from (k + 1) T) (map-set (other_in k) slots i s)
    ∙ ap (λ n. set (map (other_in k) slots) i (other_in n s) ∷ others_from (k + 1) T) same
others_from-with_slot k (slots ∷ T) (suc b) i s =
    let same : k + 1 + b ≡ k + suc b = omega arith in
    ap (λ rest. map (other_in k) slots ∷ rest) (others_from-with_slot (k + 1) T b i s)
    ∙ ap (λ n. map (other_in k) slots ∷ with_other (others_from (k + 1) T) (b, i) (other_in n s))
    same

-- one slot of the table is set, and one of what the search sees
pub others-with_slot : (T : SlotTable) (b i : ℕ) (s : Slot) →
    others_from 0 (with_slot T (b, i) s) ≡ with_other (others_from 0 T) (b, i) (other_in b s)
others-with_slot T b i s =
    let same : 0 + b ≡ b = omega arith in
    others_from-with_slot 0 T b i s
    ∙ ap (λ n. with_other (others_from 0 T) (b, i) (other_in n s)) same

map-empty : (k depth block : ℕ) →
    map (other_in k) (replicate depth (empty_slot block)) ≡ replicate depth None
map-empty k zero block = refl
map-empty k (suc n) block = ap (λ rest. None ∷ rest) (map-empty k n block)

others_from-empty : (k buckets depth block : ℕ) →
    others_from k (empty_table buckets depth block) ≡ replicate buckets (replicate depth None)
others_from-empty k zero depth block = refl
others_from-empty k (suc n) depth block =
    ap (λ row. row ∷ others_from (k + 1) (empty_table n depth block)) (map-empty k depth block)
    ∙ ap (λ rest. replicate depth None ∷ rest) (others_from-empty (k + 1) n depth block)

pub others-empty : (buckets depth block : ℕ) →
    others_from 0 (empty_table buckets depth block) ≡ replicate buckets (replicate depth None)
others-empty buckets depth block = others_from-empty 0 buckets depth block

-- a bucket has as many slots as before
pub row-with_other : (T : Others) (at : Spot) (other : Option ℕ) (b : ℕ) →
    length (slots_of (with_other T at other) b) ≡ length (slots_of T b)
row-with_other T at other b =
    let row = set (slots_of T at.0) at.1 other in
    elim (cases_eq b at.0) [
      | inl e ↦ elim (cases_lt at.0 (length T)) [
        | inl low ↦ ap (λ n. length (slots_of (with_other T at other) n)) e
            ∙ ap length (get_or-set_same T at.0 row [] low)
            ∙ length-set (slots_of T at.0) at.1 other
            ∙ ap (λ n. length (slots_of T n)) (sym e)
        | inr past ↦ ap (λ X. length (slots_of X b)) (set_past T at.0 row past)
      ]
      | inr apart ↦ ap length (get_or-set_other T at.0 b row [] apart)
    ]

-- ---- a run in range

row_fits_below : (buckets depth : ℕ) → buckets ≤ 16384 → depth ≤ 8 → buckets * depth ≤ 131072
row_fits_below buckets depth wide deep =
    let more = mul-le-mul_left buckets deep in omega (arith, more, wide)

-- a bucket's slots lie within the run
pub within_run : (buckets depth count b : ℕ) → IsRun buckets depth count → b < buckets →
    (b * depth + depth ≤ count) × (count ≤ 131072)
within_run buckets depth count b is low =
    let ends = bucket_ends buckets depth b low in
    let all = is.all in
    let most = row_fits_below buckets depth is.wide is.deep in
    (omega (arith, ends, all), omega (arith, all, most))

-- how many slots a bucket has
pub length-row : (buckets depth b : ℕ) (run : List (Option ℕ)) →
    IsRun buckets depth (length run) → b < buckets →
    length (slots_of (rows buckets depth run) b) ≡ depth
length-row buckets depth b run is low =
    let ends = (within_run buckets depth (length run) b is low).0 in
    let rest = length-drop (b * depth) run in
    ap length (row_at buckets depth b run low)
    ∙ length-take-le depth (drop (b * depth) run) (omega (arith, ends, rest))

-- ---- a table and what a search sees of it

-- a slot of the table is one of what the search sees
pub slot_within : (c : Contents) (T : Others) (b i : ℕ) → T ≡ others_from 0 c.table →
    IsSized c → b < c.buckets → i < c.depth → (b < length T) × (i < length (slots_of T b))
slot_within c T b i seen sized low inner =
    let long = ap length seen ∙ length-others 0 c.table in
    let row = ap (λ X. length (slots_of X b)) seen ∙ ap length (slots_seen c.table b)
    ∙ length-map (bucket_at c.table b) (other_in b) in
    let count = sized.count in
    let deep = sized.slots b low in
    (omega (arith, low, count, long), omega (arith, inner, row, deep))

-- a slot is set in both
pub both_set : (c next : Contents) (T made : Others) (b i : ℕ) (s : Slot) →
    T ≡ others_from 0 c.table → made ≡ with_other T (b, i) (other_in b s) →
    next ≡ record c { table = with_slot c.table (b, i) s } → made ≡ others_from 0 next.table
both_set c next T made b i s seen index buckets =
    index ∙ ap (λ X. with_other X (b, i) (other_in b s)) seen
    ∙ sym (others-with_slot c.table b i s)
    ∙ ap (λ (n : Contents). others_from 0 n.table) (sym buckets)

-- an entry has moved in both
pub both_moved : (c next : Contents) (T half made : Others) (from to : Spot) →
    T ≡ others_from 0 c.table →
    half ≡ with_other T to (other_in to.0 (slot_at c.table from)) →
    made ≡ with_other half from None →
    next ≡ record c { table = with_moved c from to } → made ≡ others_from 0 next.table
both_moved c next T half made from to seen first second buckets =
    let filled = with_slot c.table to (slot_at c.table from) in
    second
    ∙ ap (λ X. with_other X from None) (first
    ∙ ap (λ X. with_other X to (other_in to.0 (slot_at c.table from))) seen
    ∙ sym (others-with_slot c.table to.0 to.1 (slot_at c.table from)))
    ∙ sym (others-with_slot filled from.0 from.1 (empty_slot c.block))
    ∙ ap (λ (n : Contents). others_from 0 n.table) (sym buckets)

-- what an entry that is written has as its other bucket
pub other_written : (position : ℕ) (pair : ℕ × ℕ) (block : List ℕ) (b o : ℕ) → 1 ≤ position →
    o ≡ cond (pair.0 == b) pair.1 pair.0 →
    Path (Option ℕ) (Some o) (other_in b (slot_with position pair block))
other_written position pair block b o low is =
    ap (λ (n : ℕ). Some n) is
    ∙ sym (ap (λ t. cond t None (Some (cond (pair.0 == b) pair.1 pair.0)))
    (ne_eqb position 0 (λ e. omega (arith, e, low))))

-- a slot with an entry is one of a bucket
pub some_within : (T : Others) (b i : ℕ) → IsSome (slice_index_or (slots_of T b) i None) →
    (b < length T) × (i < length (slots_of T b))
some_within T b i some =
    elim (cases_lt i (length (slots_of T b))) [
      | inl low ↦ (
        elim (cases_lt b (length T)) [
          | inl within ↦ within
          | inr past ↦ absurd (let none = ap length (get_or_past T b [] past) in
              omega (arith, none, low))
        ],
        low,
      )
      | inr past ↦ absurd (cc (subst IsSome (get_or_past (slots_of T b) i None past) some))
    ]

-- what was a slot still is one when another is set
pub with_other-within : (T made : Others) (at : Spot) (other : Option ℕ) (b i : ℕ) →
    made ≡ with_other T at other → (b < length T) × (i < length (slots_of T b)) →
    (b < length made) × (i < length (slots_of made b))
with_other-within T made at other b i is h =
    let long = ap length is ∙ length-set T at.0 (set (slots_of T at.0) at.1 other) in
    let row = ap (λ X. length (slots_of X b)) is ∙ row-with_other T at other b in
    (omega (arith, h.0, long), omega (arith, h.1, row))
