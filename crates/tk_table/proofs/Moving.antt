-- What moves along a chain of slots do to a table.
use Rattle.std.proofs.Common.{◌≡◌, ℕ, ◌+◌, ◌<◌, ap, sym, ◌∙◌, subst, arith, List, []}
use Rattle.std.proofs.Common.{◌∷◌, length, drop, false, set, get_or}
use Rattle.std.specs.Prelude.{◌==◌, slice_index_or}
use Rattle.std.proofs.lemmas.Bool.{or_parts, eqb-false}
use Rattle.std.proofs.lemmas.List.{set-set, get_or-set_same, drop_more, length-set}
use Rattle.tk_place.specs.Place.{Spot}
use Rattle.tk_place.specs.Chain.{is_on}
use Rattle.tk_place.specs.Views.{spot_of}
use Rattle.tk_place.specs.declared.step.Step.{Step}
use Rattle.tk_bucket.specs.Table.{Contents, IsSized, slot_at, empty_slot, with_moved}
use Rattle.tk_table.specs.Table.{Slot, SlotTable, bucket_at, with_slot, shifted}
use Rattle.tk_table.specs.Steps.{AreSteps, IsFree, moved_by}
use Rattle.tk_table.proofs.Buckets.{bucket-with_slot, other_bucket-with_slot}

-- of two writes to one slot the later stays
pub overwritten : (T : SlotTable) (at : Spot) (e s : Slot) → at.0 < length T →
    with_slot (with_slot T at e) at s ≡ with_slot T at s
overwritten T at e s low =
    ap (λ slots. set (with_slot T at e) at.0 (set slots at.1 s)) (bucket-with_slot T at e low)
    ∙ ap (λ slots. set (with_slot T at e) at.0 slots) (set-set (bucket_at T at.0) at.1 e s)
    ∙ set-set T at.0 (set (bucket_at T at.0) at.1 e) (set (bucket_at T at.0) at.1 s)

-- a slot of another bucket stays
other_slot : (T : SlotTable) (at : Spot) (e : Slot) (to : Spot) → (at.0 == to.0) ≡ false →
    slot_at (with_slot T at e) to ≡ slot_at T to
other_slot T at e to apart =
    ap (λ slots. get_or slots to.1 (empty_slot 0))
    (other_bucket-with_slot T at e to.0 (λ same. eqb-false at.0 to.0 apart (sym same)))

-- what stands in the free slot is lost
along-overwritten : (T : SlotTable) (at : Spot) (e s : Slot) (ats : List Spot) → at.0 < length T →
    is_on ats at.0 ≡ false →
    shifted (with_slot T at e) at ats s ≡ shifted T at ats s
along-overwritten T at e s [] low out = overwritten T at e s low
along-overwritten T at e s (to ∷ ats) low out =
    let apart = or_parts (at.0 == to.0) (is_on ats at.0) out in
    ap (λ v. shifted (with_slot (with_slot T at e) at v) to ats s)
    (other_slot T at e to apart.0)
    ∙ ap (λ X. shifted X to ats s) (overwritten T at e (slot_at T to) low)

-- The entries before step i have moved, and the slot before it is free: what is left to do gives
-- what was to be done.
pub record IsMoving (old : Contents) (steps : List Spot) (c : Contents) (free : Spot)
    (i : ℕ) : Type 0 where
  pub buckets : c.buckets ≡ old.buckets
  pub depth : c.depth ≡ old.depth
  pub block : c.block ≡ old.block
  pub rest : AreSteps old.buckets old.depth (free ∷ drop i steps)
  pub empty : IsFree c.table free
  pub same : (s : Slot) → shifted c.table free (drop i steps) s ≡ moved_by old.table steps s

pub moving-on : (old : Contents) (steps : List Spot) (c next : Contents) (free at : Spot) (i : ℕ) →
    IsMoving old steps c free i → i < length steps → IsSized c →
    at ≡ slice_index_or steps i (0, 0) →
    next ≡ record c { table = with_moved c at free } → IsMoving old steps next at (i + 1)
moving-on old steps c next free at i moving low sized here made =
    let rest : drop i steps ≡ at ∷ drop (i + 1) steps =
    drop_more steps i (0, 0) low ∙ ap (λ p. p ∷ drop (i + 1) steps) (sym here) in
    let are : AreSteps old.buckets old.depth (free ∷ at ∷ drop (i + 1) steps) =
    subst (λ ats. AreSteps old.buckets old.depth (free ∷ ats)) rest moving.rest in
    let later = are.3 in
    let out = or_parts (free.0 == at.0) (is_on (drop (i + 1) steps) free.0) are.2 in
    let filled : SlotTable = with_slot c.table free (slot_at c.table at) in
    let wide : at.0 < length filled =
    (let same = length-set c.table free.0
    (set (bucket_at c.table free.0) free.1 (slot_at c.table at)) in
    let count = sized.count in let buckets = moving.buckets in
    omega (arith, later.0, same, count, buckets)) in
    let deep : at.1 < length (bucket_at filled at.0) =
    (let stays = ap (λ slots. length slots)
    (other_bucket-with_slot c.table free (slot_at c.table at) at.0
    (λ same. eqb-false free.0 at.0 out.0 (sym same))) in
    let slots = sized.slots at.0
    (let buckets = moving.buckets in omega (arith, later.0, buckets)) in
    let depth = moving.depth in
    omega (arith, later.1, stays, slots, depth)) in
    let emptied : slot_at (with_slot filled at (empty_slot c.block)) at ≡ empty_slot c.block =
    ap (λ slots. get_or slots at.1 (empty_slot 0))
    (bucket-with_slot filled at (empty_slot c.block) wide)
    ∙ get_or-set_same (bucket_at filled at.0) at.1 (empty_slot c.block) (empty_slot 0) deep in
    subst (λ (n : Contents). IsMoving old steps n at (i + 1)) (sym made)
    (record {
      buckets = moving.buckets;
      depth = moving.depth;
      block = moving.block;
      rest = later;
      empty = ap (λ (s : Slot). s.position == 0) emptied;
      same = λ s. along-overwritten filled at (empty_slot c.block) s (drop (i + 1) steps) wide
          later.2
          ∙ ap (λ ats. shifted c.table free ats s) (sym rest) ∙ moving.same s;
    })

-- a step's slot
abbrev spot : ℕ → ℕ → Spot
spot b i = (b, i)

pub at_step : (step : Step) (b i : ℕ) (at : Spot) → b ≡ step.bucket → i ≡ step.slot →
    spot_of step ≡ at → spot b i ≡ at
at_step step b i at bucket slot is =
    ap (λ x. spot x i) bucket ∙ ap (spot step.bucket) slot ∙ is
