-- What a state is written as.
use Rattle.std.proofs.Common.{◌≡◌, ℕ, ◌+◌, ◌-◌, ◌<◌, List, [], ◌∷◌, ◌++◌, length, map, false, ap, ap₂, sym, ◌∙◌, subst, arith, append_assoc}
use Rattle.std.specs.Prelude.{◌≢◌, ◌↔◌, ◌==◌, cond, None, Some, slice_index_or}
use Rattle.std.specs.List.{concat}
use Rattle.std.proofs.lemmas.Bool.{eq-eqb, ne_eqb}
use Rattle.std.proofs.lemmas.List.{length-map, get_or-map, get_or_default}
use Rattle.tk_shape.specs.declared.shape.Shape.{Shape}
use Rattle.tk_frames.specs.declared.entry.Placed.{Placed}
use Rattle.tk_frames.specs.Order.{Record, records}
use Rattle.tk_frames.specs.InOrder.{mark_count, mark_position}
use Rattle.tk_bloom.specs.Windows.{Kept as KeptPushes}
use Rattle.tk_table.specs.Table.{blocks_of, layout, window}
use Rattle.tk_table.specs.Stands.{Kept, position_of}
use Rattle.tk_replica.specs.declared.epoch.Epoch.{Epoch}
use Rattle.tk_replica.specs.Epochs.{IsEpochOf}
use Rattle.tk_replica.specs.Shelf.{IsShelf}
use Rattle.tk_replica.specs.Replica.{ReplicaView, StandsFor}
use Rattle.tk_replica.specs.Restoring.{EndsWithMark, IsRestored}
use Rattle.tk_checkpoint.specs.Saved.{saved, saved_of, spelling, last_upto, head_with, window_bytes}
use Rattle.tk_checkpoint.specs.declared.error.CheckpointError.TheVariants.{NotAtMark}
use Rattle.tk_checkpoint.specs.Refusals.{checkpoint_refusal, IsCheckpointRefusal}
use Rattle.tk_checkpoint.specs.Writing.{last_blocks, state_bytes}
use Rattle.tk_checkpoint.specs.Laws.{WrittenAtMarks}
use Rattle.tk_checkpoint.proofs.LastMark.{at-end, ends-with_mark}
use Rattle.tk_checkpoint.proofs.ReadBack.{blocks-joined}
use Rattle.tk_checkpoint.proofs.Standing.{saved-left}

-- ---- the last epoch

-- the last number is that of an epoch that is kept
last-kept : (floor last : ℕ) (kept : List Epoch) → IsShelf floor last kept → last - floor < length kept
last-kept floor last kept is =
    let counted = is.counted in
    let some = is.some in
    omega (arith, counted, some)

-- an epoch is the last one of a state
pub record IsLast (s : ReplicaView) (epoch : Epoch) : Type 0 where
  pub upto : last_upto s ≡ epoch.upto
  pub blocks : last_blocks s ≡ epoch.blocks.blocks

last-at : (s : ReplicaView) (epoch : Epoch) → s.last - s.floor < length s.kept →
    epoch ≡ slice_index_or s.kept (s.last - s.floor) epoch → IsLast s epoch
last-at s epoch low is =
    record {
      upto = get_or-map (λ (e : Epoch). e.upto) s.kept (s.last - s.floor) epoch 0 low
          ∙ sym (ap (λ (e : Epoch). e.upto) is);
      blocks = get_or-map (λ (e : Epoch). e.blocks.blocks) s.kept (s.last - s.floor) epoch [] low
          ∙ sym (ap (λ (e : Epoch). e.blocks.blocks) is);
    }

-- the one that is kept for the last number
pub last-found : (s : ReplicaView) (e : ℕ) (epoch : Epoch) → IsShelf s.floor s.last s.kept → e ≡ s.last →
    ((d : Epoch) → epoch ≡ slice_index_or s.kept (e - s.floor) d) → IsLast s epoch
last-found s e epoch shelf is found =
    last-at s epoch (last-kept s.floor s.last s.kept shelf)
    (found epoch ∙ ap (λ n. slice_index_or s.kept (n - s.floor) epoch) is)

-- an element of a list
record HasAt (epochs : List Epoch) (i : ℕ) : Type 0 where
  epoch : Epoch
  is : epoch ≡ slice_index_or epochs i epoch

element : (epochs : List Epoch) (i : ℕ) → i < length epochs → HasAt epochs i
element [] i low = absurd (omega (arith, low))
element (e ∷ es) i low =
    record {
      epoch = slice_index_or (e ∷ es) i e;
      is = get_or_default (e ∷ es) i e (slice_index_or (e ∷ es) i e) low;
    }

-- ---- the bytes

-- with as many pushes as positions, and the blocks of its table as those of its last epoch, a state
-- is written as what it has
pub state-spelled : (s : ReplicaView) → length s.window.pushes ≡ length s.table.positions →
    last_blocks s ≡ blocks_of s.table.slots → state_bytes s ≡ spelling s.shape (saved_of s)
unfolding state_bytes spelling
state-spelled s beside blocks =
    ap₂ (λ n bytes. head_with s.shape s.applied s.last n
    ++ (window_bytes s.table.positions s.window.pushes ++ bytes))
    beside (ap concat blocks ∙ blocks-joined s.table.slots)

-- ---- a state that stands for entries

module _ (shape : Shape) (E : List Placed) (s : ReplicaView) (is : StandsFor shape E s) where
  low : s.last - s.floor < length s.kept
  low = last-kept s.floor s.last s.kept (record { counted = is.counted; some = is.some })

  abbrev at : HasAt s.kept (s.last - s.floor)
  at = element s.kept (s.last - s.floor) low

  -- its last epoch is that of the last mark
  last-stands : IsEpochOf shape E (mark_count E) at.epoch
  last-stands =
      let some = is.some in
      let last : s.floor + (s.last - s.floor) ≡ mark_count E = omega (arith, some, is.last) in
      subst (λ n. IsEpochOf shape E n at.epoch) last
      (subst (IsEpochOf shape E (s.floor + (s.last - s.floor))) (sym at.is) (is.kept (s.last - s.floor) at.epoch low))

  upto-stands : last_upto s ≡ mark_position E (mark_count E)
  upto-stands = (last-at s at.epoch low at.is).upto ∙ last-stands.upto

  -- it has applied nothing behind its last mark just where a mark came last
  written-at_mark : (last_upto s ≡ s.applied) ↔ EndsWithMark E
  written-at_mark = (
    λ same. ends-with_mark shape E is.order (sym upto-stands ∙ same ∙ is.applied),
    λ ends. upto-stands ∙ (at-end shape E is.order ends).place ∙ sym is.applied,
  )

  beside : length s.window.pushes ≡ length s.table.positions
  beside =
      let R = records E in
      ap (λ (w : KeptPushes). length w.pushes) is.window
      ∙ length-map (window shape R) (λ (r : Record). r.write.hits)
      ∙ sym (length-map (window shape R) position_of)
      ∙ ap (λ sh. length (map position_of (window sh R))) (sym is.table_same)
      ∙ ap length (sym is.table.positions)

  blocks-stand : EndsWithMark E → last_blocks s ≡ blocks_of s.table.slots
  blocks-stand ends =
      (last-at s at.epoch low at.is).blocks
      ∙ last-stands.stands.blocks
      ∙ ap (λ (R : List Record). blocks_of (layout shape R)) (at-end shape E is.order ends).writes
      ∙ ap (λ sh. blocks_of (layout sh (records E))) (sym is.table_same)
      ∙ ap blocks_of (sym is.table.slots)

  -- then it is written as the checkpoint of the entries
  stands-written : EndsWithMark E → state_bytes s ≡ saved shape E
  stands-written ends = state-spelled s beside (blocks-stand ends) ∙ saved-left shape E s is

  -- so the bytes that it is written as are those
  pub saved-written : (out all : List ℕ) → last_upto s ≡ s.applied → all ≡ out ++ state_bytes s → all ≡ out ++ saved shape E
  saved-written out all same written =
      written ∙ ap (λ (bytes : List ℕ). out ++ bytes) (stands-written (written-at_mark.0 same))

pub written-at_marks : WrittenAtMarks
written-at_marks shape E s is = written-at_mark shape E s is

-- ---- a state that was restored

module _ (shape : Shape) (applied last : ℕ) (table : Kept) (window : KeptPushes) (s : ReplicaView)
    (is : IsRestored shape applied last table window s) where
  first : s.last - s.floor ≡ 0
  first = omega (arith, is.last_is, is.floor_is)

  one : s.last - s.floor < length s.kept
  one = omega (arith, first, ap length is.kept)

  only : IsLast s is.epoch
  only = last-at s is.epoch one (sym (ap₂ (λ (es : List Epoch) n. slice_index_or es n is.epoch) is.kept first))

  -- it has applied nothing behind its last mark
  pub restored-at_mark : last_upto s ≡ s.applied
  restored-at_mark = only.upto ∙ is.taken.upto_is ∙ sym is.applied_is

  -- and is written as what it has
  pub restored-spelled : length window.pushes ≡ length table.positions → state_bytes s ≡ spelling shape (saved_of s)
  restored-spelled beside =
      state-spelled s
      (ap (λ (w : KeptPushes). length w.pushes) is.window_is ∙ beside ∙ ap (λ (t : Kept). length t.positions) (sym is.table_is))
      (only.blocks ∙ is.taken.blocks ∙ ap (λ (t : Kept). blocks_of t.slots) (sym is.table_is))
      ∙ ap (λ sh. spelling sh (saved_of s)) is.same

-- a state is written where it has applied nothing behind its last mark
pub refusal-none : (s : ReplicaView) → last_upto s ≡ s.applied → checkpoint_refusal s ≡ None
refusal-none s same =
    ap (λ b. cond b None (Some (NotAtMark s.applied (last_upto s)))) (eq-eqb (last_upto s) s.applied same)

-- a state that has applied entries behind its last mark is refused for it
pub refused : (s : ReplicaView) (applied upto : ℕ) → applied ≡ s.applied → upto ≡ last_upto s → upto ≢ applied →
    IsCheckpointRefusal (checkpoint_refusal s) (NotAtMark applied upto)
refused s applied upto ea eu apart =
    let other : (last_upto s == s.applied) ≡ false =
    ne_eqb (last_upto s) s.applied (λ same. apart (eu ∙ same ∙ sym ea)) in
    subst (λ r. IsCheckpointRefusal r (NotAtMark applied upto))
    (sym (ap (λ b. cond b None (Some (NotAtMark s.applied (last_upto s)))) other))
    (ap₂ NotAtMark ea eu)

-- the parts of what a state is written as, one behind the other
pub parts-joined : (s : ReplicaView) (count : ℕ) (positions : List ℕ) (pushes blocks : List (List ℕ))
    (out head window all : List ℕ) →
    count ≡ length s.window.pushes → positions ≡ s.table.positions → pushes ≡ s.window.pushes →
    blocks ≡ last_blocks s →
    head ≡ out ++ head_with s.shape s.applied s.last count →
    window ≡ head ++ window_bytes positions pushes →
    all ≡ window ++ concat blocks →
    all ≡ out ++ state_bytes s
unfolding state_bytes
parts-joined s count positions pushes blocks out head window all en ep eq eb eh ew ea =
    let numbers = head_with s.shape s.applied s.last (length s.window.pushes) in
    let writes = window_bytes s.table.positions s.window.pushes in
    ea
    ∙ ap₂ (λ (x : List ℕ) bs. x ++ concat bs)
    (ew ∙ ap₂ (λ (x y : List ℕ). x ++ y)
    (eh ∙ ap (λ n. out ++ head_with s.shape s.applied s.last n) en)
    (ap₂ window_bytes ep eq))
    eb
    ∙ append_assoc (out ++ numbers) writes (concat (last_blocks s))
    ∙ append_assoc out numbers (writes ++ concat (last_blocks s))
