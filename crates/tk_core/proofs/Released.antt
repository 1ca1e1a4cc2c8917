-- The next epoch is shown, and what is below the one before it is let go.
use Rattle.std.proofs.Common.{◌≡◌, ◌≢◌, ℕ, zero, suc, ◌+◌, ◌<◌, ◌≤◌, inl, inr, refl, ap, ap₂, sym, ◌∙◌}
use Rattle.std.proofs.Common.{subst, arith, List, [], ◌∷◌, length, take, drop, set, cond}
use Rattle.std.proofs.Common.{length-set, get_or-set_same, get_or-set_other, take-append-drop, lt-ltb}
use Rattle.std.specs.Prelude.{slice_index_or, position, Some, None, nat_lt, Bool, true, false, not}
use Rattle.std.specs.List.{prefix_len}
use Rattle.std.proofs.lemmas.Bool.{cases_lt, ltb-false}
use Rattle.std.proofs.lemmas.List.{get_or_default}
use Rattle.tk_frames.specs.InOrder.{mark_count}
use Rattle.tk_replica.specs.Shelf.{IsHeld}
use Rattle.tk_replica.specs.Replica.{ReplicaView}
use Rattle.tk_frames.proofs.Offers.{marks-append}
use Rattle.tk_replica.proofs.Offers.{stands-released}
use Rattle.tk_core.specs.Machine.{next_mark}
use Rattle.tk_core.specs.World.{WorldView, machine_of, applied_in, Follows, IsWorld, released, AreHolding, AreReleased}
use Rattle.tk_core.proofs.Marked.{mark-counted}

-- ---- one replica after the other

-- up to an index they are released, and from there on they are as they were
pub record ReleasedUpTo (e i : ℕ) (old new : List ReplicaView) : Type 0 where
  pub counted : length new ≡ length old
  pub done : (k : ℕ) (d : ReplicaView) → k < i → k < length old →
      slice_index_or new k d ≡ released e (slice_index_or old k d)
  pub left : (k : ℕ) (d : ReplicaView) → i ≤ k → slice_index_or new k d ≡ slice_index_or old k d

pub released-none : (e : ℕ) (rs : List ReplicaView) → ReleasedUpTo e 0 rs rs
released-none e rs =
    record {
      counted = refl;
      done = λ k d low within. absurd (omega (arith, low));
      left = λ k d low. refl;
    }

pub released-next : (e i : ℕ) (old new : List ReplicaView) (is d : ReplicaView) → i < length old →
    is ≡ released e (slice_index_or new i d) → ReleasedUpTo e i old new →
    ReleasedUpTo e (i + 1) old (set new i is)
released-next e i old new is d low here h =
    let same = h.counted in
    let there : i < length new = omega (arith, low, same) in
    record {
      counted = length-set new i is ∙ same;
      done = λ k f below within. elim (cases_lt k i) [
        | inl earlier ↦
            let other : k ≢ i = omega (arith, earlier) in
            get_or-set_other new i k is f other ∙ h.done k f earlier within
        | inr later ↦
            let now : i ≡ k = omega (arith, below, later) in
            subst (λ n. slice_index_or (set new i is) n f ≡ released e (slice_index_or old n f)) now
            (get_or-set_same new i is f there ∙ here
            ∙ ap (released e) (get_or_default new i d f there ∙ h.left i f (omega arith)))
      ];
      left = λ k f above.
          let other : k ≢ i = omega (arith, above) in
          get_or-set_other new i k is f other ∙ h.left k f (omega (arith, above));
    }

-- the next one keeps epoch e
pub item-held : (e i : ℕ) (old new : List ReplicaView) (d : ReplicaView) → AreHolding e old →
    i < length old → ReleasedUpTo e i old new →
    IsHeld (slice_index_or new i d).floor (slice_index_or new i d).last e
item-held e i old new d held low h =
    subst (λ (r : ReplicaView). IsHeld r.floor r.last e) (sym (h.left i d (omega arith)))
    (held.each i d low)

pub released-all : (e i : ℕ) (old new : List ReplicaView) → length new ≤ i →
    ReleasedUpTo e i old new → AreReleased e old new
released-all e i old new past h =
    let same = h.counted in
    record {
      counted = same;
      each = λ k d low. h.done k d (omega (arith, past, same, low)) low;
    }

-- ---- what stays

applied-pointwise : (old new : List ReplicaView) → length new ≡ length old →
    ((k : ℕ) (d : ReplicaView) → k < length old →
    (slice_index_or new k d).applied ≡ (slice_index_or old k d).applied) →
    applied_in new ≡ applied_in old
applied-pointwise [] [] counted same = refl
applied-pointwise [] (y ∷ new) counted same = absurd (omega (arith, counted))
applied-pointwise (x ∷ old) [] counted same = absurd (omega (arith, counted))
applied-pointwise (x ∷ old) (y ∷ new) counted same =
    ap₂ (λ (n : ℕ) (ns : List ℕ). n ∷ ns) (same 0 x (omega arith))
    (applied-pointwise old new (omega (arith, counted))
    (λ k d low. same (suc k) d (omega (arith, low))))

pub applied-released : (e : ℕ) (old new : List ReplicaView) → AreReleased e old new →
    applied_in new ≡ applied_in old
applied-released e old new are =
    applied-pointwise old new are.counted
    (λ k d low. ap (λ (r : ReplicaView). r.applied) (are.each k d low))

-- ---- the next epoch

-- each keeps the epoch that is shown
pub all-held : (w : WorldView) → IsWorld w → AreHolding w.shown w.replicas
all-held w is =
    record {
      each = λ k d low.
          let follows = is.follow k d low in
          let keeps = follows.keeps in
          record { low = omega (arith, keeps); high = follows.has };
    }

-- the replica has applied this many entries
abbrev reached : ℕ → ReplicaView → Bool
reached at r = not (nat_lt r.applied at)

no_both : (b : Bool) → b ≡ true → not b ≡ true → ⊥
no_both b holds fails = cc

reached-low : (at : ℕ) (r : ReplicaView) → reached at r ≡ true → at ≤ r.applied
reached-low at r passed = elim (cases_lt r.applied at) [
  | inl less ↦ absurd (no_both (nat_lt r.applied at) (lt-ltb r.applied at less) passed)
  | inr within ↦ within
]

reached-here : (at : ℕ) (x : ReplicaView) (xs : List ReplicaView) (b : Bool) → reached at x ≡ b →
    length (x ∷ xs) ≤ cond b (1 + prefix_len (reached at) xs) 0 →
    (length xs ≤ prefix_len (reached at) xs →
    (k : ℕ) (d : ReplicaView) → k < length xs → at ≤ (slice_index_or xs k d).applied) →
    (k : ℕ) (d : ReplicaView) → k < length (x ∷ xs) → at ≤ (slice_index_or (x ∷ xs) k d).applied
reached-here at x xs true is all later zero d low = reached-low at x is
reached-here at x xs true is all later (suc k) d low =
    later (omega (arith, all)) k d (omega (arith, low))
reached-here at x xs false is all later k d low = absurd (omega (arith, all))

reached-all : (at : ℕ) (xs : List ReplicaView) → length xs ≤ prefix_len (reached at) xs →
    (k : ℕ) (d : ReplicaView) → k < length xs → at ≤ (slice_index_or xs k d).applied
reached-all at [] all k d low = absurd (omega (arith, low))
reached-all at (x ∷ xs) all k d low =
    reached-here at x xs (reached at x) refl all (λ rest. reached-all at xs rest) k d low

past-all : (k n : ℕ) (t : Bool) → nat_lt k n ≡ t → cond t (Some k) None ≡ None → n ≤ k
past-all k n true less found = absurd cc
past-all k n false less found = ltb-false k n less

none-below : (rs : List ReplicaView) (at : ℕ) →
    position (λ (r : ReplicaView). nat_lt r.applied at) rs ≡ None →
    (i : ℕ) (d : ReplicaView) → i < length rs → at ≤ (slice_index_or rs i d).applied
none-below rs at none i d low =
    let k = prefix_len (reached at) rs in
    reached-all at rs (past-all k (length rs) (nat_lt k (length rs)) refl none) i d low

-- a replica that has applied the next mark has its epoch
has-next : (w : WorldView) (at : ℕ) (r : ReplicaView) → IsWorld w →
    next_mark (machine_of w) ≡ Some at → Follows w.shape w.order w.shown r → at ≤ r.applied →
    w.shown + 1 ≤ r.last
has-next w at r is found follows reached =
    let counted = mark-counted w.shape w.order (w.shown + 1) at r.applied is.order found reached in
    omega (arith, counted, (follows.stands).last)

pub world-shown : (w : WorldView) (at : ℕ) (new : List ReplicaView) → IsWorld w →
    next_mark (machine_of w) ≡ Some at →
    position (λ (r : ReplicaView). nat_lt r.applied at) w.replicas ≡ None →
    AreReleased w.shown w.replicas new →
    IsWorld (record w { replicas = new; shown = w.shown + 1 })
world-shown w at new is found none are =
    let same = are.counted in
    record {
      order = is.order;
      writes = is.writes;
      counted = same ∙ is.counted;
      shown = mark-stands;
      follow = λ i d low.
          let there : i < length w.replicas = omega (arith, low, same) in
          let r = slice_index_or w.replicas i d in
          let follows = is.follow i d there in
          let has =
          has-next w at r is found follows (none-below w.replicas at none i d there)
          in
          let keeps = follows.keeps in
          subst (Follows w.shape w.order (w.shown + 1)) (sym (are.each i d there))
          (record {
            within = follows.within;
            stands =
                stands-released w.shape (take r.applied w.order) r w.shown follows.stands
                (omega (arith, keeps)) follows.has;
            keeps = omega arith;
            has = has;
          });
    }
  where
    mark-stands : w.shown + 1 ≤ mark_count w.order
    mark-stands =
        let counted =
        mark-counted w.shape w.order (w.shown + 1) at (length w.order + at) is.order found
        (omega arith)
        in
        let all = marks-append (take (length w.order + at) w.order) (drop
        (length w.order + at) w.order) in
        let whole = ap mark_count (take-append-drop (length w.order + at) w.order) in
        omega (arith, counted, all, whole)
