-- What events do to a world.
use Rattle.std.proofs.Common.{◌≡◌, ◌≢◌, ℕ, zero, suc, ◌+◌, ◌*◌, ◌<◌, ◌≤◌, ◌⊎◌, inl, inr, refl, ap, ap₂, sym, ◌∙◌}
use Rattle.std.proofs.Common.{subst, arith, List, [], ◌∷◌, ◌++◌, length, take, set}
use Rattle.std.proofs.Common.{length-append, length-set, get_or-set_same, get_or-set_other, replicate}
use Rattle.std.specs.Prelude.{slice_index_or, ◌^◌}
use Rattle.std.proofs.Math.ListN.{get_or-append}
use Rattle.std.proofs.Math.Seq.{get_or-append_seam}
use Rattle.std.proofs.lemmas.Bool.{cases_lt}
use Rattle.std.proofs.lemmas.List.{take-append-le, take_more}
use Rattle.tk_shape.specs.declared.shape.Shape.{Shape}
use Rattle.tk_shape.specs.Lengths.{turn_count}
use Rattle.tk_frames.specs.declared.write_frame.WriteFrame.{WriteFrame}
use Rattle.tk_frames.specs.declared.entry.Placed.{Placed}
use Rattle.tk_frames.specs.declared.entry.Entry.TheVariants.{Write, Mark}
use Rattle.tk_frames.specs.Order.{records}
use Rattle.tk_frames.specs.InOrder.{mark_count, IsNext}
use Rattle.tk_replica.specs.Replica.{ReplicaView, StandsFor}
use Rattle.tk_frames.proofs.Offers.{marks-push, marks-most, order-push, records-write, records-mark}
use Rattle.tk_frames.proofs.Offers.{record_of, next-write, next-mark}
use Rattle.tk_core.specs.World.{WorldView, applied_in, Follows, IsWorld, IsPut}

-- ---- one more entry

follows-more : (shape : Shape) (E : List Placed) (shown : ℕ) (p : Placed) (r : ReplicaView) →
    Follows shape E shown r → Follows shape (E ++ p ∷ []) shown r
follows-more shape E shown p r is =
    record {
      within = let within = is.within in omega (arith, within, length-append E (p ∷ []));
      stands =
          subst (λ F. StandsFor shape F r) (sym (take-append-le r.applied E
          (p ∷ []) is.within)) is.stands;
      keeps = is.keeps;
      has = is.has;
    }

abbrev with_placed : WorldView → Placed → WorldView
with_placed w p = record w { order = w.order ++ p ∷ [] }

world-more : (w : WorldView) (p : Placed) → IsWorld w → IsNext w.shape w.order p →
    length (records (w.order ++ p ∷ [])) ≤ w.shape.clients * turn_count w.shape →
    IsWorld (with_placed w p)
world-more w p is next few =
    record {
      order = order-push w.shape w.order p is.order next;
      writes = few;
      counted = is.counted;
      shown = let shown = is.shown in omega (arith, shown, marks-push w.order p);
      follow = λ i d low.
          follows-more w.shape w.order w.shown p (slice_index_or w.replicas i d)
          (is.follow i d low);
    }

pub world-put : (w : WorldView) (frame : WriteFrame) → IsWorld w → IsPut w.shape w.order frame →
    IsWorld (with_placed w (record { position = length w.order + 1; entry = Write frame }))
world-put w frame is may =
    let p : Placed = record { position = length w.order + 1; entry = Write frame } in
    let few = may.few in
    world-more w p is (next-write w.shape w.order frame is.order may.in_range may.few)
    (omega (
      arith,
      ap length (records-write w.order p frame refl),
      few,
      length-append (records w.order) (record_of p frame ∷ []),
    ))

pub world-mark : (w : WorldView) → IsWorld w → mark_count w.order < w.shape.phases →
    IsWorld (with_placed w (record {
      position = length w.order + 1;
      entry =
          Mark (mark_count w.order + 1);
    }))
world-mark w is more =
    let e = mark_count w.order + 1 in
    let p : Placed = record { position = length w.order + 1; entry = Mark e } in
    let writes = is.writes in
    world-more w p is (next-mark w.shape w.order is.order is.writes more)
    (omega (arith, ap length (records-mark w.order p e refl), writes))

-- ---- one more entry applied

pub follows-next : (shape : Shape) (E : List Placed) (shown : ℕ) (old new : ReplicaView)
    (p : Placed) →
    Follows shape E shown old → old.applied < length E → p ≡ slice_index_or E old.applied p →
    StandsFor shape (take old.applied E ++ p ∷ []) new → new.floor ≡ old.floor →
    (new.applied ≡ old.applied + 1) × Follows shape E shown new
follows-next shape E shown old new p is low at stands kept =
    let front = take old.applied E in
    let next : take (old.applied + 1) E ≡ front ++ p ∷ [] =
    take_more E old.applied p low ∙ ap (λ (q : Placed). front ++ q ∷ []) (sym at)
    in
    let before : old.applied ≡ length front = (is.stands).applied in
    let count : new.applied ≡ old.applied + 1 =
    stands.applied ∙ omega (arith, length-append front (p ∷ []), before)
    in
    let has = is.has in
    let last = stands.last in
    let earlier = (is.stands).last in (
      count,
      record {
        within = omega (arith, count, low);
        stands =
            subst (λ n. StandsFor shape (take n E) new) (sym count)
            (subst (λ F. StandsFor shape F new) (sym next) stands);
        keeps = kept ∙ is.keeps;
        has = omega (arith, has, last, earlier, marks-push front p);
      },
    )

same_or_other : (k i : ℕ) → (k ≡ i) ⊎ (k ≢ i)
same_or_other zero zero = inl refl
same_or_other zero (suc i) = inr (λ e. omega (arith, e))
same_or_other (suc k) zero = inr (λ e. omega (arith, e))
same_or_other (suc k) (suc i) = elim (same_or_other k i) [
  | inl same ↦ inl (ap suc same)
  | inr other ↦ inr (λ e. other (omega (arith, e)))
]

pub world-applied : (w : WorldView) (i : ℕ) (new : ReplicaView) → IsWorld w →
    i < length w.replicas → Follows w.shape w.order w.shown new →
    IsWorld (record w { replicas = set w.replicas i new })
world-applied w i new is low follows =
    let long = length-set w.replicas i new in
    record {
      order = is.order;
      writes = is.writes;
      counted = long ∙ is.counted;
      shown = is.shown;
      follow = λ k d there. elim (same_or_other k i) [
        | inl same ↦
            subst (Follows w.shape w.order w.shown)
            (sym (ap (λ n. slice_index_or (set w.replicas i new) n d) same
            ∙ get_or-set_same w.replicas i new d low)) follows
        | inr other ↦
            subst (Follows w.shape w.order w.shown)
            (sym (get_or-set_other w.replicas i k new d other))
            (is.follow k d (omega (arith, there, long)))
      ];
    }

-- ---- nothing yet

-- a replica that has applied nothing, and keeps epoch 0
pub record IsNew (shape : Shape) (r : ReplicaView) : Type 0 where
  pub stands : StandsFor shape [] r
  pub floor : r.floor ≡ 0

-- one more such
pub new-push : (shape : Shape) (rs new : List ReplicaView) (r : ReplicaView) → new ≡ rs ++ r ∷ [] →
    IsNew shape r →
    ((i : ℕ) (d : ReplicaView) → i < length rs → IsNew shape (slice_index_or rs i d)) →
    (i : ℕ) (d : ReplicaView) → i < length new → IsNew shape (slice_index_or new i d)
new-push shape rs new r pushed is all i d low =
    let long = length-append rs (r ∷ []) in
    let whole = ap length pushed in
    subst (λ (xs : List ReplicaView). IsNew shape (slice_index_or xs i d)) (sym pushed)
    (elim (cases_lt i (length rs)) [
      | inl old ↦
          subst (IsNew shape) (sym (get_or-append rs (r ∷ []) d i old)) (all i d old)
      | inr past ↦
          let here : i ≡ length rs = omega (arith, low, whole, long, past) in
          subst (IsNew shape)
          (sym (ap (λ k. slice_index_or (rs ++ r ∷ []) k d) here ∙ get_or-append_seam rs r [] d)) is
    ])

applied-none : (rs : List ReplicaView) →
    ((i : ℕ) (d : ReplicaView) → i < length rs → (slice_index_or rs i d).applied ≡ 0) →
    applied_in rs ≡ replicate (length rs) 0
applied-none [] none = refl
applied-none (r ∷ rs) none =
    ap₂ (λ (n : ℕ) (ns : List ℕ). n ∷ ns) (none 0 r (omega arith))
    (applied-none rs (λ i d low. none (suc i) d (omega (arith, low))))

pub applied-opened : (shape : Shape) (rs : List ReplicaView) (n : ℕ) → length rs ≡ n →
    ((i : ℕ) (d : ReplicaView) → i < length rs → IsNew shape (slice_index_or rs i d)) →
    applied_in rs ≡ replicate n 0
applied-opened shape rs n counted new =
    applied-none rs (λ i d low. (new i d low).stands.applied) ∙ ap (λ k. replicate k 0) counted

-- ---- the number of the next epoch fits

pub shown-fits : (w : WorldView) → IsWorld w → w.shown + 1 < 2 ^ 32
shown-fits w is =
    let marks = marks-most w.shape w.order is.order in
    let high = w.shape.in_range.phases_high in
    let shown = is.shown in
    omega (arith, marks, high, shown)
