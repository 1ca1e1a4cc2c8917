-- What has left the window when one more write comes: the oldest, where the window was full, and
-- else nothing.
use Rattle.std.proofs.Common.{◌≡◌, ℕ, zero, suc, ◌+◌, ◌-◌, ◌<◌, ◌≤◌, inl, inr, refl, ap, sym}
use Rattle.std.proofs.Common.{◌∙◌, subst, arith, List, [], ◌∷◌, ◌++◌, length, drop, map, Bool, true}
use Rattle.std.proofs.Common.{false, cond, eqb-true, ◌||◌}
use Rattle.std.specs.Prelude.{◌==◌}
use Rattle.std.proofs.lemmas.Bool.{or_left, ne_eqb}
use Rattle.std.proofs.lemmas.List.{same_lists, get_or_default, length-map, length-drop, drop-append-le, drop-drop}
use Rattle.std.proofs.lemmas.List.Folds.{list_any-append}
use Rattle.tk_shape.specs.declared.shape.Shape.{Shape}
use Rattle.tk_frames.specs.Order.{Record}
use Rattle.tk_table.specs.Ordered.{AscendFrom, AreOrdered}
use Rattle.tk_table.specs.Table.{Slot, SlotTable, bucket_at, empty_slot, window}
use Rattle.tk_table.specs.Table.{has_position, retained, layout, without_expired}
use Rattle.tk_table.specs.Laws.{IsSlotOf, IsLaidOut}
use Rattle.tk_table.specs.Steps.{cleared, cleared_all}
use Rattle.tk_frames.specs.Lists.{IsIn}
use Rattle.tk_frames.proofs.Offers.{all_in, all-at}
use Rattle.tk_table.proofs.AsWritten.{entry-record}
use Rattle.tk_table.proofs.Buckets.{bucket-map}
use Rattle.tk_table.proofs.InWindow.{retained-in_window}
use Rattle.tk_table.proofs.Windows.{window-push}
use Rattle.tk_table.proofs.Ascending.{ascend-lower}

-- ---- lists

map-same : {X Y : Type 0} (f g : X → Y) (xs : List X) → ((x : X) → IsIn xs x → f x ≡ g x) →
    map f xs ≡ map g xs
map-same f g [] same = refl
map-same f g (x ∷ xs) same =
    ap (λ y. y ∷ map f xs) (same x (inl refl))
    ∙ ap (λ ys. g x ∷ ys) (map-same f g xs (λ y there. same y (inr there)))

pub map-kept : {X : Type 0} (f : X → X) (xs : List X) → ((x : X) → IsIn xs x → f x ≡ x) → map f xs ≡ xs
map-kept f [] same = refl
map-kept f (x ∷ xs) same =
    ap (λ y. y ∷ map f xs) (same x (inl refl))
    ∙ ap (λ ys. x ∷ ys) (map-kept f xs (λ y there. same y (inr there)))

pub same_tables : (S T : SlotTable) → length S ≡ length T →
    ((b : ℕ) → b < length T → bucket_at S b ≡ bucket_at T b) → S ≡ T
same_tables S T long same =
    same_lists S T long (λ b d low.
    get_or_default S b d [] low ∙ same b (omega (arith, low, long))
    ∙ get_or_default T b [] d (omega (arith, low, long)))

pub either_way : {X : Type 0} (t : Bool) (x : X) → cond t x x ≡ x
either_way true x = refl
either_way false x = refl

-- ---- records in order

ascend-drop : (p n : ℕ) (R : List Record) → AscendFrom p R → AscendFrom p (drop n R)
ascend-drop p zero R h = h
ascend-drop p (suc n) [] h = tt
ascend-drop p (suc n) (r ∷ R) h =
    ascend-lower p (r.position + 1) (drop n R) (omega (arith, h.0))
    (ascend-drop (r.position + 1) n R h.1)

none_below : (p q : ℕ) (R : List Record) → p < q → AscendFrom q R → has_position R p ≡ false
none_below p q [] low h = refl
none_below p q (r ∷ R) low h =
    ap (λ t. t || has_position R p) (ne_eqb p r.position (λ e. omega (arith, low, e, h.0)))
    ∙ none_below p (r.position + 1) R (omega (arith, low, h.0)) h.1

-- ---- the window was not full

kept-in : (shape : Shape) (R : List Record) (w : Record) (b : ℕ) (s : Slot) →
    IsLaidOut shape (retained shape R) (layout shape R) → IsIn (bucket_at (layout shape R) b) s →
    length (window shape R) < shape.retained →
    cond (has_position (window shape (R ++ w ∷ [])) s.position) s (empty_slot shape) ≡ s
kept-in shape R w b s laid there room =
    elim (all_in (IsSlotOf shape b) (bucket_at (layout shape R) b) s (laid.own b) there) [
      | inl e ↦ subst (λ s. cond (has_position (window shape (R ++ w ∷ [])) s.position) s
          (empty_slot shape) ≡ s) (sym e) (either_way _ (empty_slot shape))
      | inr entry ↦ ap (λ t. cond t s (empty_slot shape)) (in_new entry.0)
    ]
  where
    in_new : 1 ≤ s.position → has_position (window shape (R ++ w ∷ [])) s.position ≡ true
    in_new low =
        let from = entry-record shape (retained shape R) (layout shape R) b s laid there
        (ne_eqb s.position 0 (λ e. omega (arith, low, e))) in
        let before : has_position (window shape R) s.position ≡ true =
        ap (λ (s : Slot). has_position (window shape R) s.position) (sym from.gives)
        ∙ all-at (λ r. has_position (window shape R) r.position) (retained shape R) from.origin
        (retained-in_window shape R) from.there in
        let long = length-drop (length R - shape.retained) R in
        let same : drop (length R + 1 - shape.retained) R ≡ window shape R =
        ap (λ n. drop n R) (omega (arith, long, room)) in
        ap (λ V. has_position V s.position) (window-push shape R w ∙ ap (λ V. V ++ w ∷ []) same)
        ∙ list_any-append (λ r. s.position == r.position) (window shape R) (w ∷ [])
        ∙ or_left (has_position (window shape R) s.position)
        (has_position (w ∷ []) s.position) before

pub nothing_expired : (shape : Shape) (R : List Record) (w : Record) →
    IsLaidOut shape (retained shape R) (layout shape R) →
    length (window shape R) < shape.retained →
    without_expired shape (window shape (R ++ w ∷ [])) (layout shape R) ≡ layout shape R
nothing_expired shape R w laid room =
    let f : Slot → Slot = λ s. cond (has_position (window shape (R ++ w ∷ [])) s.position) s
    (empty_slot shape) in
    let T = layout shape R in
    same_tables (map (map f) T) T (length-map T (map f)) (λ b low.
    bucket-map f T b
    ∙ map-kept f (bucket_at T b) (λ s there. kept-in shape R w b s laid there room))

-- ---- the window was full

-- the oldest of the window, and the window without it when w comes
pub record IsOldest (shape : Shape) (R : List Record) (w r : Record) : Type 0 where
  pub first : (s : Record) → has_position (window shape R) s.position ≡ true →
      (s.position == r.position) ≡ false →
      has_position (window shape (R ++ w ∷ [])) s.position ≡ true
  pub gone : has_position (window shape (R ++ w ∷ [])) r.position ≡ false
  pub low : 1 ≤ r.position

pub oldest : (shape : Shape) (R : List Record) (w r : Record) (rest : List Record) →
    AreOrdered shape (R ++ w ∷ []) → window shape R ≡ r ∷ rest →
    shape.retained ≤ length (window shape R) → IsOldest shape R w r
oldest shape R w r rest ordered begins full =
    record {
      first = λ s before other.
          ap (λ V. has_position V s.position) next
          ∙ list_any-append (λ v. s.position == v.position) rest (w ∷ [])
          ∙ or_left (has_position rest s.position) (has_position (w ∷ []) s.position)
          (ap (λ t. t || has_position rest s.position) (sym other)
          ∙ ap (λ V. has_position V s.position) (sym begins) ∙ before);
      gone = ap (λ V. has_position V r.position) next
          ∙ none_below r.position (r.position + 1) (rest ++ w ∷ []) (omega arith) after.1;
      low = after.0;
    }
  where
    n : ℕ
    n = length R - shape.retained

    long : length (window shape R) ≡ length R - n
    long = length-drop n R

    next : window shape (R ++ w ∷ []) ≡ rest ++ w ∷ []
    next =
        let low : 1 ≤ shape.retained = shape.in_range.retained_low in
        let m = long in
        window-push shape R w
        ∙ ap (λ V. V ++ w ∷ []) (ap (λ k. drop k R) (omega (arith, m, full, low))
        ∙ sym (drop-drop 1 n R) ∙ ap (drop 1) begins)

    after : AscendFrom 1 (r ∷ rest ++ w ∷ [])
    after =
        subst (λ V. AscendFrom 1 (V ++ w ∷ [])) begins
        (subst (AscendFrom 1) (drop-append-le n R (w ∷ []) (omega arith))
        (ascend-drop 1 n (R ++ w ∷ []) ordered.ascend))

cleared-empty : (shape : Shape) (p : ℕ) →
    cleared shape.block p (empty_slot shape) ≡ empty_slot shape
cleared-empty shape p = either_way (0 == p) (empty_slot shape)

module _ (shape : Shape) (R : List Record) (w r : Record)
    (laid : IsLaidOut shape (retained shape R) (layout shape R))
    (old : IsOldest shape R w r) where
  stays : Slot → Slot
  stays s = cond (has_position (window shape (R ++ w ∷ [])) s.position) s (empty_slot shape)

  -- only the slots with the oldest one's position are emptied
  expired-cleared : (b : ℕ) (s : Slot) → IsIn (bucket_at (layout shape R) b) s →
      cleared shape.block r.position s ≡ stays s
  unfolding stays
  expired-cleared b s there =
      elim (all_in (IsSlotOf shape b) (bucket_at (layout shape R) b) s (laid.own b) there) [
        | inl e ↦ subst (λ s. cleared shape.block r.position s ≡ stays s) (sym e)
            (cleared-empty shape r.position ∙ sym (either_way _ (empty_slot shape)))
        | inr entry ↦ by_position entry.0 (s.position == r.position) refl
      ]
    where
      by_position : 1 ≤ s.position → (t : Bool) → (s.position == r.position) ≡ t →
          cond (s.position == r.position) (empty_slot shape) s ≡ stays s
      by_position low true e =
          ap (λ t. cond t (empty_slot shape) s) e
          ∙ ap (λ t. cond t s (empty_slot shape))
          (sym (ap (has_position (window shape (R ++ w ∷ []))) (eqb-true s.position r.position e)
          ∙ old.gone))
      by_position low false e =
          let from = entry-record shape (retained shape R) (layout shape R) b s laid there
          (ne_eqb s.position 0 (λ z. omega (arith, low, z))) in
          let before = all-at (λ r. has_position (window shape R) r.position) (retained shape R)
          from.origin (retained-in_window shape R) from.there in
          let same : from.origin.position ≡ s.position = ap (λ (s : Slot). s.position) from.gives in
          ap (λ t. cond t (empty_slot shape) s) e
          ∙ ap (λ t. cond t s (empty_slot shape))
          (sym (ap (has_position (window shape (R ++ w ∷ []))) (sym same)
          ∙ old.first from.origin before (ap (λ p. p == r.position) same ∙ e)))

  pub oldest_expired :
      cleared_all shape.block r.position (layout shape R)
      ≡ without_expired shape (window shape (R ++ w ∷ [])) (layout shape R)
  unfolding stays
  oldest_expired =
      let T = layout shape R in
      let f = cleared shape.block r.position in
      let long : length (map (map f) T) ≡ length T = length-map T (map f) in
      let after : length (map (map stays) T) ≡ length T = length-map T (map stays) in
      same_tables (map (map f) T) (map (map stays) T) (long ∙ sym after) (λ b low.
      bucket-map f T b
      ∙ map-same f stays (bucket_at T b) (λ s there. expired-cleared b s there)
      ∙ sym (bucket-map stays T b))
