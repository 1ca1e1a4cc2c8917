-- A table that stands for records, when a write comes.
use Rattle.std.proofs.Common.{◌≡◌, ℕ, ◌+◌, ◌-◌, ◌<◌, ◌≤◌, ◌↔◌, inl, inr, refl, ap, sym}
use Rattle.std.proofs.Common.{◌∙◌, subst, arith, List, [], ◌∷◌, ◌++◌, length, drop, map, true, false}
use Rattle.std.proofs.Common.{cond, lt-ltb, le-ltb}
use Rattle.std.specs.Prelude.{nat_lt, None}
use Rattle.std.specs.List.{All}
use Rattle.std.proofs.lemmas.Bool.{cases_lt}
use Rattle.std.proofs.lemmas.List.{length-map, length-drop, length-append, drop_all}
use Rattle.std.proofs.lemmas.List.Elements.{All-head, All-tail, All-push, All-nil, All-weaker}
use Rattle.tk_shape.specs.declared.shape.Shape.{Shape}
use Rattle.tk_frames.specs.Order.{Record}
use Rattle.tk_place.specs.Place.{search_end}
use Rattle.tk_table.specs.Ordered.{AreOrdered}
use Rattle.tk_table.specs.Table.{Slot, SlotTable, slot_of, pair_in, window, layout}
use Rattle.tk_table.specs.Table.{layout_with, without_expired, others_from, placed_in, is_displaced, empty_table}
use Rattle.tk_table.specs.Laws.{left_for}
use Rattle.tk_table.specs.Stands.{Kept, position_of, TableStandsFor, IsWrite, slot_with, IsPair}
use Rattle.tk_table.specs.Steps.{cleared_all}
use Rattle.tk_table.specs.Inside.{IsKept, LatestWrites, EachHas, HasPair, IsKnown, with_room, without_first}
use Rattle.tk_table.proofs.OneMore.{layout-append, layout-none}
use Rattle.tk_table.proofs.LaidOut.{layout-laid_out}
use Rattle.tk_table.proofs.Layouts.{displaced-without_end}
use Rattle.tk_table.proofs.Windows.{window-push, window-goes_on, ordered-with}
use Rattle.tk_table.proofs.Holds.{empty_each}
use Rattle.tk_table.proofs.Expiring.{nothing_expired, oldest, oldest_expired}
use Rattle.tk_table.proofs.Knowing.{oldest_known, rest_known, one_more_known}

pub stands_for_none : (shape : Shape) (slots : SlotTable) (positions : List ℕ) →
    slots ≡ empty_table shape → positions ≡ [] →
    TableStandsFor (record { shape = shape; slots = slots; positions = positions }) []
stands_for_none shape slots positions empty none =
    record {
      slots = empty ∙ sym (layout-none shape);
      positions = none
          ∙ sym (ap (map position_of) (drop_all {X = Record} (0 - shape.retained) []
          (omega arith)));
    }

-- ---- room for one more

pub shape_with_room : (t : Kept) → (with_room t).shape ≡ t.shape
shape_with_room t =
    elim (nat_lt (length t.positions) t.shape.retained) as
    (λ b. (cond b t (without_first t t.positions)).shape ≡ t.shape)
    [ true ↦ refl | false ↦ first t.positions ]
  where
    first : (positions : List ℕ) → (without_first t positions).shape ≡ t.shape
    first [] = refl
    first (p ∷ ps) = refl

-- what the slots of a table have to be when w comes
abbrev RoomFor : Kept → List Record → Record → Kept → Type 0
RoomFor t R w next =
    (next.slots ≡ without_expired t.shape (window t.shape (R ++ w ∷ [])) (layout t.shape R))
    × (next.positions ≡ drop (length t.positions + 1 - t.shape.retained) t.positions)

room-first : (t : Kept) (R : List Record) (w : Record) (V : List Record) (positions : List ℕ) →
    TableStandsFor t R → AreOrdered t.shape R → AreOrdered t.shape (R ++ w ∷ []) →
    t.shape.retained ≤ length V → length V ≤ t.shape.retained → window t.shape R ≡ V →
    t.positions ≡ positions → positions ≡ map position_of V →
    RoomFor t R w (without_first t positions)
room-first t R w [] positions stands ordered with full few begins is at =
    absurd (let low = t.shape.in_range.retained_low in omega (arith, low, full))
room-first t R w (r ∷ rest) [] stands ordered with full few begins is at = absurd (cc at)
room-first t R w (r ∷ rest) (p ∷ ps) stands ordered with full few begins is at =
    let first : p ≡ position_of r = cc at in
    let low = t.shape.in_range.retained_low in
    let old = oldest t.shape R w r rest with begins
    (subst (λ n. t.shape.retained ≤ length n) (sym begins) full) in (
      ap (λ x. cleared_all t.shape.block x t.slots) first
          ∙ ap (cleared_all t.shape.block r.position) stands.slots
          ∙ oldest_expired t.shape R w r (layout-laid_out t.shape R ordered) old,
      sym (ap (λ n. drop n t.positions) one ∙ ap (drop 1) is),
    )
  where
    one : length t.positions + 1 - t.shape.retained ≡ 1
    one =
        let long : length t.positions ≡ length (r ∷ rest) =
        ap length is ∙ ap length at ∙ length-map (r ∷ rest) position_of in
        omega (arith, long, full, few)

room-made : (t : Kept) (R : List Record) (w : Record) → TableStandsFor t R →
    AreOrdered t.shape R → AreOrdered t.shape (R ++ w ∷ []) →
    length t.positions ≤ t.shape.retained → RoomFor t R w (with_room t)
room-made t R w stands ordered with few =
    let long : length t.positions ≡ length (window t.shape R) =
    ap length stands.positions ∙ length-map (window t.shape R) position_of in
    elim (cases_lt (length t.positions) t.shape.retained) [
      | inl room ↦ subst (λ b. RoomFor t R w (cond b t (without_first t t.positions)))
          (sym (lt-ltb (length t.positions) t.shape.retained room)) (
            stands.slots
                ∙ sym (nothing_expired t.shape R w (layout-laid_out t.shape R ordered)
                (omega (arith, long, room))),
            ap (λ n. drop n t.positions) {x = 0} {y = length t.positions + 1 - t.shape.retained}
                (omega (arith, room)),
          )
      | inr full ↦ subst (λ b. RoomFor t R w (cond b t (without_first t t.positions)))
          (sym (le-ltb (length t.positions) t.shape.retained full))
          (room-first t R w (window t.shape R) t.positions stands ordered with
          (omega (arith, long, full)) (omega (arith, long, few)) refl refl stands.positions)
    ]

-- ---- the write

abbrev slot_parts : ℕ → ℕ → ℕ → List ℕ → Slot
slot_parts p a b bytes = record { position = p; first = a; second = b; block = bytes }

write-slot : (w : Record) (position : ℕ) (pair : ℕ × ℕ) (block : List ℕ) →
    IsWrite w position pair block → slot_with position pair block ≡ slot_of w
write-slot w position pair block is =
    ap (λ n. slot_parts n pair.0 pair.1 block) (sym is.position)
    ∙ ap (λ n. slot_parts w.position n pair.1 block) (sym is.first)
    ∙ ap (λ n. slot_parts w.position w.write.first n block) (sym is.second)
    ∙ ap (slot_parts w.position w.write.first w.write.second) (sym is.block)

layout-made : (shape : Shape) (R : List Record) (w : Record) →
    placed_in (left_for shape R w) (slot_of w) ≡ layout shape (R ++ w ∷ [])
unfolding layout_with
layout-made shape R w = sym (layout-append shape R w)

-- a table of these
abbrev pub table_of : Shape → SlotTable → List ℕ → Kept
table_of shape slots positions = record { shape = shape; slots = slots; positions = positions }

module _ (old : Kept) (R : List Record) (w : Record) (position : ℕ) (pair : ℕ × ℕ)
    (block : List ℕ) (stands : TableStandsFor old R) (ordered : AreOrdered old.shape R)
    (is : IsWrite w position pair block) (low : 1 ≤ position)
    (above : All (λ p. p < position) old.positions)
    (within : IsPair old.shape pair) where
  in_order : AreOrdered old.shape (R ++ w ∷ [])
  in_order =
      let first = is.first in
      let second = is.second in
      ordered-with old.shape R w old.positions position ordered stands.positions is.position low
      above
      (record {
        first = omega (arith, first, within.0);
        second = omega (arith, second, within.1);
      })

  room : RoomFor old R w (with_room old)
  room =
      let long = ap length stands.positions ∙ length-map (window old.shape R) position_of in
      let cut = length-drop (length R - old.shape.retained) R in
      room-made old R w stands ordered in_order (omega (arith, long, cut))

  pub write_stands : (shape : Shape) (slots next : SlotTable) (positions later : List ℕ) →
      table_of shape slots positions ≡ with_room old →
      next ≡ placed_in slots (slot_with position pair block) →
      later ≡ positions ++ position ∷ [] →
      TableStandsFor (table_of shape next later) (R ++ w ∷ [])
  write_stands shape slots next positions later at placed pushed =
      let is_shape : shape ≡ old.shape = ap (λ (t : Kept). t.shape) at ∙ shape_with_room old in
      let left = left_for old.shape R w in
      let is_left : slots ≡ left = ap (λ (t : Kept). t.slots) at ∙ room.0 in
      subst (λ sh. TableStandsFor (table_of sh next later) (R ++ w ∷ [])) (sym is_shape) (record {
        slots = placed
            ∙ ap (λ T. placed_in T (slot_with position pair block)) is_left
            ∙ ap (placed_in left) (write-slot w position pair block is)
            ∙ layout-made old.shape R w;
        positions = pushed
            ∙ ap (λ ps. ps ++ position ∷ [])
            (ap (λ (t : Kept). t.positions) at ∙ room.1)
            ∙ sym (window-push old.shape old.positions position)
            ∙ ap (λ ps. window old.shape (ps ++ position ∷ [])) stands.positions
            ∙ ap (λ p. window old.shape (map position_of (window old.shape R) ++ p ∷ []))
            (sym is.position)
            ∙ window-goes_on old.shape position_of R w;
      })

  pub write_displaced : (shape : Shape) (slots : SlotTable) (positions : List ℕ) →
      table_of shape slots positions ≡ with_room old →
      (search_end (others_from 0 slots) pair ≡ None) ↔ (is_displaced old.shape R w ≡ true)
  write_displaced shape slots positions at =
      let left = left_for old.shape R w in
      let is_left : slots ≡ left = ap (λ (t : Kept). t.slots) at ∙ room.0 in
      let is_pair : pair_in w ≡ pair = ap (λ n. (n, w.write.second)) is.first
      ∙ ap (λ n. (pair.0, n)) is.second in
      subst (λ T. (search_end (others_from 0 T) pair ≡ None) ↔ (is_displaced old.shape R w ≡ true))
      (sym is_left)
      (subst (λ p. (search_end (others_from 0 left) p ≡ None) ↔ (is_displaced old.shape R w ≡ true))
      is_pair (displaced-without_end old.shape R w in_order))

-- what each of the positions has, each that is left has
room_each : (P : ℕ → Type 0) (t : Kept) → All P t.positions → All P (with_room t).positions
room_each P t h =
    elim (nat_lt (length t.positions) t.shape.retained) as
    (λ b. All P (cond b t (without_first t t.positions)).positions)
    [ true ↦ h | false ↦ first t.positions h ]
  where
    first : (positions : List ℕ) → All P positions → All P (without_first t positions).positions
    first [] each = h
    first (p ∷ ps) each = All-tail P p ps each

pub left_below : (old : Kept) (shape : Shape) (slots : SlotTable) (positions : List ℕ)
    (position : ℕ) → All (λ p. p < position) old.positions →
    table_of shape slots positions ≡ with_room old → All (λ p. p < position) positions
left_below old shape slots positions position above at =
    subst (All (λ p. p < position)) (sym (ap (λ (t : Kept). t.positions) at))
    (room_each (λ p. p < position) old above)

pub latest_writes : (old : Kept) (shape : Shape) (slots : SlotTable) (positions later : List ℕ)
    (position : ℕ) → All (λ p. p < position) old.positions →
    table_of shape slots positions ≡ with_room old → later ≡ positions ++ position ∷ [] →
    All (λ p. p ≤ position) later
latest_writes old shape slots positions later position above at pushed =
    subst (All (λ p. p ≤ position)) (sym pushed)
    (All-push (λ p. p ≤ position) positions position
    (All-weaker (λ p. p < position) (λ p. p ≤ position) (λ p low. omega (arith, low)) positions
    (left_below old shape slots positions position above at)) (omega arith))

-- ---- the insides

abbrev latest_of : ℕ → List ℕ → List (ℕ × ℕ) → LatestWrites
latest_of room positions pairs = record { room = room; positions = positions; pairs = pairs }

module _ (shape own : Shape) (places : ℕ) (slots : SlotTable) (latest : LatestWrites)
    (p : ℕ) (q : ℕ × ℕ) (ps : List ℕ) (qs : List (ℕ × ℕ))
    (kept : IsKept shape own places slots latest) (positions : latest.positions ≡ p ∷ ps)
    (pairs : latest.pairs ≡ q ∷ qs) where
  known : EachHas (IsKnown (p ∷ ps) (q ∷ qs)) slots
  known =
      subst (λ xs. EachHas (IsKnown (p ∷ ps) xs) slots) pairs
      (subst (λ xs. EachHas (IsKnown xs latest.pairs) slots) positions kept.known)

  -- the oldest write's buckets are known
  pub oldest_pair : IsPair own q
  oldest_pair =
      subst (λ sh. IsPair sh q) (sym kept.same)
      (All-head (IsPair shape) q qs (subst (All (IsPair shape)) pairs kept.pairs))

  pub oldest_own : EachHas (HasPair p q) slots
  oldest_own = oldest_known p q ps qs slots known

  -- and when it leaves the others' are
  pub kept_without : (next : Shape) (left : SlotTable) (room : ℕ) → next ≡ own →
      left ≡ cleared_all own.block p slots → room ≡ latest.room →
      IsKept shape next places left (latest_of room ps qs)
  kept_without next left room same emptied space =
      let enough = kept.space in
      let long = ap length positions in
      let few = kept.few in
      let beside = kept.beside in
      let others = ap length pairs in
      record {
        same = same ∙ kept.same;
        whole = kept.whole;
        space = omega (arith, enough, space);
        few = omega (arith, few, long);
        beside = omega (arith, beside, others, long);
        pairs = All-tail (IsPair shape) q qs (subst (All (IsPair shape)) pairs kept.pairs);
        known = subst (EachHas (IsKnown ps qs)) (sym emptied)
            (rest_known own.block p q ps qs slots known);
      }

pub kept_with : (shape own next : Shape) (places more : ℕ) (slots filled : SlotTable)
    (latest : LatestWrites) (room : ℕ) (ps : List ℕ) (qs : List (ℕ × ℕ)) (position : ℕ)
    (pair : ℕ × ℕ) (block : List ℕ) → IsKept shape own places slots latest → next ≡ own →
    more ≡ places → filled ≡ placed_in slots (slot_with position pair block) →
    room ≡ latest.room → ps ≡ latest.positions ++ position ∷ [] → qs ≡ latest.pairs ++ pair ∷ [] →
    length latest.positions < shape.retained → All (λ p. p < position) latest.positions →
    IsPair shape pair → IsKept shape next more filled (latest_of room ps qs)
kept_with shape own next places more slots filled latest room ps qs position pair block kept same
    size placed space pushed others few above within =
    let enough = kept.space in
    let long = ap length pushed ∙ length-append latest.positions (position ∷ []) in
    let wide = ap length others ∙ length-append latest.pairs (pair ∷ []) in
    let beside = kept.beside in
    record {
      same = same ∙ kept.same;
      whole = size ∙ kept.whole;
      space = omega (arith, enough, space);
      few = omega (arith, long, few);
      beside = omega (arith, beside, long, wide);
      pairs = subst (All (IsPair shape)) (sym others)
          (All-push (IsPair shape) latest.pairs pair kept.pairs within);
      known = subst (λ xs. EachHas (IsKnown xs qs) filled) (sym pushed)
          (subst (λ xs. EachHas (IsKnown (latest.positions ++ position ∷ []) xs) filled)
          (sym others)
          (subst (EachHas (IsKnown (latest.positions ++ position ∷ []) (latest.pairs ++ pair ∷ [])))
          (sym placed)
          (one_more_known latest.positions latest.pairs slots (slot_with position pair block) pair
          kept.beside above refl kept.known)));
    }

-- nothing is in an empty table
pub kept_none : (shape own : Shape) (places : ℕ) (slots : SlotTable) (latest : LatestWrites) →
    own ≡ shape → places ≡ shape.buckets → slots ≡ empty_table shape →
    shape.retained ≤ latest.room → latest.positions ≡ [] → latest.pairs ≡ [] →
    IsKept shape own places slots latest
kept_none shape own places slots latest same whole empty space positions pairs =
    let none = ap length positions in
    let nothing = ap length pairs in
    record {
      same = same;
      whole = whole;
      space = space;
      few = omega (arith, none);
      beside = omega (arith, none, nothing);
      pairs = subst (All (IsPair shape)) (sym pairs) (All-nil (IsPair shape));
      known = subst (EachHas (IsKnown latest.positions latest.pairs)) (sym empty)
          (empty_each (λ _. IsKnown latest.positions latest.pairs) shape (λ _. inl refl));
    }
