-- The entries that a turn brings are those of an order of the turn.
use Rattle.std.proofs.Common.{◌≡◌, ℕ, zero, suc, ◌+◌, ◌-◌, ◌<◌, ◌≤◌, ◌==◌, ◌⊎◌, inl, inr, cond, List, [], ◌∷◌, length}
use Rattle.std.proofs.Common.{get_or, refl, ap, sym, ◌∙◌, subst, arith, count_by, ext_get_or}
use Rattle.std.specs.Prelude.{replicate, slice_set}
use Rattle.std.proofs.lemmas.Bool.Decides.{nat_tests}
use Rattle.std.proofs.lemmas.List.Sums.{sum_by-cons}
use Rattle.std.proofs.lemmas.List.{length-replicate, get_or-replicate, length-set, get_or-set_same, get_or-set_other}
use mathlib.Core.Logic.{dite}
use native.Mathlib.Decide.{ℕ_discrete}
use Rattle.tk_shape.specs.declared.shape.Shape.{Shape}
use Rattle.tk_frames.specs.declared.write_frame.WriteFrame.{WriteFrame}
use Rattle.tk_frames.specs.declared.entry.Placed.{Placed}
use Rattle.tk_frames.specs.declared.entry.Entry.{Entry}
use Rattle.tk_frames.specs.declared.entry.Entry.TheVariants.{Write, Mark}
use Rattle.tk_frames.specs.InOrder.{HasNumber, number_after, IsOrderFrom}
use Rattle.tk_frames.proofs.Offers.{from-entry}
use Rattle.tk_schedule.specs.declared.item.Item.{Item}
use Rattle.tk_schedule.specs.declared.item.Item.TheVariants.{Client, Publish}
use Rattle.tk_schedule.specs.Schedule.{is_of, is_mark}
use Rattle.tk_order.specs.Legality.{number_of, seat_of, of}
use Rattle.tk_report.specs.Entries.{placed_from}
use Rattle.tk_report.specs.Histories.{item_in, items_in}
use Rattle.tk_order.proofs.Offers.{of_here, of_other}
use Rattle.tk_run.specs.declared.pinned_write.PinnedWrite.{PinnedWrite}
use Rattle.tk_run.specs.Ran.{placed_clients}
use Rattle.tk_run.proofs.EntryLists.{Ranged, length_of, one_at, one_there, ranged_at}

-- ---- each write is its client's

abbrev pub IsOwn : (ℕ → WriteFrame) → Entry → Type 0
IsOwn write (Write f) = f ≡ write f.client
IsOwn write (Mark e) = Unit {0}

abbrev pub AllOwn : (ℕ → WriteFrame) → List Placed → Type 0
AllOwn write [] = Unit {0}
AllOwn write (p ∷ E) = IsOwn write p.entry × AllOwn write E

-- what a client's number has of it
abbrev pub OwnUnder : (ℕ → WriteFrame) → ℕ → List Placed → Type 0
OwnUnder write n E = (c : ℕ) → c < n → AllOwn write (of (c + 1) E)

own_first : (write : ℕ → WriteFrame) (n : ℕ) (p : Placed) (x : Entry) (E : List Placed) →
    p.entry ≡ x → number_of x ≤ n → OwnUnder write n (p ∷ E) → IsOwn write x
own_first write n p (Mark e) E is low h = tt
own_first write n p (Write f) E is low h =
    let here : of (f.client + 1) (p ∷ E) ≡ p ∷ of (f.client + 1) E =
    of_here (f.client + 1) p E (ap number_of is)
    in
    let own : AllOwn write (p ∷ of (f.client + 1) E) =
    subst (AllOwn write) here (h f.client (omega (arith, low)))
    in
    subst (IsOwn write) is own.0

own_rest : (write : ℕ → WriteFrame) (k : ℕ) (p : Placed) (E : List Placed) →
    AllOwn write (of k (p ∷ E)) → AllOwn write (of k E)
own_rest write k p E h = dite (ℕ_discrete (seat_of p) k)
    (λ is. let own : AllOwn write (p ∷ of k E) = subst (AllOwn write) (of_here k p E is) h in own.1)
    (λ isnt. subst (AllOwn write) (of_other k p E isnt) h)

pub all_own : (write : ℕ → WriteFrame) (n : ℕ) (E : List Placed) → Ranged n E →
    OwnUnder write n E → AllOwn write E
all_own write n [] r h = tt
all_own write n (p ∷ E) r h = (
  own_first write n p p.entry E refl r.0 h,
  all_own write n E r.1 (λ c low. own_rest write (c + 1) p E (h c low)),
)

-- ---- such entries are those of their items

read_first : (write : ℕ → WriteFrame) (place due at : ℕ) (x : Entry) (E : List Placed) →
    at ≡ place → HasNumber due x → IsOwn write x →
    placed_from write (place + 1) (number_after due x) (items_in E) ≡ E →
    placed_from write place due (item_in x ∷ items_in E) ≡ record { position = at; entry = x } ∷ E
unfolding placed_from
read_first write place due at (Write f) E here number own rest =
    λ i. record { position = sym here i; entry = Write (sym own i) } ∷ rest i
read_first write place due at (Mark n) E here number own rest =
    λ i. record { position = sym here i; entry = Mark (sym number i) } ∷ rest i

pub read_off : (shape : Shape) (write : ℕ → WriteFrame) (place due : ℕ) (E : List Placed) →
    IsOrderFrom shape place due E → AllOwn write E → placed_from write place due (items_in E) ≡ E
unfolding placed_from
read_off shape write place due [] order own = refl
read_off shape write place due (p ∷ E) order own =
    read_first write place due p.position p.entry E (order.0).at (order.0).number own.0
    (read_off shape write (place + 1) (number_after due p.entry) E order.1 own.1)

-- ---- how many there are

pub length_items : (E : List Placed) → length (items_in E) ≡ length E
length_items [] = refl
length_items (p ∷ E) = ap suc (length_items E)

same_client : (c : ℕ) (x : Entry) →
    ◌≡◌ {A = ℕ} (cond (is_of c (item_in x)) 1 0) (cond (number_of x == c + 1) 1 0)
same_client c (Write f) = grind (arith, nat_tests)
same_client c (Mark e) = grind (arith, nat_tests)

same_mark : (x : Entry) →
    ◌≡◌ {A = ℕ} (cond (is_mark (item_in x)) 1 0) (cond (number_of x == 0) 1 0)
same_mark (Write f) = grind (arith, nat_tests)
same_mark (Mark e) = grind (arith, nat_tests)

pub count_clients : (c : ℕ) (E : List Placed) →
    count_by (is_of c) (items_in E) ≡ length (of (c + 1) E)
count_clients c [] = refl
count_clients c (p ∷ E) =
    omega (
      arith,
      sum_by-cons (λ x. cond (is_of c x) 1 0) (item_in p.entry) (items_in E),
      same_client c p.entry,
      count_clients c E,
      length_of (c + 1) p E,
    )

pub count_marks : (E : List Placed) → count_by is_mark (items_in E) ≡ length (of 0 E)
count_marks [] = refl
count_marks (p ∷ E) =
    omega (
      arith,
      sum_by-cons (λ x. cond (is_mark x) 1 0) (item_in p.entry) (items_in E),
      same_mark p.entry,
      count_marks E,
      length_of 0 p E,
    )

-- ---- the items by where the clients' writes stand

items_at : (E : List Placed) (i : ℕ) (q : Placed) (d : Item) → i < length E →
    get_or (items_in E) i d ≡ item_in (get_or E i q).entry
items_at [] i q d low = absurd (omega (arith, low))
items_at (p ∷ E) zero q d low = refl
items_at (p ∷ E) (suc i) q d low = items_at E i q d (omega (arith, low))

-- the one entry of each client, from client c on, stands where its deed says
abbrev pub AtPlaces : (ℕ → WriteFrame) → List Placed → ℕ → List PinnedWrite → Type 0
AtPlaces write E c [] = Unit {0}
AtPlaces write E c (d ∷ ds) =
    (of (c + 1) E ≡ record { position = d.position; entry = Write (write c) } ∷ [])
    × AtPlaces write E (c + 1) ds

-- an item is that of its entry, or is the mark in place of a client from c on
abbrev IsDone : ℕ → Item → Placed → Type 0
IsDone c x p = (x ≡ item_in p.entry) ⊎ (c < seat_of p)

abbrev AreDone : ℕ → List Item → List Placed → Type 0
AreDone c items E =
    (i : ℕ) (x : Item) (q : Placed) → i < length E → IsDone c (get_or items i x) (get_or E i q)

none_done : (x : Entry) → (Publish ≡ item_in x) ⊎ (0 < number_of x)
none_done (Write f) = inr (omega arith)
none_done (Mark e) = inl refl

module _ (shape : Shape) (write : ℕ → WriteFrame) (own : (c : ℕ) → (write c).client ≡ c)
    (start due : ℕ) (E : List Placed) (order : IsOrderFrom shape (start + 1) due E)
    (ranged : Ranged shape.clients E) where
  -- the entry of a client in its place
  here_done : (c : ℕ) (d : PinnedWrite) (q : Placed) →
      of (c + 1) E ≡ record { position = d.position; entry = Write (write c) } ∷ [] →
      (d.position - start - 1 < length E)
      × (get_or E (d.position - start - 1) q
      ≡ record { position = d.position; entry = Write (write c) })
  here_done c d q one =
      let x : Placed = record { position = d.position; entry = Write (write c) } in
      let found = one_there (c + 1) E q x one in
      let k = found.0 in
      let at : (get_or E k q).position ≡ start + 1 + k =
      (from-entry shape (start + 1) due E k q order found.1).at
      in
      let position : d.position ≡ start + 1 + k = ap (λ (p : Placed). p.position) (sym found.2) ∙ at in
      let place : k ≡ d.position - start - 1 = omega (arith, position) in (
        subst (λ j. j < length E) place found.1,
        subst (λ j. get_or E j q ≡ x) place found.2,
      )

  pub place_within : (c : ℕ) (d : PinnedWrite) →
      of (c + 1) E ≡ record { position = d.position; entry = Write (write c) } ∷ [] →
      (k : ℕ) × (k < length E) × (d.position ≡ start + 1 + k)
  place_within c d one =
      let x : Placed = record { position = d.position; entry = Write (write c) } in
      let found = one_there (c + 1) E x x one in
      let at : (get_or E found.0 x).position ≡ start + 1 + found.0 =
      (from-entry shape (start + 1) due E found.0 x order found.1).at
      in
      (found.0, found.1, ap (λ (p : Placed). p.position) (sym found.2) ∙ at)

  -- an entry of a client stands in its place
  place_of : (c : ℕ) (d : PinnedWrite) (i : ℕ) (q : Placed) →
      of (c + 1) E ≡ record { position = d.position; entry = Write (write c) } ∷ [] →
      i < length E → seat_of (get_or E i q) ≡ c + 1 → i ≡ d.position - start - 1
  place_of c d i q one low seat =
      let x : Placed = record { position = d.position; entry = Write (write c) } in
      let is : get_or E i q ≡ x = one_at (c + 1) E i q x one low seat in
      let at : (get_or E i q).position ≡ start + 1 + i =
      (from-entry shape (start + 1) due E i q order low).at
      in
      let position : d.position ≡ start + 1 + i = ap (λ (p : Placed). p.position) (sym is) ∙ at in
      omega (arith, position)

  done_next : (c : ℕ) (d : PinnedWrite) (items : List Item) → length items ≡ length E →
      of (c + 1) E ≡ record { position = d.position; entry = Write (write c) } ∷ [] →
      AreDone c items E →
      AreDone (c + 1) (slice_set items (d.position - start - 1) (Client c)) E
  done_next c d items len one done i x q low =
      let j = d.position - start - 1 in
      let here = here_done c d q one in
      dite (ℕ_discrete i j)
      (λ is.
      let set : get_or (slice_set items j (Client c)) i x ≡ Client c =
      ap (λ k. get_or (slice_set items j (Client c)) k x) is
      ∙ get_or-set_same items j (Client c) x (omega (arith, len, here.0))
      in
      let item : item_in (get_or E i q).entry ≡ Client c =
      ap (λ k. item_in (get_or E k q).entry) is ∙ (ap (λ (p : Placed). item_in p.entry) here.1
      ∙ ap Client (own c))
      in
      inl (set ∙ sym item))
      (λ isnt.
      let kept : get_or (slice_set items j (Client c)) i x ≡ get_or items i x =
      get_or-set_other items j i (Client c) x isnt
      in
      elim (done i x q low) [
        | inl is ↦ inl (kept ∙ is)
        | inr later ↦ dite (ℕ_discrete (seat_of (get_or E i q)) (c + 1))
            (λ mine. absurd (isnt (place_of c d i q one low mine)))
            (λ other. inr (omega (arith, later, other)))
      ])

  all_done : (c : ℕ) (ds : List PinnedWrite) (items : List Item) (blank : Placed) →
      length items ≡ length E → c + length ds ≡ shape.clients → AtPlaces write E c ds →
      AreDone c items E → placed_clients start c ds items ≡ items_in E
  all_done c [] items blank len all places done =
      ext_get_or Publish items (items_in E) (len ∙ sym (length_items E))
      (λ i low.
      let inside : i < length E = omega (arith, low, len) in
      elim (done i Publish blank inside) [
        | inl is ↦ is ∙ sym (items_at E i blank Publish inside)
        | inr later ↦ absurd (omega (arith, later, all, ranged_at shape.clients E i blank ranged inside))
      ])
  all_done c (d ∷ ds) items blank len all places done =
      let j = d.position - start - 1 in
      all_done (c + 1) ds (slice_set items j (Client c)) blank
      (length-set items j (Client c) ∙ len) (omega (arith, all)) places.1
      (done_next c d items len places.0 done)

  -- the order that is made of the places of the clients' writes has the items of the entries
  pub order_built : (ds : List PinnedWrite) (n : ℕ) → n ≡ length E → length ds ≡ shape.clients →
      AtPlaces write E 0 ds → placed_clients start 0 ds (replicate n Publish) ≡ items_in E
  order_built ds n long all places =
      let blank : Placed = record { position = 0; entry = Mark 0 } in
      all_done 0 ds (replicate n Publish) blank (length-replicate n Publish ∙ long)
      (omega (arith, all)) places
      (λ i x q low.
      let at : get_or (replicate n Publish) i x ≡ Publish =
      get_or-replicate n i Publish x (omega (arith, low, long))
      in
      elim (none_done (get_or E i q).entry) [
        | inl is ↦ inl (at ∙ is)
        | inr later ↦ inr later
      ])
