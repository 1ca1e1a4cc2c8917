-- What tells a legal history.
use Rattle.std.proofs.Common.{◌≡◌, refl, ap, sym, ◌∙◌, subst, arith, inl, inr, ℕ, zero, suc, ◌+◌, ◌<◌, ◌≤◌}
use Rattle.std.proofs.lemmas.Bool.{cases_lt}
use Rattle.std.proofs.Common.{List, [], ◌∷◌, ◌++◌, length, count_by, length-append}
use Rattle.std.specs.Prelude.{slice_index_or}
use Rattle.std.proofs.lemmas.List.{ext_get_or}
use Rattle.tk_shape.specs.declared.shape.Shape.{Shape}
use Rattle.tk_shape.specs.Lengths.{turn_count}
use Rattle.tk_schedule.specs.declared.item.Item.{Item}
use Rattle.tk_schedule.specs.declared.item.Item.TheVariants.{Client, Publish}
use Rattle.tk_schedule.specs.declared.history.History.{History}
use Rattle.tk_schedule.specs.Schedule.{order_at, blank_turn, IsLegal}
use Rattle.tk_schedule.proofs.Offers.{same_epochs, same_turn}
use Rattle.tk_frames.specs.declared.write_frame.WriteFrame.{WriteFrame}
use Rattle.tk_frames.specs.declared.entry.Placed.{Placed}
use Rattle.tk_frames.specs.declared.entry.Entry.{Entry}
use Rattle.tk_frames.specs.declared.entry.Entry.TheVariants.{Write, Mark}
use Rattle.tk_frames.specs.Order.{is_mark_entry}
use Rattle.tk_report.proofs.TurnEntries.{length-placed_from}
use Rattle.tk_report.specs.Entries.{write_at, placed_from, placed_after, entries_before}
use Rattle.tk_report.specs.Agreement.{SameOrders}
use Rattle.tk_report.proofs.WrittenLaws.{write_at-client}
use Rattle.tk_report.specs.Histories.{OrdersAndEpochsTell, EntriesTellOrders, item_in, items_in}
use Rattle.tk_report.specs.Histories.{IsOfTurn, next_mark, TurnsReadOff}

-- ---- orders and epochs

pub orders-and_epochs-tell : OrdersAndEpochsTell
orders-and_epochs-tell shape H K legal also orders epochs =
    let counted = legal.turns_counted in
    ext_get_or blank_turn H K (counted ∙ sym also.turns_counted)
    (λ g within.
    let low : g < turn_count shape = omega (arith, within, counted) in
    let a = slice_index_or H g blank_turn in
    let b = slice_index_or K g blank_turn in
    let one = legal.each_turn g low in
    let two = also.each_turn g low in
    same_turn a b (orders g low)
    (same_epochs shape g a b one two
    (λ closing. ext_get_or 0 a.epochs b.epochs (one.readers ∙ sym two.readers)
    (λ c client. epochs g c low closing (omega (arith, client, one.readers))))))

-- ---- entries

-- two lists in front of two, of which those in front are of one length
cut_at : {X : Type 0} (a b x y : List X) → length a ≡ length b → a ++ x ≡ b ++ y →
    (a ≡ b) × (x ≡ y)
cut_at [] [] x y long e = (refl, e)
cut_at [] (d ∷ b) x y long e = absurd (omega (arith, long))
cut_at (c ∷ a) [] x y long e = absurd (omega (arith, long))
cut_at (c ∷ a) (d ∷ b) x y long e =
    let rest = cut_at a b x y (omega (arith, long)) (tails c d (a ++ x) (b ++ y) e) in
    (both c d a b (heads c d (a ++ x) (b ++ y) e) rest.0, rest.1)
  where
    heads : {X : Type 0} (c d : X) (s t : List X) → c ∷ s ≡ d ∷ t → c ≡ d
    heads c d s t e = cc e

    tails : {X : Type 0} (c d : X) (s t : List X) → c ∷ s ≡ d ∷ t → s ≡ t
    tails c d s t e = cc e

    both : {X : Type 0} (c d : X) (s t : List X) → c ≡ d → s ≡ t → c ∷ s ≡ d ∷ t
    both c d s t p q = cc (p, q)

-- where each write has its client's number, a turn's items are told by its entries
items-placed : (write : ℕ → WriteFrame) (p e : ℕ) (items : List Item) →
    ((c : ℕ) → (write c).client ≡ c) → items_in (placed_from write p e items) ≡ items
unfolding placed_from
items-placed write p e [] own = refl
items-placed write p e (Client c ∷ items) own =
    λ i. Client (own c i) ∷ items-placed write (p + 1) e items own i
items-placed write p e (Publish ∷ items) own =
    ap (λ xs. Publish ∷ xs) (items-placed write (p + 1) (e + 1) items own)

-- the turns before a turn have so many entries, whatever their order
entries-length : (shape : Shape) (write : ℕ → ℕ → WriteFrame) (H K : History) (g : ℕ) →
    IsLegal shape H → IsLegal shape K → g ≤ turn_count shape →
    length (entries_before write H g) ≡ length (entries_before write K g)
unfolding entries_before
entries-length shape write H K zero legal also within = refl
entries-length shape write H K (suc g) legal also within =
    let low : g < turn_count shape = omega (arith, within) in
    let E = entries_before write H g in
    let F = entries_before write K g in
    let one = legal.each_turn g low in
    let two = also.each_turn g low in
    omega (
      arith,
      length-append E (placed_after (write g) E (order_at H g)),
      length-append F (placed_after (write g) F (order_at K g)),
      entries-length shape write H K g legal also (omega (arith, within)),
      length-placed_from (write g) (length E + 1) (count_by is_mark_entry E + 1) (order_at H g),
      length-placed_from (write g) (length F + 1) (count_by is_mark_entry F + 1) (order_at K g),
      one.counted,
      two.counted,
    )

entries-tell : (shape : Shape) (write : ℕ → ℕ → WriteFrame) (H K : History) (g : ℕ) →
    IsLegal shape H → IsLegal shape K → ((k c : ℕ) → (write k c).client ≡ c) →
    g ≤ turn_count shape → entries_before write H g ≡ entries_before write K g → SameOrders H K g
unfolding entries_before
entries-tell shape write H K zero legal also own within e k low = absurd (omega (arith, low))
entries-tell shape write H K (suc g) legal also own within e k low =
    let E = entries_before write H g in
    let F = entries_before write K g in
    let cut = cut_at E F (placed_after (write g) E (order_at H g))
    (placed_after (write g) F (order_at K g))
    (entries-length shape write H K g legal also (omega (arith, within))) e
    in
    elim (cases_lt k g) [
      | inl before ↦ entries-tell shape write H K g legal also own (omega (arith, within)) cut.0 k
          before
      | inr not_before ↦
          let same : g ≡ k = omega (arith, low, not_before) in
          subst (λ j. order_at H j ≡ order_at K j) same
          (sym (items-placed (write g) (length E + 1) (count_by is_mark_entry E + 1) (order_at H g)
          (own g))
          ∙ ap items_in cut.1
          ∙ items-placed (write g) (length F + 1) (count_by is_mark_entry F + 1) (order_at K g)
          (own g))
    ]

pub entries-tell-orders : EntriesTellOrders
entries-tell-orders S w H K legal also e =
    entries-tell S.shape (write_at S w) H K (turn_count S.shape) legal also
    (λ g c. write_at-client S w g c) (omega arith) e

-- ---- the items of entries

pub turns-read_off : TurnsReadOff
unfolding placed_from
turns-read_off write position e [] are = refl
turns-read_off write position e (p ∷ ps) are =
    read-off write position e p.position p.entry ps are.0 are.1
    (turns-read_off write (position + 1) (next_mark e p.entry) ps are.2)
  where
    read-off : (write : ℕ → WriteFrame) (position e at : ℕ) (x : Entry) (ps : List Placed) →
        at ≡ position → IsOfTurn write e x →
        placed_from write (position + 1) (next_mark e x) (items_in ps) ≡ ps →
        placed_from write position e (item_in x ∷ items_in ps)
        ≡ record { position = at; entry = x } ∷ ps
    read-off write position e at (Write f) ps here own rest =
        λ i. record { position = sym here i; entry = Write (sym own i) } ∷ rest i
    read-off write position e at (Mark n) ps here own rest =
        λ i. record { position = sym here i; entry = Mark (sym own i) } ∷ rest i
