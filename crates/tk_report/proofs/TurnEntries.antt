-- The entries of a turn, one by one.
use Rattle.std.proofs.Common.{◌≡◌, ℕ, suc, ◌+◌, ap₂, List, [], ◌∷◌, ◌++◌, length}
use Rattle.std.proofs.Common.{cond, refl, ap, sym, ◌∙◌, arith, count_by, append_assoc, length-append}
use Rattle.std.proofs.lemmas.List.Sums.{sum_by-cons, sum_by-append}
use Rattle.tk_schedule.specs.declared.item.Item.{Item}
use Rattle.tk_schedule.specs.declared.item.Item.TheVariants.{Client, Publish}
use Rattle.tk_frames.specs.declared.write_frame.WriteFrame.{WriteFrame}
use Rattle.tk_frames.specs.declared.entry.Placed.{Placed}
use Rattle.tk_frames.specs.declared.entry.Entry.TheVariants.{Write, Mark}
use Rattle.tk_frames.specs.Order.{is_mark_entry}
use Rattle.tk_schedule.specs.Schedule.{is_mark}
use Rattle.tk_report.specs.Entries.{placed_from, placed_after}
use Rattle.tk_report.specs.Turns.{entry_due}

item_cons : (x : Item) (xs : List Item) → count_by is_mark (x ∷ xs)
    ≡ cond (is_mark x) 1 0 + count_by is_mark xs
item_cons x xs = sum_by-cons (λ y. cond (is_mark y) 1 0) x xs

pub placed_from-append : (write : ℕ → WriteFrame) (position e : ℕ) (xs : List Item) (x : Item) →
    placed_from write position e (xs ++ x ∷ [])
    ≡ placed_from write position e xs
    ++ record {
      position = position + length xs;
      entry = entry_due write (e + count_by is_mark xs) x;
    } ∷ []
unfolding placed_from
placed_from-append write position e [] (Client c) =
    ap (λ n. record { position = n; entry = Write (write c) } ∷ []) here
  where
    here : position ≡ position + 0
    here = omega arith
placed_from-append write position e [] Publish =
    ap₂ (λ n k. record { position = n; entry = Mark k } ∷ []) here there
  where
    here : position ≡ position + 0
    here = omega arith

    there : e ≡ e + 0
    there = omega arith
placed_from-append write position e (Client c ∷ xs) x =
    let at : position + 1 + length xs ≡ position + length (Client c ∷ xs) = omega arith in
    let marks : e + count_by is_mark xs ≡ e + count_by is_mark (Client c ∷ xs) =
    omega (arith, item_cons (Client c) xs)
    in
    ap (λ ps. record { position = position; entry = Write (write c) } ∷ ps)
    (placed_from-append write (position + 1) e xs x
    ∙ ap₂ (λ n k. placed_from write (position + 1) e xs
    ++ record { position = n; entry = entry_due write k x } ∷ []) at marks)
placed_from-append write position e (Publish ∷ xs) x =
    let at : position + 1 + length xs ≡ position + length (Publish ∷ xs) = omega arith in
    let marks : e + 1 + count_by is_mark xs ≡ e + count_by is_mark (Publish ∷ xs) =
    omega (arith, item_cons Publish xs)
    in
    ap (λ ps. record { position = position; entry = Mark e } ∷ ps)
    (placed_from-append write (position + 1) (e + 1) xs x
    ∙ ap₂ (λ n k. placed_from write (position + 1) (e + 1) xs
    ++ record { position = n; entry = entry_due write k x } ∷ []) at marks)

pub length-placed_from : (write : ℕ → WriteFrame) (position e : ℕ) (xs : List Item) →
    length (placed_from write position e xs) ≡ length xs
unfolding placed_from
length-placed_from write position e [] = refl
length-placed_from write position e (Client c ∷ xs) =
    ap suc (length-placed_from write (position + 1) e xs)
length-placed_from write position e (Publish ∷ xs) =
    ap suc (length-placed_from write (position + 1) (e + 1) xs)

pub marks-placed_from : (write : ℕ → WriteFrame) (position e : ℕ) (xs : List Item) →
    count_by is_mark_entry (placed_from write position e xs) ≡ count_by is_mark xs
unfolding placed_from
marks-placed_from write position e [] = refl
marks-placed_from write position e (Client c ∷ xs) =
    omega (
      arith,
      sum_by-cons (λ q. cond (is_mark_entry q) 1 0)
          (record { position = position; entry = Write (write c) })
          (placed_from write (position + 1) e xs),
      marks-placed_from write (position + 1) e xs,
      item_cons (Client c) xs,
    )
marks-placed_from write position e (Publish ∷ xs) =
    omega (
      arith,
      sum_by-cons (λ q. cond (is_mark_entry q) 1 0)
          (record { position = position; entry = Mark e })
          (placed_from write (position + 1) (e + 1) xs),
      marks-placed_from write (position + 1) (e + 1) xs,
      item_cons Publish xs,
    )

-- one more item of a turn: its entry stands after all
pub placed_after-append : (write : ℕ → WriteFrame) (E : List Placed) (xs : List Item) (x : Item) →
    let all = E ++ placed_after write E xs in
    E ++ placed_after write E (xs ++ x ∷ [])
    ≡ all ++ record {
      position = length all + 1;
      entry = entry_due write (count_by is_mark_entry all + 1) x;
    } ∷ []
placed_after-append write E xs x =
    let marks = count_by is_mark_entry E in
    let turn = placed_from write (length E + 1) (marks + 1) xs in
    let at : length E + 1 + length xs ≡ length (E ++ turn) + 1 =
    omega (arith, length-append E turn, length-placed_from write (length E + 1) (marks + 1) xs)
    in
    let counted : marks + 1 + count_by is_mark xs ≡ count_by is_mark_entry (E ++ turn) + 1 =
    omega (
      arith,
      sum_by-append (λ q. cond (is_mark_entry q) 1 0) E turn,
      marks-placed_from write (length E + 1) (marks + 1) xs,
    )
    in
    ap (λ ps. E ++ ps) (placed_from-append write (length E + 1) (marks + 1) xs x)
    ∙ sym (append_assoc E turn
    (record {
      position = length E + 1 + length xs;
      entry = entry_due write (marks + 1 + count_by is_mark xs) x;
    } ∷ []))
    ∙ ap₂ (λ n k. (E ++ turn) ++ record { position = n; entry = entry_due write k x } ∷ [])
    at counted
