-- Where the positions of a window stand in its bytes.
use Rattle.std.proofs.Common.{◌≡◌, ℕ, zero, suc, ◌+◌, ◌*◌, ◌<◌, ◌≤◌, List, length, get_or, drop}
use Rattle.std.proofs.Common.{refl, sym, ap, ◌∙◌, subst, arith, inl, inr}
use Rattle.std.proofs.lemmas.Bool.{cases_lt}
use Rattle.std.proofs.lemmas.List.{drop-drop}
use Rattle.tk_frames.specs.Fields.{long_at}
use Rattle.tk_table.specs.Restoring.{AreAscending}
use Rattle.tk_checkpoint.specs.Reading.{positions_from}
use Rattle.tk_checkpoint.proofs.Flags.{rising}

pub length-positions : (hits count : ℕ) (bytes : List ℕ) → length (positions_from hits count bytes) ≡ count
unfolding positions_from
length-positions hits zero bytes = refl
length-positions hits (suc count) bytes = ap suc (length-positions hits count (drop (8 + 4 * hits) bytes))

pub position_at : (hits count i : ℕ) (bytes : List ℕ) → i < count →
    get_or (positions_from hits count bytes) i 0 ≡ long_at (i * (8 + 4 * hits)) bytes
unfolding positions_from
position_at hits zero i bytes low = absurd (omega arith)
position_at hits (suc count) zero bytes low =
    let none : 0 * (8 + 4 * hits) ≡ 0 = omega arith in ap (λ n. long_at n bytes) (sym none)
position_at hits (suc count) (suc i) bytes low =
    let len = 8 + 4 * hits in
    let more : len + i * len ≡ suc i * len = omega arith in
    position_at hits count i (drop len bytes) (omega (arith, low))
    ∙ ap (λ ys. long_at 0 ys) (drop-drop (i * len) len bytes)
    ∙ ap (λ n. long_at n bytes) more

-- ---- a search among positions that ascend

module _ (hits count middle position there : ℕ) (bytes : List ℕ) (low : middle < count)
    (ascending : AreAscending 1 (positions_from hits count bytes)) (read : there ≡ long_at (middle * (8 + 4 * hits)) bytes) where
  pub there_is : get_or (positions_from hits count bytes) middle 0 ≡ there
  there_is = position_at hits count middle bytes low ∙ sym read

  -- where the one in the middle is below, it and all before it are
  pub lower : there < position → (i : ℕ) → i < middle + 1 → get_or (positions_from hits count bytes) i 0 < position
  lower less i before =
      let ps = positions_from hits count bytes in
      elim (cases_lt i middle) [
        | inl earlier ↦
            let up = rising 1 ps i middle ascending earlier (omega (arith, low, length-positions hits count bytes)) in
            omega (arith, there_is, less, up)
        | inr behind ↦
            let at : middle ≡ i = omega (arith, before, behind) in
            subst (λ k. get_or ps k 0 < position) at (omega (arith, there_is, less))
      ]

  -- where it is above, it and all behind it are
  pub higher : position < there → (i : ℕ) → middle ≤ i → i < count → position < get_or (positions_from hits count bytes) i 0
  higher more i behind inside =
      let ps = positions_from hits count bytes in
      elim (cases_lt middle i) [
        | inl later ↦
            let up = rising 1 ps middle i ascending later (omega (arith, inside, length-positions hits count bytes)) in
            omega (arith, there_is, more, up)
        | inr before ↦
            let at : middle ≡ i = omega (arith, before, behind) in
            subst (λ k. position < get_or ps k 0) at (omega (arith, there_is, more))
      ]
