-- What takes the entries of a turn, one item after the other.
use Rattle.std.proofs.Common.{◌≡◌, ℕ, ◌+◌, ◌^◌, ◌<◌, ◌≤◌, ◌∙◌, ap, sym, subst, arith, List, [], ◌∷◌, ◌++◌, length}
use Rattle.std.proofs.Math.Nat.{mul_assoc}
use Rattle.tk_shape.specs.declared.shape.Shape.{Shape}
use Rattle.tk_schedule.specs.declared.history.History.{History}
use Rattle.tk_schedule.specs.Schedule.{order_at}
use Rattle.tk_script.specs.declared.script.Script.{Script}
use Rattle.tk_words.specs.Words.{BookWords}
use Rattle.tk_frames.specs.declared.entry.Placed.{Placed}
use Rattle.tk_frames.specs.declared.entry.Entry.{Entry}
use Rattle.tk_frames.specs.InOrder.{IsNext}
use Rattle.tk_report.specs.Entries.{entries_at, write_at}
use Rattle.tk_report.specs.Taking.{Taking}
use Rattle.tk_report.specs.Turns.{placed_before, placed_in, placed_so_far, next_placed}
use Rattle.tk_report.proofs.ComingLaws.{IsDue, in-none, in-past, placed-all}

module _ {X : Type 0} (took : Taking X) (S : Script) (w : BookWords) (H : History) (g : ℕ)
    (was : X) where
  -- it has taken these entries of the turn
  abbrev pub HasTakenIn : List Placed → X → Type 0
  HasTakenIn F is = took was S.shape (placed_before S w H g) F is

  took-same : (E F : List Placed) (is : X) → E ≡ F → HasTakenIn E is → HasTakenIn F is
  took-same E F is same has = subst (λ (ps : List Placed). HasTakenIn ps is) same has

  -- before any item
  pub took-none : HasTakenIn [] was → HasTakenIn (placed_in S w H g 0) was
  took-none has = took-same [] (placed_in S w H g 0) was (sym (in-none S w H g)) has

  -- the entry of one item more
  pub took-more : (i : ℕ) (e : Entry) (is : X) → IsDue S w H g i e →
      HasTakenIn (placed_in S w H g i ++ next_placed (placed_so_far S w H g i) e ∷ []) is →
      HasTakenIn (placed_in S w H g (i + 1)) is
  took-more i e is due has =
      took-same (placed_in S w H g i ++ next_placed (placed_so_far S w H g i) e ∷ [])
      (placed_in S w H g (i + 1)) is (sym due.here) has

  -- and of all
  pub took-all : (i : ℕ) (is : X) → length (order_at H g) ≤ i →
      HasTakenIn (placed_in S w H g i) is → HasTakenIn (entries_at (write_at S w) H g) is
  took-all i is past has =
      took-same (placed_in S w H g i) (entries_at (write_at S w) H g) is
      (in-past S w H g i past ∙ placed-all S w H g) has

-- ---- the next entry

-- its position is in range
pub place-room : (shape : Shape) (E : List Placed) (entry : Entry) →
    IsNext shape E (next_placed E entry) → length E + 1 < 2 ^ 64
place-room shape E entry next =
    let high = next.in_range.position_high in
    let bound = shape.in_range in
    omega (
      arith,
      high,
      bound.schedule,
      bound.phases_high,
      mul_assoc shape.clients shape.phases shape.ticks,
    )

pub placed-same : (E : List Placed) (entry : Entry) (n : ℕ) → n ≡ length E →
    record { position = n + 1; entry = entry } ≡ next_placed E entry
placed-same E entry n same = ap (λ (k : ℕ). record { position = k + 1; entry = entry }) same
