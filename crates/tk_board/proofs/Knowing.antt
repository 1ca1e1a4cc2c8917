-- What is known after a call.
use Rattle.std.proofs.Common.{◌≡◌, ◌⊎◌, ℕ, ◌≤◌, Bool, Option, List, [], ◌∷◌, ◌++◌, length}
use Rattle.std.proofs.Common.{sym, ap, subst, refl, arith, ⊎_elim}
use Rattle.std.proofs.lemmas.List.Elements.{All-push}
use mathlib.Core.List.{IsPrefix}
use Rattle.atomic_table.specs.Seated.{TableId}
use Rattle.atomic_table.specs.declared.shared.Seat.{Seat}
use Rattle.tk_board.specs.declared.rule.View.{View}
use Rattle.tk_board.specs.Rules.{Sat, drafting}
use Rattle.tk_board.specs.Boards.{Known, AllFit, AllBegin, GoesOn, Book, book, IsLedger}
use Rattle.tk_lists.proofs.Offers.{prefix_self, prefix_whole}

-- no longer list was told, so the one that was seen stays
pub kept_list : {M : Type 0} (old new other : List M) → IsPrefix old new
    → (new ≡ old) ⊎ (new ≡ other) → length other ≤ length old → old ≡ new
kept_list old new other up one less =
    ⊎_elim (λ (e : new ≡ old). sym e)
    (λ (e : new ≡ other). prefix_whole old new up (omega (arith, ap length e, less))) one

module _ {M : Type 0} where
  -- what stays as it was goes on
  pub stays : (a b : Known M) → b ≡ a → GoesOn a b
  stays a b same =
      record {
        board = ap (λ k. k.board) same;
        list = subst (λ (k : Known M). IsPrefix k.list b.list) same (prefix_self b.list);
      }

  -- one reader more whose list begins this one
  pub begin_snoc : (ks : List (Known M)) (k : Known M) (xs : List M) → AllBegin ks xs
      → IsPrefix k.list xs → AllBegin (ks ++ k ∷ []) xs
  begin_snoc ks k xs all more =
      record { each = All-push (λ (k : Known M). IsPrefix k.list xs) ks k all.each more }

  -- a planned list begins with the shown one
  pub plan_goes_on : (b : Book M) (board : TableId) (xs : List M) (x : M) (out : Bool)
      → b ≡ book board xs (xs ++ x ∷ []) out → IsPrefix b.list b.plan
  plan_goes_on b board xs x out is =
      subst (λ (c : Book M). IsPrefix c.list c.plan) (sym is) (x ∷ [], refl)

module _ {T M : Type 0} (fits : ℕ → M → Type 0) where
  -- a publisher's seat with a list and a plan whose values may stand where they stand
  pub is_ledger : (board : TableId) (place : Seat (Option T) (View M)) (count : ℕ)
      (xs ys : List M) (out : Bool) → place.table_id ≡ board
      → place.me ≡ (drafting xs ys out, []) → count ≡ length xs → AllFit fits xs → AllFit fits ys
      → IsLedger board place count × AllFit fits place.me.0.seen × AllFit fits place.me.0.plan
  is_ledger board place count xs ys out of_table is counted fit fit_plan = (
    record {
      of_table = of_table;
      is = subst (λ (m : Sat T M). m ≡ (drafting m.0.seen m.0.plan m.0.out, [])) (sym is) refl;
      counted = subst (λ (m : Sat T M). count ≡ length m.0.seen) (sym is) counted;
    },
    subst (λ (m : Sat T M). AllFit fits m.0.seen) (sym is) fit,
    subst (λ (m : Sat T M). AllFit fits m.0.plan) (sym is) fit_plan,
  )
