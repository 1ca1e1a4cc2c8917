-- Steps through left_right keep its rule.
use Rattle.std.proofs.Common.{◌≡◌, ◌≢◌, ℕ, Result, Ok, Err, Option, Some, None, IfOk, IfSome, List}
use Rattle.std.proofs.Common.{[], ◌∷◌, ◌++◌, set, refl, sym, ap, ◌∙◌, subst, ⊎_elim}
use mathlib.Core.Option.{some}
use mathlib.Core.List.{IsPrefix}
use lib.ListN.{get_elem?}
use Rattle.atomic_table.proofs.Lists.{at_set, at_snoc}
use Rattle.atomic_table.specs.Seated.{TableId}
use Rattle.crossbeam_utils.specs.Register.{Admits, TurnsAt, Forks, Merges}
use Rattle.tk_board.specs.Boards.{Known, Before, AllBefore, Leads, Saw, Tied, none_seen}
use Rattle.tk_lists.proofs.Offers.{prefix_self, prefix_trans}

pub ok_some : {A E : Type 0} (P Q : A → Type 0) (r : Result (Option A) E) → ((a : A) → P a → Q a)
    → IfOk r (λ o. IfSome o P) → IfOk r (λ o. IfSome o Q)
ok_some P Q (Ok (Some a)) f h = f a h
ok_some P Q (Ok None) f h = h
ok_some P Q (Err e) f h = h

module _ {M : Type 0} where
  before_trans : (x y : Known M) (ks : List (Known M)) → Before y x → AllBefore x ks
      → AllBefore y ks
  before_trans x y [] up h = tt
  before_trans x y (k ∷ ks) up h =
      ((h.0.0 ∙ up.0, prefix_trans k.list x.list y.list h.0.1 up.1), before_trans x y ks up h.1)

  leads_set : (x : Known M) (views : List (List (Known M))) (seat : ℕ) (w : List (Known M))
      → Leads x views → AllBefore x w → Leads x (set views seat w)
  leads_set x views seat w h new j u e =
      ⊎_elim (λ (t : (j ≡ seat) × (w ≡ u)). subst (AllBefore x) t.1 new)
      (λ (t : (j ≢ seat) × (get_elem? views j ≡ some u)). h j u t.1) (at_set views seat j w u e)

  leads_snoc : (x : Known M) (views : List (List (Known M))) (w : List (Known M)) → Leads x views
      → AllBefore x w → Leads x (views ++ w ∷ [])
  leads_snoc x views w h new j u e = ⊎_elim (λ was. h j u was)
      (λ (same : w ≡ u). subst (AllBefore x) same new) (at_snoc views w u j e)

  pub again : (x y : Known M) → x ≡ y → Before x y
  again x y same = (
    ap (λ k. k.board) (sym same),
    subst (λ (k : Known M). IsPrefix k.list x.list)
        same (prefix_self x.list),
  )

  -- what was seen on a board is of it, and so is what comes next
  pub tied_to : (board : TableId) (v w : List (Known M)) (x : Known M) → Tied board v → Saw v x w
      → x.board ≡ board
  tied_to board v w x t s = let b : AllBefore x (t.0 ∷ []) = subst
      (λ (l : List (Known M)). AllBefore x l) t.1 s.0 in sym b.0.0 ∙ t.2

  pub tied_on : (board : TableId) (v w : List (Known M)) (x : Known M) → Tied board v → Saw v x w
      → Tied board w
  tied_on board v w x t s = (x, s.1, tied_to board v w x t s)

  module _ {N : Type 0} (known : N → Known M) where
    pub admits : Admits (λ (n : N). Leads (known n)) none_seen
    admits x views h = leads_snoc (known x) views [] h tt

    pub turns : (seat : ℕ) (v : List (Known M)) (x y : N) → Before (known y) (known x)
        → TurnsAt (λ (n : N). Leads (known n)) seat v x y (λ v _ y w. Saw v (known y) w)
    turns seat v x y up views h at =
        let all : Leads (known y) views = λ j u e. before_trans (known x) (known y) u up
        (h j u e) in
        let new : AllBefore (known y) (known y ∷ []) = ((refl, prefix_self (known y).list), tt) in
        (known y ∷ [], leads_set (known y) views seat (known y ∷ []) all new, (all seat v at, refl))

    pub enters : (seat : ℕ) (v : List (Known M)) (x : N)
        → TurnsAt (λ (n : N). Leads (known n)) seat v x x (λ v _ y w. Saw v (known y) w)
    enters seat v x = turns seat v x x (refl, prefix_self (known x).list)

    pub tells : (seat : ℕ) (v : List (Known M)) → Forks (λ (n : N). Leads (known n)) seat v v v
    tells seat v x views h at = leads_snoc (known x) (set views seat v) v
        (leads_set (known x) views seat v h (h seat v at)) (h seat v at)

    pub hands : (seat : ℕ) (v : List (Known M)) (other : ℕ) (w : List (Known M))
        → Merges (λ (n : N). Leads (known n)) seat v other w w none_seen
    hands seat v other w x views h at apart there =
        let b : AllBefore (known x) w = ⊎_elim
        (λ (t : (other ≡ seat) × (w ≡ w)). absurd (apart t.0))
        (λ (t : (other ≢ seat) × (get_elem? views other ≡ some w)). h other w t.1)
        (at_set views seat other w w there) in
        leads_set (known x) (set views seat w) other [] (leads_set (known x) views seat w h b) tt
