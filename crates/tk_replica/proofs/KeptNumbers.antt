-- Which epochs are kept after an entry or a release, and after all of them those from the floor to
-- the last.
use Rattle.std.proofs.Common.{◌≡◌, ℕ, zero, suc, ◌+◌, ◌-◌, ◌≤◌, ap, ap₂, sym, ◌∙◌, subst}
use Rattle.std.proofs.Common.{arith, List, [], ◌∷◌, ◌++◌, drop, map, cond}
use Rattle.std.proofs.lemmas.List.{map-append, drop-map}
use Rattle.std.specs.List.{range_with_len}
use Rattle.tk_shape.specs.declared.shape.Shape.{Shape}
use Rattle.tk_frames.specs.declared.entry.Entry.{Entry}
use Rattle.tk_frames.specs.declared.entry.Entry.TheVariants.{Write, Mark}
use Rattle.tk_frames.specs.Order.{is_mark}
use Rattle.tk_frames.specs.InOrder.{mark_count, HasNumber, number_after, IsOrder, IsOrderFrom}
use Rattle.tk_frames.proofs.Offers.{marks-cons}
use Rattle.tk_replica.specs.declared.epoch.Epoch.{Epoch}
use Rattle.tk_replica.specs.Replica.{ReplicaView}
use Rattle.tk_replica.specs.Keeping.{Change, Applied, Released, Numbers, spanning, opening}
use Rattle.tk_replica.specs.Keeping.{numbers_of, numbers_with, numbers_behind, numbers_after, entries}
use Rattle.tk_replica.specs.Keeping.{last_released, MayAllCome}

-- ---- the numbers of a state

-- a mark's epoch comes after the others
pub numbers-marked : (s t : ReplicaView) (x : Entry) (applied n : ℕ) (epoch : Epoch) →
    x ≡ Mark n → epoch.number ≡ n →
    t ≡ record s { applied = applied; last = n; kept = s.kept ++ epoch ∷ [] } →
    numbers_of t ≡ numbers_with (numbers_of s) x
numbers-marked s t x applied n epoch is numbered made =
    let numbers = map (λ (e : Epoch). e.number) s.kept in
    ap numbers_of made
    ∙ ap (λ (ks : List ℕ). record { last = n; floor = s.floor; kept = ks })
    (map-append (λ (e : Epoch). e.number) s.kept (epoch ∷ [])
    ∙ ap (λ (k : ℕ). numbers ++ k ∷ []) numbered)
    ∙ ap (numbers_with (numbers_of s)) (sym is)

-- the first epochs go
pub numbers-released : (s t : ReplicaView) (e : ℕ) →
    t ≡ record s { floor = e; kept = drop (e - s.floor) s.kept } →
    numbers_of t ≡ numbers_behind (numbers_of s) (Released e)
numbers-released s t e made =
    ap numbers_of made
    ∙ ap (λ (ks : List ℕ). record { last = s.last; floor = e; kept = ks })
    (sym (drop-map (λ (k : Epoch). k.number) (e - s.floor) s.kept))

-- ---- numbers in a row

range-more : (a n : ℕ) → range_with_len a (suc n) ≡ range_with_len a n ++ (a + n) ∷ []
range-more a zero = ap (λ (b : ℕ). b ∷ []) (omega arith)
range-more a (suc n) =
    ap (λ (xs : List ℕ). a ∷ xs) (range-more (a + 1) n)
    ∙ ap (λ (b : ℕ). a ∷ (range_with_len (a + 1) n ++ b ∷ [])) (omega arith)

drop-range : (k a n m : ℕ) → n ≡ k + m → drop k (range_with_len a n) ≡ range_with_len (a + k) m
drop-range zero a n m e = ap₂ (λ (b c : ℕ). range_with_len b c) (omega arith) (omega (arith, e))
drop-range (suc k) a zero m e = absurd (omega (arith, e))
drop-range (suc k) a (suc n) m e =
    drop-range k (a + 1) n m (omega (arith, e))
    ∙ ap (λ (b : ℕ). range_with_len b m) (omega arith)

-- ---- one change

-- what an entry adds to the last epoch
step-entry : (floor last : ℕ) (x : Entry) → floor ≤ last → HasNumber (last + 1) x →
    numbers_with (spanning floor last) x ≡ spanning floor (last + cond (is_mark x) 1 0)
step-entry floor last (Write w) low is = ap (spanning floor) (omega arith)
step-entry floor last (Mark e) low is =
    let n = last + 1 - floor in
    let at : e ≡ floor + n = omega (arith, is, low) in
    let long : suc n ≡ last + 1 + 1 - floor = omega (arith, low) in
    let kept : range_with_len floor n ++ e ∷ [] ≡ range_with_len floor (last + 1 + 1 - floor) =
    ap (λ (b : ℕ). range_with_len floor n ++ b ∷ []) at
    ∙ sym (range-more floor n)
    ∙ ap (range_with_len floor) long
    in
    ap₂ (λ (l : ℕ) (ks : List ℕ). record { last = l; floor = floor; kept = ks }) is kept

-- a release raises the floor
step-release : (floor last e : ℕ) → floor ≤ e → e ≤ last →
    numbers_behind (spanning floor last) (Released e) ≡ spanning e last
step-release floor last e low high =
    let long : last + 1 - floor ≡ e - floor + (last + 1 - e) = omega (arith, low, high) in
    let at : floor + (e - floor) ≡ e = omega (arith, low) in
    let kept = drop-range (e - floor) floor (last + 1 - floor) (last + 1 - e) long
    ∙ ap (λ (b : ℕ). range_with_len b (last + 1 - e)) at
    in
    ap (λ (ks : List ℕ). record { last = last; floor = e; kept = ks }) kept

-- the number that is due after an entry
due-step : (last : ℕ) (x : Entry) → number_after (last + 1) x ≡ last + cond (is_mark x) 1 0 + 1
due-step last (Write w) = omega arith
due-step last (Mark e) = omega arith

-- ---- all of them

after-spanning : (shape : Shape) (place floor last : ℕ) (xs : List Change) → floor ≤ last →
    IsOrderFrom shape place (last + 1) (entries xs) → MayAllCome (spanning floor last) xs →
    numbers_after (spanning floor last) xs
    ≡ spanning (last_released floor xs) (last + mark_count (entries xs))
unfolding numbers_after MayAllCome
after-spanning shape place floor last [] low order may = ap (spanning floor) (omega arith)
after-spanning shape place floor last (Released e ∷ xs) low order may =
    let step = step-release floor last e may.0.low may.0.high in
    ap (λ (n : Numbers). numbers_after n xs) step
    ∙ after-spanning shape place e last xs may.0.high order
    (subst (λ (n : Numbers). MayAllCome n xs) step may.1)
after-spanning shape place floor last (Applied p ∷ xs) low order may =
    let more = cond (is_mark p.entry) 1 0 in
    let step = step-entry floor last p.entry low order.0.number in
    let due = due-step last p.entry in
    let rest = subst (λ (k : ℕ). IsOrderFrom shape (place + 1) k (entries xs)) due order.1 in
    let high : floor ≤ last + more = omega (arith, low) in
    let counted = marks-cons p (entries xs) in
    ap (λ (n : Numbers). numbers_after n xs) step
    ∙ after-spanning shape (place + 1) floor (last + more) xs high rest
    (subst (λ (n : Numbers). MayAllCome n xs) step may.1)
    ∙ ap (spanning (last_released floor xs)) (omega (arith, counted))

pub kept-spanning : (shape : Shape) (xs : List Change) → IsOrder shape (entries xs) →
    MayAllCome opening xs →
    numbers_after opening xs ≡ spanning (last_released 0 xs) (mark_count (entries xs))
kept-spanning shape xs order may =
    after-spanning shape 1 0 0 xs (omega arith) order may
    ∙ ap (spanning (last_released 0 xs)) (omega arith)
