-- What a closed cluster had, by client.
use Rattle.std.proofs.Common.{◌≡◌, ℕ, zero, suc, ◌+◌, List, [], ◌∷◌, ◌++◌, length, map}
use Rattle.std.proofs.Common.{slice_set, refl, ap, sym, ◌∙◌, arith, length-append}
use Rattle.std.specs.Prelude.{replicate}
use Rattle.std.proofs.lemmas.List.{length-set}
use Rattle.tk_shape.specs.declared.shape.Shape.{Shape}
use Rattle.tk_cluster.specs.Passes.{Passing}
use Rattle.tk_cluster.specs.Tellings.{Telling}
use Rattle.tk_cluster.specs.Closings.{Ended, Closes, by_client}

by_client_counted : (epochs : List (List ℕ)) (xs : List Passing) →
    length (by_client epochs xs) ≡ length epochs
by_client_counted epochs [] = refl
by_client_counted epochs (a ∷ xs) =
    by_client_counted (slice_set epochs a.client a.reads.pinned) xs
    ∙ length-set epochs a.client a.reads.pinned

copies_counted : {A : Type 0} (n : ℕ) (x : A) → length (replicate n x) ≡ n
copies_counted zero x = refl
copies_counted (suc n) x = ap suc (copies_counted n x)

-- there is a list of epochs for each client
pub ends_counted : (shape : Shape) (xs : List Passing) (p : Telling) (c : Ended) →
    Closes shape xs p c → length c.epochs ≡ shape.clients
ends_counted shape xs p c closes =
    ap length closes.epochs
    ∙ (by_client_counted (replicate shape.clients []) xs ∙ copies_counted shape.clients [])

-- ---- where the passes stand by number

-- the first of these passes is that of client c, and so on
abbrev pub ByNumber : ℕ → List Passing → Type 0
ByNumber c [] = Unit {0}
ByNumber c (a ∷ xs) = (a.client ≡ c) × ByNumber (c + 1) xs

set_behind : (front rest : List (List ℕ)) (y x : List ℕ) →
    slice_set (front ++ y ∷ rest) (length front) x ≡ (front ++ x ∷ []) ++ rest
set_behind [] rest y x = refl
set_behind (z ∷ front) rest y x = ap (λ ys. z ∷ ys) (set_behind front rest y x)

behind : (front ys : List (List ℕ)) (x : List ℕ) → (front ++ x ∷ []) ++ ys ≡ front ++ x ∷ ys
behind [] ys x = refl
behind (z ∷ front) ys x = ap (λ zs. z ∷ zs) (behind front ys x)

filled : (front : List (List ℕ)) (c : ℕ) (xs : List Passing) → length front ≡ c → ByNumber c xs →
    by_client (front ++ replicate (length xs) []) xs ≡ front ++ map (λ a. a.reads.pinned) xs
filled front c [] at h = refl
filled front c (a ∷ xs) at h =
    let next : length (front ++ a.reads.pinned ∷ []) ≡ c + 1 =
    omega (arith, length-append front (a.reads.pinned ∷ []), at) in
    ap (λ k. by_client (slice_set (front ++ [] ∷ replicate (length xs) []) k a.reads.pinned) xs)
    (h.0 ∙ sym at)
    ∙ (ap (λ ys. by_client ys xs) (set_behind front (replicate (length xs) []) [] a.reads.pinned)
    ∙ (filled (front ++ a.reads.pinned ∷ []) (c + 1) xs next h.1
    ∙ behind front (map (λ a. a.reads.pinned) xs) a.reads.pinned))
