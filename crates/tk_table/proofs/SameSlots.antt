-- Whether two slots are equal.
use Rattle.std.proofs.Common.{◌≡◌, ℕ, refl, ap, sym, ◌∙◌, true≢false, List, [], ◌∷◌, Bool, true}
use Rattle.std.proofs.Common.{false, eq-eqb, eqb-true, ◌&&◌}
use Rattle.std.specs.Prelude.{◌==◌}
use Rattle.std.proofs.lemmas.Bool.{and_parts, and_from}
use Rattle.tk_table.specs.Table.{Slot}

same_bytes : List ℕ → List ℕ → Bool
same_bytes [] [] = true
same_bytes [] (y ∷ ys) = false
same_bytes (x ∷ xs) [] = false
same_bytes (x ∷ xs) (y ∷ ys) = x == y && same_bytes xs ys

same_bytes-own : (xs : List ℕ) → same_bytes xs xs ≡ true
unfolding same_bytes
same_bytes-own [] = refl
same_bytes-own (x ∷ xs) = and_from (x == x) (same_bytes xs xs) (eq-eqb x x refl) (same_bytes-own xs)

same_bytes-sound : (xs ys : List ℕ) → same_bytes xs ys ≡ true → xs ≡ ys
unfolding same_bytes
same_bytes-sound [] [] h = refl
same_bytes-sound [] (y ∷ ys) h = absurd (true≢false (sym h))
same_bytes-sound (x ∷ xs) [] h = absurd (true≢false (sym h))
same_bytes-sound (x ∷ xs) (y ∷ ys) h =
    let parts = and_parts (x == y) (same_bytes xs ys) h in
    let head = eqb-true x y parts.0 in
    let tail = same_bytes-sound xs ys parts.1 in
    ap (λ z. z ∷ xs) head ∙ ap (λ zs. y ∷ zs) tail

pub same_slot : Slot → Slot → Bool
same_slot s t =
    s.position == t.position
    && (s.first == t.first && (s.second == t.second && same_bytes s.block t.block))

pub same_slot-own : (s : Slot) → same_slot s s ≡ true
unfolding same_slot
same_slot-own s =
    and_from (s.position == s.position) _ (eq-eqb s.position s.position refl)
    (and_from (s.first == s.first) _ (eq-eqb s.first s.first refl)
    (and_from (s.second == s.second) (same_bytes s.block s.block) (eq-eqb s.second s.second refl)
    (same_bytes-own s.block)))

pub same_slot-sound : (s t : Slot) → same_slot s t ≡ true → s ≡ t
unfolding same_slot
same_slot-sound s t h =
    let a = and_parts (s.position == t.position)
    (s.first == t.first && (s.second == t.second && same_bytes s.block t.block)) h in
    let b = and_parts (s.first == t.first)
    (s.second == t.second && same_bytes s.block t.block) a.1 in
    let c = and_parts (s.second == t.second) (same_bytes s.block t.block) b.1 in
    ap (λ n. record s { position = n }) (eqb-true s.position t.position a.0)
    ∙ ap (λ n. record t { first = n; second = s.second; block = s.block })
    (eqb-true s.first t.first b.0)
    ∙ ap (λ n. record t { second = n; block = s.block }) (eqb-true s.second t.second c.0)
    ∙ ap (λ bytes. record t { block = bytes }) (same_bytes-sound s.block t.block c.1)
