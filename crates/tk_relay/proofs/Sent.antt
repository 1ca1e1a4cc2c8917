-- Reads that are made one after the other.
use Rattle.std.proofs.Common.{◌≡◌, ap, ap₂, sym, subst, ◌∙◌, arith, inl, inr, ℕ, zero, suc, ◌+◌, ◌<◌, List, [], ◌∷◌, ◌++◌}
use Rattle.std.proofs.Common.{length, map, take, add-one}
use Rattle.std.specs.Prelude.{slice_index_or}
use Rattle.std.specs.List.{AllByRecursion}
use Rattle.std.proofs.lemmas.Bool.{cases_lt}
use Rattle.std.proofs.lemmas.List.{length-map, length-append}
use Rattle.tk_lists.proofs.Offers.{front-at, last-at}
use Rattle.tk_shape.specs.declared.shape.Shape.{Shape}
use Rattle.tk_frames.specs.declared.read_frame.ReadFrame.{ReadFrame}
use Rattle.tk_frames.specs.Ranges.{IsRead}
use Rattle.tk_frames.specs.Spelling.{read_frame}

-- ---- reads that are decoded

-- the read at a place is the next one
read-there : (shape : Shape) (reads : List ReadFrame) (i : ℕ) (bytes : List ℕ) (frame : ReadFrame) →
    AllByRecursion (IsRead shape) reads → bytes ≡ slice_index_or (map read_frame reads) i bytes →
    i < length reads → ((r : ReadFrame) → IsRead shape r → bytes ≡ read_frame r → frame ≡ r) →
    take i reads ++ frame ∷ [] ≡ take (suc i) reads
read-there shape [] i bytes frame all at low only = absurd (omega (arith, low))
read-there shape (r ∷ reads) zero bytes frame all at low only =
    ap (λ (x : ReadFrame). x ∷ []) (only r all.0 at)
read-there shape (r ∷ reads) (suc i) bytes frame all at low only =
    ap (λ (xs : List ReadFrame). r ∷ xs)
    (read-there shape reads i bytes frame all.1 at (omega (arith, low)) only)

pub read-next : (shape : Shape) (reads : List ReadFrame) (i : ℕ) (bytes : List ℕ) (frame : ReadFrame)
    (old new : List ReadFrame) → AllByRecursion (IsRead shape) reads →
    bytes ≡ slice_index_or (map read_frame reads) i bytes → i < length (map read_frame reads) →
    ((r : ReadFrame) → IsRead shape r → bytes ≡ read_frame r → frame ≡ r) →
    new ≡ old ++ frame ∷ [] → old ≡ take i reads → new ≡ take (i + 1) reads
read-next shape reads i bytes frame old new all at low only pushed so_far =
    let same = length-map reads read_frame in
    pushed ∙ ap (λ (xs : List ReadFrame). xs ++ frame ∷ []) so_far
    ∙ read-there shape reads i bytes frame all at (omega (arith, low, same)) only
    ∙ ap (λ n. take n reads) (sym (add-one i))

-- ---- a list with one more element

pub each-next : {X : Type 0} (P : ℕ → X → Type 0) (xs more : List X) (x : X) (n : ℕ) →
    more ≡ xs ++ x ∷ [] → length xs ≡ n →
    ((k : ℕ) (d : X) → k < length xs → P k (slice_index_or xs k d)) → P n x →
    (k : ℕ) (d : X) → k < length more → P k (slice_index_or more k d)
each-next P xs more x n pushed counted all last k d low =
    let long = ap length pushed ∙ length-append xs (x ∷ []) in
    elim (cases_lt k (length xs)) [
      | inl earlier ↦
          subst (P k) (sym (ap (λ ys. slice_index_or ys k d) pushed ∙ front-at xs x d k earlier))
          (all k d earlier)
      | inr later ↦
          let same : k ≡ length xs = omega (arith, low, later, long) in
          let here : slice_index_or more k d ≡ x =
          ap₂ (λ ys i. slice_index_or ys i d) pushed same ∙ last-at xs x d
          in
          subst (P k) (sym here) (subst (λ i. P i x) (sym (same ∙ counted)) last)
    ]
