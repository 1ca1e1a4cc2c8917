-- What is appended in a loop.
use Rattle.std.proofs.Common.{◌≡◌, ℕ, ◌+◌, ◌≤◌, ◌<◌, List, [], ◌∷◌, ◌++◌, length, take, drop, get_or, refl, ap, ap₂, sym, ◌∙◌, inl, inr, take-add, append_assoc, arith}
use Rattle.std.specs.Prelude.{min}
use Rattle.std.specs.List.{concat, flat_map}
use Rattle.std.proofs.lemmas.Bool.{cases_lt}
use Rattle.std.proofs.lemmas.List.{drop_more, drop_all}
use Rattle.std.proofs.lemmas.List.Folds.{concat-append}
use Rattle.tk_frames.specs.Spelling.{be32, be64}
use Rattle.tk_checkpoint.specs.Saved.{window_bytes}

-- the blocks of one more run
pub blocks_more : (blocks : List (List ℕ)) (front bytes run : List ℕ) (done count : ℕ) →
    bytes ≡ front ++ concat (take done blocks) → run ≡ concat (take count (drop done blocks)) →
    bytes ++ run ≡ front ++ concat (take (done + count) blocks)
blocks_more blocks front bytes run done count e f =
    ap₂ (λ (xs ys : List ℕ). xs ++ ys) e f
    ∙ append_assoc front (concat (take done blocks)) (concat (take count (drop done blocks)))
    ∙ ap (λ ys. front ++ ys)
    (sym (concat-append (take done blocks) (take count (drop done blocks)))
    ∙ ap concat (sym (take-add done count blocks)))

-- one more write of the window
pub writes_more : (ps : List ℕ) (pushes : List (List ℕ)) (i : ℕ) (d : List ℕ) → i < length ps → i < length pushes →
    window_bytes (drop i ps) (drop i pushes)
    ≡ be64 (get_or ps i 0) ++ flat_map be32 (get_or pushes i d) ++ window_bytes (drop (i + 1) ps) (drop (i + 1) pushes)
writes_more ps pushes i d low in_pushes = ap₂ window_bytes (drop_more ps i 0 low) (drop_more pushes i d in_pushes)

no_pushes : (ps : List ℕ) → window_bytes ps [] ≡ []
no_pushes [] = refl
no_pushes (p ∷ ps) = refl

-- no write is left
pub writes_done : (ps : List ℕ) (pushes : List (List ℕ)) (i : ℕ) → min (length ps) (length pushes) ≤ i →
    window_bytes (drop i ps) (drop i pushes) ≡ []
writes_done ps pushes i past = elim (cases_lt i (length ps)) [
  | inl low ↦
      ap (window_bytes (drop i ps)) (drop_all i pushes (omega (arith, past, low))) ∙ no_pushes (drop i ps)
  | inr gone ↦ ap (λ qs. window_bytes qs (drop i pushes)) (drop_all i ps gone)
]

-- a write behind others leaves those behind it
pub writes_next : (ps : List ℕ) (pushes : List (List ℕ)) (i : ℕ) (d out new all : List ℕ) →
    i < length ps → i < length pushes →
    out ++ window_bytes (drop i ps) (drop i pushes) ≡ all →
    new ≡ out ++ be64 (get_or ps i 0) ++ flat_map be32 (get_or pushes i d) →
    new ++ window_bytes (drop (i + 1) ps) (drop (i + 1) pushes) ≡ all
writes_next ps pushes i d out new all low in_pushes was is =
    let p = be64 (get_or ps i 0) in
    let hits = flat_map be32 (get_or pushes i d) in
    let rest = window_bytes (drop (i + 1) ps) (drop (i + 1) pushes) in
    ap (λ xs. xs ++ rest) is
    ∙ ap (λ xs. xs ++ rest) (append_assoc out p hits)
    ∙ append_assoc out (p ++ hits) rest
    ∙ ap (λ xs. out ++ xs) (sym (writes_more ps pushes i d low in_pushes))
    ∙ was

-- six parts behind others
pub six_joined : (out a b c d e f : List ℕ) →
    out ++ a ++ b ++ c ++ d ++ e ++ f ≡ out ++ (a ++ b ++ c ++ d ++ e ++ f)
six_joined out a b c d e f =
    ap (λ x. x ++ c ++ d ++ e ++ f) (append_assoc out a b)
    ∙ ap (λ x. x ++ d ++ e ++ f) (append_assoc out (a ++ b) c)
    ∙ ap (λ x. x ++ e ++ f) (append_assoc out (a ++ b ++ c) d)
    ∙ ap (λ x. x ++ f) (append_assoc out (a ++ b ++ c ++ d) e)
    ∙ append_assoc out (a ++ b ++ c ++ d ++ e) f
