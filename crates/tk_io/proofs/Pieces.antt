-- A copy of the front of some bytes, in a buffer, and what is left of them.
use Rattle.std.proofs.Common.{◌≡◌, ℕ, ◌+◌, List, ◌++◌, length, take, drop, sym, ap, ◌∙◌, take-append-drop, drop-drop}
use Rattle.std.proofs.Math.Seq.{take-append_seam}

-- the front that was copied, and the rest, are what was there
pub front_copied : (bytes copied rest : List ℕ) (at n : ℕ) → length copied ≡ n → copied ≡ take n (drop at bytes) →
    drop at bytes ≡ take n (copied ++ rest) ++ drop (at + n) bytes
front_copied bytes copied rest at n len same =
    let whole = sym (take-append-drop n (drop at bytes)) in
    let behind = drop-drop n at bytes in
    let front : take n (copied ++ rest) ≡ copied = ap (λ k. take k (copied ++ rest)) (sym len) ∙ take-append_seam copied rest in
    whole ∙ ap (λ x. x ++ drop n (drop at bytes)) (sym same ∙ sym front) ∙ ap (λ x. take n (copied ++ rest) ++ x) behind
