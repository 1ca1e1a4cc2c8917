-- The plain form of a text: what it is made of, and the one text that it is of.
use Rattle.std.proofs.Common.{◌≡◌, ℕ, zero, suc, ◌+◌, ◌-◌, ◌*◌, ◌<◌, ◌≤◌, ◌^◌, List, [], ◌∷◌, ◌++◌, length, take, drop, get_or, replicate, lit<, refl, ap, ap₂, sym, ◌∙◌, arith, length-append, length-drop, IsTrue}
use Rattle.std.specs.Int.{w16, to_be_bytes}
use Rattle.std.proofs.lemmas.Nat.{be_bytes_2, from_be_bytes-to_be_bytes_2}
use Rattle.std.proofs.lemmas.List.{take-append-drop, length-take-le, take_at, drop-replicate, length-replicate}
use Rattle.std.proofs.Math.Seq.{take-append_seam}
use Rattle.tk_seal.specs.Texts.{is_allowed}
use Rattle.tk_seal.specs.Seal.{plain, plain_text, IsPlainForm}

-- the text that a plain form is of
pub plain_text-plain : (size : ℕ) (text : List ℕ) → length text < 2 ^ 16 → plain_text (plain size text) ≡ text
plain_text-plain size text h =
    ap (λ n. take n (text ++ replicate (size - 2 - length text) 0)) (from_be_bytes-to_be_bytes_2 (length text) h)
    ∙ take-append_seam text (replicate (size - 2 - length text) 0)

pub length-plain : (size : ℕ) (text : List ℕ) → length text + 2 ≤ size → length (plain size text) ≡ size
length-plain size text h =
    ap (λ n. suc (suc n)) (length-append text (replicate (size - 2 - length text) 0) ∙ ap (λ n. length text + n) (length-replicate {A = ℕ} (size - 2 - length text) 0))
    ∙ omega arith

two_bytes : (a b : ℕ) → a < 256 → b < 256 → (i : ℕ) → get_or (a ∷ b ∷ []) i 0 < 256
two_bytes a b h k zero = h
two_bytes a b h k (suc zero) = k
two_bytes a b h k (suc (suc i)) = lit< tt

-- bytes that have a text's length in front, and nothing but zeros after it
pub form_of_parts : (bytes : List ℕ) (n : ℕ) → ((i : ℕ) → get_or bytes i 0 < 256) → n ≡ get_or bytes 0 0 * 256 + get_or bytes 1 0 → 2 + n ≤ length bytes →
    drop n (drop 2 bytes) ≡ replicate (length (drop n (drop 2 bytes))) 0 → bytes ≡ plain (length bytes) (take n (drop 2 bytes))
form_of_parts [] n small e fits zeros = absurd (omega arith)
form_of_parts (a ∷ []) n small e fits zeros = absurd (omega arith)
form_of_parts (a ∷ b ∷ rest) n small e fits zeros =
    let long : length (take n rest) ≡ n = length-take-le n rest (omega arith) in
    let head : to_be_bytes w16 n ≡ a ∷ b ∷ [] = be_bytes_2 (a ∷ b ∷ []) n refl (two_bytes a b (small 0) (small 1)) e in
    let left : length (drop n rest) ≡ suc (suc (length rest)) - 2 - n = omega (arith, length-drop n rest) in
    ap₂ (λ (xs ys : List ℕ). xs ++ ys) (sym head) (sym (take-append-drop n rest) ∙ ap (λ (ys : List ℕ). take n rest ++ ys) (zeros ∙ ap (λ k. replicate k 0) left))
    ∙ ap (λ k. to_be_bytes w16 k ++ (take n rest ++ replicate (suc (suc (length rest)) - 2 - k) 0)) (sym long)

pub is_form : (bytes : List ℕ) (n : ℕ) → ((i : ℕ) → get_or bytes i 0 < 256) → n ≡ get_or bytes 0 0 * 256 + get_or bytes 1 0 → 2 + n ≤ length bytes →
    IsTrue (is_allowed (take n (drop 2 bytes))) → drop n (drop 2 bytes) ≡ replicate (length (drop n (drop 2 bytes))) 0 → IsPlainForm bytes (take n (drop 2 bytes))
is_form bytes n small e fits allowed zeros =
    let high = small 0 in
    let low = small 1 in
    let left : length (drop 2 bytes) ≡ length bytes - 2 = length-drop 2 bytes in
    let long : length (take n (drop 2 bytes)) ≡ n = length-take-le n (drop 2 bytes) (omega arith) in
    record { allowed = allowed; fits = omega arith; short = omega arith; form = form_of_parts bytes n small e fits zeros }

-- a text written over the front of zeros
pub text_in_zeros : (text zeros : List ℕ) (n k : ℕ) → length text ≡ n → n ≤ k → zeros ≡ replicate k 0 →
    text ++ drop n zeros ≡ take n (text ++ drop n zeros) ++ replicate (length (text ++ drop n zeros) - n) 0
text_in_zeros text zeros n k long fits e =
    let rest : drop n zeros ≡ replicate (k - n) 0 = ap (drop n) e ∙ drop-replicate n k 0 in
    let left : length (text ++ replicate (k - n) 0) - n ≡ k - n = omega (arith, length-append text (replicate (k - n) 0), length-replicate {A = ℕ} (k - n) 0) in
    rw (rest, left, take_at text (replicate (k - n) 0) n long) refl
