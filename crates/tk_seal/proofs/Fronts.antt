-- The longest front of a text that may be sent.
use Rattle.std.proofs.Common.{◌≡◌, ℕ, zero, suc, ◌+◌, ◌<◌, ◌≤◌, List, [], ◌∷◌, ◌++◌, length, take, Bool, true, false, cond, ◌&&◌, refl, ap, sym, ◌∙◌, subst, arith, inl, inr, ◌⊎◌}
use Rattle.std.specs.Prelude.{◌↔◌, IsTrue}
use Rattle.std.specs.List.{list_all, prefix_len}
use Rattle.std.specs.Str.{IsUtf8, is_utf8, IsValidUpTo}
use Rattle.std.proofs.lemmas.Str.{IsUtf8-from_is_utf8, is_utf8-from_IsUtf8}
use Rattle.std.proofs.lemmas.List.{take_all, take-take, length-take-le}
use Rattle.std.proofs.lemmas.List.Sums.{prefix_len-le-length}
use Rattle.std.proofs.lemmas.List.Folds.{list_all-append}
use Rattle.std.proofs.lemmas.Bool.{and_parts, and_from}
use Rattle.tk_seal.specs.Texts.{is_printable, is_allowed, IsAllowedUpTo, allowed_front}

-- ---- bytes that pass a test

-- one more byte is asked
pub list_all-push : (p : ℕ → Bool) (xs : List ℕ) (x : ℕ) → list_all p (xs ++ x ∷ []) ≡ (list_all p xs && p x)
list_all-push p xs x = list_all-append p xs (x ∷ []) ∙ ap (λ b. list_all p xs && b) (and-true (p x))
  where
    and-true : (b : Bool) → (b && true) ≡ b
    and-true true = refl
    and-true false = refl

list_all-take : (p : ℕ → Bool) (n : ℕ) (xs : List ℕ) → n ≤ prefix_len p xs → list_all p (take n xs) ≡ true
list_all-take p zero xs h = refl
list_all-take p (suc n) [] h = absurd (omega arith)
list_all-take p (suc n) (x ∷ xs) h =
    elim (p x) as (λ b. suc n ≤ cond b (1 + prefix_len p xs) 0 → (b && list_all p (take n xs)) ≡ true) [
      | true ↦ λ l. list_all-take p n xs (omega arith)
      | false ↦ λ l. absurd (omega arith)
    ] h

within_prefix : (p : ℕ → Bool) (n : ℕ) (xs : List ℕ) → n ≤ length xs → list_all p (take n xs) ≡ true → n ≤ prefix_len p xs
within_prefix p zero xs h e = omega arith
within_prefix p (suc n) [] h e = absurd (omega arith)
within_prefix p (suc n) (x ∷ xs) h e =
    elim (p x) as (λ b. (b && list_all p (take n xs)) ≡ true → suc n ≤ cond b (1 + prefix_len p xs) 0) [
      | true ↦ λ t. let below : n ≤ prefix_len p xs = within_prefix p n xs (omega arith) t in omega arith
      | false ↦ λ t. absurd (cc t)
    ] e

-- ---- what is allowed

-- a front is allowed where it is UTF-8 and its bytes are printable
pub allowed-take : (text : List ℕ) (n : ℕ) → n ≤ prefix_len is_printable text → IsUtf8 (take n text) → is_allowed (take n text) ≡ true
allowed-take text n h u =
    and_from (is_utf8 (take n text)) (list_all is_printable (take n text)) (is_utf8-from_IsUtf8 (take n text) u) (list_all-take is_printable n text h)

allowed_utf8 : (xs : List ℕ) → is_allowed xs ≡ true → IsUtf8 xs
allowed_utf8 xs e = IsUtf8-from_is_utf8 xs (and_parts (is_utf8 xs) (list_all is_printable xs) e).0

-- a text of printable bytes is allowed where it is UTF-8
pub allowed-printable : (text : List ℕ) (utf8 : Bool) → (IsTrue utf8 ↔ IsUtf8 text) →
    list_all is_printable text ≡ true → utf8 ≡ is_allowed text
allowed-printable text utf8 is printable =
    same utf8 (is_allowed text)
    (λ e. and_from (is_utf8 text) (list_all is_printable text) (is_utf8-from_IsUtf8 text (is.0 e)) printable)
    (λ e. is.1 (allowed_utf8 text e))
  where
    same : (a b : Bool) → (a ≡ true → b ≡ true) → (b ≡ true → a ≡ true) → a ≡ b
    same true b there back = sym (there refl)
    same false true there back = back refl
    same false false there back = refl

allowed_printable : (text : List ℕ) (n : ℕ) → n ≤ length text → is_allowed (take n text) ≡ true → n ≤ prefix_len is_printable text
allowed_printable text n h e = within_prefix is_printable n text h (and_parts (is_utf8 (take n text)) (list_all is_printable (take n text)) e).1

-- all of a text, where nothing stops it
pub allowed_whole : (text : List ℕ) (n : ℕ) → n ≡ prefix_len is_printable text → n ≡ length text → IsUtf8 (take n text) → is_allowed text ≡ true
allowed_whole text n e all u =
    subst (λ xs. is_allowed xs ≡ true) (take_all n text (omega arith)) (allowed-take text n (omega arith) u)

-- the longest front that is UTF-8 among the printable ones
longest_front : (text : List ℕ) (n : ℕ) → n < length text → n ≤ prefix_len is_printable text → IsUtf8 (take n text) →
    ((m : ℕ) → n < m → m ≤ prefix_len is_printable text → ¬ (IsUtf8 (take m text))) → IsAllowedUpTo text n
longest_front text n short within u no_longer =
    record {
      short = short;
      front = allowed-take text n within u;
      longest = λ m l e. at m l e (split m);
    }
  where
    split : (m : ℕ) → (m ≤ length text) ⊎ (length text ≤ m)
    split m = grind arith

    at : (m : ℕ) → n < m → is_allowed (take m text) ≡ true → (m ≤ length text) ⊎ (length text ≤ m) → ⊥
    at m l e (inl h) = no_longer m l (allowed_printable text m h e) (allowed_utf8 (take m text) e)
    at m l e (inr h) =
        let all : is_allowed (take (length text) text) ≡ true =
        subst (λ xs. is_allowed xs ≡ true) (take_all m text h ∙ sym (take_all (length text) text (omega arith))) e in
        no_longer (length text) short (allowed_printable text (length text) (omega arith) all) (allowed_utf8 (take (length text) text) all)

-- where the first byte that isn't printable ends the front
pub up_to_control : (text : List ℕ) (n : ℕ) → n ≡ prefix_len is_printable text → ¬ (n ≡ length text) → IsUtf8 (take n text) → IsAllowedUpTo text n
up_to_control text n e short u =
    let fits = prefix_len-le-length is_printable text in
    let below : n < length text = less (grind arith) in
    longest_front text n below (omega arith) u (λ m l k _. absurd (omega arith))
  where
    less : (n < length text) ⊎ (length text ≤ n) → n < length text
    less (inl l) = l
    less (inr l) =
        let fits = prefix_len-le-length is_printable text in
        let same : n ≡ length text = omega arith in
        absurd (short same)

-- where bytes that aren't UTF-8 end it
pub up_to_fault : (text : List ℕ) (k n : ℕ) → k ≡ prefix_len is_printable text → IsValidUpTo (take k text) n → IsAllowedUpTo text n
up_to_fault text k n e v =
    let fits = prefix_len-le-length is_printable text in
    let most : length (take k text) ≡ k = length-take-le k text (omega arith) in
    let short : n < length (take k text) = v.short in
    longest_front text n (omega arith) (omega arith) (subst IsUtf8 (take-take n k text (omega arith)) v.front)
    (λ m l h u. v.longest m l (subst IsUtf8 (sym (take-take m k text (omega arith))) u))

-- ---- what the longest front says

pub not_allowed : (text : List ℕ) (n : ℕ) → IsAllowedUpTo text n → ¬ (is_allowed text ≡ true)
not_allowed text n up e =
    up.longest (length text) up.short (subst (λ xs. is_allowed xs ≡ true) (sym (take_all (length text) text (omega arith))) e)

front_step : (b : Bool) (k n shorter : ℕ) → (b ≡ true → suc k ≡ n) → (b ≡ false → shorter ≡ n) → cond b (suc k) shorter ≡ n
front_step true k n shorter = λ here there. here refl
front_step false k n shorter = λ here there. there refl

pub allowed_front_is : (k : ℕ) (text : List ℕ) (n : ℕ) → n ≤ k → is_allowed (take n text) ≡ true →
    ((m : ℕ) → n < m → ¬ (is_allowed (take m text) ≡ true)) → allowed_front k text ≡ n
allowed_front_is zero text n h front longest = omega arith
allowed_front_is (suc k) text n h front longest =
    front_step (is_allowed (take (suc k) text)) k n (allowed_front k text) (λ shown. at_most shown (split n))
    (λ hidden. below (λ l. allowed_front_is k text n l front longest) hidden (split n))
  where
    split : (j : ℕ) → (suc k ≤ j) ⊎ (j < suc k)
    split j = grind arith

    at_most : is_allowed (take (suc k) text) ≡ true → (suc k ≤ n) ⊎ (n < suc k) → suc k ≡ n
    at_most shown (inl l) = omega arith
    at_most shown (inr l) = absurd (longest (suc k) l shown)

    below : (n ≤ k → allowed_front k text ≡ n) → is_allowed (take (suc k) text) ≡ false → (suc k ≤ n) ⊎ (n < suc k) → allowed_front k text ≡ n
    below shorter hidden (inr l) = shorter (omega arith)
    below shorter hidden (inl l) =
        let e : n ≡ suc k = omega arith in
        absurd (cc (sym hidden ∙ ap (λ j. is_allowed (take j text)) (sym e) ∙ front))

pub front_is : (text : List ℕ) (n : ℕ) → IsAllowedUpTo text n → n ≡ allowed_front (length text) text
front_is text n up = sym (allowed_front_is (length text) text n (omega (arith, up.short)) up.front up.longest)
