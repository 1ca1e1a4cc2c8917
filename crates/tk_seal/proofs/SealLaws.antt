-- A sealed text opens, and what opens is the one text that seals to the block.
use Rattle.std.proofs.Common.{◌≡◌, ℕ, ◌+◌, ◌<◌, ◌≤◌, ◌^◌, List, ◌++◌, length, take, drop, Bool, true, false, cond, ◌&&◌, refl, ap, sym, ◌∙◌, arith, Option, Some, None, subst, leb-true}
use Rattle.std.specs.Prelude.{nat_le, not, IfSome, IfNone}
use Rattle.std.specs.Str.{bytes_eq}
use Rattle.std.proofs.lemmas.Slice.Eq.{bytes_eq-Decides}
use Rattle.std.proofs.Math.Seq.{take-append_seam, drop-append_seam}
use Rattle.std.proofs.lemmas.Bool.{and_from}
use Rattle.tk_kernel.specs.Xor.{xor_bytes}
use Rattle.tk_seal.specs.Texts.{is_allowed}
use Rattle.tk_seal.specs.Seal.{plain, plain_text, sealed_with, opened_with, IsPlainForm}
use Rattle.tk_kernel.proofs.Offers.{xor_bytes_twice, length-xor_bytes}
use Rattle.tk_seal.proofs.XorLaws.{xor_bytes-front}
use Rattle.tk_seal.proofs.PlainForms.{plain_text-plain, length-plain}

-- a text that fits is seen again behind the pad
pub plain_text-sealed : (pad : List ℕ) (tag : List ℕ → List ℕ) (text : List ℕ) → length text + 2 ≤ length pad → length text < 2 ^ 16 →
    plain_text (xor_bytes pad (sealed_with pad tag text)) ≡ text
plain_text-sealed pad tag text fits small =
    let form = plain (length pad) text in
    let long : length pad ≡ length form = sym (length-plain (length pad) text fits) in
    ap plain_text (xor_bytes-front pad (xor_bytes pad form) (tag (xor_bytes pad form)) (length-xor_bytes pad form long) ∙ xor_bytes_twice pad form long)
    ∙ plain_text-plain (length pad) text small

-- the text that seals to the block opens it: so there is one at most
pub opened_with-sealed : (pad : List ℕ) (tag : List ℕ → List ℕ) (text block : List ℕ) → is_allowed text ≡ true → length text + 2 ≤ length pad →
    length text < 2 ^ 16 → sealed_with pad tag text ≡ block → opened_with pad tag block ≡ Some text
opened_with-sealed pad tag text block allowed fits small seals =
    ap (opened_with pad tag) (sym seals)
    ∙ ap (λ m. cond (is_allowed m && nat_le (length m + 2) (length pad) && bytes_eq (sealed_with pad tag m) (sealed_with pad tag text)) (Some m) None) (plain_text-sealed pad tag text fits small)
    ∙ ap (λ b. cond b (Some text) None)
    (and_from (is_allowed text && nat_le (length text + 2) (length pad)) (bytes_eq (sealed_with pad tag text) (sealed_with pad tag text))
    (and_from (is_allowed text) (nat_le (length text + 2) (length pad)) allowed (search (arith, fits)))
    ((bytes_eq-Decides (sealed_with pad tag text) (sealed_with pad tag text)).1 refl))

-- what opens is allowed, fits, and seals to the block
pub opened_with-is : (pad : List ℕ) (tag : List ℕ → List ℕ) (block text : List ℕ) → opened_with pad tag block ≡ Some text →
    (is_allowed text ≡ true) × (length text + 2 ≤ length pad) × (sealed_with pad tag text ≡ block)
opened_with-is pad tag block text e = shown (plain_text (xor_bytes pad block)) e
  where
    parts : (a b c : Bool) → (a && b && c) ≡ true → (a ≡ true) × (b ≡ true) × (c ≡ true)
    parts true true true e = (refl, refl, refl)
    parts true true false e = absurd (cc e)
    parts true false c e = absurd (cc e)
    parts false b c e = absurd (cc e)

    test : List ℕ → Bool
    test m = is_allowed m && nat_le (length m + 2) (length pad) && bytes_eq (sealed_with pad tag m) block

    passed : (m : List ℕ) → test m ≡ true → (is_allowed m ≡ true) × (length m + 2 ≤ length pad) × (sealed_with pad tag m ≡ block)
    passed m t =
        let p : (is_allowed m ≡ true) × (nat_le (length m + 2) (length pad) ≡ true) × (bytes_eq (sealed_with pad tag m) block ≡ true) =
        parts (is_allowed m) (nat_le (length m + 2) (length pad)) (bytes_eq (sealed_with pad tag m) block) t in
        (p.0, leb-true (length m + 2) (length pad) p.1, (bytes_eq-Decides (sealed_with pad tag m) block).0 p.2)

    shown : (m : List ℕ) → cond (test m) (Some m) None ≡ Some text → (is_allowed text ≡ true) × (length text + 2 ≤ length pad) × (sealed_with pad tag text ≡ block)
    shown m e =
        elim (test m) as (λ b. test m ≡ b → cond b (Some m) None ≡ Some text → (is_allowed text ≡ true) × (length text + 2 ≤ length pad) × (sealed_with pad tag text ≡ block)) [
          | true ↦ λ t e. subst (λ x. (is_allowed x ≡ true) × (length x + 2 ≤ length pad) × (sealed_with pad tag x ≡ block)) (inner e) (passed m t)
          | false ↦ λ t e. absurd (cc e)
        ] refl e
      where
        inner : {a b : List ℕ} → ◌≡◌ {A = Option (List ℕ)} (Some a) (Some b) → a ≡ b
        inner e = cc e

-- ---- a block of what is masked and a mark

-- it opens to the text whose plain form is behind the pad, where the mark is the tag of what is masked
pub opens_form : (pad : List ℕ) (tag : List ℕ → List ℕ) (masked mark text : List ℕ) → length masked ≡ length pad → mark ≡ tag masked →
    IsPlainForm (xor_bytes pad masked) text → opened_with pad tag (masked ++ mark) ≡ Some text
opens_form pad tag masked mark text long is form =
    let wide : length (xor_bytes pad masked) ≡ length pad = length-xor_bytes pad masked (sym long) in
    let fits : length text + 2 ≤ length pad = subst (λ n. length text + 2 ≤ n) wide form.fits in
    let again : xor_bytes pad (plain (length pad) text) ≡ masked =
    ap (xor_bytes pad) (ap (λ n. plain n text) (sym wide) ∙ sym form.form) ∙ xor_bytes_twice pad masked (sym long) in
    opened_with-sealed pad tag text (masked ++ mark) form.allowed fits form.short
    (ap (λ m. m ++ tag m) again ∙ ap (λ (m : List ℕ). masked ++ m) (sym is))

-- two lists that are equal, each of two parts, the first ones of one length
fronts : (a b c d : List ℕ) → length a ≡ length b → a ++ c ≡ b ++ d → a ≡ b
fronts a b c d e same =
    sym (take-append_seam a c) ∙ ap (λ n. take n (a ++ c)) e ∙ ap (take (length b)) same ∙ take-append_seam b d

backs : (a b c d : List ℕ) → length a ≡ length b → a ++ c ≡ b ++ d → c ≡ d
backs a b c d e same =
    sym (drop-append_seam a c) ∙ ap (λ n. drop n (a ++ c)) e ∙ ap (drop (length b)) same ∙ drop-append_seam b d

-- what a text that opens it says: the mark is the tag, and the text's plain form is behind the pad
form_opened : (pad : List ℕ) (tag : List ℕ → List ℕ) (masked mark text : List ℕ) → length masked ≡ length pad → length pad < 2 ^ 16 →
    opened_with pad tag (masked ++ mark) ≡ Some text → (mark ≡ tag masked) × IsPlainForm (xor_bytes pad masked) text
form_opened pad tag masked mark text long small e =
    let o = opened_with-is pad tag (masked ++ mark) text e in
    let form = plain (length pad) text in
    let wide : length form ≡ length pad = length-plain (length pad) text o.1 in
    let front : length (xor_bytes pad form) ≡ length masked = length-xor_bytes pad form (sym wide) ∙ sym long in
    let same : xor_bytes pad form ≡ masked = fronts (xor_bytes pad form) masked (tag (xor_bytes pad form)) mark front o.2 in
    let behind : tag (xor_bytes pad form) ≡ mark = backs (xor_bytes pad form) masked (tag (xor_bytes pad form)) mark front o.2 in
    let seen : xor_bytes pad masked ≡ form = ap (xor_bytes pad) (sym same) ∙ xor_bytes_twice pad form (sym wide) in
    let long_enough : length (xor_bytes pad masked) ≡ length pad = ap length seen ∙ wide in (
      sym behind ∙ ap tag same,
      record {
        allowed = o.0;
        fits = subst (λ n. length text + 2 ≤ n) (sym long_enough) o.1;
        short = omega (arith, o.1);
        form = seen ∙ ap (λ n. plain n text) (sym long_enough);
      },
    )

nothing : (o : Option (List ℕ)) → ((text : List ℕ) → ¬ (o ≡ Some text)) → o ≡ None
nothing None h = refl
nothing (Some text) h = absurd (h text refl)

-- it opens to nothing where the mark isn't the tag
pub closed_by_mark : (pad : List ℕ) (tag : List ℕ → List ℕ) (masked mark : List ℕ) → length masked ≡ length pad → length pad < 2 ^ 16 →
    ¬ (mark ≡ tag masked) → opened_with pad tag (masked ++ mark) ≡ None
closed_by_mark pad tag masked mark long small differs =
    nothing (opened_with pad tag (masked ++ mark)) (λ text e. differs (form_opened pad tag masked mark text long small e).0)

-- or where no plain form is behind the pad
pub closed_by_form : (pad : List ℕ) (tag : List ℕ → List ℕ) (masked mark : List ℕ) → length masked ≡ length pad → length pad < 2 ^ 16 →
    ((text : List ℕ) → ¬ (IsPlainForm (xor_bytes pad masked) text)) → opened_with pad tag (masked ++ mark) ≡ None
closed_by_form pad tag masked mark long small no_form =
    nothing (opened_with pad tag (masked ++ mark)) (λ text e. no_form text (form_opened pad tag masked mark text long small e).1)

-- ---- what reading the text behind a pad says of a block whose mark is the tag

pub opened_by_reading : (pad : List ℕ) (tag : List ℕ → List ℕ) (masked mark out : List ℕ) (read : Option ℕ) → length masked ≡ length pad → mark ≡ tag masked →
    IfSome read (λ n. IsPlainForm (xor_bytes pad masked) (take n out)) → IfSome read (λ n. opened_with pad tag (masked ++ mark) ≡ Some (take n out))
opened_by_reading pad tag masked mark out None long is form = form
opened_by_reading pad tag masked mark out (Some n) long is form = opens_form pad tag masked mark (take n out) long is form

pub closed_by_reading : (pad : List ℕ) (tag : List ℕ → List ℕ) (masked mark : List ℕ) (read : Option ℕ) → length masked ≡ length pad → length pad < 2 ^ 16 →
    IfNone read ((text : List ℕ) → ¬ (IsPlainForm (xor_bytes pad masked) text)) → IfNone read (opened_with pad tag (masked ++ mark) ≡ None)
closed_by_reading pad tag masked mark None long small no_form = closed_by_form pad tag masked mark long small no_form
closed_by_reading pad tag masked mark (Some n) long small no_form = no_form

pub IfNone_then : (read : Option ℕ) {P Q : Type 0} → IfNone read P → (P → Q) → IfNone read Q
IfNone_then None p f = f p
IfNone_then (Some n) p f = p

-- what the test of two marks says
pub marks_differ : (a b : List ℕ) → true ≡ not (bytes_eq a b) → ¬ (a ≡ b)
marks_differ a b e same =
    let equal : bytes_eq a b ≡ true = (bytes_eq-Decides a b).1 same in
    absurd (cc (e ∙ ap not equal))

pub marks_agree : (a b : List ℕ) → false ≡ not (bytes_eq a b) → a ≡ b
marks_agree a b e = (bytes_eq-Decides a b).0 (equal (bytes_eq a b) e)
  where
    equal : (t : Bool) → false ≡ not t → t ≡ true
    equal true e = refl
    equal false e = absurd (cc e)
