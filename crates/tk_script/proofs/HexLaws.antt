-- Lines of a word and digits.
use Rattle.std.proofs.Common.{◌≡◌, ℕ, List, [], ◌∷◌, length, get_or, cond, Bool, true, false, Option, Some, None, Result, Ok, Err, refl, ap, sym, ◌∙◌, subst, eq-eqb}
use Rattle.std.specs.Prelude.{IsNone, IfSome, ◌==◌}
use Rattle.std.specs.Str.{bytes_eq}
use Rattle.std.proofs.lemmas.Bool.{eqb-true}
use Rattle.std.proofs.lemmas.List.Splits.{join_with_byte-slice_split}
use Rattle.std.proofs.lemmas.Slice.Eq.{bytes_eq-Decides}
use Rattle.hex.specs.Hex.{decode_of, is_hex_digit}
use Rattle.hex.specs.declared.error.FromHexError.{FromHexError}
use Rattle.hex.proofs.HexLemmas.{decode_of-ok}
use Rattle.tk_script.specs.declared.cause.Cause.TheVariants as cause
use Rattle.tk_script.specs.Fields.{LacksSpace}
use Rattle.tk_script.specs.Grammar.{fields}
use Rattle.tk_script.specs.Reading.{Verdict, IsTaken, parts_of, bytes_found, bytes_in, counted, read_hex, read_bytes}
use Rattle.tk_script.proofs.OptionLaws.{ok_or, ok_if, verdict_if}
use Rattle.tk_script.proofs.PartLaws.{split_field, one_field, same_bytes}

no_digit : (b : ℕ) → is_hex_digit b ≡ true → b ≡ 0x20 → ⊥
no_digit b digit space = absurd (cc (ap is_hex_digit (sym space) ∙ digit))

-- digits are no spaces
pub digits_lack : (digits bytes : List ℕ) → decode_of digits ≡ Ok bytes → LacksSpace digits
digits_lack digits bytes decoded k within e =
    no_digit (get_or digits k 0) ((decode_of-ok digits bytes decoded).1 k 0 within) e

two_parts : (word digits : List ℕ) → LacksSpace word → LacksSpace digits →
    parts_of (fields (word ∷ digits ∷ [])) ≡ word ∷ digits ∷ []
two_parts word digits p q = split_field word digits p ∙ ap (λ t. word ∷ t) (one_field digits q)

-- digits of so many bytes give them
pub counted_taken : (digits bytes : List ℕ) (count : ℕ) → decode_of digits ≡ Ok bytes →
    length bytes ≡ count → counted count (bytes_in digits) ≡ Ok bytes
counted_taken digits bytes count decoded long =
    ap (λ r. counted count (bytes_found r)) decoded ∙ rw (eq-eqb (length bytes) count long) refl

hex_taken : (word digits bytes : List ℕ) (count : ℕ) → decode_of digits ≡ Ok bytes →
    length bytes ≡ count → read_hex word count (word ∷ digits ∷ []) ≡ Ok bytes
hex_taken word digits bytes count decoded long =
    rw (same_bytes word) (counted_taken digits bytes count decoded long)

-- a word and digits give their bytes
pub read_bytes-taken : (word line digits bytes : List ℕ) (count : ℕ) → LacksSpace word →
    line ≡ fields (word ∷ digits ∷ []) → decode_of digits ≡ Ok bytes → length bytes ≡ count →
    read_bytes word count line ≡ Ok bytes
read_bytes-taken word line digits bytes count lacks e decoded long =
    ap (read_bytes word count) e
    ∙ ap (read_hex word count) (two_parts word digits lacks (digits_lack digits bytes decoded))
    ∙ hex_taken word digits bytes count decoded long

-- the digits of a line that gives these bytes
pub record Taken (word line : List ℕ) (count : ℕ) (bytes : List ℕ) : Type 0 where
  pub digits : List ℕ
  pub spelled : line ≡ fields (word ∷ digits ∷ [])
  pub decoded : decode_of digits ≡ Ok bytes
  pub counted : length bytes ≡ count

pub found_is : (count : ℕ) (r : Result (List ℕ) FromHexError) (bytes : List ℕ) →
    counted count (bytes_found r) ≡ Ok bytes → (r ≡ Ok bytes) × (length bytes ≡ count)
found_is count (Ok found) bytes e =
    let test = ok_if (length found == count) found bytes cause.Form e in
    (ap Ok test.1, ap length (sym test.1) ∙ eqb-true (length found) count test.0)
found_is count (Err x) bytes e = absurd (cc e)

taken_parts : (word : List ℕ) (count : ℕ) (ps : List (List ℕ)) (bytes : List ℕ) →
    read_hex word count ps ≡ Ok bytes → Taken word (fields ps) count bytes
taken_parts word count [] bytes e = absurd (cc e)
taken_parts word count (w ∷ []) bytes e = absurd (cc e)
taken_parts word count (w ∷ digits ∷ []) bytes e =
    let test = verdict_if (bytes_eq w word) (counted count (bytes_in digits)) bytes cause.Form e in
    let found = found_is count (decode_of digits) bytes test.1 in
    record {
      digits = digits;
      spelled = ap (λ v. fields (v ∷ digits ∷ [])) ((bytes_eq-Decides w word).0 test.0);
      decoded = found.0;
      counted = found.1;
    }
taken_parts word count (w ∷ digits ∷ more ∷ ps) bytes e = absurd (cc e)

pub read_bytes-is : (word line : List ℕ) (count : ℕ) (bytes : List ℕ) →
    read_bytes word count line ≡ Ok bytes → Taken word line count bytes
read_bytes-is word line count bytes e =
    subst (λ l. Taken word l count bytes) (join_with_byte-slice_split 0x20 line)
    (taken_parts word count (parts_of line) bytes e)

-- ---- lines of no such form

abbrev pub IsNever : Verdict (List ℕ) → Type 0
IsNever r = (bytes : List ℕ) → r ≡ Ok bytes → ⊥

cond_form : (b : Bool) (bytes : List ℕ) → IsNever (ok_or b bytes cause.Form) →
    ok_or b bytes cause.Form ≡ Err cause.Form
cond_form true bytes never = absurd (never bytes refl)
cond_form false bytes never = refl

pub counted_form : (count : ℕ) (o : Option (List ℕ)) → IsNever (counted count o) →
    counted count o ≡ Err cause.Form
counted_form count None never = refl
counted_form count (Some bytes) never = cond_form (length bytes == count) bytes never

word_form : (b : Bool) (r : Verdict (List ℕ)) → (IsNever r → r ≡ Err cause.Form) →
    IsNever (cond b r (Err cause.Form)) → cond b r (Err cause.Form) ≡ Err cause.Form
word_form true r form never = form never
word_form false r form never = refl

hex_form : (word : List ℕ) (count : ℕ) (ps : List (List ℕ)) →
    IsNever (read_hex word count ps) → read_hex word count ps ≡ Err cause.Form
hex_form word count [] never = refl
hex_form word count (w ∷ []) never = refl
hex_form word count (w ∷ digits ∷ []) never =
    word_form (bytes_eq w word) (counted count (bytes_in digits))
    (counted_form count (bytes_in digits)) never
hex_form word count (w ∷ digits ∷ more ∷ ps) never = refl

-- a line that gives no bytes is of no form
pub read_bytes-form : (word line : List ℕ) (count : ℕ) →
    ((bytes : List ℕ) → Taken word line count bytes → ⊥) →
    read_bytes word count line ≡ Err cause.Form
read_bytes-form word line count never =
    hex_form word count (parts_of line)
    (λ bytes e. never bytes (read_bytes-is word line count bytes e))

-- what is decoded of the digits after a word is what the line gives
pub read_bytes-by : (word line digits : List ℕ) (count : ℕ) → LacksSpace word →
    line ≡ fields (word ∷ digits ∷ []) →
    ((rest : List ℕ) → line ≡ fields (word ∷ rest ∷ []) → digits ≡ rest) →
    (o : Option (List ℕ)) → IfSome o (λ bytes. decode_of digits ≡ Ok bytes) →
    IfSome o (λ bytes. length bytes ≡ count) →
    ((bytes : List ℕ) → decode_of digits ≡ Ok bytes → length bytes ≡ count → o ≡ Some bytes) →
    IsTaken o (read_bytes word count line)
read_bytes-by word line digits count lacks e one None found long only =
    read_bytes-form word line count (λ bytes t.
    absurd (cc (only bytes (ap decode_of (one t.digits t.spelled) ∙ t.decoded) t.counted)))
read_bytes-by word line digits count lacks e one (Some bytes) found long only =
    read_bytes-taken word line digits bytes count lacks e found long

pub none_taken : {X : Type 0} (o : Option X) (said : Verdict X) → IsNone o →
    said ≡ Err cause.Form → IsTaken o said
none_taken None said none e = e
none_taken (Some x) said none e = absurd (cc none)

pub some_taken : {X : Type 0} (o : Option X) (x : X) (said : Verdict X) → o ≡ Some x →
    said ≡ Ok x → IsTaken o said
some_taken o x said same e = subst (λ p. IsTaken p said) (sym same) e
