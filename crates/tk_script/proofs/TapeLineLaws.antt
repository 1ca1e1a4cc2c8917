-- What is said of the lines of a tape.
use Rattle.std.proofs.Common.{◌≡◌, ℕ, ◌<◌, ◌≤◌, ◌^◌, List, [], ◌∷◌, ◌++◌, length, decimal, codes, replicate, ◌⊎◌, inl, inr, cond, Bool, true, false, IsTrue, Option, Some, None, Result, Ok, Err, refl, ap, sym, ◌∙◌, subst, arith, append-nil}
use Rattle.std.specs.Str.{bytes_eq}
use Rattle.std.proofs.lemmas.Bool.Decides.{nat_tests}
use Rattle.tk_shape.proofs.Offers.{between-parts, between-from}
use Rattle.std.proofs.lemmas.List.Splits.{join_with_byte-slice_split}
use Rattle.std.proofs.lemmas.Slice.Eq.{bytes_eq-Decides}
use Rattle.hex.specs.Hex.{decode_of}
use Rattle.hex.specs.declared.error.FromHexError.{FromHexError}
use Rattle.tk_shape.specs.Limits.{is_between}
use Rattle.tk_script.specs.declared.cause.Cause.TheVariants as cause
use Rattle.tk_script.specs.Fields.{LacksSpace}
use Rattle.tk_script.specs.Grammar.{fields, SpellsPiece}
use Rattle.tk_script.specs.Reading.{Verdict, parts_of, number_spelled, bytes_found, in_piece, read_digits, repeats, repeated, read_fill, piece_parts, read_piece}
use Rattle.tk_script.proofs.CauseLaws.{lacks_by_test}
use Rattle.tk_script.proofs.FieldLaws.{LacksSpace-decimal}
use Rattle.tk_script.proofs.HexLaws.{digits_lack}
use Rattle.tk_script.proofs.OptionLaws.{ok_or, ok_if, verdict_if}
use Rattle.tk_script.proofs.PartLaws.{split_field, one_field, number_spelled-decimal, number_spelled-is}

-- ---- digits

pub digits_taken : (digits bytes : List ℕ) → decode_of digits ≡ Ok bytes → 1 ≤ length bytes →
    length bytes ≤ 2048 → read_digits (parts_of digits) ≡ Ok bytes
digits_taken digits bytes decoded low high =
    ap read_digits (one_field digits (digits_lack digits bytes decoded))
    ∙ ap (λ r. in_piece (bytes_found r)) decoded
    ∙ rw (between-from 1 2048 (length bytes) low high) refl

-- digits that are no piece
abbrev pub IsNoPiece : List ℕ → Type 0
IsNoPiece digits = (bytes : List ℕ) → decode_of digits ≡ Ok bytes → 1 ≤ length bytes →
    length bytes ≤ 2048 → ⊥

form_by : (n : ℕ) (bytes : List ℕ) (b : Bool) → is_between 1 2048 n ≡ b →
    (1 ≤ n → n ≤ 2048 → ⊥) → ok_or b bytes cause.Form ≡ Err cause.Form
form_by n bytes true e never = let range = between-parts 1 2048 n e in
    absurd (never range.0 range.1)
form_by n bytes false e never = refl

piece_form : (bytes : List ℕ) → (1 ≤ length bytes → length bytes ≤ 2048 → ⊥) →
    in_piece (Some bytes) ≡ Err cause.Form
piece_form bytes never = form_by (length bytes) bytes (is_between 1 2048 (length bytes)) refl never

found_form : (r : Result (List ℕ) FromHexError) →
    ((bytes : List ℕ) → r ≡ Ok bytes → 1 ≤ length bytes → length bytes ≤ 2048 → ⊥) →
    in_piece (bytes_found r) ≡ Err cause.Form
found_form (Ok bytes) never = piece_form bytes (never bytes refl)
found_form (Err e) never = refl

parts_form : (parts : List (List ℕ)) → IsNoPiece (fields parts) →
    read_digits parts ≡ Err cause.Form
parts_form [] never = refl
parts_form (digits ∷ []) never = found_form (decode_of digits) never
parts_form (digits ∷ more ∷ parts) never = refl

pub digits_form : (digits : List ℕ) → IsNoPiece digits →
    read_digits (parts_of digits) ≡ Err cause.Form
digits_form digits never =
    parts_form (parts_of digits)
    (subst IsNoPiece (sym (join_with_byte-slice_split 0x20 digits)) never)

-- ---- a byte and its repeats

fill_parts : (digits : List ℕ) (n : ℕ) → LacksSpace digits → n < 2 ^ 32 →
    parts_of (digits ++ 0x20 ∷ decimal n) ≡ digits ∷ decimal n ∷ []
fill_parts digits n lacks small =
    split_field digits (decimal n) lacks
    ∙ ap (λ t. digits ∷ t) (one_field (decimal n) (LacksSpace-decimal n small))

-- a byte and a number say how often it is repeated
pub fill_said : (text digits : List ℕ) (b n : ℕ) → text ≡ digits ++ 0x20 ∷ decimal n →
    decode_of digits ≡ Ok (b ∷ []) → n < 2 ^ 32 → read_fill (parts_of text) ≡ repeats b n
fill_said text digits b n e decoded small =
    ap (λ t. read_fill (parts_of t)) e
    ∙ ap read_fill (fill_parts digits n (digits_lack digits (b ∷ []) decoded) small)
    ∙ ap (λ r. repeated (bytes_found r) (number_spelled (decimal n))) decoded
    ∙ ap (repeated (Some (b ∷ []))) (number_spelled-decimal n small)

nothing : (xs : List ℕ) → length xs ≡ 0 → xs ≡ []
nothing [] e = refl
nothing (x ∷ xs) e = absurd (omega (arith, e))

-- a text of digits, and a number after which nothing stands
pub fill_spelled : (text digits rest behind : List ℕ) (n : ℕ) → text ≡ digits ++ rest →
    rest ≡ 0x20 ∷ (decimal n ++ behind) → length behind ≡ 0 → text ≡ digits ++ 0x20 ∷ decimal n
fill_spelled text digits rest behind n whole e none =
    whole ∙ ap (λ t. digits ++ t) (e ∙ ap (λ t. 0x20 ∷ (decimal n ++ t)) (nothing behind none)
    ∙ ap (λ t. 0x20 ∷ t) (append-nil (decimal n)))

pub repeats_taken : (b n : ℕ) → 1 ≤ n → n ≤ 2097152 → repeats b n ≡ Ok (replicate n b)
repeats_taken b n low high = rw (between-from 1 2097152 n low high) refl

few : (n : ℕ) → n < 1 → is_between 1 2097152 n ≡ false
few n h = grind (arith, nat_tests)

many : (n : ℕ) → 2097152 < n → is_between 1 2097152 n ≡ false
many n h = grind (arith, nat_tests)

pub repeats_few : (b n : ℕ) → n < 1 → repeats b n ≡ Err (cause.Number n)
repeats_few b n h = rw (few n h) refl

pub repeats_many : (b n : ℕ) → 2097152 < n → repeats b n ≡ Err (cause.Number n)
repeats_many b n h = rw (many n h) refl

-- a text of no byte and number
abbrev pub IsNoFill : List ℕ → Type 0
IsNoFill text = (b n : ℕ) (digits : List ℕ) → text ≡ digits ++ 0x20 ∷ decimal n →
    decode_of digits ≡ Ok (b ∷ []) → n < 2 ^ 32 → ⊥

number_form : (b : ℕ) (o : Option ℕ) → ((n : ℕ) → o ≡ Some n → ⊥) →
    repeated (Some (b ∷ [])) o ≡ Err cause.Form
number_form b None never = refl
number_form b (Some n) never = absurd (never n refl)

repeated_form : (r : Result (List ℕ) FromHexError) (o : Option ℕ) →
    ((b n : ℕ) → r ≡ Ok (b ∷ []) → o ≡ Some n → ⊥) →
    repeated (bytes_found r) o ≡ Err cause.Form
repeated_form (Err e) o never = refl
repeated_form (Ok []) o never = refl
repeated_form (Ok (b ∷ [])) o never = number_form b o (λ n. never b n refl)
repeated_form (Ok (b ∷ more ∷ bytes)) o never = refl

fill_parts_form : (parts : List (List ℕ)) → IsNoFill (fields parts) →
    read_fill parts ≡ Err cause.Form
fill_parts_form [] never = refl
fill_parts_form (digits ∷ []) never = refl
fill_parts_form (digits ∷ t ∷ []) never =
    repeated_form (decode_of digits) (number_spelled t) (λ b n decoded spelled.
    let number = number_spelled-is t n spelled in
    never b n digits (ap (λ u. digits ++ 0x20 ∷ u) number.1) decoded number.0)
fill_parts_form (digits ∷ t ∷ more ∷ parts) never = refl

pub fill_form : (text : List ℕ) → IsNoFill text → read_fill (parts_of text) ≡ Err cause.Form
fill_form text never =
    fill_parts_form (parts_of text)
    (subst IsNoFill (sym (join_with_byte-slice_split 0x20 text)) never)

-- ---- both

pub x_said : (line digits : List ℕ) → line ≡ codes "x" ++ 0x20 ∷ digits →
    read_piece line ≡ read_digits (parts_of digits)
x_said line digits e =
    ap read_piece e
    ∙ ap piece_parts (split_field (codes "x") digits (lacks_by_test (codes "x") refl))

pub fill_behind : (line text : List ℕ) → line ≡ codes "fill" ++ 0x20 ∷ text →
    read_piece line ≡ read_fill (parts_of text)
fill_behind line text e =
    ap read_piece e
    ∙ ap piece_parts (split_field (codes "fill") text (lacks_by_test (codes "fill") refl))

-- a line that begins with neither word
abbrev pub LacksWord : List ℕ → List ℕ → Type 0
LacksWord word line = (rest : List ℕ) → line ≡ word ++ 0x20 ∷ rest → ⊥

none_form : (r : Verdict (List ℕ)) (b : Bool) → (IsTrue b → r ≡ Err cause.Form) →
    cond b r (Err cause.Form) ≡ Err cause.Form
none_form r true f = f refl
none_form r false f = refl

two_form : (r s : Verdict (List ℕ)) (a b : Bool) → (IsTrue a → r ≡ Err cause.Form) →
    (IsTrue b → s ≡ Err cause.Form) →
    cond a r (cond b s (Err cause.Form)) ≡ Err cause.Form
two_form r s true b f g = f refl
two_form r s false b f g = none_form s b g

word_form : (w word : List ℕ) (parts : List (List ℕ)) (r : List (List ℕ) → Verdict (List ℕ)) →
    r [] ≡ Err cause.Form → LacksWord word (fields (w ∷ parts)) → IsTrue (bytes_eq w word) →
    r parts ≡ Err cause.Form
word_form w word [] r none lacks same = none
word_form w word (p ∷ parts) r none lacks same =
    absurd (lacks (fields (p ∷ parts))
    (ap (λ v. v ++ 0x20 ∷ fields (p ∷ parts)) ((bytes_eq-Decides w word).0 same)))

piece_parts-form : (parts : List (List ℕ)) → LacksWord (codes "x") (fields parts) →
    LacksWord (codes "fill") (fields parts) → piece_parts parts ≡ Err cause.Form
piece_parts-form [] p q = refl
piece_parts-form (w ∷ parts) p q =
    two_form (read_digits parts) (read_fill parts) (bytes_eq w (codes "x"))
    (bytes_eq w (codes "fill"))
    (word_form w (codes "x") parts read_digits refl p)
    (word_form w (codes "fill") parts read_fill refl q)

pub other_form : (line : List ℕ) → LacksWord (codes "x") line → LacksWord (codes "fill") line →
    read_piece line ≡ Err cause.Form
other_form line p q =
    let whole = sym (join_with_byte-slice_split 0x20 line) in
    piece_parts-form (parts_of line) (subst (LacksWord (codes "x")) whole p)
    (subst (LacksWord (codes "fill")) whole q)

-- ---- a line gives its piece

pub piece_whole : (line bytes : List ℕ) → SpellsPiece line bytes → read_piece line ≡ Ok bytes
piece_whole line bytes (inl h) = x_said line h.0.0 h.0.1 ∙ digits_taken h.0.0 bytes h.0.2 h.1 h.2
piece_whole line bytes (inr h) =
    let text = h.1 ++ 0x20 ∷ decimal h.2 in
    fill_behind line text h.3 ∙ fill_said text h.1 h.0 h.2 refl h.4 (omega (arith, h.6))
    ∙ repeats_taken h.0 h.2 h.5 h.6 ∙ ap Ok (sym h.7)

found_from : (r : Result (List ℕ) FromHexError) (bytes : List ℕ) →
    in_piece (bytes_found r) ≡ Ok bytes →
    (r ≡ Ok bytes) × (1 ≤ length bytes) × (length bytes ≤ 2048)
found_from (Ok found) bytes e =
    let test = ok_if (is_between 1 2048 (length found)) found bytes cause.Form e in
    let range = between-parts 1 2048 (length found) test.0 in (
      ap Ok test.1,
      subst (λ b. 1 ≤ length b) test.1 range.0,
      subst (λ b. length b ≤ 2048) test.1 range.1,
    )
found_from (Err x) bytes e = absurd (cc e)

digits_from : (parts : List (List ℕ)) (bytes : List ℕ) → read_digits parts ≡ Ok bytes →
    SpellsPiece (fields (codes "x" ∷ parts)) bytes
digits_from [] bytes e = absurd (cc e)
digits_from (digits ∷ []) bytes e =
    let found = found_from (decode_of digits) bytes e in
    inl ((digits, refl, found.0), found.1, found.2)
digits_from (digits ∷ more ∷ parts) bytes e = absurd (cc e)

-- a byte and its repeats
abbrev IsRepeated : Result (List ℕ) FromHexError → Option ℕ → List ℕ → Type 0
IsRepeated r o bytes = (b : ℕ) × (n : ℕ) × (r ≡ Ok (b ∷ [])) × (o ≡ Some n) × (1 ≤ n)
    × (n ≤ 2097152) × (bytes ≡ replicate n b)

repeated_from : (r : Result (List ℕ) FromHexError) (o : Option ℕ) (bytes : List ℕ) →
    repeated (bytes_found r) o ≡ Ok bytes → IsRepeated r o bytes
repeated_from (Err x) o bytes e = absurd (cc e)
repeated_from (Ok []) o bytes e = absurd (cc e)
repeated_from (Ok (b ∷ [])) None bytes e = absurd (cc e)
repeated_from (Ok (b ∷ [])) (Some n) bytes e =
    let test = ok_if (is_between 1 2097152 n) (replicate n b) bytes (cause.Number n) e in
    let range = between-parts 1 2097152 n test.0 in
    (b, n, refl, refl, range.0, range.1, sym test.1)
repeated_from (Ok (b ∷ more ∷ found)) o bytes e = absurd (cc e)

fill_from : (parts : List (List ℕ)) (bytes : List ℕ) → read_fill parts ≡ Ok bytes →
    SpellsPiece (fields (codes "fill" ∷ parts)) bytes
fill_from [] bytes e = absurd (cc e)
fill_from (digits ∷ []) bytes e = absurd (cc e)
fill_from (digits ∷ t ∷ []) bytes e =
    let h = repeated_from (decode_of digits) (number_spelled t) bytes e in
    let number = number_spelled-is t h.1 h.3 in
    inr (
      h.0,
      digits,
      h.1,
      ap (λ u. fields (codes "fill" ∷ digits ∷ u ∷ [])) number.1,
      h.2,
      h.4,
      h.5,
      h.6,
    )
fill_from (digits ∷ t ∷ more ∷ parts) bytes e = absurd (cc e)

two_from : (a b : Bool) (r s : Verdict (List ℕ)) (y : List ℕ) →
    cond a r (cond b s (Err cause.Form)) ≡ Ok y →
    (IsTrue a × (r ≡ Ok y)) ⊎ (IsTrue b × (s ≡ Ok y))
two_from true b r s y e = inl (refl, e)
two_from false b r s y e = inr (verdict_if b s y cause.Form e)

word_from : (w : List ℕ) (parts : List (List ℕ)) (bytes : List ℕ) →
    (IsTrue (bytes_eq w (codes "x")) × (read_digits parts ≡ Ok bytes))
    ⊎ (IsTrue (bytes_eq w (codes "fill")) × (read_fill parts ≡ Ok bytes)) →
    SpellsPiece (fields (w ∷ parts)) bytes
word_from w parts bytes (inl h) =
    subst (λ v. SpellsPiece (fields (v ∷ parts)) bytes)
    (sym ((bytes_eq-Decides w (codes "x")).0 h.0)) (digits_from parts bytes h.1)
word_from w parts bytes (inr h) =
    subst (λ v. SpellsPiece (fields (v ∷ parts)) bytes)
    (sym ((bytes_eq-Decides w (codes "fill")).0 h.0)) (fill_from parts bytes h.1)

piece_from : (parts : List (List ℕ)) (bytes : List ℕ) → piece_parts parts ≡ Ok bytes →
    SpellsPiece (fields parts) bytes
piece_from [] bytes e = absurd (cc e)
piece_from (w ∷ parts) bytes e =
    word_from w parts bytes (two_from (bytes_eq w (codes "x")) (bytes_eq w (codes "fill"))
    (read_digits parts) (read_fill parts) bytes e)

pub piece_is : (line bytes : List ℕ) → read_piece line ≡ Ok bytes → SpellsPiece line bytes
piece_is line bytes e =
    subst (λ l. SpellsPiece l bytes) (join_with_byte-slice_split 0x20 line)
    (piece_from (parts_of line) bytes e)
