-- Printed lines have no line feed of their own, so a text is read as the lines that were printed.
use Rattle.std.proofs.Common.{◌≡◌, ◌≢◌, ℕ, suc, ◌<◌, ◌^◌, List, [], ◌∷◌, ◌++◌, length, map, get_or, codes, decimal, Bool, true, IsTrue, Option, Some, None, refl, ap, sym, ◌∙◌, arith, append_assoc, eq-eqb}
use Rattle.std.specs.Prelude.{◌==◌, not, nat_le}
use Rattle.std.specs.List.{AllByRecursion, list_all, onto_first}
use Rattle.std.specs.Str.{is_utf8}
use Rattle.std.proofs.lemmas.Bool.{and_parts, leb-true}
use Rattle.hex.specs.Hex.{IsBytes, encode_lower, is_hex_digit}
use Rattle.hex.proofs.HexLemmas.{decode_of-ok, decode_of-encode_lower}
use Rattle.tk_shape.specs.declared.shape.Shape.{Shape}
use Rattle.tk_shape.specs.Numbers.{numbers_of}
use Rattle.tk_seal.specs.Texts.{is_allowed, is_printable}
use Rattle.tk_script.specs.declared.keys.Keys.{Keys}
use Rattle.tk_script.specs.declared.role.Role.{Role}
use Rattle.tk_script.specs.declared.say.Say.{Say}
use Rattle.tk_script.specs.Grammar.{Line, lines_of, fields, format_line, shape_line, kind_line, role_line, say_line, IsNumber}
use Rattle.tk_script.specs.SoundScript.{is_role, is_say}
use Rattle.tk_script.specs.Printing.{text_of, bytes_line}
use Rattle.tk_script.proofs.LineLaws.{lines_of-feed, lines_of-other}
use Rattle.tk_script.proofs.NumberLaws.{all_digits}
use Rattle.tk_script.proofs.ShapeLaws.{numbers_are_words}
use Rattle.tk_script.proofs.RoleLaws.{role_words}
use Rattle.tk_script.proofs.SayLaws.{say_words}

abbrev pub LacksFeed : List ℕ → Type 0
LacksFeed = AllByRecursion (λ b. b ≢ 0x0A)

-- ---- lines

pub lines_of-line : (line rest : List ℕ) → LacksFeed line →
    lines_of (line ++ 0x0A ∷ rest) ≡ line ∷ lines_of rest
lines_of-line [] rest lacks = lines_of-feed 0x0A rest refl
lines_of-line (b ∷ line) rest lacks =
    lines_of-other b (line ++ 0x0A ∷ rest) lacks.0
    ∙ ap (onto_first b) (lines_of-line line rest lacks.1)

-- a text is read as the lines that it was printed from, and what follows
pub lines_of-text_of : (lines : List Line) (rest : List ℕ) → AllByRecursion LacksFeed lines →
    lines_of (text_of lines ++ rest) ≡ lines ++ lines_of rest
lines_of-text_of [] rest lacks = refl
lines_of-text_of (l ∷ lines) rest lacks =
    ap lines_of (append_assoc l (0x0A ∷ text_of lines) rest)
    ∙ lines_of-line l (text_of lines ++ rest) lacks.0
    ∙ ap (λ ls. l ∷ ls) (lines_of-text_of lines rest lacks.1)

-- ---- what has no line feed

pub each-append : {X : Type 0} (P : X → Type 0) (xs ys : List X) → AllByRecursion P xs →
    AllByRecursion P ys → AllByRecursion P (xs ++ ys)
each-append P [] ys p q = q
each-append P (x ∷ xs) ys p q = (p.0, each-append P xs ys p.1 q)

no_feed : (x : ℕ) → not (x == 0x0A) ≡ true → x ≡ 0x0A → ⊥
no_feed x t e = absurd (cc (t, ap not (eq-eqb x 0x0A e)))

pub feed_by_test : (xs : List ℕ) → list_all (λ b. not (b == 0x0A)) xs ≡ true → LacksFeed xs
feed_by_test [] t = tt
feed_by_test (x ∷ xs) t =
    let both = and_parts (not (x == 0x0A)) (list_all (λ b. not (b == 0x0A)) xs) t in
    (no_feed x both.0, feed_by_test xs both.1)

pub feed_by_index : (xs : List ℕ) → ((k : ℕ) → k < length xs → get_or xs k 0 ≡ 0x0A → ⊥) →
    LacksFeed xs
feed_by_index [] none = tt
feed_by_index (x ∷ xs) none =
    (none 0 (omega arith), feed_by_index xs (λ k h. none (suc k) (omega (arith, h))))

pub decimal_lacks : (n : ℕ) → n < 2 ^ 32 → LacksFeed (decimal n)
decimal_lacks n small = feed_by_index (decimal n) (λ k within e.
    let digit = all_digits (decimal n) n (omega (arith, small)) refl k within in
    omega (arith, digit.0, e))

pub decimals_lack : (ns : List ℕ) → AllByRecursion IsNumber ns →
    AllByRecursion LacksFeed (map decimal ns)
decimals_lack [] words = tt
decimals_lack (n ∷ ns) words = (decimal_lacks n words.0, decimals_lack ns words.1)

no_digit : (b : ℕ) → is_hex_digit b ≡ true → b ≡ 0x0A → ⊥
no_digit b digit feed = absurd (cc (ap is_hex_digit (sym feed) ∙ digit))

digits_lack : (bytes : List ℕ) → IsBytes bytes → LacksFeed (encode_lower bytes)
digits_lack bytes are = feed_by_index (encode_lower bytes) (λ k within e.
    let digits = (decode_of-ok (encode_lower bytes) bytes (decode_of-encode_lower bytes are)).1 in
    no_digit (get_or (encode_lower bytes) k 0) (digits k 0 within) e)

pub fields_lack : (fs : List (List ℕ)) → AllByRecursion LacksFeed fs → LacksFeed (fields fs)
fields_lack [] lacks = tt
fields_lack (f ∷ []) lacks = lacks.0
fields_lack (f ∷ g ∷ fs) lacks =
    let space : 0x20 ≢ 0x0A = λ e. omega (arith, e) in
    each-append (λ b. b ≢ 0x0A) f (0x20 ∷ fields (g ∷ fs)) lacks.0
    (space, fields_lack (g ∷ fs) lacks.1)

pub bytes_line_lacks : (word bytes : List ℕ) → LacksFeed word → IsBytes bytes →
    LacksFeed (bytes_line word bytes)
bytes_line_lacks word bytes lacks are =
    fields_lack (word ∷ encode_lower bytes ∷ []) (lacks, (digits_lack bytes are, tt))

printables_lack : (text : List ℕ) → list_all is_printable text ≡ true → LacksFeed text
printables_lack [] all = tt
printables_lack (b ∷ text) all =
    let both = and_parts (is_printable b) (list_all is_printable text) all in
    let low = leb-true 0x20 b (and_parts (nat_le 0x20 b) (not (b == 0x7F)) both.0).0 in
    (λ e. omega (arith, low, e), printables_lack text both.1)

text_lacks : (text : List ℕ) → is_allowed text ≡ true → LacksFeed text
text_lacks text allowed =
    printables_lack text (and_parts (is_utf8 text) (list_all is_printable text) allowed).1

-- ---- lines of a script

pub format_line_lacks : (shape : Shape) → LacksFeed (format_line shape)
format_line_lacks shape =
    fields_lack (codes "talek" ∷ decimal shape.format ∷ []) (
      feed_by_test (codes "talek") refl,
      (decimal_lacks shape.format (omega (arith, shape.in_range.format_high)), tt),
    )

pub shape_line_lacks : (shape : Shape) → LacksFeed (shape_line shape)
shape_line_lacks shape =
    fields_lack (codes "shape" ∷ map decimal (numbers_of shape))
    (feed_by_test (codes "shape") refl, decimals_lack (numbers_of shape) (numbers_are_words shape))

pub kind_line_lacks : (keys : Option Keys) → LacksFeed (kind_line keys)
kind_line_lacks None = feed_by_test (codes "drawn") refl
kind_line_lacks (Some keys) = feed_by_test (codes "keyed") refl

pub role_line_lacks : (shape : Shape) (role : Role) → IsTrue (is_role shape role) →
    LacksFeed (role_line role)
role_line_lacks shape role sound =
    fields_lack (codes "log" ∷ map decimal (role.writer ∷ role.followers)) (
      feed_by_test (codes "log") refl,
      decimals_lack (role.writer ∷ role.followers) (role_words shape role sound),
    )

pub say_line_lacks : (shape : Shape) (say : Say) → IsTrue (is_say shape say) →
    LacksFeed (say_line say)
say_line_lacks shape say sound =
    let words = say_words shape say sound in
    let text = text_lacks say.text (and_parts _ (is_allowed say.text) sound).1 in
    fields_lack
    (codes "say" ∷ decimal say.phase ∷ decimal say.tick ∷ decimal say.log ∷ say.text ∷ []) (
      feed_by_test (codes "say") refl,
      (
        decimal_lacks say.phase words.phase,
        (decimal_lacks say.tick words.tick, (decimal_lacks say.log words.log, (text, tt))),
      ),
    )

-- ---- a line for each item

pub passing_lack : {X : Type 0} (f : X → Line) (p : X → Bool) →
    ((x : X) → IsTrue (p x) → LacksFeed (f x)) → (xs : List X) → IsTrue (list_all p xs) →
    AllByRecursion LacksFeed (map f xs)
passing_lack f p lacks [] all = tt
passing_lack f p lacks (x ∷ xs) all =
    let both = and_parts (p x) (list_all p xs) all in
    (lacks x both.0, passing_lack f p lacks xs both.1)

pub all_lack : {X : Type 0} (f : X → Line) (P : X → Type 0) →
    ((x : X) → P x → LacksFeed (f x)) → (xs : List X) → AllByRecursion P xs →
    AllByRecursion LacksFeed (map f xs)
all_lack f P lacks [] all = tt
all_lack f P lacks (x ∷ xs) all = (lacks x all.0, all_lack f P lacks xs all.1)
