-- What is said of a line, part by part.
use Rattle.std.proofs.Common.{◌≡◌, ℕ, zero, suc, ◌<◌, ◌≤◌, List, [], ◌∷◌, length, drop, get_or, codes, cond, Bool, true, false, ◌&&◌, IsTrue, Option, Some, None, Ok, Err, refl, ap, sym, ◌∙◌, subst, arith, eq-eqb}
use Rattle.std.specs.Prelude.{nat_le, nat_lt, not, ◌==◌}
use Rattle.std.specs.List.{list_all}
use Rattle.std.specs.Str.{bytes_eq}
use Rattle.std.proofs.lemmas.Slice.Eq.{bytes_eq-Decides}
use Rattle.std.proofs.lemmas.Bool.{and_parts, and_from, leb-true, leb-false, le-leb, lt-leb, ltb-true, lt-ltb}
use Rattle.tk_shape.specs.declared.shape.Shape.{Shape}
use Rattle.tk_shape.specs.Limits.{Numbers}
use Rattle.tk_shape.specs.declared.field.Field.TheVariants as field
use Rattle.tk_shape.specs.Lengths.{tape_len}
use Rattle.tk_script.specs.declared.cause.Cause.TheVariants as cause
use Rattle.tk_script.specs.declared.role.Role.{Role}
use Rattle.tk_script.proofs.KeyLines.{kind_words, MayBeOfKind}
use Rattle.tk_script.proofs.OptionLaws.{ok_or, ok_if}
use Rattle.tk_script.specs.Fields.{LacksSpace}
use Rattle.tk_script.specs.SoundScript.{is_ascending, is_role}
use Rattle.tk_script.specs.declared.kinds.Kinds.{Kinds}
use Rattle.tk_script.specs.Reading.{may_be, named, drawn_if, read_kind, first_from, in_order, read_clients}

-- ---- words

no_space : (x : ℕ) → not (x == 0x20) ≡ true → x ≡ 0x20 → ⊥
no_space x t e = absurd (cc (t, ap not (eq-eqb x 0x20 e)))

-- a word of which each byte passes has no space
pub lacks_by_test : (xs : List ℕ) → list_all (λ b. not (b == 0x20)) xs ≡ true → LacksSpace xs
lacks_by_test [] t k within e = omega (arith, within)
lacks_by_test (x ∷ xs) t zero within e =
    no_space x (and_parts (not (x == 0x20)) (list_all (λ b. not (b == 0x20)) xs) t).0 e
lacks_by_test (x ∷ xs) t (suc k) within e =
    lacks_by_test xs (and_parts (not (x == 0x20)) (list_all (λ b. not (b == 0x20)) xs) t).1 k
    (omega (arith, within)) e

-- ---- the shape line

-- ---- the line of the kind

pub bool_false : (b : Bool) → (IsTrue b → ⊥) → b ≡ false
bool_false true never = absurd (never refl)
bool_false false never = refl

pub differ : (xs ys : List ℕ) → (xs ≡ ys → ⊥) → bytes_eq xs ys ≡ false
differ xs ys other = bool_false (bytes_eq xs ys) (λ t. other ((bytes_eq-Decides xs ys).0 t))

-- a line says that a script is keyed, or drawn, where one may be
abbrev pub says_keyed : Kinds → List ℕ → Bool
says_keyed kinds line = bytes_eq line (codes "keyed") && may_be kinds true

abbrev pub says_drawn : Kinds → List ℕ → Bool
says_drawn kinds line = bytes_eq line (codes "drawn") && may_be kinds false

pub read_kind-form : (kinds : Kinds) (n : Numbers) (line : List ℕ) →
    says_drawn kinds line ≡ false → says_keyed kinds line ≡ false →
    read_kind kinds n line ≡ Err cause.Form
read_kind-form kinds n line drawn keyed = rw (drawn, keyed) refl

pub read_kind-keyed : (kinds : Kinds) (n : Numbers) (line : List ℕ) →
    says_keyed kinds line ≡ true → read_kind kinds n line ≡ Ok true
read_kind-keyed kinds n line is =
    let both = and_parts (bytes_eq line (codes "keyed")) (may_be kinds true) is in
    ap (read_kind kinds n) ((bytes_eq-Decides line (codes "keyed")).0 both.0)
    ∙ ap (λ m. ok_or m true cause.Form) both.1

drawn_short : (n : ℕ) → n ≤ 2097152 → drawn_if n ≡ Ok false
drawn_short n h = rw (le-leb n 2097152 h) refl

drawn_long : (n : ℕ) → 2097152 < n → drawn_if n ≡ Err (cause.Shape field.Tape n)
drawn_long n h = rw (lt-leb n 2097152 h) refl

drawn_line : (kinds : Kinds) (z : Shape) (line : List ℕ) → says_drawn kinds line ≡ true →
    read_kind kinds (named z) line ≡ drawn_if (tape_len z)
drawn_line kinds z line is =
    ap (λ m. cond m (drawn_if (tape_len z)) (ok_or (says_keyed kinds line) true cause.Form)) is

pub read_kind-drawn : (kinds : Kinds) (z : Shape) (line : List ℕ) (size : ℕ) →
    says_drawn kinds line ≡ true → size ≡ tape_len z → size ≤ 2097152 →
    read_kind kinds (named z) line ≡ Ok false
read_kind-drawn kinds z line size is value short =
    drawn_line kinds z line is ∙ ap drawn_if (sym value) ∙ drawn_short size short

pub read_kind-long : (kinds : Kinds) (z : Shape) (line : List ℕ) (size : ℕ) →
    says_drawn kinds line ≡ true → size ≡ tape_len z → 2097152 < size →
    read_kind kinds (named z) line ≡ Err (cause.Shape field.Tape size)
read_kind-long kinds z line size is value long =
    drawn_line kinds z line is ∙ ap drawn_if (sym value) ∙ drawn_long size long

-- a keyed script where one may be, or a drawn one
abbrev pub IsDue : Kinds → Bool → Type 0
IsDue kinds keyed = IsTrue (may_be kinds keyed)

pub read_kind-whole : (kinds : Kinds) (z : Shape) (keyed : Bool) → MayBeOfKind z keyed →
    IsDue kinds keyed → read_kind kinds (named z) (kind_words keyed) ≡ Ok keyed
read_kind-whole kinds z true may due =
    read_kind-keyed kinds (named z) (codes "keyed") due
read_kind-whole kinds z false may due =
    read_kind-drawn kinds z (codes "drawn") (tape_len z) due refl may

-- the kind that a line says
pub record IsKind (kinds : Kinds) (z : Shape) (line : List ℕ) (keyed : Bool) : Type 0 where
  pub word : line ≡ kind_words keyed
  pub may : MayBeOfKind z keyed
  pub due : IsDue kinds keyed

keyed_from : (kinds : Kinds) (z : Shape) (line : List ℕ) (keyed : Bool) →
    IsTrue (says_keyed kinds line) × (true ≡ keyed) → IsKind kinds z line keyed
keyed_from kinds z line keyed h =
    let both = and_parts (bytes_eq line (codes "keyed")) (may_be kinds true) h.0 in
    subst (IsKind kinds z line) h.1 (record {
      word = (bytes_eq-Decides line (codes "keyed")).0 both.0;
      may = tt;
      due = both.1;
    })

drawn_from : (kinds : Kinds) (z : Shape) (line : List ℕ) (keyed : Bool) →
    IsTrue (says_drawn kinds line) → drawn_if (tape_len z) ≡ Ok keyed →
    IsKind kinds z line keyed
drawn_from kinds z line keyed is said =
    let both = and_parts (bytes_eq line (codes "drawn")) (may_be kinds false) is in
    let test = ok_if (nat_le (tape_len z) 2097152) false keyed
    (cause.Shape field.Tape (tape_len z)) said in
    subst (IsKind kinds z line) test.1 (record {
      word = (bytes_eq-Decides line (codes "drawn")).0 both.0;
      may = leb-true (tape_len z) 2097152 test.0;
      due = both.1;
    })

kind_from : (kinds : Kinds) (z : Shape) (line : List ℕ) (keyed a : Bool) →
    says_drawn kinds line ≡ a →
    cond a (drawn_if (tape_len z)) (ok_or (says_keyed kinds line) true cause.Form)
    ≡ Ok keyed → IsKind kinds z line keyed
kind_from kinds z line keyed true is said = drawn_from kinds z line keyed is said
kind_from kinds z line keyed false is said =
    keyed_from kinds z line keyed (ok_if (says_keyed kinds line) true keyed cause.Form said)

pub read_kind-is : (kinds : Kinds) (z : Shape) (line : List ℕ) (keyed : Bool) →
    read_kind kinds (named z) line ≡ Ok keyed → IsKind kinds z line keyed
read_kind-is kinds z line keyed said =
    kind_from kinds z line keyed (says_drawn kinds line) refl said

-- ---- the line of a log

pub read_clients-none : (n : Numbers) (ns : List ℕ) → length ns < 1 →
    read_clients n (Some ns) ≡ Err cause.Form
read_clients-none n [] none = refl
read_clients-none n (w ∷ fs) none = absurd (omega (arith, none))

pub read_clients-number : (n : Numbers) (ns : List ℕ) (k : ℕ) → first_from n.clients ns ≡ Some k →
    read_clients n (Some ns) ≡ Err (cause.Number k)
read_clients-number n [] k e = absurd (cc e)
read_clients-number n (w ∷ fs) k e = ap (in_order (record { writer = w; followers = fs })) e

pub read_clients-order : (n : Numbers) (ns : List ℕ) (w : ℕ) (fs : List ℕ) → ns ≡ w ∷ fs →
    first_from n.clients ns ≡ None → is_ascending fs ≡ false →
    read_clients n (Some ns) ≡ Err cause.Order
read_clients-order n ns w fs e none falls =
    ap (λ ms. read_clients n (Some ms)) e
    ∙ ap (in_order (record { writer = w; followers = fs }))
    (ap (first_from n.clients) (sym e) ∙ none)
    ∙ rw falls refl

pub read_clients-role : (n : Numbers) (ns : List ℕ) (w : ℕ) (fs : List ℕ) → ns ≡ w ∷ fs →
    first_from n.clients ns ≡ None → is_ascending fs ≡ true →
    read_clients n (Some ns) ≡ Ok (record { writer = w; followers = fs })
read_clients-role n ns w fs e none ascends =
    ap (λ ms. read_clients n (Some ms)) e
    ∙ ap (in_order (record { writer = w; followers = fs }))
    (ap (first_from n.clients) (sym e) ∙ none)
    ∙ rw ascends refl

-- the first item and the rest
pub one_in_front : (ns : List ℕ) → 1 ≤ length ns → ns ≡ get_or ns 0 0 ∷ drop 1 ns
one_in_front [] some = absurd (omega (arith, some))
one_in_front (n ∷ ns) some = refl

none_test : (b : Bool) (k : ℕ) (o : Option ℕ) → cond b (Some k) o ≡ None →
    (b ≡ false) × (o ≡ None)
none_test true k o e = absurd (cc e)
none_test false k o e = (refl, e)

pub all_below-none : (n : ℕ) (ns : List ℕ) → first_from n ns ≡ None →
    IsTrue (list_all (λ k. nat_lt k n) ns)
all_below-none n [] e = refl
all_below-none n (k ∷ ns) e =
    let test = none_test (nat_le n k) k (first_from n ns) e in
    and_from (nat_lt k n) (list_all (λ m. nat_lt m n) ns) (lt-ltb k n (leb-false n k test.0))
    (all_below-none n ns test.1)

pub none_from : (n : ℕ) (ns : List ℕ) → IsTrue (list_all (λ k. nat_lt k n) ns) →
    first_from n ns ≡ None
none_from n [] all = refl
none_from n (k ∷ ns) all =
    let split = and_parts (nat_lt k n) (list_all (λ m. nat_lt m n) ns) all in
    rw (lt-leb n k (ltb-true k n split.0)) (none_from n ns split.1)

-- a writer and followers in range that ascend are a role
pub role_sound : (shape : Shape) (w : ℕ) (fs : List ℕ) →
    first_from shape.clients (w ∷ fs) ≡ None → is_ascending fs ≡ true →
    IsTrue (is_role shape (record { writer = w; followers = fs }))
role_sound shape w fs none ascends =
    and_from (nat_lt w shape.clients && list_all (λ k. nat_lt k shape.clients) fs) (is_ascending fs)
    (all_below-none shape.clients (w ∷ fs) none) ascends

-- a role's clients are in range, and its followers ascend
pub role_parts : (shape : Shape) (role : Role) (ns : List ℕ) → ns ≡ role.writer ∷ role.followers →
    IsTrue (is_role shape role) →
    (first_from shape.clients ns ≡ None) × (is_ascending role.followers ≡ true)
role_parts shape role ns e sound =
    let split = and_parts
    (nat_lt role.writer shape.clients && list_all (λ k. nat_lt k shape.clients) role.followers)
    (is_ascending role.followers) sound in (
      ap (first_from shape.clients) e
          ∙ none_from shape.clients (role.writer ∷ role.followers) split.0,
      split.1,
    )
