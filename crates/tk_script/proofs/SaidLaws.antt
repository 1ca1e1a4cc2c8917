-- What is said of the line of a text.
use Rattle.std.proofs.Common.{◌≡◌, ◌↔◌, ℕ, suc, ◌+◌, ◌-◌, ◌<◌, ◌≤◌, ◌^◌, List, [], ◌∷◌, ◌++◌, length, codes, cond, Bool, true, false, ◌&&◌, IsTrue, Option, Some, None, Ok, Err, refl, ap, sym, ◌∙◌, subst, arith}
use Rattle.std.specs.Prelude.{nat_le, nat_lt, slice_get, IsNone}
use Rattle.std.proofs.lemmas.Bool.Decides.{nat_tests}
use Rattle.std.proofs.lemmas.Bool.{and_parts, and_from, leb-true, le-leb, lt-leb, lt-ltb}
use Rattle.std.proofs.lemmas.Option.{same_Some}
use Rattle.tk_shape.proofs.Offers.{between-from}
use Rattle.tk_shape.specs.declared.shape.Shape.{Shape}
use Rattle.tk_shape.specs.Limits.{Numbers, is_between}
use Rattle.tk_seal.specs.Texts.{is_allowed, allowed_front}
use Rattle.tk_script.specs.declared.cause.Cause.{Cause}
use Rattle.tk_script.specs.declared.cause.Cause.TheVariants as cause
use Rattle.tk_script.specs.declared.say.Say.{Say}
use Rattle.tk_script.specs.Grammar.{Line, say_line}
use Rattle.tk_script.specs.SoundScript.{is_say, is_said_by, are_in_order}
use Rattle.tk_script.specs.Reading.{Verdict, ThreeAndText, three_after, unless, named, When, is_by, last_when, out_of_range, why_text, why_behind, why_not, say_fields, read_say}
use Rattle.tk_script.proofs.CauseLaws.{lacks_by_test, bool_false}
use Rattle.tk_script.proofs.OptionLaws.{unless_from}
use Rattle.tk_script.proofs.OrderedLaws.{and_true}
use Rattle.tk_script.proofs.SoundLaws.{is_say-IsSaid}
use Rattle.tk_script.proofs.ThreeLaws.{HasNoThree, three_line, three_taken, three_none, three_is}

-- ---- the order

zero_by : (p t : ℕ) → is_by (0, 0) (p, t) ≡ true
zero_by p t = grind (arith, nat_tests)

-- a text may come after others where it is said no earlier than the last
pub in_order_push : (says : List Say) (y : Say) → IsTrue (are_in_order says) →
    is_by (last_when says) (y.phase, y.tick) ≡ are_in_order (says ++ y ∷ [])
in_order_push [] y ordered = zero_by y.phase y.tick
in_order_push (a ∷ []) y ordered = sym (and_true (is_said_by a y))
in_order_push (a ∷ b ∷ says) y ordered =
    let split = and_parts (is_said_by a b) (are_in_order (b ∷ says)) ordered in
    in_order_push (b ∷ says) y split.1
    ∙ ap (λ t. t && are_in_order (b ∷ (says ++ y ∷ []))) (sym split.0)

pub last_when-is : (says : List Say) (last : Say) → slice_get says (length says - 1) ≡ Some last →
    last_when says ≡ (last.phase, last.tick)
last_when-is [] last at = absurd (cc at)
last_when-is (a ∷ []) last at = ap (λ (s : Say). (s.phase, s.tick)) (same_Some a last at)
last_when-is (a ∷ b ∷ says) last at =
    let shift : length (a ∷ b ∷ says) - 1 ≡ suc (length (b ∷ says) - 1) = omega arith in
    last_when-is (b ∷ says) last (ap (slice_get (a ∷ b ∷ says)) (sym shift) ∙ at)

pub last_when-none : (says : List Say) → length says ≡ 0 → last_when says ≡ (0, 0)
last_when-none [] none = refl
last_when-none (a ∷ says) none = absurd (omega (arith, none))

-- ---- the line

-- a text of a phase, a tick and a log
abbrev pub say_by : ℕ → ℕ → ℕ → List ℕ → Say
say_by p t g text = record { phase = p; tick = t; log = g; text = text }

abbrev pub ok_say : ℕ → ℕ → ℕ → List ℕ → Verdict Say
ok_say p t g text = Ok (say_by p t g text)

-- what is said of such a line
pub read_say-said : (n : Numbers) (last : When) (line : Line) (p t g : ℕ) (text : List ℕ) →
    p < 2 ^ 32 → t < 2 ^ 32 → g < 2 ^ 32 → line ≡ three_line (codes "say") p t g text →
    read_say n last line ≡ unless (why_not n last p t g text) (say_by p t g text)
read_say-said n last line p t g text sp st sg e =
    ap (say_fields n last)
    (three_taken (codes "say") line p t g text (lacks_by_test (codes "say") refl) sp st sg e)

pub read_say-form : (n : Numbers) (last : When) (line : Line) → HasNoThree (codes "say") line →
    read_say n last line ≡ Err cause.Form
read_say-form n last line never = ap (say_fields n last) (three_none (codes "say") line never)

-- a line gives this text
pub record GivesSay (n : Numbers) (last : When) (line : Line) (y : Say) : Type 0 where
  pub spelled : line ≡ say_line y
  pub may : why_not n last y.phase y.tick y.log y.text ≡ None

fields_give : (n : Numbers) (last : When) (line : Line) (o : Option ThreeAndText) (y : Say) →
    three_after (codes "say") line ≡ o → say_fields n last o ≡ Ok y → GivesSay n last line y
fields_give n last line None y e f = absurd (cc f)
fields_give n last line (Some x) y e f =
    let three = three_is (codes "say") line x e in
    let test = unless_from (why_not n last x.0 x.1 x.2 x.3) (say_by x.0 x.1 x.2 x.3) y f in
    subst (GivesSay n last line) test.1 (record { spelled = three.whole; may = test.0 })

pub read_say-gives : (n : Numbers) (last : When) (line : Line) (y : Say) →
    read_say n last line ≡ Ok y → GivesSay n last line y
read_say-gives n last line y e = fields_give n last line (three_after (codes "say") line) y refl e

-- ---- what is tried

pub said_number : (n : Numbers) (last when : When) (text : List ℕ) (o : Option ℕ) (k : ℕ) →
    o ≡ Some k → why_behind n last when text o ≡ Some (cause.Number k)
said_number n last when text o k e = ap (why_behind n last when text) e

pub said_order : (n : Numbers) (last when : When) (text : List ℕ) (o : Option ℕ) → o ≡ None →
    is_by last when ≡ false → why_behind n last when text o ≡ Some cause.Order
said_order n last when text o e early = ap (why_behind n last when text) e ∙ rw early refl

in_time : (n : Numbers) (last when : When) (text : List ℕ) (o : Option ℕ) → o ≡ None →
    is_by last when ≡ true → why_behind n last when text o ≡ why_text (n.block - 18) text
in_time n last when text o e by = ap (why_behind n last when text) e ∙ rw by refl

pub said_room : (n : Numbers) (last when : When) (text : List ℕ) (o : Option ℕ) → o ≡ None →
    is_by last when ≡ true → n.block - 18 < length text →
    why_behind n last when text o ≡ Some (cause.Room (n.block - 18))
said_room n last when text o e by long =
    in_time n last when text o e by ∙ rw (lt-leb (length text) (n.block - 18) long) refl

fits : (room : ℕ) (text : List ℕ) → length text ≤ room →
    why_text room text ≡ cond (is_allowed text) None
    (Some (cause.Text (allowed_front (length text) text)))
fits room text h = rw (le-leb (length text) room h) refl

pub said_text : (n : Numbers) (last when : When) (text : List ℕ) (o : Option ℕ) (at : ℕ) →
    o ≡ None → is_by last when ≡ true → length text ≤ n.block - 18 → is_allowed text ≡ false →
    at ≡ allowed_front (length text) text →
    why_behind n last when text o ≡ Some (cause.Text at)
said_text n last when text o at e by short bad front =
    in_time n last when text o e by ∙ fits (n.block - 18) text short
    ∙ rw bad (ap (λ k. Some (cause.Text k)) (sym front))

pub said_well : (n : Numbers) (last when : When) (text : List ℕ) (o : Option ℕ) →
    o ≡ None → is_by last when ≡ true → length text ≤ n.block - 18 → is_allowed text ≡ true →
    why_behind n last when text o ≡ None
said_well n last when text o e by short good =
    in_time n last when text o e by ∙ fits (n.block - 18) text short ∙ rw good refl

is_some_not : (o : Option ℕ) (at : ℕ) → o ≡ Some at → IsNone o → ⊥
is_some_not None at e none = absurd (cc e)
is_some_not (Some x) at e none = absurd (cc none)

pub not_allowed : (o : Option ℕ) (at : ℕ) (b : Bool) → o ≡ Some at → (IsNone o ↔ IsTrue b) →
    b ≡ false
not_allowed o at b e h = bool_false b (λ t. is_some_not o at e (h.1 t))

-- ---- what passes

pub range_test : (a b c : Bool) (p t g : ℕ) →
    cond a (cond b (cond c None (Some g)) (Some t)) (Some p) ≡ None →
    IsTrue a × IsTrue b × IsTrue c
range_test true true true p t g e = (refl, refl, refl)
range_test true true false p t g e = absurd (cc e)
range_test true false c p t g e = absurd (cc e)
range_test false b c p t g e = absurd (cc e)

say_room : (size block : ℕ) → 24 ≤ block → size ≤ block - 18 → nat_le (size + 18) block ≡ true
say_room size block low h = grind (arith, nat_tests)

-- a text with its numbers in range, room and bytes that may be sent
pub is_say-by : (shape : Shape) (say : Say) →
    out_of_range (named shape) say.phase say.tick say.log ≡ None →
    length say.text ≤ shape.block - 18 → is_allowed say.text ≡ true → IsTrue (is_say shape say)
is_say-by shape say none short good =
    let range = range_test (is_between 1 shape.phases say.phase) (is_between 1 shape.ticks say.tick)
    (nat_lt say.log shape.logs) say.phase say.tick say.log none in
    let phase = and_parts (nat_le 1 say.phase) (nat_le say.phase shape.phases) range.0 in
    let tick = and_parts (nat_le 1 say.tick) (nat_le say.tick shape.ticks) range.1 in
    let room = say_room (length say.text) shape.block shape.in_range.block_low short in
    and_from _ (is_allowed say.text)
    (and_from _ (nat_le (length say.text + 18) shape.block)
    (and_from _ (nat_lt say.log shape.logs)
    (and_from _ (nat_le say.tick shape.ticks)
    (and_from (nat_le 1 say.phase && nat_le say.phase shape.phases) (nat_le 1 say.tick) range.0
    tick.0) tick.1) range.2) room) good

-- what holds of a text that may be said
pub record MaySay (shape : Shape) (say : Say) : Type 0 where
  pub range : out_of_range (named shape) say.phase say.tick say.log ≡ None
  pub short : length say.text ≤ shape.block - 18
  pub good : is_allowed say.text ≡ true

pub in_range : (a b c : Bool) (p t g : ℕ) → a ≡ true → b ≡ true → c ≡ true →
    cond a (cond b (cond c None (Some g)) (Some t)) (Some p) ≡ None
in_range a b c p t g x y z = rw (x, y, z) refl

pub may_say : (shape : Shape) (say : Say) → IsTrue (is_say shape say) → MaySay shape say
may_say shape say sound =
    let said = is_say-IsSaid shape say sound in
    record {
      range = in_range (is_between 1 shape.phases say.phase) (is_between 1 shape.ticks say.tick)
          (nat_lt say.log shape.logs) say.phase say.tick say.log
          (between-from 1 shape.phases say.phase said.phase_low said.phase_high)
          (between-from 1 shape.ticks say.tick said.tick_low said.tick_high)
          (lt-ltb say.log shape.logs said.log_in);
      short = omega (arith, said.fits);
      good = said.allowed;
    }

-- a text that may be said, and no earlier than the last, is said
pub said_ok : (shape : Shape) (last : When) (say : Say) → IsTrue (is_say shape say) →
    IsTrue (is_by last (say.phase, say.tick)) →
    why_not (named shape) last say.phase say.tick say.log say.text ≡ None
said_ok shape last say sound by =
    let h = may_say shape say sound in
    said_well (named shape) last (say.phase, say.tick) say.text
    (out_of_range (named shape) say.phase say.tick say.log) h.range by h.short h.good

behind_test : (b : Bool) (o : Option Cause) → cond b o (Some cause.Order) ≡ None →
    IsTrue b × (o ≡ None)
behind_test true o e = (refl, e)
behind_test false o e = absurd (cc e)

room_test : (b c : Bool) (room at : ℕ) →
    cond b (cond c None (Some (cause.Text at))) (Some (cause.Room room)) ≡ None →
    IsTrue b × IsTrue c
room_test true true room at e = (refl, refl)
room_test true false room at e = absurd (cc e)
room_test false c room at e = absurd (cc e)

said_parts : (shape : Shape) (last when : When) (text : List ℕ) (o : Option ℕ) →
    why_behind (named shape) last when text o ≡ None →
    (o ≡ None) × IsTrue (is_by last when) × (length text ≤ shape.block - 18)
    × (is_allowed text ≡ true)
said_parts shape last when text (Some k) e = absurd (cc e)
said_parts shape last when text None e =
    let by = behind_test (is_by last when) (why_text (shape.block - 18) text) e in
    let room = room_test (nat_le (length text) (shape.block - 18)) (is_allowed text)
    (shape.block - 18) (allowed_front (length text) text) by.1 in
    (refl, by.0, leb-true (length text) (shape.block - 18) room.0, room.1)

-- a text that is said may be said
pub said_is : (shape : Shape) (last : When) (say : Say) →
    why_not (named shape) last say.phase say.tick say.log say.text ≡ None →
    IsTrue (is_say shape say) × IsTrue (is_by last (say.phase, say.tick))
said_is shape last say e =
    let h = said_parts shape last (say.phase, say.tick) say.text
    (out_of_range (named shape) say.phase say.tick say.log) e in
    (is_say-by shape say h.0 h.2 h.3, h.1)
