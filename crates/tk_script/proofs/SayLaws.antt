-- The lines of the texts.
use Rattle.std.proofs.Common.{◌≡◌, ◌∙◌, ◌<◌, ◌^◌, List, [], ◌∷◌, ◌++◌, codes, IsTrue, Ok, ap, sym, arith}
use Rattle.tk_shape.specs.declared.shape.Shape.{Shape}
use Rattle.tk_script.specs.declared.say.Say.{Say}
use Rattle.tk_script.specs.Grammar.{Line, say_line}
use Rattle.tk_script.specs.Reading.{named, is_by, last_when, unless, read_next_say}
use Rattle.tk_script.specs.SoundScript.{is_say, are_in_order}
use Rattle.tk_script.proofs.RowLaws.{IsLineOf}
use Rattle.tk_script.proofs.SaidLaws.{in_order_push, read_say-said, read_say-gives, said_ok, said_is}
use Rattle.tk_script.proofs.SoundLaws.{are_in_order-front, is_say-IsSaid}

abbrev pub IsSayLine : Shape → Line → Say → Type 0
IsSayLine shape = IsLineOf say_line (is_say shape)

-- the line of a text doesn't end them
pub say_line-goes_on : (say : Say) → codes "end" ≡ say_line say → ⊥
say_line-goes_on say e = cc e

-- the numbers of a text's line are words
pub record AreSayWords (say : Say) : Type 0 where
  pub phase : say.phase < 2 ^ 32
  pub tick : say.tick < 2 ^ 32
  pub log : say.log < 2 ^ 32

pub say_words : (shape : Shape) (say : Say) → IsTrue (is_say shape say) → AreSayWords say
say_words shape say sound =
    let said = is_say-IsSaid shape say sound in
    let range = shape.in_range in
    record {
      phase = omega (arith, said.phase_high, range.phases_high);
      tick = omega (arith, said.tick_high, range.ticks_high);
      log = omega (arith, said.log_in, range.logs_high);
    }

-- a text in a list in order is said no earlier than those in front of it
pub comes_by : (says : List Say) (y : Say) (others : List Say) → IsTrue (are_in_order says) →
    IsTrue (are_in_order (says ++ y ∷ others)) →
    IsTrue (is_by (last_when says) (y.phase, y.tick))
comes_by says y others ordered later =
    in_order_push says y ordered ∙ are_in_order-front says y others later

-- a line gives its text, where it comes in order
pub say_is : (shape : Shape) (says : List Say) (line : Line) (y : Say) →
    IsTrue (are_in_order says) → read_next_say (named shape) says line ≡ Ok y →
    IsSayLine shape line y × IsTrue (are_in_order (says ++ y ∷ []))
say_is shape says line y ordered e =
    let gives = read_say-gives (named shape) (last_when says) line y e in
    let may = said_is shape (last_when says) y gives.may in
    ((gives.spelled, may.0), sym (in_order_push says y ordered) ∙ may.1)

pub say_whole : (shape : Shape) (says : List Say) (line : Line) (y : Say) (more : List Say) →
    IsTrue (are_in_order says) → IsSayLine shape line y →
    IsTrue (are_in_order (says ++ y ∷ more)) → read_next_say (named shape) says line ≡ Ok y
say_whole shape says line y more ordered h later =
    let words = say_words shape y h.1 in
    read_say-said (named shape) (last_when says) line y.phase y.tick y.log y.text words.phase
    words.tick words.log h.0
    ∙ ap (λ o. unless o y) (said_ok shape (last_when says) y h.1
    (comes_by says y more ordered later))
