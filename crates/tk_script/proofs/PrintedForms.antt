-- What is printed is read back in the forms with a history.
use Rattle.std.proofs.Common.{◌≡◌, ℕ, ◌+◌, List, [], ◌∷◌, ◌++◌, length, map, decimal, codes, Option, Some, None, refl, ap, sym, ◌∙◌, subst, arith, append_assoc, length-append}
use Rattle.std.specs.List.{AllByRecursion}
use Rattle.hex.specs.Hex.{IsBytes}
use Rattle.tk_schedule.specs.declared.item.Item.{Item}
use Rattle.tk_schedule.specs.declared.item.Item.TheVariants.{Client, Publish}
use Rattle.tk_schedule.specs.declared.raw.RawKind.{RawKind}
use Rattle.tk_schedule.specs.declared.raw.RawKind.TheVariants.{Order, Reads, End}
use Rattle.tk_shape.specs.declared.shape.Shape.{Shape}
use Rattle.tk_script.specs.declared.keys.Keys.{Keys}
use Rattle.tk_script.specs.declared.script.Script.{Script}
use Rattle.tk_script.specs.Grammar.{Line, lines_of, item_word, raw_line, IsItem, IsTurn, BeginsWithHistory, TapeFor, number_of_first}
use Rattle.tk_script.specs.Reading.{numbered}
use Rattle.tk_script.specs.Printing.{lines_of_script, lines_of_turns, printed, printed_turns, printed_tape, tape_behind, HasKeys}
use Rattle.tk_script.specs.PrintLaws.{PrintsViews, PrintsMirrors, kept_behind_script}
use Rattle.tk_script.proofs.FeedLaws.{LacksFeed, each-append, feed_by_test, decimal_lacks, decimals_lack, fields_lack, all_lack, lines_of-text_of}
use Rattle.tk_script.proofs.HistoryLaws.{numbered-are, numbered-lines}
use Rattle.tk_script.proofs.LineLaws.{lines_of-empty}
use Rattle.tk_script.proofs.PrintedLaws.{script_lacks, prints_scripts, prints_tapes, tape_alone}

-- ---- the lines of turns have no line feed

item_lacks : (x : Item) → IsItem x → LacksFeed (item_word x)
item_lacks (Client c) is = decimal_lacks c is
item_lacks Publish is = feed_by_test (codes "mark") refl

turn_lacks : (turn : RawKind) → IsTurn turn → LacksFeed (raw_line turn)
turn_lacks (Order phase tick items) is =
    fields_lack (codes "order" ∷ decimal phase ∷ decimal tick ∷ map item_word items) (
      feed_by_test (codes "order") refl,
      (
        decimal_lacks phase is.0,
        (decimal_lacks tick is.1, all_lack item_word IsItem item_lacks items is.2),
      ),
    )
turn_lacks (Reads phase tick epochs) is =
    fields_lack (codes "reads" ∷ decimal phase ∷ decimal tick ∷ map decimal epochs) (
      feed_by_test (codes "reads") refl,
      (decimal_lacks phase is.0, (decimal_lacks tick is.1, decimals_lack epochs is.2)),
    )
turn_lacks End is = absurd is

turns_lack : (turns : List RawKind) → AllByRecursion IsTurn turns →
    AllByRecursion LacksFeed (lines_of_turns turns)
turns_lack turns are = (
  feed_by_test (codes "history") refl,
  each-append LacksFeed (map raw_line turns) (codes "end" ∷ [])
      (all_lack raw_line IsTurn turn_lacks turns are) (feed_by_test (codes "end") refl, tt),
)

-- ---- the sections after printed scripts

-- what is printed of turns is their history
turns_begin : (at : ℕ) (turns : List RawKind) (rest : List ℕ) → AllByRecursion IsTurn turns →
    BeginsWithHistory at (lines_of (printed_turns turns ++ rest)) (numbered (at + 1) turns)
    (lines_of rest)
unfolding printed_turns
turns_begin at turns rest are = record {
  numbered = numbered-are (at + 1) turns are;
  whole =
      lines_of-text_of (lines_of_turns turns) rest (turns_lack turns are)
      ∙ ap (λ ls. codes "history" ∷ (ls ++ lines_of rest)) (sym (numbered-lines (at + 1) turns));
}

script_first : (S : Script) (rest : List ℕ) → HasKeys S.keys →
    lines_of (printed S ++ rest) ≡ lines_of_script S ++ lines_of rest
unfolding printed
script_first S rest has = lines_of-text_of (lines_of_script S) rest (script_lacks S has)

-- the number of the line after so many lines
number_after : (lines own rest : List Line) → lines ≡ own ++ rest →
    number_of_first lines rest ≡ length own + 1
number_after lines own rest e = omega (arith, ap length e, length-append own rest)

turns_numbered : (at n : ℕ) (turns : List RawKind) (rest : List ℕ) → AllByRecursion IsTurn turns →
    at ≡ n + 1 →
    BeginsWithHistory at (lines_of (printed_turns turns ++ rest)) (numbered (n + 2) turns)
    (lines_of rest)
turns_numbered at n turns rest are e =
    let behind : at + 1 ≡ n + 2 = omega (arith, e) in
    subst (λ k. BeginsWithHistory at (lines_of (printed_turns turns ++ rest)) (numbered k turns)
    (lines_of rest)) behind (turns_begin at turns rest are)

drawn_tape : (shape : Shape) (keys : Option Keys) (bytes : List ℕ) → IsBytes bytes →
    TapeFor shape keys (lines_of (tape_behind keys bytes)) (kept_behind_script shape keys bytes)
drawn_tape shape None bytes are = (bytes, tape_alone bytes (prints_tapes bytes are), refl)
drawn_tape shape (Some keys) bytes are = (lines_of-empty, refl)

-- ---- inputs

pub prints_views : PrintsViews
prints_views S turns bytes has are is =
    let tape = tape_behind S.keys bytes in
    let behind = printed_turns turns ++ tape in
    let number = number_after (lines_of (printed S ++ behind)) (lines_of_script S)
    (lines_of behind) (script_first S behind has) in
    record {
      behind_script = lines_of behind;
      rest = lines_of tape;
      raw = numbered (length (lines_of_script S) + 2) turns;
      script = prints_scripts S has behind;
      history = turns_numbered (number_of_first (lines_of (printed S ++ behind)) (lines_of behind))
          (length (lines_of_script S)) turns tape are number;
      no_second = refl;
      has_history = refl;
      no_replies = refl;
      tape = drawn_tape S.shape S.keys bytes is;
    }

-- what a drawn script's tape is
tape_of_none : (shape : Shape) (keys : Option Keys) (bytes : List ℕ) → keys ≡ None →
    IsBytes bytes →
    TapeFor shape keys (lines_of (printed_tape bytes)) (kept_behind_script shape None bytes)
tape_of_none shape keys bytes drawn are =
    subst (λ k. TapeFor shape k (lines_of (printed_tape bytes))
    (kept_behind_script shape None bytes)) (sym drawn) (drawn_tape shape None bytes are)

pub prints_mirrors : PrintsMirrors
prints_mirrors S T turns bytes S_drawn T_drawn are is =
    let S_has : HasKeys S.keys = subst HasKeys (sym S_drawn) tt in
    let T_has : HasKeys T.keys = subst HasKeys (sym T_drawn) tt in
    let behind = printed_turns turns ++ printed_tape bytes in
    let lines = lines_of (printed S ++ (printed T ++ behind)) in
    let own = lines_of_script S ++ lines_of_script T in
    let whole = script_first S (printed T ++ behind) S_has
    ∙ ap (λ ls. lines_of_script S ++ ls) (script_first T behind T_has)
    ∙ sym (append_assoc (lines_of_script S) (lines_of_script T) (lines_of behind)) in
    let number = number_after lines own (lines_of behind) whole
    ∙ ap (λ n. n + 1) (length-append (lines_of_script S) (lines_of_script T)) in
    record {
      other = T;
      raw = numbered (length (lines_of_script S) + length (lines_of_script T) + 2) turns;
      rest = lines_of (printed_tape bytes);
      two = record {
        behind_script = lines_of (printed T ++ behind);
        behind_scripts = lines_of behind;
        script = prints_scripts S S_has (printed T ++ behind);
        other = prints_scripts T T_has behind;
        history = turns_numbered (number_of_first lines (lines_of behind))
            (length (lines_of_script S) + length (lines_of_script T)) turns (printed_tape bytes) are
            number;
        first_drawn = S_drawn;
        second_drawn = T_drawn;
      };
      has_second = refl;
      has_history = refl;
      no_replies = refl;
      tape = tape_of_none S.shape S.keys bytes S_drawn is;
    }
