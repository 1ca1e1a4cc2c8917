-- The lines of a history, numbered.
use Rattle.std.proofs.Common.{◌≡◌, ◌∙◌, ℕ, ◌+◌, List, [], ◌∷◌, ◌++◌, map, codes, Ok, refl, ap, sym, subst, append_assoc}
use Rattle.std.specs.List.{AllByRecursion, AllZip}
use Rattle.tk_schedule.specs.declared.raw.RawLine.{RawLine}
use Rattle.tk_schedule.specs.declared.raw.RawKind.{RawKind}
use Rattle.tk_schedule.specs.declared.raw.RawKind.TheVariants.{Order, Reads, End}
use Rattle.tk_script.specs.Grammar.{Line, raw_line, IsTurn, IsEnd, AreRawFrom, BeginsWithHistory}
use Rattle.tk_script.specs.Reading.{Place, next_line, alone, to_end, read_words, numbered, numbered_behind, read_turn, read_history}
use Rattle.tk_script.proofs.AnswerLaws.{then_said}
use Rattle.tk_script.proofs.ListLaws.{cons_both}
use Rattle.tk_script.proofs.OptionLaws.{ok_same}
use Rattle.tk_script.proofs.PlaceLaws.{next_taken}
use Rattle.tk_script.proofs.RowLaws.{then_from, next_from, Any, alone_is, alone_whole, end_are, end_whole}
use Rattle.tk_script.proofs.WordLaws.{at, Comes, words_own, words_from}
use Rattle.tk_script.proofs.TurnLaws.{IsTurnLine, turn_is, turn_whole}

-- the line of a turn ends no history
pub turn_line-goes_on : (kind : RawKind) → IsTurnLine (codes "end") kind → ⊥
turn_line-goes_on (Order phase tick items) h = absurd (cc h.0)
turn_line-goes_on (Reads phase tick epochs) h = absurd (cc h.0)
turn_line-goes_on End h = h.1

pub numbered-are : (n : ℕ) (kinds : List RawKind) → AllByRecursion IsTurn kinds →
    AreRawFrom n (numbered n kinds)
numbered-are n [] turns = (refl, tt)
numbered-are n (k ∷ []) turns = (refl, turns.0, (refl, tt))
numbered-are n (k ∷ l ∷ kinds) turns =
    (refl, turns.0, numbered-are (n + 1) (l ∷ kinds) turns.1)

-- what numbered lines say
pub record AreNumbered (n : ℕ) (raw : List RawLine) : Type 0 where
  pub kinds : List RawKind
  pub is : raw ≡ numbered n kinds
  pub turns : AllByRecursion IsTurn kinds

same_line : (l m : RawLine) → l.line ≡ m.line → l.kind ≡ m.kind → l ≡ m
same_line l m a b = λ i. record { line = a i; kind = b i }

the_end : (kind : RawKind) → IsEnd kind → kind ≡ End
the_end (Order phase tick items) h = absurd h
the_end (Reads phase tick epochs) h = absurd h
the_end End h = refl

pub raw-numbered : (n : ℕ) (raw : List RawLine) → AreRawFrom n raw → AreNumbered n raw
raw-numbered n [] are = absurd are
raw-numbered n (l ∷ []) are = record {
  kinds = [];
  is = cons_both l (record { line = n; kind = End }) [] []
      (same_line l (record { line = n; kind = End }) are.0 (the_end l.kind are.1)) refl;
  turns = tt;
}
raw-numbered n (l ∷ m ∷ ls) are =
    let rest = raw-numbered (n + 1) (m ∷ ls) are.2 in
    record {
      kinds = l.kind ∷ rest.kinds;
      is = cons_both l (record { line = n; kind = l.kind }) (m ∷ ls) (numbered (n + 1) rest.kinds)
          (same_line l (record { line = n; kind = l.kind }) are.0 refl) rest.is;
      turns = (are.1, rest.turns);
    }

-- the lines of a numbered history are those of its turns, and the end
pub numbered-lines : (n : ℕ) (kinds : List RawKind) →
    map (λ (l : RawLine). raw_line l.kind) (numbered n kinds)
    ≡ map raw_line kinds ++ codes "end" ∷ []
numbered-lines n [] = refl
numbered-lines n (k ∷ kinds) = ap (λ ls. raw_line k ∷ ls) (numbered-lines (n + 1) kinds)

-- ---- the section

turn_line_whole : (l : Line) (kind : RawKind) → IsTurnLine l kind → read_turn l ≡ Ok kind
turn_line_whole l kind h = turn_whole l kind h.0 h.1

zip_turns : (kinds : List RawKind) → AllByRecursion IsTurn kinds →
    AllZip IsTurnLine (map raw_line kinds) kinds
zip_turns [] turns = tt
zip_turns (k ∷ kinds) turns = ((refl, turns.0), zip_turns kinds turns.1)

turns_zip : (lines : List Line) (kinds : List RawKind) → AllZip IsTurnLine lines kinds →
    (lines ≡ map raw_line kinds) × AllByRecursion IsTurn kinds
turns_zip [] [] each = (refl, tt)
turns_zip [] (k ∷ kinds) each = absurd each
turns_zip (l ∷ lines) [] each = absurd each
turns_zip (l ∷ lines) (k ∷ kinds) each =
    let rest = turns_zip lines kinds each.1 in
    (cons_both l (raw_line k) lines (map raw_line kinds) each.0.0 rest.0, (each.0.1, rest.1))

pub history_whole : (line : ℕ) (lines : List Line) (raw : List RawLine) (behind : List Line) →
    BeginsWithHistory line lines raw behind →
    Comes (read_history (at line lines)) raw behind
unfolding read_history
history_whole line lines raw behind b =
    let are = raw-numbered (line + 1) raw b.numbered in
    let own = map raw_line are.kinds in
    let tail = own ++ codes "end" ∷ behind in
    let turns = end_whole (alone read_turn) IsTurnLine Any (alone_is read_turn IsTurnLine turn_is)
    turn_line-goes_on (alone_whole read_turn IsTurnLine turn_line_whole) own are.kinds (line + 1) []
    behind tt tt (zip_turns are.kinds are.turns) in
    let whole = b.whole ∙ ap (λ (rs : List RawLine). codes "history"
    ∷ (map (λ (l : RawLine). raw_line l.kind) rs ++ behind)) are.is
    ∙ ap (λ ls. codes "history" ∷ (ls ++ behind)) (numbered-lines (line + 1) are.kinds)
    ∙ ap (λ ls. codes "history" ∷ ls) (append_assoc own (codes "end" ∷ []) behind) in
    let first = next_taken (read_words (codes "history")) (at line lines) (codes "history")
    (at (line + 1) tail) tt (record { number = refl; lines = whole })
    (words_own (codes "history")) in (
      turns.0,
      then_said _ first (then_said (numbered_behind (line + 1)) turns.1
          (ap (λ rs. Ok (rs, at turns.0 behind)) (sym are.is))),
    )

pub history_from : (p : Place) (x : List RawLine × Place) → read_history p ≡ Ok x →
    BeginsWithHistory p.line p.rest x.0 x.1.rest
unfolding read_history
history_from p x e =
    let first = then_from (next_line (read_words (codes "history")) p) _ x e in
    let here = next_from (read_words (codes "history")) p first.0 first.1 in
    let line = first.0.1.line in
    let second = then_from (to_end (alone read_turn) [] line first.0.1.rest) (numbered_behind line) x
    first.2 in
    let kinds = second.0.0 in
    let row = end_are (alone read_turn) IsTurnLine Any (alone_is read_turn IsTurnLine turn_is)
    first.0.1.rest line [] kinds second.0.1 tt second.1 in
    let turns = turns_zip row.0.own kinds
    (subst (AllZip IsTurnLine row.0.own) (sym row.0.all_is) row.0.each) in
    let same = ok_same (numbered line kinds, second.0.1) x second.2 in
    let word = words_from (codes "history") here.line first.0.0 here.read_is in
    let tail = codes "end" ∷ second.0.1.rest in
    subst (λ (z : List RawLine × Place). BeginsWithHistory p.line p.rest z.0 z.1.rest) same
    (record {
      numbered = subst (λ n. AreRawFrom n (numbered line kinds)) here.number
          (numbered-are line kinds turns.1);
      whole = here.whole ∙ ap (λ l. l ∷ first.0.1.rest) word
          ∙ ap (λ ls. codes "history" ∷ ls) (row.0.whole ∙ ap (λ ls. ls ++ tail) turns.0
          ∙ sym (append_assoc (map raw_line kinds) (codes "end" ∷ []) second.0.1.rest)
          ∙ ap (λ ls. ls ++ second.0.1.rest) (sym (numbered-lines line kinds)));
    })
