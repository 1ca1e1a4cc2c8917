-- A tape that is read line by line is the one that the lines spell.
use Rattle.std.proofs.Common.{◌≡◌, ◌∙◌, ℕ, ◌+◌, List, [], ◌∷◌, ◌++◌, codes, Option, Some, None, Ok, refl, ap, sym, subst}
use Rattle.std.specs.List.{AllZip, flat_map}
use Rattle.tk_shape.specs.declared.shape.Shape.{Shape}
use Rattle.tk_shape.specs.Lengths.{tape_len}
use Rattle.tk_script.specs.declared.input.RawTape.{RawTape}
use Rattle.tk_script.specs.declared.keys.Keys.{Keys}
use Rattle.tk_script.specs.Grammar.{Line, SpellsPiece, BeginsWithTape, TapeFor, kept}
use Rattle.tk_script.specs.Reading.{Place, alone, next_line, no_line, read_words, read_piece, read_pieces, kept_behind, read_tape, read_end}
use Rattle.tk_script.proofs.AnswerLaws.{then_said}
use Rattle.tk_script.proofs.OptionLaws.{ok_same}
use Rattle.tk_script.proofs.PieceLaws.{end_is_no_piece}
use Rattle.tk_script.proofs.PlaceLaws.{next_taken}
use Rattle.tk_script.proofs.RowLaws.{then_from, next_from, Any, alone_is, alone_whole, end_are, end_whole}
use Rattle.tk_script.proofs.TapeLineLaws.{piece_is, piece_whole}
use Rattle.tk_script.proofs.WordLaws.{at, Comes, words_own, words_from}

record TapeRead (want : ℕ) (lines : List Line) (tape : RawTape) (behind : List Line)
    : Type 0 where
  pub bytes : List ℕ
  pub begins : BeginsWithTape lines bytes behind
  pub kept : tape ≡ kept want bytes

tape_from : (want : ℕ) (p : Place) (x : RawTape × Place) → read_tape want p ≡ Ok x →
    TapeRead want p.rest x.0 x.1.rest
unfolding read_tape
tape_from want p x e =
    let first = then_from (next_line (read_words (codes "tape")) p) _ x e in
    let here = next_from (read_words (codes "tape")) p first.0 first.1 in
    let second = then_from (read_pieces [] first.0.1.line first.0.1.rest) (kept_behind want) x
    first.2 in
    let row = end_are (alone read_piece) SpellsPiece Any (alone_is read_piece SpellsPiece piece_is)
    first.0.1.rest first.0.1.line [] second.0.0 second.0.1 tt second.1 in
    let bytes = flat_map (λ piece. piece) second.0.0 in
    let same = ok_same (kept want bytes, second.0.1) x second.2 in
    let word = words_from (codes "tape") here.line first.0.0 here.read_is in
    subst (λ (z : RawTape × Place). TapeRead want p.rest z.0 z.1.rest) same (record {
      bytes = bytes;
      begins = record {
        piece_lines = row.0.own;
        parts = second.0.0;
        each = subst (AllZip SpellsPiece row.0.own) (sym row.0.all_is) row.0.each;
        joined = refl;
        whole = here.whole ∙ ap (λ l. l ∷ first.0.1.rest) word
            ∙ ap (λ ls. codes "tape" ∷ ls) row.0.whole;
      };
      kept = refl;
    })

tape_whole : (want line : ℕ) (lines : List Line) (bytes : List ℕ) (behind : List Line) →
    BeginsWithTape lines bytes behind →
    Comes (read_tape want (at line lines)) (kept want bytes) behind
unfolding read_tape
tape_whole want line lines bytes behind b =
    let tail = b.piece_lines ++ codes "end" ∷ behind in
    let pieces = end_whole (alone read_piece) SpellsPiece Any (alone_is read_piece SpellsPiece piece_is)
    end_is_no_piece (alone_whole read_piece SpellsPiece piece_whole) b.piece_lines b.parts (line + 1)
    [] behind tt tt b.each in
    let first = next_taken (read_words (codes "tape")) (at line lines) (codes "tape")
    (at (line + 1) tail) tt (record { number = refl; lines = b.whole }) (words_own (codes "tape"))
    in (
      pieces.0,
      then_said _ first (then_said (kept_behind want) pieces.1
          (ap (λ bs. Ok (kept want bs, at pieces.0 behind)) (sym b.joined))),
    )

-- ---- the end of an input

none_here : (line : ℕ) (ls : List Line) (x : Unit {0}) → no_line line ls ≡ Ok x → ls ≡ []
none_here line [] x e = refl
none_here line (l ∷ ls) x e = absurd (cc e)

pub end_from : (shape : Shape) (keys : Option Keys) (p : Place) (tape : Option RawTape) →
    read_end keys (tape_len shape) p ≡ Ok tape → TapeFor shape keys p.rest tape
unfolding read_end
end_from shape (Some keys) p tape e =
    let none = then_from (no_line p.line p.rest) _ tape e in
    (none_here p.line p.rest none.0 none.1, sym (ok_same None tape none.2))
end_from shape None p tape e =
    let read = then_from (read_tape (tape_len shape) p) _ tape e in
    let none = then_from (no_line read.0.1.line read.0.1.rest) _ tape read.2 in
    let t = tape_from (tape_len shape) p read.0 read.1 in
    let nothing = none_here read.0.1.line read.0.1.rest none.0 none.1 in (
      t.bytes,
      subst (BeginsWithTape p.rest t.bytes) nothing t.begins,
      sym (ok_same (Some read.0.0) tape none.2) ∙ ap Some t.kept,
    )

pub end_whole_of : (shape : Shape) (keys : Option Keys) (line : ℕ) (lines : List Line)
    (tape : Option RawTape) → TapeFor shape keys lines tape →
    read_end keys (tape_len shape) (at line lines) ≡ Ok tape
unfolding read_end
end_whole_of shape (Some keys) line lines tape h =
    then_said _ (ap (no_line line) h.0) (ap Ok (sym h.1))
end_whole_of shape None line lines tape h =
    then_said _ (tape_whole (tape_len shape) line lines h.0 [] h.1).1 (ap Ok (sym h.2))
