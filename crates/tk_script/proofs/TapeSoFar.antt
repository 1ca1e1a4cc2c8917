-- What is kept and counted of the pieces that are read so far.
use Rattle.std.proofs.Common.{◌≡◌, ◌∙◌, ℕ, ◌+◌, ◌-◌, ◌^◌, List, [], ◌∷◌, ◌++◌, length, take, min, codes, Ok, Err, ap, sym}
use Rattle.tk_script.specs.declared.cause.Cause.{Cause}
use Rattle.tk_script.specs.declared.input.RawTape.{RawTape}
use Rattle.tk_script.specs.Grammar.{Line, kept}
use Rattle.tk_script.specs.Reading.{Place, ◌>>=◌, kept_behind, read_kept, alone, read_piece, read_pieces}
use Rattle.tk_script.proofs.PieceLaws.{joined, kept_more, got_more}
use Rattle.tk_script.proofs.PlaceLaws.{Follows, end_more}

pub record TapeSoFar (want : ℕ) (start here : Place) (bytes : List ℕ) (got : ℕ) : Type 0 where
  pub parts : List (List ℕ)
  pub said : read_pieces [] start.line start.rest ≡ read_pieces parts here.line here.rest
  pub kept_is : bytes ≡ take want (joined parts)
  pub counted : got ≡ min (length (joined parts)) (2 ^ 64 - 1)

same_tape : (s t : RawTape) → s.bytes ≡ t.bytes → s.got ≡ t.got → s ≡ t
same_tape s t b g = λ i. record { bytes = b i; got = g i }

module _ (want : ℕ) (start here : Place) (bytes : List ℕ) (got : ℕ)
    (s : TapeSoFar want start here bytes got) where
  pub so_far_refused : (line : ℕ) (c : Cause) →
      read_pieces s.parts here.line here.rest ≡ Err (line, c) →
      read_kept want start.line start.rest ≡ Err (line, c)
  so_far_refused line c e = ap (λ r. r >>= kept_behind want) (s.said ∙ e)

  pub so_far_done : (q : Place) (tape : RawTape) →
      read_pieces s.parts here.line here.rest ≡ Ok (s.parts, q) → tape.bytes ≡ bytes →
      tape.got ≡ got → read_kept want start.line start.rest ≡ Ok (tape, q)
  so_far_done q tape e is counts =
      ap (λ r. r >>= kept_behind want) (s.said ∙ e)
      ∙ ap (λ t. Ok (t, q)) (sym (same_tape tape (kept want (joined s.parts)) (is ∙ s.kept_is)
      (counts ∙ s.counted)))

  pub so_far_more : (l : Line) (q : Place) (piece new : List ℕ) (more : ℕ) → Follows here l q →
      (l ≡ codes "end" → ⊥) → read_piece l ≡ Ok piece →
      new ≡ bytes ++ take (want - length bytes) piece →
      more ≡ min (got + length piece) (2 ^ 64 - 1) → TapeSoFar want start q new more
  so_far_more l q piece new more follows other read_is keeps counts = record {
    parts = s.parts ++ piece ∷ [];
    said = s.said ∙ end_more (alone read_piece) s.parts here l q piece follows other read_is;
    kept_is = kept_more want s.parts piece bytes new s.kept_is keeps;
    counted = got_more s.parts piece got more s.counted counts;
  }
