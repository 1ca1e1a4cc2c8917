-- The lines of a history that are read so far.
use Rattle.std.proofs.Common.{◌≡◌, ◌∙◌, ℕ, ◌+◌, List, [], ◌∷◌, ◌++◌, length, codes, false, IsTrue, Ok, Err, refl, ap, sym, subst, arith}
use Rattle.std.specs.List.{AllByRecursion}
use Rattle.std.proofs.lemmas.List.{length-append}
use Rattle.tk_schedule.specs.Raw.{is_end, ends_once}
use Rattle.tk_schedule.specs.declared.raw.RawLine.{RawLine}
use Rattle.tk_schedule.specs.declared.raw.RawKind.{RawKind}
use Rattle.tk_schedule.specs.declared.raw.RawKind.TheVariants.{Order, Reads, End}
use Rattle.tk_script.specs.declared.cause.Cause.{Cause}
use Rattle.tk_script.specs.Grammar.{Line, IsTurn}
use Rattle.tk_script.specs.Reading.{Place, ◌>>=◌, to_end, numbered, numbered_behind, alone, read_turn, read_turns}
use Rattle.tk_script.proofs.PlaceLaws.{Follows, end_more}
use Rattle.tk_script.proofs.TurnLaws.{turn_is}

-- turns without the end, numbered from this line on
abbrev pub turns_from : ℕ → List RawKind → List RawLine
turns_from n [] = []
turns_from n (k ∷ ks) = record { line = n; kind = k } ∷ turns_from (n + 1) ks

abbrev lined : ℕ → RawKind → List RawLine
lined n k = record { line = n; kind = k } ∷ []

with_end : (n : ℕ) (ks : List RawKind) →
    numbered n ks ≡ turns_from n ks ++ lined (n + length ks) End
with_end n [] = ap (λ m. lined m End) (omega arith)
with_end n (k ∷ ks) =
    ap (λ (ls : List RawLine). record { line = n; kind = k } ∷ ls)
    (with_end (n + 1) ks ∙ ap (λ m. turns_from (n + 1) ks ++ lined m End) (omega arith))

with_turn : (n : ℕ) (ks : List RawKind) (x : RawKind) →
    turns_from n (ks ++ x ∷ []) ≡ turns_from n ks ++ lined (n + length ks) x
with_turn n [] x = ap (λ m. lined m x) (omega arith)
with_turn n (k ∷ ks) x =
    ap (λ (ls : List RawLine). record { line = n; kind = k } ∷ ls)
    (with_turn (n + 1) ks x ∙ ap (λ m. turns_from (n + 1) ks ++ lined m x) (omega arith))

-- ---- the end alone is an end

pub turn-no_end : (k : RawKind) → IsTurn k → is_end k ≡ false
turn-no_end (Order phase tick items) turn = refl
turn-no_end (Reads phase tick epochs) turn = refl
turn-no_end End turn = absurd turn

one_end : (n m : ℕ) (ks : List RawKind) → AllByRecursion IsTurn ks →
    IsTrue (ends_once (turns_from n ks ++ lined m End))
one_end n m [] turns = refl
one_end n m (k ∷ ks) turns = rw (turn-no_end k turns.0) (one_end (n + 1) m ks turns.1)

more_turns : (ks : List RawKind) (x : RawKind) → AllByRecursion IsTurn ks → IsTurn x →
    AllByRecursion IsTurn (ks ++ x ∷ [])
more_turns [] x turns turn = (turn, tt)
more_turns (k ∷ ks) x turns turn = (turns.0, more_turns ks x turns.1 turn)

-- ---- what is read so far

pub record TurnsSoFar (start here : Place) (raw : List RawLine) : Type 0 where
  pub kinds : List RawKind
  pub said : to_end (alone read_turn) [] start.line start.rest
      ≡ to_end (alone read_turn) kinds here.line here.rest
  pub are : raw ≡ turns_from start.line kinds
  pub turns : AllByRecursion IsTurn kinds
  pub number : here.line ≡ start.line + length kinds

pub no_turns : (start : Place) (raw : List RawLine) → raw ≡ [] → TurnsSoFar start start raw
no_turns start raw none = record {
  kinds = [];
  said = refl;
  are = none;
  turns = tt;
  number = omega arith;
}

module _ (start here : Place) (raw : List RawLine) (s : TurnsSoFar start here raw) where
  pub turns_refused : (line : ℕ) (c : Cause) →
      to_end (alone read_turn) s.kinds here.line here.rest ≡ Err (line, c) →
      read_turns start.line start.rest ≡ Err (line, c)
  turns_refused line c e = ap (λ r. r >>= numbered_behind start.line) (s.said ∙ e)

  pub turns_end : (all : List RawLine) → all ≡ raw ++ record { line = here.line; kind = End } ∷ [] →
      IsTrue (ends_once all)
  turns_end all same =
      subst (λ ls. IsTrue (ends_once ls))
      (sym (same ∙ ap (λ ls. ls ++ lined here.line End) s.are))
      (one_end start.line here.line s.kinds s.turns)

  pub turns_done : (q : Place) (all : List RawLine) →
      to_end (alone read_turn) s.kinds here.line here.rest ≡ Ok (s.kinds, q) →
      all ≡ raw ++ record { line = here.line; kind = End } ∷ [] →
      read_turns start.line start.rest ≡ Ok (all, q)
  turns_done q all e same =
      ap (λ r. r >>= numbered_behind start.line) (s.said ∙ e)
      ∙ ap (λ ls. Ok (ls, q)) (with_end start.line s.kinds
      ∙ ap (λ n. turns_from start.line s.kinds ++ lined n End) (sym s.number)
      ∙ ap (λ ls. ls ++ lined here.line End) (sym s.are) ∙ sym same)

  pub turns_more : (l : Line) (q : Place) (kind : RawKind) (new : List RawLine) →
      Follows here l q → (l ≡ codes "end" → ⊥) → read_turn l ≡ Ok kind →
      new ≡ raw ++ record { line = here.line; kind = kind } ∷ [] → TurnsSoFar start q new
  turns_more l q kind new follows other read_is keeps = record {
    kinds = s.kinds ++ kind ∷ [];
    said = s.said ∙ end_more (alone read_turn) s.kinds here l q kind follows other read_is;
    are = keeps ∙ ap (λ ls. ls ++ lined here.line kind) s.are
        ∙ ap (λ n. turns_from start.line s.kinds ++ lined n kind) s.number
        ∙ sym (with_turn start.line s.kinds kind);
    turns = more_turns s.kinds kind s.turns (turn_is l kind read_is).1;
    number = omega (arith, follows.number, s.number, length-append s.kinds (kind ∷ []));
  }
