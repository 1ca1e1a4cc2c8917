-- The first line of a text, and the line that stands after a history.
use Rattle.std.proofs.Common.{◌≡◌, ◌≢◌, refl, ap, ◌∙◌, ◌⊎◌, inl, inr, eqb-true, arith, ℕ, true, false, cond, ◌||◌, ◌==◌}
use Rattle.std.proofs.Common.{List, [], ◌∷◌, ◌++◌, codes, append_assoc}
use Rattle.std.specs.Prelude.{drop, length}
use Rattle.std.proofs.lemmas.Slice.Eq.{starts_is}
use Rattle.std.proofs.lemmas.Bool.Decides.{Decides-eqb}
use Rattle.std.specs.List.{onto_first}
use Rattle.std.proofs.lemmas.Bool.{or_right}
use Rattle.tk_script.specs.Grammar.{Line, lines_of}
use Rattle.tk_report.specs.Shown.{begins_with}
use Rattle.tk_report.specs.ReportLines.{stops}
use Rattle.tk_script.proofs.Offers.{LacksFeed, lines_of-other, same_first, same_rest}

-- ---- the first line

-- a text that begins with a word has a first line that does
pub record HasFirst (text word : List ℕ) : Type 0 where
  pub more : List ℕ
  pub behind : List Line
  pub lines : lines_of text ≡ (word ++ more) ∷ behind

onto-first : (b : ℕ) (x : List ℕ) (ls : List Line) → b ≢ 0x0A → lines_of x ≡ ls →
    HasFirst (b ∷ x) (b ∷ [])
onto-first b x [] other e =
    record { more = []; behind = []; lines = lines_of-other b x other ∙ ap (onto_first b) e }
onto-first b x (l ∷ ls) other e =
    record { more = l; behind = ls; lines = lines_of-other b x other ∙ ap (onto_first b) e }

pub word-first : (b : ℕ) (word x : List ℕ) → LacksFeed (b ∷ word) →
    HasFirst ((b ∷ word) ++ x) (b ∷ word)
word-first b [] x lacks = onto-first b x (lines_of x) lacks.0 refl
word-first b (c ∷ word) x lacks =
    let first = word-first c word x lacks.1 in
    record {
      more = first.more;
      behind = first.behind;
      lines = lines_of-other b ((c ∷ word) ++ x) lacks.0 ∙ ap (onto_first b) first.lines;
    }

-- a text is its first line, and what follows it
pub record BeginsWith (text line : List ℕ) (behind : List Line) : Type 0 where
  pub more : List ℕ
  pub whole : text ≡ line ++ more
  pub cut : (m : Line) (ms : List Line) → behind ≡ m ∷ ms →
      (rest : List ℕ) × (text ≡ line ++ 0x0A ∷ rest) × (lines_of rest ≡ m ∷ ms)

no-more : (m : Line) (ms : List Line) → [] ≡ m ∷ ms → ⊥
no-more m ms e = cc e

pub first-whole : (text line : List ℕ) (behind : List Line) → lines_of text ≡ line ∷ behind →
    BeginsWith text line behind
unfolding lines_of
first-whole [] line behind e = absurd (cc e)
first-whole (b ∷ bs) line behind e =
    elim (b == 0x0A)
    as (λ t. (b == 0x0A) ≡ t →
    cond t ([] ∷ lines_of bs) (onto_first b (lines_of bs)) ≡ line ∷ behind →
    BeginsWith (b ∷ bs) line behind) [
      | true ↦ λ feed same. at-feed b bs line behind feed same
      | false ↦ λ _ same.
          at-other b bs (lines_of bs) line behind (λ l ls some. first-whole bs l ls some) refl same
    ] refl e
  where
    at-feed : (b : ℕ) (bs line : List ℕ) (behind : List Line) → (b == 0x0A) ≡ true →
        [] ∷ lines_of bs ≡ line ∷ behind → BeginsWith (b ∷ bs) line behind
    at-feed b bs line behind feed same =
        let is : b ≡ 0x0A = eqb-true b 0x0A feed in
        let empty : [] ≡ line = same_first [] line (lines_of bs) behind same in
        record {
          more = b ∷ bs;
          whole = ap (λ (l : List ℕ). l ++ b ∷ bs) empty;
          cut = λ m ms more. (
            bs,
            ap (λ (c : ℕ). c ∷ bs) is ∙ ap (λ (l : List ℕ). l ++ 0x0A ∷ bs) empty,
            same_rest [] line (lines_of bs) behind same ∙ more,
          );
        }

    at-other : (b : ℕ) (bs : List ℕ) (ls : List Line) (line : List ℕ) (behind : List Line) →
        ((l : Line) (ms : List Line) → lines_of bs ≡ l ∷ ms → BeginsWith bs l ms) →
        lines_of bs ≡ ls → onto_first b ls ≡ line ∷ behind → BeginsWith (b ∷ bs) line behind
    at-other b bs [] line behind later none same =
        record {
          more = bs;
          whole = ap (λ (l : List ℕ). l ++ bs) (same_first (b ∷ []) line [] behind same);
          cut = λ m ms more. absurd (no-more m ms (same_rest (b ∷ []) line [] behind same ∙ more));
        }
    at-other b bs (l ∷ ls) line behind later some same =
        let first = later l ls some in
        let is : b ∷ l ≡ line = same_first (b ∷ l) line ls behind same in
        record {
          more = first.more;
          whole = ap (λ (xs : List ℕ). b ∷ xs) first.whole
              ∙ ap (λ (xs : List ℕ). xs ++ first.more) is;
          cut = λ m ms more.
              let rest = first.cut m ms (same_rest (b ∷ l) line ls behind same ∙ more) in (
                rest.0,
                ap (λ (xs : List ℕ). b ∷ xs) rest.1 ∙ ap (λ (xs : List ℕ). xs ++ 0x0A ∷ rest.0) is,
                rest.2,
              );
        }

-- ---- the line after a history

begins-is : (word text : List ℕ) → begins_with word text ≡ true →
    text ≡ word ++ drop (length word) text
begins-is word text e =
    (starts_is Decides-eqb text word (begins_with word text) refl).0 e

begins-front : (word text rest : List ℕ) → text ≡ word ++ rest → begins_with word text ≡ true
begins-front word text rest e =
    (starts_is Decides-eqb text word (begins_with word text) refl).1 rest e

-- a text that begins with either word
pub record StopsAt (text : List ℕ) : Type 0 where
  pub rest : List ℕ
  pub either : (text ≡ codes "log" ++ rest) ⊎ (text ≡ codes "unsent" ++ rest)

pub stops-at : (text : List ℕ) → stops text ≡ true → StopsAt text
stops-at text e =
    elim (begins_with (codes "log") text)
    as (λ b. begins_with (codes "log") text ≡ b →
    (b || begins_with (codes "unsent") text) ≡ true → StopsAt text) [
      | true ↦ λ here _. record {
        rest = drop (length (codes "log")) text;
        either = inl (begins-is (codes "log") text here);
      }
      | false ↦ λ _ there. record {
        rest = drop (length (codes "unsent")) text;
        either = inr (begins-is (codes "unsent") text there);
      }
    ] refl e

pub at-stops : (text rest : List ℕ) →
    (text ≡ codes "log" ++ rest) ⊎ (text ≡ codes "unsent" ++ rest) → stops text ≡ true
at-stops text rest (inl e) =
    ap (λ b. b || begins_with (codes "unsent") text) (begins-front (codes "log") text rest e)
at-stops text rest (inr e) =
    or_right (begins_with (codes "log") text) (begins_with (codes "unsent") text)
    (begins-front (codes "unsent") text rest e)

-- the text has a first line, and it stops
pub record HasStop (text : List ℕ) : Type 0 where
  pub line : Line
  pub behind : List Line
  pub lines : lines_of text ≡ line ∷ behind
  pub stop : stops line ≡ true

pub stop-first : (text : List ℕ) → stops text ≡ true → HasStop text
stop-first text e =
    let at = stops-at text e in
    elim at.either [
      | inl log ↦
          let first = word-first 108 (111 ∷ 103 ∷ []) at.rest
          ((λ q. omega (arith, q)), ((λ q. omega (arith, q)), ((λ q. omega (arith, q)), tt))) in
          record {
            line = codes "log" ++ first.more;
            behind = first.behind;
            lines = ap lines_of log ∙ first.lines;
            stop = at-stops (codes "log" ++ first.more) first.more (inl refl);
          }
      | inr unsent ↦
          let first = word-first 117 (110 ∷ 115 ∷ 101 ∷ 110 ∷ 116 ∷ []) at.rest (
            (λ q. omega (arith, q)),
            (
              (λ q. omega (arith, q)),
              (
                (λ q. omega (arith, q)),
                ((λ q. omega (arith, q)), ((λ q. omega (arith, q)), ((λ q. omega (arith, q)), tt))),
              ),
            ),
          ) in
          record {
            line = codes "unsent" ++ first.more;
            behind = first.behind;
            lines = ap lines_of unsent ∙ first.lines;
            stop = at-stops (codes "unsent" ++ first.more) first.more (inr refl);
          }
    ]

-- and where the first line stops, the text does
pub first-stops : (text line : List ℕ) (behind : List Line) → lines_of text ≡ line ∷ behind →
    stops line ≡ true → stops text ≡ true
first-stops text line behind e stop =
    let whole = first-whole text line behind e in
    let at = stops-at line stop in
    at-stops text (at.rest ++ whole.more)
    (elim at.either [
      | inl log ↦ inl (whole.whole ∙ ap (λ (l : List ℕ). l ++ whole.more) log
          ∙ append_assoc (codes "log") at.rest whole.more)
      | inr unsent ↦ inr (whole.whole ∙ ap (λ (l : List ℕ). l ++ whole.more) unsent
          ∙ append_assoc (codes "unsent") at.rest whole.more)
    ])
