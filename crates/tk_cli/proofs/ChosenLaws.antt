-- Line by line, from the last on, the sums that were set are those that are chosen.
use Rattle.std.proofs.Common.{◌≡◌, ◌∙◌, ◌+◌, ◌<◌, ◌++◌, ◌∷◌, ℕ, List, [], length, take, get_or, arith, ap, sym, subst, append_assoc, append-nil}
use Rattle.std.specs.List.{AllByRecursion}
use Rattle.std.proofs.lemmas.List.{take_all, take_more}
use Rattle.std.proofs.lemmas.List.Elements.{All-from_recursion}
use Rattle.tk_shape.specs.declared.shape.Shape.{Shape}
use Rattle.tk_script.specs.declared.reply.RawReply.{RawReply}
use Rattle.tk_script.specs.SoundReplies.{IsReply}
use Rattle.tk_hostile.specs.Given.{Given, none_chosen, with_sums, sums_at}
use Rattle.tk_cli.specs.Chosen.{sums_of, sums_chosen}

-- the lines behind these are set
pub record SetBehind (shape : Shape) (all rest : List RawReply) (given : Given) : Type 0 where
  pub behind : List RawReply
  pub whole : rest ++ behind ≡ all
  pub shape_is : given.shape ≡ shape
  pub sums : sums_at given ≡ sums_chosen shape behind

pub none-set : (shape : Shape) (all : List RawReply) (given : Given) → given.shape ≡ shape →
    sums_at given ≡ none_chosen shape → SetBehind shape all all given
none-set shape all given same none = record {
  behind = [];
  whole = append-nil all;
  shape_is = same;
  sums = none;
}

-- one more line is set
pub more-set : (shape : Shape) (all before rest : List RawReply) (line : RawReply)
    (given new : Given) → SetBehind shape all rest given → rest ≡ before ++ line ∷ [] →
    new.shape ≡ given.shape →
    sums_at new ≡ with_sums line.turn line.client line.server (sums_of line) (sums_at given) →
    SetBehind shape all before new
more-set shape all before rest line given new set last same more = record {
  behind = line ∷ set.behind;
  whole = sym (append_assoc before (line ∷ []) set.behind)
      ∙ ap (λ ls. ls ++ set.behind) (sym last) ∙ set.whole;
  shape_is = same ∙ set.shape_is;
  sums = more ∙ ap (with_sums line.turn line.client line.server (sums_of line)) set.sums;
}

-- a line that isn't set yet is a reply
front-are : (P : RawReply → Type 0) (rest behind : List RawReply) →
    AllByRecursion P (rest ++ behind) → AllByRecursion P rest
front-are P [] behind are = tt
front-are P (r ∷ rest) behind are = (are.0, front-are P rest behind are.1)

pub line-is : (shape : Shape) (all rest : List RawReply) (given : Given) →
    SetBehind shape all rest given → AllByRecursion (IsReply shape) all → (n : ℕ)
    (line : RawReply) → n < length rest → line ≡ get_or rest n line → IsReply given.shape line
line-is shape all rest given set are n line within is =
    let front = front-are (IsReply shape) rest set.behind
    (subst (AllByRecursion (IsReply shape)) (sym set.whole) are) in
    subst (λ (S : Shape). IsReply S line) (sym set.shape_is)
    (subst (IsReply shape) (sym is) (All-from_recursion (IsReply shape) rest front n line within))

-- the last of the lines that are left
pub last-line : (rest : List RawReply) (n : ℕ) (line : RawReply) → length rest ≡ n + 1 →
    line ≡ get_or rest n line → rest ≡ take n rest ++ line ∷ []
last-line rest n line long is =
    sym (take_all (n + 1) rest (omega (arith, long))) ∙ take_more rest n line (omega (arith, long))
    ∙ ap (λ r. take n rest ++ r ∷ []) (sym is)

pub all-set : (shape : Shape) (all rest : List RawReply) (given : Given) →
    SetBehind shape all rest given → length rest ≡ 0 → sums_at given ≡ sums_chosen shape all
all-set shape all [] given set none = set.sums ∙ ap (sums_chosen shape) set.whole
all-set shape all (r ∷ rest) given set none = absurd (omega (arith, none))
