-- What lines in a row give, which lines give it, and how many they are.
use Rattle.std.proofs.Common.{◌≡◌, ◌∙◌, ℕ, zero, suc, ◌+◌, List, [], ◌∷◌, ◌++◌, length, map, codes, Bool, true, false, cond, IsTrue, ◌⊎◌, inl, inr, Result, Ok, Err, refl, ap, sym, subst, append_assoc, append-nil, arith}
use Rattle.std.specs.List.{AllZip, list_all}
use Rattle.std.specs.Str.{bytes_eq}
use Rattle.std.proofs.lemmas.Bool.{and_parts, and_from}
use Rattle.std.proofs.lemmas.Slice.Eq.{bytes_eq-Decides}
use Rattle.tk_script.specs.Grammar.{Line}
use Rattle.tk_script.specs.Reading.{Verdict, Place, Refusal, ◌>>=◌, taken, line_at, next_line, alone, next_lines, to_end}
use Rattle.tk_script.proofs.CauseLaws.{differ}
use Rattle.tk_script.proofs.ListLaws.{cons_both}
use Rattle.tk_script.proofs.OptionLaws.{ok_same}
use Rattle.tk_script.proofs.WordLaws.{at}

-- ---- one line, and what follows

pub then_from : {A B : Type 0} (r : Result A Refusal) (f : A → Result B Refusal) (y : B) →
    r >>= f ≡ Ok y → (x : A) × (r ≡ Ok x) × (f x ≡ Ok y)
then_from (Ok x) f y e = (x, refl, e)
then_from (Err c) f y e = absurd (cc e)

-- so many lines are between two places
pub record Steps (p q : Place) : Type 0 where
  pub count : ℕ
  pub number : q.line ≡ p.line + count
  pub lines : length p.rest ≡ count + length q.rest

pub no_step : (p q : Place) → p ≡ q → Steps p q
no_step p q same = subst (Steps p) same (record { count = 0; number = omega arith; lines = omega arith })

pub then_steps : (p q r : Place) → Steps p q → Steps q r → Steps p r
then_steps p q r a b = record {
  count = a.count + b.count;
  number = omega (arith, a.number, b.number);
  lines = omega (arith, a.lines, b.lines);
}

one_step : (line : ℕ) (l : Line) (ls : List Line) → Steps (at line (l ∷ ls)) (at (line + 1) ls)
one_step line l ls = record { count = 1; number = omega arith; lines = omega arith }

-- the line here gives this
pub record GivesLine {X : Type 0} (read : Line → Verdict X) (p : Place) (x : X) (q : Place)
    : Type 0 where
  pub line : Line
  pub whole : p.rest ≡ line ∷ q.rest
  pub read_is : read line ≡ Ok x
  pub number : q.line ≡ p.line + 1
  pub steps : Steps p q

pub then_taken : {X Y : Type 0} (v : Verdict X) (line : ℕ) (ls : List Line)
    (f : X × Place → Result Y Refusal) (y : Y) → taken line ls v >>= f ≡ Ok y →
    (x : X) × (v ≡ Ok x) × (f (x, at (line + 1) ls) ≡ Ok y)
then_taken (Ok x) line ls f y e = (x, refl, e)
then_taken (Err c) line ls f y e = absurd (cc e)

given_here : {X : Type 0} (read : Line → Verdict X) (line : ℕ) (l : Line) (ls : List Line)
    (v : Verdict X) (x : X × Place) → read l ≡ v → taken line ls v ≡ Ok x →
    GivesLine read (at line (l ∷ ls)) x.0 x.1
given_here {X} read line l ls (Ok y) x is e =
    subst (λ (z : X × Place). GivesLine read (at line (l ∷ ls)) z.0 z.1)
    (ok_same (y, at (line + 1) ls) x e)
    (record { line = l; whole = refl; read_is = is; number = refl; steps = one_step line l ls })
given_here read line l ls (Err c) x is e = absurd (cc e)

line_from : {X : Type 0} (read : Line → Verdict X) (line : ℕ) (ls : List Line) (x : X × Place) →
    line_at read line ls ≡ Ok x → GivesLine read (at line ls) x.0 x.1
line_from read line [] x e = absurd (cc e)
line_from read line (l ∷ ls) x e = given_here read line l ls (read l) x refl e

pub next_from : {X : Type 0} (read : Line → Verdict X) (p : Place) (x : X × Place) →
    next_line read p ≡ Ok x → GivesLine read p x.0 x.1
next_from read p x e = line_from read p.line p.rest x e

-- ---- lines in a row

-- the lines begin with those of items, which come after the items before them
pub record Row {X : Type 0} (R : Line → X → Type 0) (lines : List Line) (before all : List X)
    (behind : List Line) : Type 0 where
  pub own : List Line
  pub items : List X
  pub each : AllZip R own items
  pub all_is : all ≡ before ++ items
  pub whole : lines ≡ own ++ behind

abbrev row_push : {X : Type 0} (R : Line → X → Type 0) (l : Line) (ls : List Line)
    (before all : List X) (x : X) (behind : List Line) → R l x →
    Row R ls (before ++ x ∷ []) all behind → Row R (l ∷ ls) before all behind
row_push R l ls before all x behind here row = record {
  own = l ∷ row.own;
  items = x ∷ row.items;
  each = (here, row.each);
  all_is = row.all_is ∙ append_assoc before (x ∷ []) row.items;
  whole = ap (λ k. l ∷ k) row.whole;
}

abbrev row_end : {X : Type 0} (R : Line → X → Type 0) (lines : List Line) (before all : List X)
    (behind : List Line) → before ≡ all → lines ≡ behind → Row R lines before all behind
row_end R lines before all behind same whole = record {
  own = [];
  items = [];
  each = tt;
  all_is = sym same ∙ sym (append-nil before);
  whole = whole;
}

same_end : {X : Type 0} (before all : List X) (p q : Place) →
    ◌≡◌ {A = Result (List X × Place) Refusal} (Ok (before, p)) (Ok (all, q)) →
    (before ≡ all) × (p ≡ q)
same_end {X} before all p q e =
    let same = ok_same (before, p) (all, q) e in
    (ap (λ (z : List X × Place). z.0) same, ap (λ (z : List X × Place). z.1) same)

rest_same : (p q : Place) → p ≡ q → p.rest ≡ q.rest
rest_same p q same = ap (λ (z : Place). z.rest) same

-- ---- a number of lines

module _ {X : Type 0} (read : Line → Verdict X) (R : Line → X → Type 0) where
  abbrev then_more : ℕ → List X → X × Place → Result (List X × Place) Refusal
  then_more count before x = next_lines count (alone read) (before ++ x.0 ∷ []) x.1

  pub lines_are : ((l : Line) (x : X) → read l ≡ Ok x → R l x) → (count line : ℕ)
      (ls : List Line) (before all : List X) (q : Place) →
      next_lines count (alone read) before (at line ls) ≡ Ok (all, q) →
      (row : Row R ls before all q.rest) × (length row.items ≡ count) × Steps (at line ls) q
  lines_are is zero line ls before all q e =
      let same = same_end before all (at line ls) q e in (
        row_end R ls before all q.rest same.0 (rest_same (at line ls) q same.1),
        refl,
        no_step (at line ls) q same.1,
      )
  lines_are is (suc count) line [] before all q e = absurd (cc e)
  lines_are is (suc count) line (l ∷ ls) before all q e =
      let first = then_taken (read l) line ls (then_more count before) (all, q) e in
      let rest = lines_are is count (line + 1) ls (before ++ first.0 ∷ []) all q first.2 in (
        row_push R l ls before all first.0 q.rest (is l first.0 first.1) rest.0,
        ap suc rest.1,
        then_steps (at line (l ∷ ls)) (at (line + 1) ls) q (one_step line l ls) rest.2,
      )

  pub lines_whole : ((l : Line) (x : X) → R l x → read l ≡ Ok x) → (own : List Line)
      (items : List X) (line : ℕ) (before : List X) (behind : List Line) → AllZip R own items →
      (n : ℕ) × (next_lines (length items) (alone read) before
      (at line (own ++ behind))
      ≡ Ok (before ++ items, at n behind))
  lines_whole whole [] [] line before behind each =
      (line, ap (λ xs. Ok (xs, at line behind)) (sym (append-nil before)))
  lines_whole whole [] (x ∷ items) line before behind each = absurd each
  lines_whole whole (l ∷ own) [] line before behind each = absurd each
  lines_whole whole (l ∷ own) (x ∷ items) line before behind each =
      let rest = lines_whole whole own items (line + 1) (before ++ x ∷ []) behind each.1 in (
        rest.0,
        ap (λ v. taken line (own ++ behind) v >>= then_more (length items) before)
            (whole l x each.0)
            ∙ rest.1
            ∙ ap (λ xs. Ok (xs, at rest.0 behind))
            (append_assoc before (x ∷ []) items),
      )

-- ---- lines up to the one that ends them

pub cond_from : {Y : Type 0} (b : Bool) (r s : Result Y Refusal) (y : Y) → cond b r s ≡ Ok y →
    (IsTrue b × (r ≡ Ok y)) ⊎ (s ≡ Ok y)
cond_from true r s y e = inl (refl, e)
cond_from false r s y e = inr e

-- P holds of what is read so far
module _ {X : Type 0} (read : List X → Line → Verdict X) (R : Line → X → Type 0)
    (P : List X → Type 0) (is : (before : List X) (l : Line) (x : X) → P before →
    read before l ≡ Ok x → R l x × P (before ++ x ∷ [])) where
  abbrev on : ℕ → List Line → List X → X × Place → Result (List X × Place) Refusal
  on line ls before x = to_end read (before ++ x.0 ∷ []) (line + 1) ls

  -- what the lines that are left give
  abbrev GoesOn : ℕ → List Line → List X → List X → Place → Type 0
  GoesOn line ls before all q = (x : X) → P (before ++ x ∷ []) →
      to_end read (before ++ x ∷ []) (line + 1) ls ≡ Ok (all, q) →
      Row R ls (before ++ x ∷ []) all (codes "end" ∷ q.rest) × P all × Steps (at (line + 1) ls) q

  end_step : (l : Line) (ls : List Line) (line : ℕ) (before all : List X) (q : Place) → P before →
      GoesOn line ls before all q →
      (IsTrue (bytes_eq l (codes "end"))
      × (◌≡◌ {A = Result (List X × Place) Refusal}
      (Ok (before, at (line + 1) ls)) (Ok (all, q))))
      ⊎ (taken line ls (read before l) >>= on line ls before ≡ Ok (all, q)) →
      Row R (l ∷ ls) before all (codes "end" ∷ q.rest) × P all × Steps (at line (l ∷ ls)) q
  end_step l ls line before all q so goes (inl h) =
      let same = same_end before all (at (line + 1) ls) q h.1 in
      let end = (bytes_eq-Decides l (codes "end")).0 h.0 in (
        row_end R (l ∷ ls) before all (codes "end" ∷ q.rest) same.0
            (cons_both l (codes "end") ls q.rest end (rest_same (at (line + 1) ls) q same.1)),
        subst P same.0 so,
        subst (Steps (at line (l ∷ ls))) same.1 (one_step line l ls),
      )
  end_step l ls line before all q so goes (inr h) =
      let first = then_taken (read before l) line ls (on line ls before) (all, q) h in
      let here = is before l first.0 so first.1 in
      let rest = goes first.0 here.1 first.2 in (
        row_push R l ls before all first.0 (codes "end" ∷ q.rest) here.0 rest.0,
        rest.1,
        then_steps (at line (l ∷ ls)) (at (line + 1) ls) q (one_step line l ls) rest.2,
      )

  pub end_are : (ls : List Line) (line : ℕ) (before all : List X) (q : Place) → P before →
      to_end read before line ls ≡ Ok (all, q) →
      Row R ls before all (codes "end" ∷ q.rest) × P all × Steps (at line ls) q
  end_are [] line before all q so e = absurd (cc e)
  end_are (l ∷ ls) line before all q so e =
      end_step l ls line before all q so
      (λ x next more. end_are ls (line + 1) (before ++ x ∷ []) all q next more)
      (cond_from (bytes_eq l (codes "end")) (Ok (before, at (line + 1) ls))
      (taken line ls (read before l) >>= on line ls before) (all, q) e)

  module _ (none : (x : X) → R (codes "end") x → ⊥)
      (whole : (before : List X) (l : Line) (x : X) (more : List X) → P before → R l x →
      P (before ++ x ∷ more) → read before l ≡ Ok x) where
    pub end_whole : (own : List Line) (items : List X) (line : ℕ) (before : List X)
        (behind : List Line) → P before → P (before ++ items) → AllZip R own items →
        (n : ℕ) × (to_end read before line (own ++ codes "end" ∷ behind)
        ≡ Ok (before ++ items, at n behind))
    end_whole [] [] line before behind so all each = (
      line + 1,
      ap (λ xs. Ok (xs, at (line + 1) behind)) (sym (append-nil before)),
    )
    end_whole [] (x ∷ items) line before behind so all each = absurd each
    end_whole (l ∷ own) [] line before behind so all each = absurd each
    end_whole (l ∷ own) (x ∷ items) line before behind so all each =
        let other : l ≡ codes "end" → ⊥ = λ e. none x (subst (λ k. R k x) e each.0) in
        let read_is = whole before l x items so each.0 all in
        let next = (is before l x so read_is).1 in
        let rest = end_whole own items (line + 1) (before ++ x ∷ []) behind next
        (subst P (sym (append_assoc before (x ∷ []) items)) all) each.1 in
        let tail = own ++ codes "end" ∷ behind in
        let goes_on : to_end read before line (l ∷ tail)
        ≡ taken line tail (read before l) >>= on line tail before
        = rw (differ l (codes "end") other) refl in (
          rest.0,
          goes_on ∙ ap (λ v. taken line tail v >>= on line tail before) read_is ∙ rest.1
              ∙ ap (λ xs. Ok (xs, at rest.0 behind))
              (append_assoc before (x ∷ []) items),
        )

-- ---- lines of which each is read alone

abbrev pub Any : {X : Type 0} → List X → Type 0
Any xs = Unit {0}

module _ {X : Type 0} (read : Line → Verdict X) (R : Line → X → Type 0) where
  pub alone_is : ((l : Line) (x : X) → read l ≡ Ok x → R l x) → (before : List X) (l : Line) (x : X) →
      Any before → alone read before l ≡ Ok x → R l x × Any (before ++ x ∷ [])
  alone_is is before l x so e = (is l x e, tt)

  pub alone_whole : ((l : Line) (x : X) → R l x → read l ≡ Ok x) → (before : List X) (l : Line)
      (x : X) (more : List X) → Any before → R l x → Any (before ++ x ∷ more) →
      alone read before l ≡ Ok x
  alone_whole whole before l x more so h all = whole l x h

-- ---- items of which each has one line

-- the line is the item's, and the item passes
abbrev pub IsLineOf : {X : Type 0} → (X → Line) → (X → Bool) → Line → X → Type 0
IsLineOf f p line x = (line ≡ f x) × IsTrue (p x)

pub zip-lines : {X : Type 0} (f : X → Line) (p : X → Bool) (xs : List X) → IsTrue (list_all p xs) →
    AllZip (IsLineOf f p) (map f xs) xs
zip-lines f p [] pass = tt
zip-lines f p (x ∷ xs) pass =
    let split = and_parts (p x) (list_all p xs) pass in
    ((refl, split.0), zip-lines f p xs split.1)

pub lines-zip : {X : Type 0} (f : X → Line) (p : X → Bool) (lines : List Line) (xs : List X) →
    AllZip (IsLineOf f p) lines xs →
    (lines ≡ map f xs) × IsTrue (list_all p xs)
lines-zip f p [] [] each = (refl, refl)
lines-zip f p [] (x ∷ xs) each = absurd each
lines-zip f p (l ∷ lines) [] each = absurd each
lines-zip f p (l ∷ lines) (x ∷ xs) each =
    let rest = lines-zip f p lines xs each.1 in (
      cons_both l (f x) lines (map f xs) each.0.0 rest.0,
      and_from (p x) (list_all p xs) each.0.1 rest.1,
    )
