-- What is said of lines in a row, one line at a time.
use Rattle.std.proofs.Common.{◌≡◌, ℕ, suc, ◌+◌, ◌-◌, ◌<◌, List, [], ◌∷◌, ◌++◌, codes, Result, Ok, Err, refl, ap, sym, ◌∙◌, subst, arith}
use Rattle.tk_script.specs.declared.cause.Cause.{Cause}
use Rattle.tk_script.specs.declared.cause.Cause.TheVariants as cause
use Rattle.tk_script.specs.Grammar.{Line}
use Rattle.tk_script.specs.Reading.{Verdict, IsRead, Place, Refusal, ◌>>=◌, taken, line_at, next_line, next_lines, to_end, no_line}
use Rattle.tk_script.proofs.CauseLaws.{differ}

-- ---- one line

pub same_place : (p q : Place) → p.line ≡ q.line → p.rest ≡ q.rest → p ≡ q
same_place p q a b = λ i. record { line = a i; rest = b i }

-- the line here, and the place after it
pub record Follows (p : Place) (l : Line) (q : Place) : Type 0 where
  pub number : q.line ≡ p.line + 1
  pub lines : p.rest ≡ l ∷ q.rest

pub next_early : {X : Type 0} (read : Line → Verdict X) (p : Place) → p.rest ≡ [] →
    next_line read p ≡ Err (p.line, cause.Early)
next_early read p e = ap (line_at read p.line) e

pub next_refused : {X : Type 0} (read : Line → Verdict X) (p : Place) (l : Line) (q : Place)
    (c : Cause) → Follows p l q → read l ≡ Err c → next_line read p ≡ Err (p.line, c)
next_refused read p l q c f r = ap (line_at read p.line) f.lines ∙ ap (taken p.line q.rest) r

pub next_taken : {X : Type 0} (read : Line → Verdict X) (p : Place) (l : Line) (q : Place) (x : X) →
    Follows p l q → read l ≡ Ok x → next_line read p ≡ Ok (x, q)
next_taken read p l q x f r =
    ap (line_at read p.line) f.lines ∙ ap (taken p.line q.rest) r
    ∙ ap (λ z. Ok (x, z)) (same_place (record { line = p.line + 1; rest = q.rest }) q (sym f.number)
    refl)

pub no_line_here : (line : ℕ) (ls : List Line) → ls ≡ [] → no_line line ls ≡ Ok tt
no_line_here line ls e = ap (no_line line) e

pub line_here : (line : ℕ) (ls : List Line) → (ls ≡ [] → ⊥) →
    no_line line ls ≡ Err (line, cause.After)
line_here line [] some = absurd (some refl)
line_here line (l ∷ ls) some = refl

-- ---- a number of lines

module _ {X : Type 0} (read : List X → Line → Verdict X) (count i : ℕ) (before : List X)
    (p : Place) where
  one_more : i < count → count - i ≡ suc (count - (i + 1))
  one_more more = omega (arith, more)

  abbrev then_more : X × Place → Result (List X × Place) Refusal
  then_more x = next_lines (count - (i + 1)) read (before ++ x.0 ∷ []) x.1

  pub lines_early : i < count → p.rest ≡ [] →
      next_lines (count - i) read before p ≡ Err (p.line, cause.Early)
  lines_early more e =
      ap (λ k. next_lines k read before p) (one_more more)
      ∙ ap (λ r. r >>= then_more) (next_early (read before) p e)

  pub lines_refused : (l : Line) (q : Place) (c : Cause) → i < count → Follows p l q →
      read before l ≡ Err c → next_lines (count - i) read before p ≡ Err (p.line, c)
  lines_refused l q c more f r =
      ap (λ k. next_lines k read before p) (one_more more)
      ∙ ap (λ s. s >>= then_more) (next_refused (read before) p l q c f r)

  pub lines_more : (l : Line) (q : Place) (x : X) → i < count → Follows p l q →
      read before l ≡ Ok x →
      next_lines (count - i) read before p
      ≡ next_lines (count - (i + 1)) read (before ++ x ∷ []) q
  lines_more l q x more f r =
      ap (λ k. next_lines k read before p) (one_more more)
      ∙ ap (λ s. s >>= then_more) (next_taken (read before) p l q x f r)

  pub lines_done : count ≡ i → (all : List X) → all ≡ before →
      next_lines (count - i) read before p ≡ Ok (all, p)
  lines_done done all same =
      ap (λ k. next_lines k read before p) none ∙ ap (λ xs. Ok (xs, p)) (sym same)
    where
      none : count - i ≡ 0
      none = omega (arith, done)

-- ---- lines up to the one that ends them

module _ {X : Type 0} (read : List X → Line → Verdict X) (before : List X) (p : Place) where
  abbrev on : Place → X × Place → Result (List X × Place) Refusal
  on q x = to_end read (before ++ x.0 ∷ []) (p.line + 1) q.rest

  goes_by : (l : Line) (q : Place) → Follows p l q → (l ≡ codes "end" → ⊥) →
      to_end read before p.line p.rest ≡ taken p.line q.rest (read before l) >>= on q
  goes_by l q f other =
      ap (to_end read before p.line) f.lines ∙ rw (differ l (codes "end") other) refl

  pub end_early : p.rest ≡ [] → to_end read before p.line p.rest ≡ Err (p.line, cause.Early)
  end_early e = ap (to_end read before p.line) e

  pub end_here : (l : Line) (q : Place) → Follows p l q → l ≡ codes "end" → (all : List X) →
      all ≡ before → to_end read before p.line p.rest ≡ Ok (all, q)
  end_here l q f e all same =
      ap (to_end read before p.line) (f.lines ∙ ap (λ k. k ∷ q.rest) e)
      ∙ ap (λ z. Ok (before, z)) (same_place (record { line = p.line + 1; rest = q.rest }) q
      (sym f.number) refl)
      ∙ ap (λ xs. Ok (xs, q)) (sym same)

  pub end_refused : (l : Line) (q : Place) (c : Cause) → Follows p l q →
      (l ≡ codes "end" → ⊥) → read before l ≡ Err c →
      to_end read before p.line p.rest ≡ Err (p.line, c)
  end_refused l q c f other r =
      goes_by l q f other ∙ ap (λ s. taken p.line q.rest s >>= on q) r

  pub end_more : (l : Line) (q : Place) (x : X) → Follows p l q → (l ≡ codes "end" → ⊥) →
      read before l ≡ Ok x →
      to_end read before p.line p.rest ≡ to_end read (before ++ x ∷ []) q.line q.rest
  end_more l q x f other r =
      goes_by l q f other ∙ ap (λ s. taken p.line q.rest s >>= on q) r
      ∙ ap (λ k. to_end read (before ++ x ∷ []) k q.rest) (sym f.number)

-- ---- what a line's reader answered

pub read_ok : {X Y : Type 0} (f : X → Y) (r : Result X Cause) (x : X) (said : Verdict Y) →
    r ≡ Ok x → IsRead f r said → said ≡ Ok (f x)
read_ok f r x said e h = subst (λ s. IsRead f s said) e h

pub read_err : {X Y : Type 0} (f : X → Y) (r : Result X Cause) (c : Cause) (said : Verdict Y) →
    r ≡ Err c → IsRead f r said → said ≡ Err c
read_err f r c said e h = subst (λ s. IsRead f s said) e h
