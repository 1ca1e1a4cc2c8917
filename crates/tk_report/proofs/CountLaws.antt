-- How many texts each log of a client was given.
use Rattle.std.proofs.Common.{◌≡◌, ◌<◌, ◌≤◌, ◌+◌, ℕ, zero, suc, Bool, true, false, cond, List, []}
use Rattle.std.proofs.Common.{◌∷◌, ◌++◌, map, filter, refl, sym, ap, ◌∙◌, arith, tests, eqb-true, eq-eqb}
use Rattle.std.specs.Prelude.{◌==◌, ◌||◌}
use Rattle.std.specs.List.{range_with_len}
use Rattle.std.proofs.lemmas.List.Sums.{sum_by-cons}
use Rattle.tk_script.specs.declared.script.Script.{Script}
use Rattle.tk_script.specs.declared.say.Say.{Say}
use Rattle.tk_script.specs.Sent.{writer_of}
use Rattle.tk_client.specs.declared.written.Written.{Written}
use Rattle.tk_client.specs.Writing.{Writing, unwritten, count_of, one_more_of, with_text}
use Rattle.tk_client.specs.Saying.{is_written}
use Rattle.tk_client.proofs.Offers.{is_written-more}
use Rattle.tk_script.proofs.Offers.{of_log, of_log-append}

-- the logs that a client writes are there, and each counts its texts among those that were said
pub record IsCounted (S : Script) (c : ℕ) (done : List Say) (w : Writing) : Type 0 where
  pub written : (log : ℕ) → log < S.shape.logs → (writer_of S log == c) ≡ true →
      is_written log w.logs ≡ true
  pub counts : (log : ℕ) → is_written log w.logs ≡ true → count_of log w.logs ≡ of_log log done

head-more : (log other : ℕ) (f : Written) (rest rest' : ℕ) →
    ((f.log == other) ≡ false → rest' ≡ rest + cond (log == other) 1 0) →
    cond ((one_more_of log f).log == other) (one_more_of log f).count rest'
    ≡ cond (f.log == other) f.count rest + cond (log == other) 1 0
head-more log other f rest rest' behind_it =
    elim (f.log == log) as
    (λ a. (f.log == log) ≡ a →
    cond ((cond a (record f { count = f.count + 1 }) f).log == other)
    (cond a (record f { count = f.count + 1 }) f).count rest'
    ≡ cond (f.log == other) f.count rest + cond (log == other) 1 0) [
      | true ↦ λ same.
          elim (f.log == other) as
          (λ b. (f.log == other) ≡ b →
          cond b (f.count + 1) rest' ≡ cond b f.count rest + cond (log == other) 1 0) [
            | true ↦ λ here. ap (λ b. f.count + cond b 1 0)
                (sym (eq-eqb log other (sym (eqb-true f.log log same) ∙ eqb-true f.log other here)))
            | false ↦ λ there. behind_it there
          ] refl
      | false ↦ λ differs.
          elim (f.log == other) as
          (λ b. (f.log == other) ≡ b →
          cond b f.count rest' ≡ cond b f.count rest + cond (log == other) 1 0) [
            | true ↦ λ here.
                let none : (log == other) ≡ false = apart f.log log other differs here in
                let zero_more : f.count ≡ f.count + 0 = omega arith in
                zero_more ∙ ap (λ b. f.count + cond b 1 0) (sym none)
            | false ↦ λ there. behind_it there
          ] refl
    ] refl
  where
    apart : (a b d : ℕ) → (a == b) ≡ false → (a == d) ≡ true → (b == d) ≡ false
    apart a b d differs same = grind (arith, tests)

count_of-more : (log other : ℕ) (logs : List Written) → is_written other logs ≡ true →
    count_of other (map (one_more_of log) logs) ≡ count_of other logs + cond (log == other) 1 0
count_of-more log other [] is = absurd (cc is)
count_of-more log other (f ∷ logs) is =
    head-more log other f (count_of other logs) (count_of other (map (one_more_of log) logs))
    (λ there. count_of-more log other logs (ap (λ b. b || is_written other logs) (sym there) ∙ is))

-- one text more is said
pub counted-said : (S : Script) (c : ℕ) (done : List Say) (w : Writing) (y : Say) →
    IsCounted S c done w →
    IsCounted S c (done ++ y ∷ []) (with_text y.log y.text w)
counted-said S c done w y k =
    record {
      written = λ log within mine. is_written-more y.log log w.logs ∙ k.written log within mine;
      counts = λ log is.
          let before : is_written log w.logs ≡ true = sym (is_written-more y.log log w.logs) ∙ is in
          let one : of_log log (y ∷ [])
          ≡ cond (y.log == log) 1 0 + of_log log [] = sum_by-cons
          (λ (z : Say). cond (z.log == log) 1 0) y [] in
          count_of-more y.log log w.logs before
          ∙ omega (arith, k.counts log before, of_log-append log done (y ∷ []), one);
    }

or-true : (b : Bool) → (b || true) ≡ true
or-true true = refl
or-true false = refl

-- a log of the range that passes the test is one of those that are written
pub written-range : (p : ℕ → Bool) (log n a : ℕ) → a ≤ log → log < a + n → p log ≡ true →
    is_written log (map unwritten (filter p (range_with_len a n))) ≡ true
written-range p log zero a low high mine = absurd (omega (arith, low, high))
written-range p log (suc n) a low high mine =
    elim (a == log) as (λ b. (a == log) ≡ b →
    is_written log (map unwritten
    (cond (p a) (a ∷ filter p (range_with_len (a + 1) n))
    (filter p (range_with_len (a + 1) n)))) ≡ true) [
      | true ↦ λ here.
          ap (λ b. is_written log
          (map unwritten (cond b (a ∷ filter p (range_with_len (a + 1) n))
          (filter p (range_with_len (a + 1) n))))) (ap p (eqb-true a log here) ∙ mine)
          ∙ ap (λ b. b || is_written log (map unwritten (filter p (range_with_len (a + 1) n)))) here
      | false ↦ λ there.
          let behind_it = written-range p log n (a + 1) (past a log low there)
          (omega (arith, high)) mine in
          elim (p a) as (λ b. is_written log
          (map unwritten (cond b (a ∷ filter p (range_with_len (a + 1) n))
          (filter p (range_with_len (a + 1) n)))) ≡ true) [
            | true ↦ ap (λ b. (a == log) || b) behind_it ∙ or-true (a == log)
            | false ↦ behind_it
          ]
    ] refl
  where
    past : (a b : ℕ) → a ≤ b → (a == b) ≡ false → a + 1 ≤ b
    past a b le other = grind (arith, tests)

pub count_of-unwritten : (log : ℕ) (logs : List ℕ) → count_of log (map unwritten logs) ≡ 0
count_of-unwritten log [] = refl
count_of-unwritten log (l ∷ logs) =
    elim (l == log) as (λ b. cond b 0 (count_of log (map unwritten logs)) ≡ 0)
    [ true ↦ refl | false ↦ count_of-unwritten log logs ]
