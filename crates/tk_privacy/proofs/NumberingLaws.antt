-- The texts of a log among those that its writer sends are its numbers, in order.
use Rattle.std.proofs.Common.{◌≡◌, ◌∙◌, ap, sym, refl, subst, inl, inr, arith, ℕ, zero, suc, ◌+◌, max}
use Rattle.std.proofs.Common.{Bool, true, false, cond, ◌&&◌, eqb-true, eq-eqb, ne_eqb}
use Rattle.std.proofs.Common.{List, [], ◌∷◌, length, filter, find, Option, Some, None, Bor}
use Rattle.std.specs.Prelude.{◌==◌, slice_get}
use Rattle.std.specs.Option.{option_copied}
use Rattle.std.specs.Slice.{IsItemAt}
use Rattle.std.proofs.lemmas.Option.{slice_get_past, slice_get_read}
use Rattle.std.proofs.lemmas.Bool.{lt-ltb, le-ltb, cases_lt}
use Rattle.tk_shape.specs.declared.shape.Shape.{Shape}
use Rattle.tk_shape.specs.Lengths.{turn_count}
use Rattle.tk_schedule.specs.Schedule.{turn_at}
use Rattle.tk_script.specs.declared.say.Say.{Say}
use Rattle.tk_script.specs.declared.script.Script.{Script}
use Rattle.tk_script.specs.Sent.{Sending, sendings_from, in_run, is_numbered, sent_as, writer_of}
use Rattle.tk_script.proofs.Offers.{of_log, of_log-cons}
use Rattle.tk_report.specs.Listings.{sent_by}
use Rattle.tk_report.proofs.Offers.{none-late}

-- what is lent of a list at a place is what stands there
pub got-at : {X : Type 0} (xs : List X) (i : ℕ) (r : Option (Bor X)) → IsItemAt xs i r →
    option_copied r ≡ slice_get xs i
got-at xs i None h = sym (slice_get_past xs i h.3)
got-at xs i (Some x) h = sym (slice_get_read xs (length xs) i x.now refl h.3.0 h.1)

-- whether it is of this log
abbrev is_of : ℕ → Sending → Bool
is_of log y = y.log == log

-- one that is of the log, and has the number of those of the log before it, comes first
own-first : (log n k : ℕ) (x : Sending) (ys : List Sending) → x.log ≡ log → x.number ≡ n →
    ((i : ℕ) → slice_get (filter (is_of log) ys) i ≡ find (is_numbered log (n + 1 + i)) ys) →
    slice_get (filter (is_of log) (x ∷ ys)) k ≡ find (is_numbered log (n + k)) (x ∷ ys)
own-first log n zero x ys own number rest =
    let yes : is_numbered log (n + 0) x ≡ true =
    ap (λ b. b && (x.number == n + 0)) (eq-eqb x.log log own)
    ∙ eq-eqb x.number (n + 0) (omega (arith, number))
    in
    ap (λ b. slice_get (cond b (x ∷ filter (is_of log) ys) (filter (is_of log) ys)) 0)
    (eq-eqb x.log log own)
    ∙ sym (ap (λ b. cond b (Some x) (find (is_numbered log (n + 0)) ys)) yes)
own-first log n (suc k) x ys own number rest =
    let no : is_numbered log (n + suc k) x ≡ false =
    ap (λ b. b && (x.number == n + suc k)) (eq-eqb x.log log own)
    ∙ ne_eqb x.number (n + suc k) (λ e. omega (arith, e, number))
    in
    let next : n + 1 + k ≡ n + suc k = omega arith in
    ap (λ b. slice_get (cond b (x ∷ filter (is_of log) ys) (filter (is_of log) ys)) (suc k))
    (eq-eqb x.log log own)
    ∙ rest k
    ∙ ap (λ (s : ℕ). find (is_numbered log s) ys) next
    ∙ sym (ap (λ b. cond b (Some x) (find (is_numbered log (n + suc k)) ys)) no)

-- one of another log changes nothing
other-first : (log n k : ℕ) (x : Sending) (ys : List Sending) → (x.log == log) ≡ false →
    slice_get (filter (is_of log) ys) k ≡ find (is_numbered log (n + k)) ys →
    slice_get (filter (is_of log) (x ∷ ys)) k ≡ find (is_numbered log (n + k)) (x ∷ ys)
other-first log n k x ys other rest =
    ap (λ b. slice_get (cond b (x ∷ filter (is_of log) ys) (filter (is_of log) ys)) k) other
    ∙ rest
    ∙ sym (ap (λ b. cond (b && (x.number == n + k)) (Some x) (find (is_numbered log (n + k)) ys))
    other)

-- the texts of a log that are sent after earlier ones have the numbers from their count on
in_order : (shape : Shape) (log free : ℕ) (earlier says : List Say) (k : ℕ) →
    let ys = filter (in_run shape) (sendings_from shape free earlier says) in
    slice_get (filter (is_of log) ys) k ≡ find (is_numbered log (of_log log earlier + k)) ys
unfolding sendings_from
in_order shape log free earlier [] k = refl
in_order shape log free earlier (y ∷ says) k =
    let turn = max (turn_at shape y.phase y.tick) free in
    let more = y ∷ earlier in
    let ys = filter (in_run shape) (sendings_from shape (turn + 1) more says) in
    let n = of_log log earlier in
    let x : Sending =
    record { turn = turn; log = y.log; number = of_log y.log earlier; text = y.text }
    in
    let Holds : List Sending → Type 0 =
    λ zs. slice_get (filter (is_of log) zs) k ≡ find (is_numbered log (n + k)) zs
    in
    let rest = λ (i : ℕ). in_order shape log (turn + 1) more says i in
    elim (cases_lt turn (turn_count shape)) [
      | inl soon ↦
          let first : Holds (x ∷ ys) =
          elim (y.log == log) as (λ b. (y.log == log) ≡ b → Holds (x ∷ ys)) [
            | true ↦ λ own.
                let same : y.log ≡ log = eqb-true y.log log own in
                let one : cond (y.log == log) 1 0 ≡ 1 = ap {B = ℕ} (λ b. cond b 1 0) own in
                own-first log n k x ys same (ap (λ (l : ℕ). of_log l earlier) same) (λ i.
                let count : of_log log more + i ≡ n + 1 + i =
                omega (arith, of_log-cons log y earlier, one)
                in
                rest i ∙ ap (λ (s : ℕ). find (is_numbered log s) ys) count)
            | false ↦ λ other.
                let none : cond (y.log == log) 1 0 ≡ 0 = ap {B = ℕ} (λ b. cond b 1 0) other in
                let count : of_log log more + k ≡ n + k =
                omega (arith, of_log-cons log y earlier, none)
                in
                other-first log n k x ys other
                (rest k ∙ ap (λ (s : ℕ). find (is_numbered log s) ys) count)
          ] refl
          in
          subst Holds (sym (ap (λ b. cond b (x ∷ ys) ys) (lt-ltb turn (turn_count shape) soon)))
          first
      | inr late ↦
          let none : filter (in_run shape) (x ∷ sendings_from shape (turn + 1) more says) ≡ [] =
          ap (λ b. cond b (x ∷ ys) ys) (le-ltb turn (turn_count shape) late)
          ∙ none-late shape (turn + 1) more says (omega (arith, late))
          in
          subst Holds (sym none) refl
    ]

-- what is sent as a number of a log is the text at that place
pub numbered-in_order : (S : Script) (log s : ℕ) →
    slice_get (filter (λ (y : Sending). y.log == log) (sent_by S (writer_of S log))) s
    ≡ sent_as S log s
unfolding sent_as
numbered-in_order S log s =
    let mine = filter (λ (y : Say). writer_of S y.log == writer_of S log) S.says in
    in_order S.shape log 0 [] mine s
    ∙ ap (λ (n : ℕ). find (is_numbered log n) (sent_by S (writer_of S log)))
    (let none : of_log log [] + s ≡ s = omega arith in none)
