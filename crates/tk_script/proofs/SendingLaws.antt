-- What is sent when more texts are said.
use Rattle.std.proofs.Common.{◌≡◌, ◌≤◌, ℕ, ◌+◌, max, List, [], ◌∷◌, ◌++◌, length, cond, refl, ap, ◌∙◌, arith, count_by}
use Rattle.std.specs.Prelude.{◌==◌}
use Rattle.std.specs.List.{AllByRecursion}
use Rattle.std.proofs.lemmas.List.Sums.{sum_by-cons, sum_by-append, count_by-le-length}
use Rattle.tk_shape.specs.declared.shape.Shape.{Shape}
use Rattle.tk_script.specs.declared.say.Say.{Say}
use Rattle.tk_schedule.specs.Schedule.{turn_at}
use Rattle.tk_script.specs.Sent.{Sending, sendings_from}

-- the first turn without a text after these, where free was the first before them
abbrev pub free_after : Shape → ℕ → List Say → ℕ
free_after shape free [] = free
free_after shape free (y ∷ ys) = free_after shape (max (turn_at shape y.phase y.tick) free + 1) ys

pub free_after-append : (shape : Shape) (free : ℕ) (ys : List Say) (y : Say) →
    free_after shape free (ys ++ y ∷ [])
    ≡ max (turn_at shape y.phase y.tick) (free_after shape free ys) + 1
free_after-append shape free [] y = refl
free_after-append shape free (x ∷ ys) y =
    free_after-append shape (max (turn_at shape x.phase x.tick) free + 1) ys y

-- how many of a text's log stand among these
abbrev pub of_log : ℕ → List Say → ℕ
of_log log says = count_by (λ z. z.log == log) says

pub of_log-cons : (log : ℕ) (y : Say) (says : List Say) →
    of_log log (y ∷ says) ≡ cond (y.log == log) 1 0 + of_log log says
of_log-cons log y says = sum_by-cons (λ z. cond (z.log == log) 1 0) y says

pub of_log-append : (log : ℕ) (xs ys : List Say) →
    of_log log (xs ++ ys) ≡ of_log log xs + of_log log ys
of_log-append log xs ys = sum_by-append (λ z. cond (z.log == log) 1 0) xs ys

-- ---- one text more

-- a text that is sent in a turn, with a number
abbrev sending : ℕ → Say → ℕ → Sending
sending turn y number =
    record { turn = turn; log = y.log; number = number; text = y.text }

-- the text that comes after these, where earlier ones came before them all
abbrev pub sending_behind : Shape → ℕ → List Say → List Say → Say → Sending
sending_behind shape free earlier ys y =
    record {
      turn = max (turn_at shape y.phase y.tick) (free_after shape free ys);
      log = y.log;
      number = of_log y.log ys + of_log y.log earlier;
      text = y.text;
    }

pub sendings_from-append : (shape : Shape) (free : ℕ) (earlier ys : List Say) (y : Say) →
    sendings_from shape free earlier (ys ++ y ∷ [])
    ≡ sendings_from shape free earlier ys ++ sending_behind shape free earlier ys y ∷ []
unfolding sendings_from
sendings_from-append shape free earlier [] y =
    ap (λ n. sending (max (turn_at shape y.phase y.tick) free) y n ∷ []) none
  where
    none : of_log y.log earlier ≡ 0 + of_log y.log earlier
    none = omega arith
sendings_from-append shape free earlier (x ∷ ys) y =
    let turn = max (turn_at shape x.phase x.tick) free in
    let front = sending turn x (of_log x.log earlier) in
    let last = sending (max (turn_at shape y.phase y.tick) (free_after shape (turn + 1) ys)) y in
    let numbered : of_log y.log ys + of_log y.log (x ∷ earlier)
    ≡ of_log y.log (x ∷ ys) + of_log y.log earlier =
    omega (arith, of_log-cons y.log x earlier, of_log-cons y.log x ys)
    in
    ap (λ zs. front ∷ zs) (sendings_from-append shape (turn + 1) (x ∷ earlier) ys y)
    ∙ ap (λ n. front ∷ (sendings_from shape (turn + 1) (x ∷ earlier) ys ++ last n ∷ [])) numbered

-- ---- two parts

abbrev pub behind : List Say → List Say → List Say
behind [] earlier = earlier
behind (x ∷ xs) earlier = behind xs (x ∷ earlier)

pub sendings-append : (shape : Shape) (free : ℕ) (earlier xs ys : List Say) →
    sendings_from shape free earlier (xs ++ ys)
    ≡ sendings_from shape free earlier xs
    ++ sendings_from shape (free_after shape free xs) (behind xs earlier) ys
unfolding sendings_from
sendings-append shape free earlier [] ys = refl
sendings-append shape free earlier (x ∷ xs) ys =
    let turn = max (turn_at shape x.phase x.tick) free in
    ap (λ zs. sending turn x (of_log x.log earlier) ∷ zs)
    (sendings-append shape (turn + 1) (x ∷ earlier) xs ys)

-- ---- turns and numbers

-- nothing is sent before it is said
pub sent-late : (shape : Shape) (free : ℕ) (earlier says : List Say) (g : ℕ) →
    AllByRecursion (λ (y : Say). g ≤ turn_at shape y.phase y.tick) says →
    AllByRecursion (λ (s : Sending). g ≤ s.turn) (sendings_from shape free earlier says)
unfolding sendings_from
sent-late shape free earlier [] g from = tt
sent-late shape free earlier (y ∷ says) g from =
    let next = max (turn_at shape y.phase y.tick) free + 1 in
    (omega (arith, from.0), sent-late shape next (y ∷ earlier) says g from.1)

-- a text's number isn't above its turn
pub number-le-turn : (shape : Shape) (free : ℕ) (earlier says : List Say) → length earlier ≤ free →
    AllByRecursion (λ (s : Sending). s.number ≤ s.turn) (sendings_from shape free earlier says)
unfolding sendings_from
number-le-turn shape free earlier [] few = tt
number-le-turn shape free earlier (y ∷ says) few =
    let turn = max (turn_at shape y.phase y.tick) free in (
      omega (arith, few, count_by-le-length (λ (z : Say). z.log == y.log) earlier),
      number-le-turn shape (turn + 1) (y ∷ earlier) says (omega (arith, few)),
    )
