-- What is kept of a run turn after turn, and what a shelf gives back.
use Rattle.std.proofs.Common.{◌≡◌, refl, ap, sym, subst, ◌∙◌, arith, inl, inr, ℕ, ◌+◌, ◌-◌, ◌*◌, ◌<◌, ◌≤◌}
use Rattle.std.proofs.Common.{List, [], ◌∷◌, ◌++◌, length, Option, Some, None, Bool, true, false, cond}
use Rattle.std.proofs.Common.{le-leb, eq-eqb, length-append, append-nil}
use Rattle.std.proofs.lemmas.Bool.{cases_Bool, cases_lt, lt-leb, eqb-true, false≢true}
use Rattle.std.proofs.lemmas.List.{get_or_push}
use Rattle.std.proofs.Math.Nat.{mul-le-mul_right}
use Rattle.std.specs.Prelude.{slice_index_or}
use Rattle.tk_shape.specs.declared.shape.Shape.{Shape}
use Rattle.tk_shape.specs.Lengths.{turn_count}
use Rattle.tk_script.specs.declared.script.Script.{Script}
use Rattle.tk_schedule.specs.declared.history.History.{History}
use Rattle.tk_words.specs.Words.{WordBook, words_of}
use Rattle.tk_report.specs.Turns.{placed_before}
use Rattle.tk_run.specs.Keeping.{HasRefused, IsAccepted, OneRefuses, is_due, kept_up_to, saved_before, turn_due}

-- ---- the turn that is due

pub is-due : (S : Script) (due : Option ℕ) (g : ℕ) → is_due due g ≡ true → turn_due S due ≡ g
is-due S None g is = absurd (false≢true is)
is-due S (Some due) g is = eqb-true due g is

pub not-due : (S : Script) (due : Option ℕ) (g : ℕ) → g ≤ turn_count S.shape →
    is_due due g ≡ false → turn_due S due ≡ g → ⊥
not-due S None g low isnt same = omega (arith, low, same)
not-due S (Some due) g low isnt same = false≢true (sym isnt ∙ eq-eqb due g same)

-- where a turn isn't due, what was due up to it was due before it
pub none-before : (S : Script) (due : Option ℕ) (g : ℕ) → g + 1 ≤ turn_count S.shape →
    is_due due (g + 1) ≡ false → turn_due S due ≤ g + 1 → turn_due S due ≤ g
none-before S due g within isnt low =
    elim (cases_lt g (turn_due S due)) [
      | inl later ↦ absurd (not-due S due (g + 1) within isnt (omega (arith, later, low)))
      | inr earlier ↦ omega (arith, earlier)
    ]

-- so what holds of a keeper since the turn that was due held of it before this one, if it is another
pub still-before : {K : Type 0} (S : Script) (due : Option ℕ) (g : ℕ) →
    g + 1 ≤ turn_count S.shape → (was now : K) (P : K → Type 0) →
    (is_due due (g + 1) ≡ false → now ≡ was) → (turn_due S due ≤ g + 1 → P now) →
    turn_due S due ≤ g → P was
still-before S due g within was now P same may low =
    elim (cases_Bool (is_due due (g + 1))) [
      | inl is ↦ absurd (omega (arith, low, is-due S due (g + 1) is))
      | inr isnt ↦ subst P (same isnt) (may (omega (arith, low)))
    ]

-- ---- what is kept

abbrev one : Bool → List ℕ → List (List ℕ)
one test a = cond test (a ∷ []) []

-- from the turn that is due on its checkpoint, and before it nothing
pub kept-since : (S : Script) (due : Option ℕ) (at : ℕ → List ℕ) (g : ℕ) → g ≤ turn_count S.shape →
    turn_due S due ≤ g → kept_up_to due at g ≡ at (turn_due S due) ∷ []
kept-since S None at g within low = absurd (omega (arith, within, low))
kept-since S (Some due) at g within low = ap (λ (p : Bool). one p (at due)) (le-leb due g low)

pub kept-none : (S : Script) (due : Option ℕ) (at : ℕ → List ℕ) (g : ℕ) → g < turn_due S due →
    kept_up_to due at g ≡ []
kept-none S None at g later = refl
kept-none S (Some due) at g later = ap (λ (p : Bool). one p (at due)) (lt-leb due g later)

-- before a turn that is due nothing was kept, and then the checkpoint
pub kept-then : (S : Script) (due : Option ℕ) (at : ℕ → List ℕ) (g : ℕ)
    (before old new : List (List ℕ)) → g + 1 ≤ turn_count S.shape → is_due due (g + 1) ≡ true →
    old ≡ before ++ kept_up_to due at g → new ≡ old ++ at (g + 1) ∷ [] →
    new ≡ before ++ kept_up_to due at (g + 1)
kept-then S due at g before old new within is was now =
    let here = is-due S due (g + 1) is in
    now
    ∙ ap (λ (xs : List (List ℕ)). xs ++ at (g + 1) ∷ [])
    (was ∙ ap (λ (xs : List (List ℕ)). before ++ xs) (kept-none S due at g (omega (arith, here)))
    ∙ append-nil before)
    ∙ ap (λ (n : ℕ). before ++ at n ∷ []) (sym here)
    ∙ sym (ap (λ (xs : List (List ℕ)). before ++ xs)
    (kept-since S due at (g + 1) within (omega (arith, here))))

-- and where it isn't due what was kept stays
pub kept-still : (S : Script) (due : Option ℕ) (at : ℕ → List ℕ) (g : ℕ) →
    g + 1 ≤ turn_count S.shape → is_due due (g + 1) ≡ false →
    kept_up_to due at g ≡ kept_up_to due at (g + 1)
kept-still S due at g within isnt =
    elim (cases_lt g (turn_due S due)) [
      | inl later ↦
          elim (cases_lt (g + 1) (turn_due S due)) [
            | inl after ↦ kept-none S due at g later ∙ sym (kept-none S due at (g + 1) after)
            | inr here ↦ absurd (not-due S due (g + 1) within isnt (omega (arith, later, here)))
          ]
      | inr earlier ↦
          kept-since S due at g (omega (arith, within)) (omega (arith, earlier))
          ∙ sym (kept-since S due at (g + 1) within (omega (arith, earlier)))
    ]

-- and something was kept only once it came
never-kept : (before : List (List ℕ)) (x : List ℕ) → before ++ [] ≡ before ++ x ∷ [] → ⊥
never-kept before x is =
    let long : length (before ++ []) ≡ length (before ++ x ∷ []) = ap length is in
    omega (arith, long, length-append before [], length-append before (x ∷ []))

pub came-if-kept : (S : Script) (due : Option ℕ) (at : ℕ → List ℕ) (g : ℕ)
    (before now : List (List ℕ)) (x : List ℕ) → now ≡ before ++ kept_up_to due at g →
    now ≡ before ++ x ∷ [] → turn_due S due ≤ g
came-if-kept S due at g before now x was is =
    elim (cases_lt g (turn_due S due)) [
      | inl later ↦
          absurd (never-kept before x
          (ap (λ (xs : List (List ℕ)). before ++ xs) (sym (kept-none S due at g later)) ∙ sym was ∙ is))
      | inr earlier ↦ omega (arith, earlier)
    ]

-- what a server refuses it refuses when it is due
pub refused-when-due : (S : Script) (b : WordBook) (H : History) (due g : ℕ)
    (old new : List (List ℕ)) (gives : ℕ → List ℕ) → due ≡ g → g ≤ turn_count S.shape →
    new ≡ old ++ saved_before S b H g ∷ [] →
    IsAccepted S.shape (placed_before S (words_of S.shape b) H g) (saved_before S b H g) →
    OneRefuses S.shape (placed_before S (words_of S.shape b) H g) gives →
    HasRefused S b H due old new gives
refused-when-due S b H due g old new gives same within kept own one =
    record {
      due_in = omega (arith, same, within);
      kept = kept ∙ ap (λ (n : ℕ). old ++ saved_before S b H n ∷ []) (sym same);
      own = subst (λ (n : ℕ). IsAccepted S.shape (placed_before S (words_of S.shape b) H n)
          (saved_before S b H n)) (sym same) own;
      one = subst (λ (n : ℕ). OneRefuses S.shape (placed_before S (words_of S.shape b) H n) gives)
          (sym same) one;
    }

-- the turn in which an epoch begins is one of the run's, or its end
pub due-in : (shape : Shape) (epoch : ℕ) → epoch ≤ shape.phases →
    epoch * shape.ticks ≤ turn_count shape
due-in shape epoch within = mul-le-mul_right shape.ticks within

last-of : (xs : List (List ℕ)) (x : List ℕ) →
    slice_index_or (xs ++ x ∷ []) (length (xs ++ x ∷ []) - 1) [] ≡ x
last-of xs x =
    let long : length (xs ++ x ∷ []) ≡ length xs + 1 = length-append xs (x ∷ []) in
    get_or_push xs x [] (length (xs ++ x ∷ []) - 1) (omega (arith, long))

-- a shelf gives back what lies on it last
pub last-given : (list before : List (List ℕ)) (bytes : List ℕ) → list ≡ before ++ bytes ∷ [] →
    slice_index_or list (length list - 1) [] ≡ bytes
last-given list before bytes is =
    ap (λ (xs : List (List ℕ)). slice_index_or xs (length xs - 1) []) is ∙ last-of before bytes
