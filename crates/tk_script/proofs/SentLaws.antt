-- Each client sends one text a turn at most, and no number of a log is sent twice; what is sent is
-- in range, and may be sealed.
use Rattle.std.proofs.Common.{◌≡◌, ◌∙◌, refl, ap, sym, subst, arith}
use Rattle.std.proofs.Common.{ℕ, ◌+◌, ◌<◌, ◌≤◌, ◌==◌, max, Bool, true, false, cond, ◌&&◌}
use Rattle.std.proofs.Common.{List, [], ◌∷◌, filter, find, Some, eqb-true, eq-eqb, ne_eqb, ltb-true}
use Rattle.std.specs.List.{All}
use Rattle.std.proofs.lemmas.Bool.{and_parts}
use Rattle.std.proofs.lemmas.Option.{same_Some}
use Rattle.std.proofs.lemmas.List.Elements.{All-from_recursion, All-nil, All-cons, All-head, All-tail, All-weaker, All-filter, filter_passes}
use Rattle.tk_lists.proofs.Offers.{found-passes}
use Rattle.tk_shape.specs.declared.shape.Shape.{Shape}
use Rattle.tk_shape.specs.Lengths.{turn_count}
use Rattle.tk_schedule.specs.Schedule.{turn_at}
use Rattle.tk_script.specs.declared.say.Say.{Say}
use Rattle.tk_script.specs.declared.script.Script.{Script}
use Rattle.tk_script.specs.Sent.{Sending, sendings_from, sendings, in_run, writer_of, sent, sent_as, is_numbered}
use Rattle.tk_script.specs.SentLaws.{IsSealable, SendsInRange, SendsOnce, IsSentAs, FindsByNumber}
use Rattle.tk_script.proofs.SoundLaws.{IsSaid, says-AreSaid}
use Rattle.tk_script.proofs.SendingLaws.{of_log, of_log-cons, number-le-turn}

-- ---- what is found in a list

found-each : {X : Type 0} (P : X → Type 0) (test : X → Bool) (xs : List X) (y : X) → All P xs →
    find test xs ≡ Some y → P y
found-each P test [] y each e = absurd (cc e)
found-each {X} P test (x ∷ xs) y each e =
    elim (test x) as (λ b. cond b (Some x) (find test xs) ≡ Some y → P y) [
      | true ↦ λ here. subst P (same_Some x y here) (All-head P x xs each)
      | false ↦ λ later. found-each P test xs y (All-tail P x xs each) later
    ] e

-- ---- one is before the other: in an earlier turn, and in a log with a lower number

record IsBefore (x z : Sending) : Type 0 where
  pub turn : x.turn < z.turn
  pub number : x.log ≡ z.log → x.number < z.number

abbrev AreApart : List Sending → Type 0
AreApart [] = Unit {0}
AreApart (x ∷ xs) = All (IsBefore x) xs × AreApart xs

apart-filter : (p : Sending → Bool) (xs : List Sending) → AreApart xs → AreApart (filter p xs)
apart-filter p [] h = tt
apart-filter p (x ∷ xs) h =
    elim (p x) as (λ b. AreApart (cond b (x ∷ filter p xs) (filter p xs))) [
      | true ↦ (All-filter p (IsBefore x) xs h.0, apart-filter p xs h.1)
      | false ↦ apart-filter p xs h.1
    ]

-- what one test finds another test finds, if it passes and those before it fail
found-again : (p q : Sending → Bool) (y : Sending) (xs : List Sending) → q y ≡ true →
    ((x : Sending) → IsBefore x y → q x ≡ false) → AreApart xs → find p xs ≡ Some y →
    find q xs ≡ Some y
found-again p q y [] passes fails apart e = absurd (cc e)
found-again p q y (x ∷ xs) passes fails apart e =
    elim (p x) as (λ b. cond b (Some x) (find p xs) ≡ Some y →
    cond (q x) (Some x) (find q xs) ≡ Some y) [
      | true ↦ λ here.
          let same : x ≡ y = same_Some x y here in
          ap (λ b. cond b (Some x) (find q xs)) (ap q same ∙ passes) ∙ here
      | false ↦ λ later.
          let before = found-each (IsBefore x) p xs y apart.0 later in
          ap (λ b. cond b (Some x) (find q xs)) (fails x before)
          ∙ found-again p q y xs passes fails apart.1 later
    ] e

-- ---- the texts of a client are apart

-- the number of a text is no less than how many of its log stand before them all
numbers-behind : (shape : Shape) (free : ℕ) (earlier says : List Say) →
    All (λ (y : Sending). of_log y.log earlier ≤ y.number) (sendings_from shape free earlier says)
unfolding sendings_from
numbers-behind shape free earlier [] =
    All-nil (λ (y : Sending). of_log y.log earlier ≤ y.number)
numbers-behind shape free earlier (y ∷ says) =
    let next = max (turn_at shape y.phase y.tick) free + 1 in
    let later = sendings_from shape next (y ∷ earlier) says in
    let behind = λ (z : Sending). of_log z.log earlier ≤ z.number in
    All-cons behind _ later (omega arith)
    (All-weaker (λ (z : Sending). of_log z.log (y ∷ earlier) ≤ z.number) behind
    (λ z h. omega (arith, h, of_log-cons z.log y earlier)) later
    (numbers-behind shape next (y ∷ earlier) says))

-- and its turn is no earlier than the first that is free before them all
pub turns-behind : (shape : Shape) (free : ℕ) (earlier says : List Say) →
    All (λ (y : Sending). free ≤ y.turn) (sendings_from shape free earlier says)
unfolding sendings_from
turns-behind shape free earlier [] = All-nil (λ (y : Sending). free ≤ y.turn)
turns-behind shape free earlier (y ∷ says) =
    let next = max (turn_at shape y.phase y.tick) free + 1 in
    let later = sendings_from shape next (y ∷ earlier) says in
    All-cons (λ (z : Sending). free ≤ z.turn) _ later (omega arith)
    (All-weaker (λ (z : Sending). next ≤ z.turn) (λ (z : Sending). free ≤ z.turn)
    (λ z h. omega (arith, h)) later (turns-behind shape next (y ∷ earlier) says))

-- one that is sent later, with a number after those of its log so far
comes-after : (y : Say) (earlier : List Say) (x z : Sending) → x.log ≡ y.log →
    x.number ≡ of_log y.log earlier → x.turn + 1 ≤ z.turn →
    of_log z.log (y ∷ earlier) ≤ z.number → IsBefore x z
comes-after y earlier x z log number late high = record {
  turn = omega (arith, late);
  number = λ same.
      let alike : y.log ≡ z.log = sym log ∙ same in
      let one : cond (y.log == z.log) 1 0 ≡ 1 =
      ap {B = ℕ} (λ b. cond b 1 0) (eq-eqb y.log z.log alike)
      in
      let count : of_log y.log earlier ≡ of_log z.log earlier = ap (λ k. of_log k earlier) alike in
      omega (arith, high, of_log-cons z.log y earlier, one, count, number);
}

sendings-apart : (shape : Shape) (free : ℕ) (earlier says : List Say) →
    AreApart (sendings_from shape free earlier says)
unfolding sendings_from
sendings-apart shape free earlier [] = tt
sendings-apart shape free earlier (y ∷ says) =
    let turn = max (turn_at shape y.phase y.tick) free in
    let later = sendings_from shape (turn + 1) (y ∷ earlier) says in
    let first : Sending =
    record { turn = turn; log = y.log; number = of_log y.log earlier; text = y.text }
    in
    let turns = turns-behind shape (turn + 1) (y ∷ earlier) says in
    let numbers = numbers-behind shape (turn + 1) (y ∷ earlier) says in (
      λ k d low. comes-after y earlier first _ refl refl (turns k d low) (numbers k d low),
      sendings-apart shape (turn + 1) (y ∷ earlier) says,
    )

-- ---- what holds of what is sent

-- what holds of a text's log and of the text
kept : (P : ℕ → List ℕ → Type 0) (shape : Shape) (free : ℕ) (earlier says : List Say) →
    All (λ (y : Say). P y.log y.text) says →
    All (λ (z : Sending). P z.log z.text) (sendings_from shape free earlier says)
unfolding sendings_from
kept P shape free earlier [] each = All-nil (λ (z : Sending). P z.log z.text)
kept P shape free earlier (y ∷ says) each =
    let of_say = λ (x : Say). P x.log x.text in
    let next = max (turn_at shape y.phase y.tick) free + 1 in
    All-cons (λ (z : Sending). P z.log z.text) _ (sendings_from shape next (y ∷ earlier) says)
    (All-head of_say y says each)
    (kept P shape next (y ∷ earlier) says (All-tail of_say y says each))

-- the texts that are sent by a client, by the turns of the run
abbrev in_its_run : Script → ℕ → List Sending
in_its_run S c = filter (in_run S.shape) (sendings S c)

-- of a script's log, and a text that may be sealed
record IsOf (S : Script) (c log : ℕ) (text : List ℕ) : Type 0 where
  pub writer : writer_of S log ≡ c
  pub log_in : log < S.shape.logs
  pub sealable : IsSealable S.shape text

says-are : (S : Script) (c : ℕ) → let mine = λ (y : Say). writer_of S y.log == c in
    All (λ (y : Say). IsOf S c y.log y.text) (filter mine S.says)
says-are S c =
    let mine = λ (y : Say). writer_of S y.log == c in
    let said = All-filter mine (IsSaid S.shape) S.says
    (says-AreSaid S.shape S.says S.sound.says_sound)
    in
    λ k d low.
    let is = said k d low in
    record {
      writer = eqb-true _ c (filter_passes mine S.says k d low);
      log_in = is.log_in;
      sealable = record { allowed = is.allowed; fits = is.fits };
    }

sendings-are : (S : Script) (c : ℕ) → All (λ (y : Sending). IsOf S c y.log y.text) (in_its_run S c)
sendings-are S c =
    All-filter (in_run S.shape) (λ (y : Sending). IsOf S c y.log y.text) (sendings S c)
    (kept (IsOf S c) S.shape 0 [] (filter (λ (y : Say). writer_of S y.log == c) S.says)
    (says-are S c))

few : (S : Script) (c : ℕ) → All (λ (y : Sending). y.number ≤ y.turn) (in_its_run S c)
few S c =
    All-filter (in_run S.shape) (λ (y : Sending). y.number ≤ y.turn) (sendings S c)
    (All-from_recursion (λ (y : Sending). y.number ≤ y.turn) (sendings S c)
    (number-le-turn S.shape 0 [] (filter (λ (y : Say). writer_of S y.log == c) S.says)
    (omega arith)))

pub sent-is : SendsInRange
unfolding sent
sent-is S g c y e =
    let now = λ (z : Sending). z.turn == g in
    let is = found-each (λ (z : Sending). IsOf S c z.log z.text) now (in_its_run S c) y
    (sendings-are S c) e
    in
    let runs = found-each (λ (z : Sending). in_run S.shape z ≡ true) now (in_its_run S c) y
    (filter_passes (in_run S.shape) (sendings S c)) e
    in
    let low = found-each (λ (z : Sending). z.number ≤ z.turn) now (in_its_run S c) y (few S c) e in
    let turn_in = ltb-true y.turn (turn_count S.shape) runs in
    record {
      turn = eqb-true y.turn g (found-passes now (in_its_run S c) y e);
      turn_in = turn_in;
      writer = is.writer;
      log_in = is.log_in;
      number_in = omega (arith, low, turn_in);
      sealable = is.sealable;
    }

-- each text that is sent can be sealed
pub sent-sealable : (S : Script) (g c : ℕ) (y : Sending) → sent S g c ≡ Some y →
    IsSealable S.shape y.text
sent-sealable S g c y e = (sent-is S g c y e).sealable

-- ---- found by turn, and by log and number

run-apart : (S : Script) (c : ℕ) → AreApart (in_its_run S c)
run-apart S c =
    apart-filter (in_run S.shape) (sendings S c)
    (sendings-apart S.shape 0 [] (filter (λ (y : Say). writer_of S y.log == c) S.says))

itself : (y : Sending) → is_numbered y.log y.number y ≡ true
itself y = rw (eq-eqb y.log y.log refl, eq-eqb y.number y.number refl) refl

other : (x y : Sending) → IsBefore x y → is_numbered y.log y.number x ≡ false
other x y before =
    elim (x.log == y.log) as (λ b. (x.log == y.log) ≡ b → (b && (x.number == y.number)) ≡ false) [
      | true ↦ λ e.
          let low = before.number (eqb-true x.log y.log e) in
          ne_eqb x.number y.number (λ f. omega (arith, low, f))
      | false ↦ λ e. refl
    ] refl

-- what is sent in a turn is what is sent as its number
pub sent-found : (S : Script) (g c : ℕ) (y : Sending) → sent S g c ≡ Some y →
    sent_as S y.log y.number ≡ Some y
unfolding sent sent_as
sent-found S g c y e =
    ap (λ d. find (is_numbered y.log y.number) (in_its_run S d)) (sent-is S g c y e).writer
    ∙ found-again (λ z. z.turn == g) (is_numbered y.log y.number) y (in_its_run S c) (itself y)
    (λ x before. other x y before) (run-apart S c) e

-- and what is sent as a number is what is sent in its turn
pub sent_as-is : (S : Script) (log s : ℕ) (y : Sending) → sent_as S log s ≡ Some y →
    IsSentAs S log s y
unfolding sent sent_as
sent_as-is S log s y e =
    let run = in_its_run S (writer_of S log) in
    let is = and_parts (y.log == log) (y.number == s) (found-passes (is_numbered log s) run y e) in
    record {
      of_log = eqb-true y.log log is.0;
      of_number = eqb-true y.number s is.1;
      sends = found-again (is_numbered log s) (λ z. z.turn == y.turn) y run
          (eq-eqb y.turn y.turn refl)
          (λ x before. ne_eqb x.turn y.turn (λ f. let low = before.turn in omega (arith, low, f)))
          (run-apart S (writer_of S log)) e;
    }

-- what is sent as the same number is the same
pub sent-once : SendsOnce
sent-once S g c h d y z first other log number =
    let found : sent_as S y.log y.number ≡ Some z =
    ap (λ l. sent_as S l y.number) log ∙ ap (sent_as S z.log) number ∙ sent-found S h d z other
    in
    let same : y ≡ z = same_Some y z (sym (sent-found S g c y first) ∙ found) in
    let one = sent-is S g c y first in
    let two = sent-is S h d z other in (
      sym one.turn ∙ ap (λ (x : Sending). x.turn) same ∙ two.turn,
      sym one.writer ∙ ap (writer_of S) log ∙ two.writer,
      same,
    )

pub finds_by_number : FindsByNumber
finds_by_number = record { by_turn = sent-found; by_number = sent_as-is }
