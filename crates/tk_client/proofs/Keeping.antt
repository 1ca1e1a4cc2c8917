-- An outbox stays sound as texts come and leave.
use Rattle.std.proofs.Common.{◌≡◌, ◌<◌, ◌≤◌, ◌+◌, ℕ, suc, refl, sym, ap, subst, ◌∙◌, List, []}
use Rattle.std.proofs.Common.{◌∷◌, ◌++◌, Bool, true, false, ◌-◌, tests, length, map, drop}
use Rattle.std.proofs.Common.{arith, IsTrue, ◌^◌, length-append, length-drop}
use Rattle.std.specs.Prelude.{All, if◌then◌else◌, nat_lt, Option, Some, None}
use Rattle.std.specs.Prelude.{slice_index_or, position, ◌↔◌, IsNone, Result, Ok, Err, IfOk, IfErr, OnOk}
use Rattle.std.specs.List.Sorted.{IsStrictlyIncreasing}
use Rattle.std.proofs.lemmas.List.Elements.{All-push}
use Rattle.tk_shape.specs.declared.shape.Shape.{Shape}
use Rattle.tk_seal.specs.Texts.{is_allowed, allowed_front}
use Rattle.tk_client.specs.declared.written.Written.{Written}
use Rattle.tk_client.specs.declared.waiting.Waiting.{Waiting}
use Rattle.tk_client.specs.declared.say_error.SayError.{SayError}
use Rattle.tk_client.specs.declared.say_error.SayError.TheVariants.{NotWriter, TooLong, Text}
use Rattle.tk_client.specs.Writing.{Writing, unwritten, count_of, one_more_of, with_text}
use Rattle.tk_client.specs.Saying.{is_written, text_fault, fault_of, IsRefusedFor}
use Rattle.tk_client.specs.Outboxes.{CanWait, IsOutbox}
use Rattle.tk_client.proofs.LogPlaces.{is_log, logs_of-more, is_written-more, logs_of-unwritten, written-at}

-- nothing waits yet
pub opened-sound : (shape : Shape) (logs : List ℕ) → IsStrictlyIncreasing logs →
    All (λ log. log < shape.logs) logs →
    IsOutbox shape (map unwritten logs) []
opened-sound shape logs ascending within =
    let same = sym (logs_of-unwritten logs) in
    record {
      ascending = subst IsStrictlyIncreasing same ascending;
      logs_in = subst (All (λ log. log < shape.logs)) same within;
      texts = λ k d h. absurd (omega (arith, h));
      countable = omega arith;
    }

-- a text that can wait still can after one more of any log
still-can : (shape : Shape) (log : ℕ) (logs : List Written) (y : Waiting) → CanWait shape logs y →
    CanWait shape (map (one_more_of log) logs) y
still-can shape log logs y can =
    record {
      log = is_written-more log y.log logs ∙ can.log;
      fits = can.fits;
      allowed = can.allowed;
    }

pub with_text-sound : (shape : Shape) (logs : List Written) (waiting : List Waiting) (y : Waiting) →
    IsOutbox shape logs waiting → CanWait shape logs y → length waiting + 1 < 2 ^ 32 →
    IsOutbox shape (map (one_more_of y.log) logs) (waiting ++ y ∷ [])
with_text-sound shape logs waiting y sound can few =
    let same = sym (logs_of-more y.log logs) in
    record {
      ascending = subst IsStrictlyIncreasing same sound.ascending;
      logs_in = subst (All (λ log. log < shape.logs)) same sound.logs_in;
      texts = All-push (CanWait shape (map (one_more_of y.log) logs)) waiting y
          (λ k d h. still-can shape y.log logs (slice_index_or waiting k d) (sound.texts k d h))
          (still-can shape y.log logs y can);
      countable = omega (arith, few, length-append waiting (y ∷ []));
    }

All-drop_one : {X : Type 0} (P : X → Type 0) (xs : List X) → All P xs → All P (drop 1 xs)
All-drop_one P [] all = all
All-drop_one P (x ∷ xs) all = λ k d h. all (suc k) d (omega (arith, h))

pub after_write-sound : (shape : Shape) (logs : List Written) (waiting : List Waiting) →
    IsOutbox shape logs waiting → IsOutbox shape logs (drop 1 waiting)
after_write-sound shape logs waiting sound =
    record {
      ascending = sound.ascending;
      logs_in = sound.logs_in;
      texts = All-drop_one (CanWait shape logs) waiting sound.texts;
      countable = omega (arith, sound.countable, length-drop 1 waiting);
    }

-- ---- why a text is refused

pub fault-other : (shape : Shape) (logs : List Written) (log : ℕ) (text : List ℕ) →
    is_written log logs ≡ false →
    fault_of shape logs log text ≡ Some (NotWriter log)
fault-other shape logs log text other =
    ap (λ b. if b then text_fault shape text else Some (NotWriter log)) other

pub fault-mine : (shape : Shape) (logs : List Written) (log : ℕ) (text : List ℕ) →
    is_written log logs ≡ true →
    fault_of shape logs log text ≡ text_fault shape text
fault-mine shape logs log text mine =
    ap (λ b. if b then text_fault shape text else Some (NotWriter log)) mine

pub refused-for : (fault : Option SayError) (e : SayError) → fault ≡ Some e → IsRefusedFor fault e
refused-for fault e is = subst (λ f. IsRefusedFor f e) (sym is) refl

-- a text with no fault has room and is allowed
pub fault-none : (shape : Shape) (text : List ℕ) → text_fault shape text ≡ None →
    (length text + 18 ≤ shape.block) × IsTrue (is_allowed text)
fault-none shape text none =
    elim (nat_lt shape.block (length text + 18)) as (λ b. nat_lt shape.block (length text + 18)
    ≡ b → (if b then Some (TooLong (shape.block - 18))
    else (if is_allowed text then None else Some (Text (allowed_front (length text) text))))
    ≡ None → (length text + 18 ≤ shape.block) × IsTrue (is_allowed text)) [
      | true ↦ λ e h. absurd (never (TooLong (shape.block - 18)) h)
      | false ↦ λ e h. (
        not_long shape.block (length text + 18) e,
        allowed-none (is_allowed text)
            (Text (allowed_front (length text) text)) h,
      )
    ] refl none
  where
    never : (e : SayError) → ◌≡◌ {A = Option SayError} (Some e) None → ⊥
    never e h = cc h

    not_long : (a b : ℕ) → nat_lt a b ≡ false → b ≤ a
    not_long a b e = grind (arith, tests)

    allowed-none : (b : Bool) (e : SayError) →
        ◌≡◌ {A = Option SayError} (if b then None else Some e) None → IsTrue b
    allowed-none true e h = refl
    allowed-none false e h = absurd (never e h)

-- a text that is too long has that fault, and else only the one that it may not be sent
pub fault-long : (shape : Shape) (text : List ℕ) → shape.block < length text + 18 →
    text_fault shape text ≡ Some (TooLong (shape.block - 18))
fault-long shape text long =
    ap (λ b. if b then Some (TooLong (shape.block - 18))
    else (if is_allowed text then None else Some (Text (allowed_front (length text) text))))
    (is_long shape.block (length text + 18) long)
  where
    is_long : (a b : ℕ) → a < b → nat_lt a b ≡ true
    is_long a b h = grind (arith, tests)

pub fault-fits : (shape : Shape) (text : List ℕ) → length text + 18 ≤ shape.block →
    text_fault shape text
    ≡ (if is_allowed text then None else Some (Text (allowed_front (length text) text)))
fault-fits shape text fits =
    ap (λ b. if b then Some (TooLong (shape.block - 18))
    else (if is_allowed text then None else Some (Text (allowed_front (length text) text))))
    (is_short shape.block (length text + 18) fits)
  where
    is_short : (a b : ℕ) → b ≤ a → nat_lt a b ≡ false
    is_short a b h = grind (arith, tests)

pub fault-text : (shape : Shape) (text : List ℕ) → length text + 18 ≤ shape.block →
    is_allowed text ≡ false →
    text_fault shape text ≡ Some (Text (allowed_front (length text) text))
fault-text shape text fits other =
    fault-fits shape text fits
    ∙ ap (λ b. if b then None else Some (Text (allowed_front (length text) text))) other

-- a text that has room and is allowed has none
pub fault-free : (shape : Shape) (text : List ℕ) → length text + 18 ≤ shape.block →
    IsTrue (is_allowed text) → text_fault shape text ≡ None
fault-free shape text fits allowed =
    fault-fits shape text fits
    ∙ ap (λ b. if b then None else Some (Text (allowed_front (length text) text))) allowed

-- where a log has a place and a text has room, an allowed text has none
pub may-allowed : (shape : Shape) (logs : List Written) (log : ℕ) (text : List ℕ) (place : Result ℕ SayError) →
    IsTrue (is_allowed text) → IfOk place (λ i. Some i ≡ position (is_log log) logs) →
    OnOk place (length text + 18 ≤ shape.block) → OnOk place (fault_of shape logs log text ≡ None)
may-allowed shape logs log text (Ok i) allowed at fits =
    fault-mine shape logs log text (written-at log logs i at) ∙ fault-free shape text fits allowed
may-allowed shape logs log text (Err e) allowed at fits = tt

pub refused-each : {A : Type 0} (r : Result A SayError) (fault : Option SayError) → IfErr r (λ e. fault ≡ Some e) →
    IfErr r (IsRefusedFor fault)
refused-each (Ok x) fault is = tt
refused-each (Err e) fault is = refused-for fault e is

-- a text of which a longest front is named is not allowed
pub not_allowed : (front : Option ℕ) (n : ℕ) (text : List ℕ) → front ≡ Some n →
    (IsNone front ↔ IsTrue (is_allowed text)) → is_allowed text ≡ false
not_allowed front n text is none =
    elim (is_allowed text) as (λ b. (b ≡ true → ⊥) → b ≡ false) [
      | true ↦ λ never. absurd (never refl)
      | false ↦ λ never. refl
    ] (λ e. absurd (cc (subst IsNone is (none.1 e))))

-- what is said can wait
pub can_wait : (shape : Shape) (logs : List Written) (log number : ℕ) (text kept : List ℕ) →
    is_written log logs ≡ true →
    text_fault shape text ≡ None → kept ≡ text →
    CanWait shape logs (record { log = log; number = number; text = kept })
can_wait shape logs log number text kept mine none same =
    let can = fault-none shape kept (ap (text_fault shape) same ∙ none) in
    record { log = mine; fits = can.0; allowed = can.1 }

-- what an outbox has after a text was put after the others
pub said : (log number : ℕ) (logs logs' : List Written) (waiting waiting' : List Waiting)
    (text kept : List ℕ) →
    logs' ≡ map (one_more_of log) logs →
    waiting' ≡ waiting ++ record { log = log; number = number; text = kept } ∷ [] →
    number ≡ count_of log logs → kept ≡ text →
    ◌≡◌ {A = Writing} (record { logs = logs'; waiting = waiting' })
    (with_text log text (record { logs = logs; waiting = waiting }))
said log number logs logs' waiting waiting' text kept more behind counted same =
    let last : ◌≡◌ {A = List Waiting}
    (waiting ++ record { log = log; number = number; text = kept } ∷ [])
    (waiting ++ record { log = log; number = count_of log logs; text = text } ∷ []) =
    λ j. waiting ++ record { log = log; number = counted j; text = same j } ∷ []
    in
    let all = behind ∙ last in
    λ j. record { logs = more j; waiting = all j }
