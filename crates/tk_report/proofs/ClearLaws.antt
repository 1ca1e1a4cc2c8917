-- A test tells whether a run is clear.
use Rattle.std.proofs.Common.{◌≡◌, refl, ap, ap₂, ◌∙◌, arith, inl, inr, eqb-true, eq-eqb}
use Rattle.std.proofs.Common.{ℕ, zero, suc, ◌+◌, ◌<◌, ◌≤◌, Bool, true, ◌||◌, ◌==◌, List, [], ◌∷◌, Option, Some, None}
use Rattle.std.specs.Prelude.{not, is_some}
use Rattle.std.specs.List.{list_all, range_with_len}
use Rattle.std.proofs.lemmas.Bool.{cases_lt, and_from, and_parts as parts}
use Rattle.tk_shape.specs.Lengths.{turn_count}
use Rattle.tk_schedule.specs.declared.history.History.{History}
use Rattle.tk_script.specs.declared.script.Script.{Script}
use Rattle.tk_script.specs.Sent.{sent}
use Rattle.tk_words.specs.Words.{BookWords, opened}
use Rattle.tk_words.specs.Opening.{IsNumber}
use Rattle.tk_frames.specs.declared.write_frame.WriteFrame.{WriteFrame}
use Rattle.tk_frames.specs.Order.{Record, records}
use Rattle.tk_frames.specs.Slots.{text_in}
use Rattle.tk_frames.specs.Lists.{IsIn}
use Rattle.tk_frames.proofs.Offers.{in_from_contains, contains_from_in, all-at}
use Rattle.tk_report.specs.Entries.{entries}
use Rattle.tk_report.specs.PassingOver.{IsRecordOf}
use Rattle.tk_report.specs.Delivered.{IsClear, is_number, is_clear_at, is_clear, ClearIsTested, IsWritten}
use Rattle.tk_report.proofs.WrittenLaws.{write_at-turn, write_at-client, each-is_written}

-- ---- tests of lists

all-from : {X : Type 0} (test : X → Bool) (xs : List X) → ((x : X) → IsIn xs x → test x ≡ true) →
    list_all test xs ≡ true
all-from test [] each = refl
all-from test (x ∷ xs) each =
    and_from (test x) (list_all test xs) (each x (inl refl))
    (all-from test xs (λ y there. each y (inr there)))

in-range : (a n k : ℕ) → a ≤ k → k < a + n → IsIn (range_with_len a n) k
in-range a zero k low high = absurd (omega (arith, low, high))
in-range a (suc n) k low high =
    elim (cases_lt a k) [
      | inl less ↦ inr (in-range (a + 1) n k (omega (arith, less)) (omega (arith, high)))
      | inr not_less ↦ inl (omega (arith, low, not_less))
    ]

from-range : (a n k : ℕ) → IsIn (range_with_len a n) k → (a ≤ k) × (k < a + n)
from-range a zero k there = absurd there
from-range a (suc n) k (inl e) = (omega (arith, e), omega (arith, e))
from-range a (suc n) k (inr there) =
    let later = from-range (a + 1) n k there in
    (omega (arith, later.0), omega (arith, later.1))

-- ---- one record and one number

-- a record that was sent as a number is that number's
record-from : (S : Script) (w : BookWords) (r : Record) (log s : ℕ) → IsWritten S w r →
    is_number log s (sent S r.write.turn r.write.client) ≡ true → IsRecordOf S w log s r
record-from S w r log s is test =
    elim (sent S r.write.turn r.write.client)
    as (λ o. sent S r.write.turn r.write.client ≡ o → is_number log s o ≡ true →
    IsRecordOf S w log s r) [
      | None ↦ λ _ t. absurd (cc t)
      | Some y ↦ λ sends t. let split = parts (y.log == log) (y.number == s) t in
          record {
            turn = r.write.turn;
            client = r.write.client;
            sending = y;
            sends = sends;
            of_log = eqb-true y.log log split.0;
            of_number = eqb-true y.number s split.1;
            written = is.written;
          }
    ] refl test

-- and the other way round
record-tests : (S : Script) (w : BookWords) (r : Record) (log s : ℕ) → IsRecordOf S w log s r →
    is_number log s (sent S r.write.turn r.write.client) ≡ true
record-tests S w r log s known =
    let y = known.sending in
    let turn : r.write.turn ≡ known.turn = ap (λ (f : WriteFrame). f.turn) known.written
    ∙ write_at-turn S w known.turn known.client
    in
    let client : r.write.client ≡ known.client = ap (λ (f : WriteFrame). f.client) known.written
    ∙ write_at-client S w known.turn known.client
    in
    ap₂ (λ (g c : ℕ). is_number log s (sent S g c)) turn client
    ∙ ap (is_number log s) known.sends
    ∙ and_from (y.log == log) (y.number == s) (eq-eqb y.log log known.of_log)
    (eq-eqb y.number s known.of_number)

gives-number : (o : Option (List ℕ)) (is : Bool) (text : List ℕ) →
    (not (is_some o) || is) ≡ true → o ≡ Some text → is ≡ true
gives-number None is text test gives = absurd (cc gives)
gives-number (Some t) is text test gives = test

none-or-number : (o : Option (List ℕ)) (is : Bool) →
    ((text : List ℕ) → o ≡ Some text → is ≡ true) → (not (is_some o) || is) ≡ true
none-or-number None is number = refl
none-or-number (Some text) is number = number text refl

-- ---- a run

clear-from_test : (S : Script) (w : BookWords) (H : History) → is_clear S w H ≡ true → IsClear S w H
unfolding is_clear
clear-from_test S w H test =
    let all = records (entries S w H) in
    record {
      own = λ r log s text there number gives.
          let by_record = all-at
          (λ (q : Record). list_all
          (λ l. list_all (is_clear_at S w q l) (range_with_len 0 (turn_count S.shape)))
          (range_with_len 0 S.shape.logs)) all r test (in_from_contains all r there)
          in
          let by_log = all-at
          (λ l. list_all (is_clear_at S w r l) (range_with_len 0 (turn_count S.shape)))
          (range_with_len 0 S.shape.logs) log by_record
          (in-range 0 S.shape.logs log (omega arith) (omega (arith, number.log_in)))
          in
          let by_number = all-at (is_clear_at S w r log) (range_with_len 0 (turn_count S.shape)) s
          by_log
          (in-range 0 (turn_count S.shape) s (omega arith) (omega (arith, number.number_in)))
          in
          record-from S w r log s (each-is_written S w H r there)
          (gives-number (text_in (w.pair log s) (opened w log s) r)
          (is_number log s (sent S r.write.turn r.write.client)) text by_number gives);
    }

test-from_clear : (S : Script) (w : BookWords) (H : History) → IsClear S w H → is_clear S w H ≡ true
unfolding is_clear
test-from_clear S w H clear =
    let all = records (entries S w H) in
    all-from
    (λ (q : Record). list_all
    (λ l. list_all (is_clear_at S w q l) (range_with_len 0 (turn_count S.shape)))
    (range_with_len 0 S.shape.logs)) all
    (λ r there. all-from
    (λ l. list_all (is_clear_at S w r l) (range_with_len 0 (turn_count S.shape)))
    (range_with_len 0 S.shape.logs)
    (λ log log_there. all-from (is_clear_at S w r log) (range_with_len 0 (turn_count S.shape))
    (λ s number_there.
    let log_in = from-range 0 S.shape.logs log log_there in
    let number_in = from-range 0 (turn_count S.shape) s number_there in
    let number : IsNumber S.shape log s = record {
      log_in = omega (arith, log_in.1);
      number_in = omega (arith, number_in.1);
    }
    in
    none-or-number (text_in (w.pair log s) (opened w log s) r)
    (is_number log s (sent S r.write.turn r.write.client))
    (λ text gives. record-tests S w r log s
    (clear.own r log s text (contains_from_in all r there) number gives)))))

pub clear-is_tested : ClearIsTested
clear-is_tested S w H = (λ test. clear-from_test S w H test, λ clear. test-from_clear S w H clear)
