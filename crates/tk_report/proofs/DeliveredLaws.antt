-- What is retained is delivered as it was written, and nothing else is.
use Rattle.std.proofs.Common.{◌≡◌, refl, ap, sym, ◌∙◌, subst, inl, inr, ℕ, ◌<◌, List, [], ◌∷◌, Option, Some, None}
use Rattle.std.specs.Option.{option_or}
use Rattle.tk_shape.specs.Lengths.{turn_count}
use Rattle.tk_schedule.specs.declared.history.History.{History}
use Rattle.tk_script.specs.declared.script.Script.{Script}
use Rattle.tk_script.specs.Sent.{Sending}
use Rattle.tk_words.specs.Words.{BookWords, words_of, opened}
use Rattle.tk_words.specs.Opening.{IsNumber, OpensSealed}
use Rattle.tk_words.specs.OpeningLaws.{opens_sealed}
use Rattle.tk_frames.specs.Order.{Record, records, before}
use Rattle.tk_frames.specs.Lists.{first_some, IsIn}
use Rattle.tk_frames.specs.Slots.{text_in}
use Rattle.tk_table.specs.Table.{retained}
use Rattle.tk_frames.proofs.Offers.{in_from_contains, contains_from_in}
use Rattle.tk_report.specs.Entries.{entries}
use Rattle.tk_report.specs.Report.{lookup}
use Rattle.tk_report.specs.PassingOver.{IsRecordOf, IsNotRetained}
use Rattle.tk_report.specs.Delivered.{IsClear, DeliversAsWritten, SentInRange}
use Rattle.tk_script.proofs.Offers.{sent-is, sent-once}
use Rattle.tk_report.proofs.RetainedLaws.{retained-own, none-each, record-gives}
use Rattle.tk_report.proofs.WrittenLaws.{before-own}

-- ---- the record of a number

pub sent-in_range : SentInRange
sent-in_range S w log s r known =
    let is = sent-is S known.turn known.client known.sending known.sends in
    record {
      log_in = subst (λ (l : ℕ). l < S.shape.logs) known.of_log is.log_in;
      number_in = subst (λ (n : ℕ). n < turn_count S.shape) known.of_number is.number_in;
    }

gives-own : (S : Script) (w : BookWords) (log s : ℕ) (r : Record) → OpensSealed S.shape w →
    (known : IsRecordOf S w log s r) →
    text_in (w.pair log s) (opened w log s) r ≡ Some known.sending.text
gives-own S w log s r opens known =
    record-gives S w log s r opens (sent-in_range S w log s r known) known

-- two records of a number have one text
one-text : (S : Script) (w : BookWords) (log s : ℕ) (r q : Record) →
    (known : IsRecordOf S w log s r) → (other : IsRecordOf S w log s q) →
    other.sending.text ≡ known.sending.text
one-text S w log s r q known other =
    ap (λ (y : Sending). y.text)
    (sent-once S other.turn other.client known.turn known.client other.sending known.sending
    other.sends known.sends (other.of_log ∙ sym known.of_log)
    (other.of_number ∙ sym known.of_number)).2

-- ---- the first that gives something

-- one of a list that gives something
pub record Gives {X Y : Type 0} (f : X → Option Y) (xs : List X) (y : Y) : Type 0 where
  pub giver : X
  pub there : IsIn xs giver
  pub gives : f giver ≡ Some y

pub first_some-gives : {X Y : Type 0} (f : X → Option Y) (xs : List X) (y : Y) →
    first_some f xs ≡ Some y → Gives f xs y
first_some-gives f [] y e = absurd (cc e)
first_some-gives {X} {Y} f (x ∷ xs) y e =
    elim (f x)
    as (λ o. f x ≡ o → option_or o (first_some f xs) ≡ Some y → Gives f (x ∷ xs) y) [
      | None ↦ λ _ later. let behind = first_some-gives f xs y later in
          record { giver = behind.giver; there = inr behind.there; gives = behind.gives }
      | Some z ↦ λ here same. record { giver = x; there = inl refl; gives = here ∙ same }
    ] refl e

-- ---- what is looked up

-- these writes are clear: none gives a text for a number but the number's own
pub record AreClear (S : Script) (w : BookWords) (R : List Record) : Type 0 where
  pub own : (r : Record) (log s : ℕ) (text : List ℕ) → IsIn R r → IsNumber S.shape log s →
      text_in (w.pair log s) (opened w log s) r ≡ Some text → IsRecordOf S w log s r

lookup-written : (S : Script) (w : BookWords) (R : List Record) (log s : ℕ) (r : Record) →
    OpensSealed S.shape w → AreClear S w R → IsIn (retained S.shape R) r →
    (known : IsRecordOf S w log s r) → lookup S.shape w R log s ≡ Some known.sending.text
unfolding lookup
lookup-written S w R log s r opens clear there known =
    let f = text_in (w.pair log s) (opened w log s) in
    let gives = gives-own S w log s r opens known in
    elim (first_some f (retained S.shape R))
    as (λ o. first_some f (retained S.shape R) ≡ o → o ≡ Some known.sending.text) [
      | None ↦ λ none. sym (none-each f (retained S.shape R) r none there) ∙ gives
      | Some text ↦ λ found.
          let first = first_some-gives f (retained S.shape R) text found in
          let own = clear.own first.giver log s text
          (retained-own S.shape R first.giver first.there) (sent-in_range S w log s r known)
          first.gives
          in
          sym first.gives ∙ gives-own S w log s first.giver opens own
          ∙ ap (λ (m : List ℕ). Some m) (one-text S w log s r first.giver known own)
    ] refl

lookup-absent : (S : Script) (w : BookWords) (R : List Record) (log s : ℕ) → AreClear S w R →
    IsNumber S.shape log s → IsNotRetained S w R log s → lookup S.shape w R log s ≡ None
unfolding lookup
lookup-absent S w R log s clear number not_retained =
    let f = text_in (w.pair log s) (opened w log s) in
    elim (first_some f (retained S.shape R))
    as (λ o. first_some f (retained S.shape R) ≡ o → o ≡ None) [
      | None ↦ λ _. refl
      | Some text ↦ λ found.
          let first = first_some-gives f (retained S.shape R) text found in
          let own = clear.own first.giver log s text
          (retained-own S.shape R first.giver first.there) number first.gives
          in
          absurd (not_retained first.giver
          (contains_from_in (retained S.shape R) first.giver first.there) own)
    ] refl

before-clear : (S : Script) (w : BookWords) (H : History) (e : ℕ) → IsClear S w H →
    AreClear S w (before (entries S w H) e)
before-clear S w H e clear =
    record {
      own = λ r log s text there number gives.
          clear.own r log s text
          (contains_from_in (records (entries S w H)) r (before-own (entries S w H) e r there))
          number gives;
    }

pub delivers-as_written : DeliversAsWritten
delivers-as_written S b H e log s served clear =
    let w = words_of S.shape b in
    let R = before (entries S w H) e in
    let writes = before-clear S w H e clear in
    record {
      written = λ r there known.
          lookup-written S w R log s r (opens_sealed S.shape b served) writes
          (in_from_contains (retained S.shape R) r there) known;
      absent = λ number not_retained. lookup-absent S w R log s writes number not_retained;
    }
