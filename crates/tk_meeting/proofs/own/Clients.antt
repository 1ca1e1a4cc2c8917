-- A client that has, says and reads no log but those that it uses; and that it stays so.
use Rattle.tk_meeting.proofs.Terms.{◌≡◌, ℕ, List, [], ◌∷◌, map, ◌==◌, Bool, true, false, Option, Some, None, refl, sym}
use Rattle.tk_meeting.proofs.Terms.{subst, drop, eqb-true, slice_get, false≢true, AllByRecursion, ◌||◌, Script}
use Rattle.tk_meeting.proofs.Terms.{ClientState, Reader, at_epoch, is_written, Writing, with_text, count_of}
use Rattle.tk_meeting.proofs.Terms.{first_waiting, after_write, one_more_of, OpenRead, Waiting, Written, each-append}
use Rattle.tk_meeting.proofs.Terms.{one_more-log}
use Rattle.tk_meeting.proofs.own.Words.{IsUsed, IsOwnTextOrNone}
use Rattle.tk_meeting.proofs.own.Reading.{Follows, IsFoundOrNone}

-- ---- what it has to write

pub record WritesOwn (S : Script) (c : ℕ) (k : Writing) : Type 0 where
  pub logs : AllByRecursion (λ (f : Written). IsUsed S c f.log) k.logs
  pub waits : AllByRecursion (λ (y : Waiting). IsUsed S c y.log) k.waiting

pub first-own : (S : Script) (c : ℕ) (k : Writing) → WritesOwn S c k →
    IsOwnTextOrNone S c (first_waiting k)
first-own S c k own = by k.waiting own.waits
  where
    by : (ys : List Waiting) → AllByRecursion (λ (y : Waiting). IsUsed S c y.log) ys →
        IsOwnTextOrNone S c (slice_get ys 0)
    by [] all = tt
    by (y ∷ ys) all = all.0

pub write-own : (S : Script) (c : ℕ) (k : Writing) → WritesOwn S c k → WritesOwn S c (after_write k)
write-own S c k own = record { logs = own.logs; waits = by k.waiting own.waits }
  where
    by : (ys : List Waiting) → AllByRecursion (λ (y : Waiting). IsUsed S c y.log) ys →
        AllByRecursion (λ (y : Waiting). IsUsed S c y.log) (drop 1 ys)
    by [] all = tt
    by (y ∷ ys) all = all.1

more-logs : (S : Script) (c log : ℕ) (fs : List Written) →
    AllByRecursion (λ (f : Written). IsUsed S c f.log) fs →
    AllByRecursion (λ (f : Written). IsUsed S c f.log) (map (one_more_of log) fs)
more-logs S c log [] all = tt
more-logs S c log (f ∷ fs) all =
    (subst (IsUsed S c) (sym (one_more-log log f)) all.0, more-logs S c log fs all.1)

pub text-own : (S : Script) (c log : ℕ) (text : List ℕ) (k : Writing) → WritesOwn S c k →
    IsUsed S c log → WritesOwn S c (with_text log text k)
text-own S c log text k own used =
    record {
      logs = more-logs S c log k.logs own.logs;
      waits = each-append (λ (y : Waiting). IsUsed S c y.log) k.waiting
          (record { log = log; number = count_of log k.logs; text = text } ∷ [])
          own.waits (used, tt);
    }

-- a log that is among those that it writes is one that it uses
pub written-used : (S : Script) (c log : ℕ) (fs : List Written) →
    AllByRecursion (λ (f : Written). IsUsed S c f.log) fs → is_written log fs ≡ true → IsUsed S c log
written-used S c log [] all is = absurd (false≢true is)
written-used S c log (f ∷ fs) all is = by (f.log == log) refl (written-used S c log fs all.1) is
  where
    by : (b : Bool) → (f.log == log) ≡ b → (is_written log fs ≡ true → IsUsed S c log) →
        (b || is_written log fs) ≡ true → IsUsed S c log
    by true same later is = subst (IsUsed S c) (eqb-true f.log log same) all.0
    by false other later is = later is

-- ---- what it reads

abbrev pub OpensOwn : Script → ℕ → Reader → Option OpenRead → Type 0
OpensOwn S c r None = Unit {0}
OpensOwn S c r (Some o) = IsFoundOrNone (IsUsed S c) (at_epoch o.epoch r) o.target

pub record IsOwn (S : Script) (c : ℕ) (k : ClientState) : Type 0 where
  pub shape_is : k.shape ≡ S.shape
  pub number_is : k.number ≡ c
  pub writes : WritesOwn S c k.writing
  pub follows : Follows (IsUsed S c) k.reader
  pub opens : OpensOwn S c k.reader k.read
