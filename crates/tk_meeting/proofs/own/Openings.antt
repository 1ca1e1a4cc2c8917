-- At first each client has the logs that it writes and those that it follows.
use Rattle.tk_meeting.proofs.Terms.{◌≡◌, ℕ, ◌≤◌, ◌<◌, List, [], ◌∷◌, map, ◌+◌, ◌==◌, cond, Bool, true, false, filter}
use Rattle.tk_meeting.proofs.Terms.{refl, zero, suc, arith, eqb-true, inl, inr, range_with_len, AllByRecursion}
use Rattle.tk_meeting.proofs.Terms.{writer_of, Script, new_client, Follow, new_follow, unwritten, Written, writes_of}
use Rattle.tk_meeting.proofs.Terms.{follows_of, is_follower}
use Rattle.tk_meeting.proofs.own.Words.{IsUsed}
use Rattle.tk_meeting.proofs.own.Clients.{IsOwn}

-- what holds of each number that a test passes holds of all that are kept
pub kept : (P : ℕ → Type 0) (test : ℕ → Bool) (a n top : ℕ) → a + n ≤ top →
    ((x : ℕ) → x < top → test x ≡ true → P x) → AllByRecursion P (filter test (range_with_len a n))
kept P test a zero top within each = tt
kept P test a (suc n) top within each =
    by (test a) refl (kept P test (a + 1) n top (omega (arith, within)) each)
  where
    later : List ℕ
    later = filter test (range_with_len (a + 1) n)

    by : (b : Bool) → test a ≡ b → AllByRecursion P later → AllByRecursion P (cond b (a ∷ later) later)
    by true is rest = (each a (omega (arith, within)) is, rest)
    by false is rest = rest

unwritten-each : (P : ℕ → Type 0) (logs : List ℕ) → AllByRecursion P logs →
    AllByRecursion (λ (f : Written). P f.log) (map unwritten logs)
unwritten-each P [] all = tt
unwritten-each P (log ∷ logs) all = (all.0, unwritten-each P logs all.1)

new-each : (P : ℕ → Type 0) (logs : List ℕ) → AllByRecursion P logs →
    AllByRecursion (λ (f : Follow). P f.log) (map new_follow logs)
new-each P [] all = tt
new-each P (log ∷ logs) all = (all.0, new-each P logs all.1)

pub opening-own : (S : Script) (c : ℕ) → c < S.shape.clients →
    IsOwn S c (new_client S.shape c (writes_of S c) (follows_of S c))
opening-own S c low =
    record {
      shape_is = refl;
      number_is = refl;
      writes =
          record {
            logs = unwritten-each (IsUsed S c) (writes_of S c)
                (kept (IsUsed S c) (λ log. writer_of S log == c) 0 S.shape.logs S.shape.logs (omega arith)
                (λ log within is. record { low = within; uses = inl (eqb-true (writer_of S log) c is) }));
            waits = tt;
          };
      follows =
          record {
            each = new-each (IsUsed S c) (follows_of S c)
                (kept (IsUsed S c) (is_follower S c) 0 S.shape.logs S.shape.logs (omega arith)
                (λ log within is. record { low = within; uses = inr is }));
            cursor_in = omega arith;
          };
      opens = tt;
    }
