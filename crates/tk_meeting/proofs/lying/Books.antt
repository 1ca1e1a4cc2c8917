-- Books over which two groups show the same, and buckets that are read.
use Rattle.tk_meeting.proofs.Terms.{◌≡◌, ℕ, ◌≤◌, ◌<◌, List, ◌++◌, Option, Some, None, ◌≢◌, turn_count, Shape, WordBook}
use Rattle.tk_meeting.proofs.Terms.{words_of, Script, frame_for, OpenRead, write_at, Pairs, HasWhatWasSaid, Deed, Hidden, lied}
use Rattle.tk_meeting.proofs.Terms.{DoAlike, StandAlike, HoldsBlocks, pair_open}

-- a read that is open is for these buckets
abbrev pub IsOf : Shape → WordBook → Pairs → ℕ → Option OpenRead → Type 0
IsOf shape b pairs c None = Unit {0}
IsOf shape b pairs c (Some read) = pair_open shape b c read ≡ pairs read.turn c

-- in a run the reads of clients are for these buckets
abbrev pub AreAsked : Script → Hidden → WordBook → Pairs → List Deed → Type 0
AreAsked S h b pairs deeds =
    (done rest : List Deed) → deeds ≡ done ++ rest → (c : ℕ) → c < S.shape.clients →
    IsOf S.shape b pairs c ((lied S h b done).members c).client.read

-- Books over which two groups show the same to all servers but the hidden one, where these buckets are read: what each
-- client writes, and what it asks.
pub record ShowAlike (A B : Script) (h : Hidden) (a b : WordBook) (pairs others : Pairs) : Type 0 where
  pub one_shape : A.shape ≡ B.shape
  pub writes : (g c : ℕ) → g < turn_count A.shape → c < A.shape.clients →
      write_at A (words_of A.shape a) g c ≡ write_at B (words_of B.shape b) g c
  pub reads : (g c e j : ℕ) → g < turn_count A.shape → c < A.shape.clients → 1 ≤ j →
      j ≤ A.shape.servers → j ≢ h.server →
      frame_for A.shape a g c e (pairs g c) j ≡ frame_for B.shape b g c e (others g c) j

-- so they are alike where over their books the reads are for these buckets
abbrev pub LiedAlike : Type 0
LiedAlike =
    (A B : Script) (h : Hidden) (a b : WordBook) (pairs others : Pairs) → ShowAlike A B h a b pairs others →
    HoldsBlocks A.shape h → (deeds more : List Deed) (other_deeds rest : List Deed) →
    AreAsked A h a pairs deeds → AreAsked B h b others other_deeds →
    HasWhatWasSaid A (lied A h a (deeds ++ more)) → HasWhatWasSaid B (lied B h b (other_deeds ++ rest)) →
    DoAlike deeds other_deeds → StandAlike A.shape h (lied A h a deeds) (lied B h b other_deeds)
