-- What writing leaves of a member.
use Rattle.tk_meeting.proofs.Terms.{◌≡◌, ℕ, ◌+◌, refl, zero, suc, arith, BookWords, wrote, after_turn, MemberState}

-- a member that wrote in so many turns more, but for what it has to write
pub record Wrote (m : MemberState) (n : ℕ) (l : MemberState) : Type 0 where
  pub number : l.client.number ≡ m.client.number
  pub shape : l.client.shape ≡ m.client.shape
  pub read : l.client.read ≡ m.client.read
  pub written : l.written ≡ m.written + n
  pub asked : l.asked ≡ m.asked
  pub ticks : l.ticks ≡ m.ticks
  pub ahead : l.ahead ≡ m.ahead
  pub told : l.told ≡ m.told

pub wrote-so : (w : BookWords) (n : ℕ) (m : MemberState) → Wrote m n (wrote w n m).member
unfolding wrote
wrote-so w zero m =
    record {
      number = refl;
      shape = refl;
      read = refl;
      written = omega arith;
      asked = refl;
      ticks = refl;
      ahead = refl;
      told = refl;
    }
wrote-so w (suc n) m =
    let rest = wrote-so w n (after_turn m) in
    let more = rest.written in
    record {
      number = rest.number;
      shape = rest.shape;
      read = rest.read;
      written = omega (arith, more);
      asked = rest.asked;
      ticks = rest.ticks;
      ahead = rest.ahead;
      told = rest.told;
    }
