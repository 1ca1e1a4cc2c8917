-- What stands outside of the top call.
use Rattle.std.specs.Prelude.{◌≡◌, ◌≤◌, ℕ, List, Option}
use Rattle.tk_io.specs.Tapped.{TapsKeep}

-- What a source has left, what a sink holds and what each tap holds, where they tell it; and how
-- many faults each has counted.
pub record Outside : Type 0 where
  pub left : Option (List ℕ)
  pub source_faults : ℕ
  pub held : Option (List ℕ)
  pub sink_faults : ℕ
  pub tap : ℕ → Option (List ℕ)
  pub tap_faults : ℕ

abbrev pub outside :
    Option (List ℕ) → ℕ → Option (List ℕ) → ℕ → (ℕ → Option (List ℕ)) → ℕ → Outside
outside left source_faults held sink_faults tap tap_faults = record {
  left = left;
  source_faults = source_faults;
  held = held;
  sink_faults = sink_faults;
  tap = tap;
  tap_faults = tap_faults;
}

-- the source has left what it had left, and counted no fault
pub record IsUnread (old new : Outside) : Type 0 where
  pub left : new.left ≡ old.left
  pub faults : new.source_faults ≡ old.source_faults

-- the sink holds what it held, and counted no fault
pub record IsUnwritten (old new : Outside) : Type 0 where
  pub held : new.held ≡ old.held
  pub faults : new.sink_faults ≡ old.sink_faults

-- the taps hold what they held, and counted no fault
pub record IsUntapped (old new : Outside) : Type 0 where
  pub tap : TapsKeep old.tap new.tap
  pub faults : new.tap_faults ≡ old.tap_faults

-- no count of faults fell
pub record NoCountFalls (old new : Outside) : Type 0 where
  pub source : old.source_faults ≤ new.source_faults
  pub sink : old.sink_faults ≤ new.sink_faults
  pub taps : old.tap_faults ≤ new.tap_faults
