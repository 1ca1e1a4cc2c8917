-- The insides of a scratch.
use Rattle.std.specs.Prelude.{◌≡◌, ◌≤◌, map, take, vec_len}
use Rattle.tk_place.specs.Views.{Steps, spot_of}
use Rattle.tk_place.specs.declared.scratch.Scratch.TheInside.{Inside}

abbrev pub steps_of : Inside → Steps
steps_of s = record { buckets = s.queue.buckets; steps = map spot_of (take s.count s.steps.items) }

pub record IsScratch (s : Inside) : Type 0 where
  pub room : vec_len s.steps ≡ s.queue.buckets
  pub within : s.count ≤ vec_len s.steps
