-- The two kinds of frames that go from a server to a client on another machine, beside replies.
use Rattle.std.specs.Prelude.{◌≡◌, ℕ, ◌/◌, ◌≤◌, List, [], ◌∷◌, ◌++◌, length}
use Rattle.tk_shape.specs.declared.shape.Shape.{Shape}
use Rattle.tk_frames.specs.Spelling.{be32}
use Rattle.tk_packets.specs.declared.epoch_frame.EpochFrame.{EpochFrame}

-- how many bytes the marks of a filter have
abbrev pub marks_len : Shape → ℕ
marks_len shape = shape.filter_bits / 8

-- an epoch, and the marks of its filter
abbrev pub epoch_frame : EpochFrame → List ℕ
epoch_frame f = 11 ∷ 1 ∷ (be32 f.epoch ++ f.marks)

-- one that is in range for a shape
pub record IsEpochFrame (shape : Shape) (f : EpochFrame) : Type 0 where
  pub low : 1 ≤ f.epoch
  pub high : f.epoch ≤ shape.phases
  pub long : length f.marks ≡ marks_len shape

-- why a frame was refused
abbrev pub refused_frame : ℕ → List ℕ
refused_frame cause = 12 ∷ 1 ∷ cause ∷ []
