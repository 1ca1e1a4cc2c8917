-- Frames that are of one read.
use Rattle.std.proofs.Common.{ℕ, List, [], ◌∷◌, sym, ◌∙◌}
use Rattle.std.specs.List.{AllByRecursion}
use Rattle.tk_shape.specs.declared.shape.Shape.{Shape}
use Rattle.tk_frames.specs.declared.read_frame.ReadFrame.{ReadFrame}
use Rattle.tk_frames.specs.declared.seeds.Seeds.TheVariants.{Plain}
use Rattle.tk_relay.specs.Bundles.{IsAlong, frame_of}

-- a frame of client 0 in turn 0
abbrev pub read_over : ℕ → ReadFrame
read_over epoch =
    record { client = 0; turn = 0; epoch = epoch; first = []; second = []; seeds = Plain }

along-other : (shape : Shape) (like first : ReadFrame) (frames : List ReadFrame) →
    IsAlong shape like first → AllByRecursion (IsAlong shape like) frames →
    AllByRecursion (IsAlong shape first) frames
along-other shape like first [] along all = tt
along-other shape like first (r ∷ rs) along all = (
  record {
    client = all.0.client ∙ sym along.client;
    turn = all.0.turn ∙ sym along.turn;
    epoch = all.0.epoch ∙ sym along.epoch;
    vectors = all.0.vectors;
  },
  along-other shape like first rs along all.1,
)

-- frames along any are along the first of them
pub along-first : (shape : Shape) (like : ReadFrame) (frames : List ReadFrame) →
    AllByRecursion (IsAlong shape like) frames →
    AllByRecursion (IsAlong shape (frame_of frames 1)) frames
along-first shape like [] all = tt
along-first shape like (r ∷ rs) all = along-other shape like r (r ∷ rs) all.0 all
