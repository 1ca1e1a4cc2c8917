-- Lists of frames, one for each server or for each client.
use Rattle.std.specs.Prelude.{◌≡◌, ℕ, ◌<◌, List, [], ◌∷◌, ◌++◌, length, slice_index_or}

abbrev pub Frame : Type 0
Frame = List ℕ

abbrev pub no_frames : ℕ → List Frame
no_frames i = []

-- so many of a list, each as it is told for its place
pub record AreRows {X : Type 0} (count : ℕ) (row : ℕ → X) (rows : List X) : Type 0 where
  pub counted : length rows ≡ count
  pub each : (i : ℕ) (d : X) → i < length rows → slice_index_or rows i d ≡ row i

-- each list got the frame of its place after its own
pub record AreAdded (old : List (List Frame)) (frames : List Frame) (new : List (List Frame))
    : Type 0 where
  pub counted : length new ≡ length old
  pub each : (i : ℕ) (d : List Frame) (f : Frame) → i < length old →
      slice_index_or new i d ≡ slice_index_or old i d ++ slice_index_or frames i f ∷ []

-- frames of two lists in turn, one after the other
abbrev pub in_pairs : List Frame → List Frame → List ℕ
in_pairs (f ∷ fs) (r ∷ rs) = f ++ r ++ in_pairs fs rs
in_pairs [] rs = []
in_pairs (f ∷ fs) [] = []
