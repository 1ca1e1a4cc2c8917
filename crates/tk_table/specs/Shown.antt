-- The filter of what is worth reading.
use Rattle.std.specs.Prelude.{ℕ, Bool, List, ◌++◌, ◌∷◌, [], map}
use Rattle.tk_shape.specs.declared.shape.Shape.{Shape}
use Rattle.tk_frames.specs.Order.{Record}
use Rattle.tk_table.specs.Table.{window}
use Rattle.tk_bloom.specs.Filters.{positions_of, is_shown as are_shown}
use Rattle.tk_bloom.specs.Windows.{Kept as KeptPushes, window as last_of}

-- the positions of each write in the window, the displaced ones among them
abbrev pub pushes_of : Shape → List Record → List (List ℕ)
pushes_of shape R = map (λ r. r.write.hits) (window shape R)

-- whether all of these hits are among them
abbrev pub is_shown : Shape → List Record → List ℕ → Bool
is_shown shape R hits = are_shown (positions_of (pushes_of shape R)) hits

-- the window of a shape with these pushes
abbrev pub window_with : Shape → List (List ℕ) → KeptPushes
window_with shape pushes =
    record {
      bits = shape.filter_bits;
      hits = shape.hits;
      retained = shape.retained;
      pushes = pushes;
    }

-- the window with one more push
abbrev pub pushed : KeptPushes → List ℕ → KeptPushes
pushed w hits = record w { pushes = last_of w.retained (w.pushes ++ hits ∷ []) }
