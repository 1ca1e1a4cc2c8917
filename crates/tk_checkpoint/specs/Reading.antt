-- What stands where in the bytes of a checkpoint.
use Rattle.std.specs.Prelude.{ℕ, zero, suc, ◌+◌, ◌*◌, List, [], ◌∷◌, ◌++◌, drop}
use Rattle.tk_shape.specs.declared.shape.Shape.{Shape}
use Rattle.tk_frames.specs.Fields.{number_at, long_at, numbers}
use Rattle.tk_bloom.specs.Windows.{pushes_in}
use Rattle.tk_table.specs.Table.{Slot}
use Rattle.tk_table.specs.Restoring.{slots_spelled, table_spelled}
use Rattle.tk_checkpoint.specs.Saved.{Saved, head_len, entry_len}

-- the numbers in front
abbrev pub applied_in : List ℕ → ℕ
applied_in bytes = long_at 57 bytes

abbrev pub last_in : List ℕ → ℕ
last_in bytes = number_at 65 bytes

abbrev pub count_in : List ℕ → ℕ
count_in bytes = number_at 69 bytes

-- those of the shape, its format first
abbrev pub numbers_in : List ℕ → List ℕ
numbers_in bytes =
    number_at 5 bytes ∷ number_at 9 bytes ∷ number_at 13 bytes ∷ number_at 17 bytes ∷ number_at 21 bytes
    ∷ number_at 25 bytes ∷ number_at 29 bytes ∷ number_at 33 bytes ∷ number_at 37 bytes
    ∷ number_at 41 bytes ∷ number_at 45 bytes ∷ number_at 49 bytes ∷ number_at 53 bytes ∷ []

-- what stands behind them, and behind the window
abbrev pub window_part : List ℕ → List ℕ
window_part bytes = drop head_len bytes

abbrev pub table_part : Shape → List ℕ → List ℕ
table_part shape bytes = drop (count_in bytes * entry_len shape) (window_part bytes)

-- the positions of so many writes, and their hits, those of one behind those of another
unfoldable pub positions_from : ℕ → ℕ → List ℕ → List ℕ
positions_from hits zero bytes = []
positions_from hits (suc count) bytes =
    long_at 0 bytes ∷ positions_from hits count (drop (8 + 4 * hits) bytes)

unfoldable pub hits_from : ℕ → ℕ → List ℕ → List ℕ
hits_from hits zero bytes = []
hits_from hits (suc count) bytes =
    numbers hits (drop 8 bytes) ++ hits_from hits count (drop (8 + 4 * hits) bytes)

abbrev pub positions_in : Shape → List ℕ → List ℕ
positions_in shape bytes = positions_from shape.hits (count_in bytes) (window_part bytes)

abbrev pub hits_in : Shape → List ℕ → List ℕ
hits_in shape bytes = hits_from shape.hits (count_in bytes) (window_part bytes)

-- the slots, bucket after bucket
abbrev pub slots_in : Shape → List ℕ → List Slot
slots_in shape bytes = slots_spelled shape (table_part shape bytes)

-- all of it
unfoldable pub saved_in : Shape → List ℕ → Saved
saved_in shape bytes =
    record {
      applied = applied_in bytes;
      last = last_in bytes;
      positions = positions_in shape bytes;
      pushes = pushes_in shape.hits (hits_in shape bytes);
      slots = table_spelled shape (table_part shape bytes);
    }
