-- Counts over all tapes of a length, and what all servers but one see together.
use Rattle.std.specs.Prelude.{ℕ, ◌==◌, not, Bool, List, map, filter}
use Rattle.std.specs.List.{range_with_len}
use Rattle.std.specs.Cmp.Lexicographic.{pointwise}
use Rattle.std.specs.Str.{bytes_eq}
use Rattle.tk_shape.specs.declared.shape.Shape.{Shape}
use Rattle.tk_schedule.specs.declared.history.History.{History}
use Rattle.tk_script.specs.declared.script.Script.{Script}
use Rattle.tk_words.specs.Words.{drawn}
use Rattle.tk_report.specs.Exchange.{view}
use Rattle.tk_counts.specs.Counts.{count_lists}
use Rattle.tk_privacy.specs.Privacy.{cells_view}

-- over how many tapes of n bytes a test passes, of which each is tried once
abbrev pub count_tapes : ℕ → (List ℕ → Bool) → ℕ
count_tapes n test = count_lists 256 n test

-- ---- what is seen together

-- all servers but h, in their order
abbrev pub all_but : Shape → ℕ → List ℕ
all_but shape h = filter (λ j. not (j == h)) (range_with_len 1 shape.servers)

-- the frames that each of them sees
abbrev pub JointView : Type 0
JointView = List (List (List ℕ))

abbrev pub joint_view : Script → History → ℕ → List ℕ → JointView
joint_view S H h u = map (view S (drawn u) H) (all_but S.shape h)

-- the same made of the cells of a tape, without a script
abbrev pub joint_cells : Shape → History → ℕ → List ℕ → JointView
joint_cells shape H h v = map (cells_view shape H h v) (all_but shape h)

-- whether two are the same, byte for byte
abbrev pub is_view : JointView → JointView → Bool
is_view = pointwise (pointwise bytes_eq)
