-- The parts of a changed tape, as they are written.
use Rattle.std.specs.Prelude.{◌≡◌, ℕ, ◌<◌, List, Vec, Result, IfOk}
use Rattle.std.specs.Global.{Global}
use Rattle.tk_shape.specs.declared.memory.Memory.{Memory}
use Rattle.tk_shape.specs.declared.shape.Shape.{Shape}
use Rattle.tk_shape.specs.Lengths.{turn_count}
use Rattle.tk_schedule.specs.declared.history.History.{History}
use Rattle.tk_frames.specs.declared.read_frame.ReadFrame.{ReadFrame}
use Rattle.tk_words.specs.Words.{drawn}
use Rattle.tk_privacy.specs.Privacy.{Pairs, cells, read_cell_for, read_for}
use Rattle.tk_privacy.specs.Hiding.{read_in}

-- these are the read frames that the last server sees of a run that reads these buckets over a tape
abbrev pub AreLastReads : Shape → History → Pairs → List ℕ → List ReadFrame → Type 0
AreLastReads shape H pairs u reads =
    (g c : ℕ) → g < turn_count shape → c < shape.clients →
    read_in shape reads g c ≡ read_for shape (drawn u) H (pairs g c) g c shape.servers

-- whichever buckets these are the last server's reads of, in whichever history
abbrev pub ForTheirBuckets : Shape → List ℕ → List ReadFrame → (Pairs → Type 0) → Type 0
ForTheirBuckets shape u reads says =
    (H : History) (pairs : Pairs) → AreLastReads shape H pairs u reads → says pairs

-- the tape that is made of this one goes by those buckets
abbrev pub MakesTape :
    Shape → (Pairs → List ℕ → List ℕ) → List ℕ → List ReadFrame → Result (Vec ℕ Global) Memory
    → Type 0
MakesTape shape made u reads result =
    ForTheirBuckets shape u reads (λ pairs. IfOk result (λ bytes. bytes.items ≡ made pairs u))

-- all read cells, changed by these buckets
abbrev pub reads_changed : Shape → ℕ → Pairs → List ℕ → List ℕ
reads_changed shape h pairs u =
    cells (turn_count shape) (λ g. cells shape.clients (read_cell_for shape h pairs u g))
