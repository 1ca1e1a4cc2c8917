-- That no server but one can tell two scripts of one shape apart by what it sees under one history.
use Rattle.std.specs.Prelude.{◌≡◌, ◌≢◌, ℕ, ◌≤◌, Bool, List, length}
use Rattle.tk_shape.specs.Lengths.{tape_len}
use Rattle.tk_schedule.specs.declared.history.History.{History}
use Rattle.tk_schedule.specs.Schedule.{IsLegal}
use Rattle.tk_script.specs.declared.script.Script.{Script}
use Rattle.tk_words.specs.Words.{drawn}
use Rattle.tk_report.specs.Exchange.{view}
use Rattle.tk_privacy.specs.Privacy.{normal, mirror, cells_view}
use Rattle.tk_privacy.specs.Counts.{count_tapes, JointView, joint_view, joint_cells, is_view}

-- what the laws range over: two scripts of one shape, a history, a hidden server and a tape
pub record AreMirrored (A B : Script) (H : History) (h : ℕ) (u : List ℕ) : Type 0 where
  pub one_shape : A.shape ≡ B.shape
  pub legal : IsLegal A.shape H
  pub hidden_low : 1 ≤ h
  pub hidden_high : h ≤ A.shape.servers
  pub tape : length u ≡ tape_len A.shape

-- each server but the hidden one sees of B over the mirrored tape what it sees of A
abbrev pub SameView : Type 0
SameView =
    (A B : Script) (H : History) (h j : ℕ) (u : List ℕ) → AreMirrored A B H h u → 1 ≤ j →
    j ≤ A.shape.servers → j ≢ h →
    view A (drawn u) H j ≡ view B (drawn (mirror A B H h u)) H j

-- mirrored back it is the first tape
abbrev pub OneToOne : Type 0
OneToOne =
    (A B : Script) (H : History) (h : ℕ) (u : List ℕ) → AreMirrored A B H h u →
    (mirror B A H h (mirror A B H h u) ≡ u) × (length (mirror A B H h u) ≡ length u)

-- what is seen is made of the cells of the normal tape, and names no script
abbrev pub MadeOfCells : Type 0
MadeOfCells =
    (S : Script) (H : History) (h j : ℕ) (u : List ℕ) → AreMirrored S S H h u → 1 ≤ j →
    j ≤ S.shape.servers → j ≢ h →
    view S (drawn u) H j ≡ cells_view S.shape H h (normal S H h u) j

-- ---- by counting

-- what the counts range over: two scripts of one shape, a history and a hidden server
pub record AreCompared (A B : Script) (H : History) (h : ℕ) : Type 0 where
  pub one_shape : A.shape ≡ B.shape
  pub legal : IsLegal A.shape H
  pub hidden_low : 1 ≤ h
  pub hidden_high : h ≤ A.shape.servers

-- whatever all servers but the hidden one look for in what they see together, they find it over as
-- many tapes of A as of B
abbrev pub AsManyTapes : Type 0
AsManyTapes =
    (A B : Script) (H : History) (h : ℕ) (test : JointView → Bool) → AreCompared A B H h →
    count_tapes (tape_len A.shape) (λ u. test (joint_view A H h u))
    ≡ count_tapes (tape_len B.shape) (λ u. test (joint_view B H h u))

-- so each thing that they may see they see over as many
abbrev pub EachAsOften : Type 0
EachAsOften =
    (A B : Script) (H : History) (h : ℕ) (seen : JointView) → AreCompared A B H h →
    count_tapes (tape_len A.shape) (λ u. is_view (joint_view A H h u) seen)
    ≡ count_tapes (tape_len B.shape) (λ u. is_view (joint_view B H h u) seen)

-- and over as many as where it is made of the cells of the tape itself, which names no script
abbrev pub AsManyCells : Type 0
AsManyCells =
    (S : Script) (H : History) (h : ℕ) (test : JointView → Bool) → AreCompared S S H h →
    count_tapes (tape_len S.shape) (λ u. test (joint_view S H h u))
    ≡ count_tapes (tape_len S.shape) (λ v. test (joint_cells S.shape H h v))
