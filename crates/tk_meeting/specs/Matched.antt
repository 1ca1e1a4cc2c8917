-- Tapes over which two groups whose servers lie show the same to all servers but the hidden one.
use Rattle.std.specs.Prelude.{◌≡◌, ℕ, ◌≤◌, ◌==◌, cond, List, [], ◌∷◌, ◌++◌, length, Option, Some, None}
use Rattle.tk_shape.specs.declared.shape.Shape.{Shape}
use Rattle.tk_shape.specs.Lengths.{tape_len}
use Rattle.tk_script.specs.declared.script.Script.{Script}
use Rattle.tk_schedule.specs.Schedule.{serial_history}
use Rattle.tk_words.specs.Words.{WordBook, IsBook, drawn, words_of}
use Rattle.tk_frames.specs.Order.{before}
use Rattle.tk_report.specs.Entries.{entries}
use Rattle.tk_client.specs.declared.open_read.OpenRead.{OpenRead}
use Rattle.tk_privacy.specs.Privacy.{Pairs, normal_for}
use Rattle.tk_meeting.specs.Meeting.{Meeting, opening}
use Rattle.tk_meeting.specs.Laws.{HasWhatWasSaid}
use Rattle.tk_meeting.specs.Lying.{Deed, Hidden, HoldsBlocks, pair_open, does, lied, DoAlike, StandAlike}

-- ---- the buckets that are read in a run

-- those of a read that is open are noted for its turn
abbrev pub pair_noted : Shape → WordBook → ℕ → ℕ → ℕ × ℕ → Option OpenRead → ℕ × ℕ
pair_noted shape b g c old None = old
pair_noted shape b g c old (Some read) = cond (read.turn == g) (pair_open shape b c read) old

abbrev pub pairs_noted : Shape → WordBook → Meeting → Pairs → Pairs
pairs_noted shape b m pairs g c = pair_noted shape b g c (pairs g c) (m.members c).client.read

unfoldable pub pairs_from : Shape → Hidden → WordBook → Meeting → Pairs → List Deed → Pairs
pairs_from shape h b m pairs [] = pairs
pairs_from shape h b m pairs (d ∷ ds) =
    let next = does shape h b m d in
    pairs_from shape h b next (pairs_noted shape b next pairs) ds

abbrev pub no_pairs : Pairs
no_pairs g c = (0, 0)

abbrev pub pairs_of : Script → Hidden → WordBook → List Deed → Pairs
pairs_of S h b deeds = pairs_from S.shape h b (opening S) no_pairs deeds

-- ---- matched tapes

-- the tape of what a group shows to all servers but the hidden one
abbrev pub shown_tape : Script → Hidden → List Deed → List ℕ → List ℕ
shown_tape S h deeds u = normal_for S h.server (pairs_of S h (drawn u) deeds) u

-- two groups of one shape, and a hidden server whose tables have blocks of the shape's width
pub record AreGroups (A B : Script) (h : Hidden) : Type 0 where
  pub one_shape : A.shape ≡ B.shape
  pub hidden_low : 1 ≤ h.server
  pub hidden_high : h.server ≤ A.shape.servers
  pub holds : HoldsBlocks A.shape h

-- tapes over which they show the same
pub record AreMatched (A B : Script) (h : Hidden) (deeds others : List Deed) (u v : List ℕ) : Type 0 where
  pub tape : length u ≡ tape_len A.shape
  pub other_tape : length v ≡ tape_len B.shape
  pub shown : shown_tape A h deeds u ≡ shown_tape B h others v

-- Over matched tapes two groups in which the same is done but for what is said are alike at any time.
abbrev pub LiarsSeeAlike : Type 0
LiarsSeeAlike =
    (A B : Script) (h : Hidden) → AreGroups A B h → (deeds more others rest : List Deed) (u v : List ℕ) →
    AreMatched A B h (deeds ++ more) (others ++ rest) u v → DoAlike deeds others →
    HasWhatWasSaid A (lied A h (drawn u) (deeds ++ more)) → HasWhatWasSaid B (lied B h (drawn v) (others ++ rest)) →
    StandAlike A.shape h (lied A h (drawn u) deeds) (lied B h (drawn v) others)

-- the one tape of a group that is matched with one of another
pub record HasMatch (A B : Script) (h : Hidden) (deeds others : List Deed) (u : List ℕ) : Type 0 where
  pub tape : List ℕ
  pub are : AreMatched A B h deeds others u tape
  pub only : (v : List ℕ) → AreMatched A B h deeds others u v → v ≡ tape

-- Each tape of either group is matched with just one of the other.
abbrev pub MatchedOneToOne : Type 0
MatchedOneToOne =
    (A B : Script) (h : Hidden) → AreGroups A B h → (deeds others : List Deed) (u : List ℕ) →
    length u ≡ tape_len A.shape → HasMatch A B h deeds others u

-- The tables of a run, epoch by epoch, have blocks of the shape's width.
abbrev pub HonestHold : Type 0
HonestHold =
    (S : Script) (b : WordBook) (server : ℕ) → IsBook S.shape b →
    let E = entries S (words_of S.shape b) (serial_history S.shape) in
    HoldsBlocks S.shape (record { server = server; held = before E })
