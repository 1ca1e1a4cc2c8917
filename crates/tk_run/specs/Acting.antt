-- What clients and publisher do in a turn, all at once.
use Rattle.std.specs.Prelude.{◌≡◌, ℕ, ◌+◌, ◌<◌, ◌≤◌, Bool, true, false, MatchBool}
use Rattle.std.specs.Prelude.{Option, Some, None, List, length, map, slice_index_or}
use Rattle.tk_shape.specs.declared.shape.Shape.{Shape}
use Rattle.tk_shape.specs.Lengths.{turn_count}
use Rattle.tk_frames.specs.declared.write_frame.WriteFrame.{WriteFrame}
use Rattle.tk_schedule.specs.Schedule.{is_closing, phases_over}
use Rattle.tk_board.specs.Boards.{Known}
use Rattle.tk_cluster.specs.declared.set.EpochSet.{EpochSet}
use Rattle.tk_cluster.specs.Refusals.{SpellsWrite}
use Rattle.tk_cluster.specs.Sets.{AreShown}
use Rattle.tk_cluster.specs.Passes.{Passing, own, WroteBytes, Pins, ReadsOnly}
use Rattle.tk_cluster.specs.Tellings.{Telling, told_of, Published}
use Rattle.tk_cluster.specs.Clusters.{HaveMet}
use Rattle.tk_run.specs.declared.pinned_write.PinnedWrite.{PinnedWrite}
use Rattle.tk_run.specs.declared.actors.Desk.{Desk}
use Rattle.tk_run.specs.Ran.{AllLearn, set_on}
use Rattle.tk_run.specs.Ticks.{Done}

-- a pass may write once more, and pin a set of at most this number
pub record IsReadyServer (shape : Shape) (most : ℕ) (a : Passing) : Type 0 where
  pub room : length (own a) < turn_count shape
  pub known : a.reads.known ≤ most

-- Its client's pass ordered the write that the desk's frame spells, and then pinned a set of at
-- most this number. What it has of it lies on the desk.
pub record WroteAndPinned (shape : Shape) (most : ℕ) (a : Passing) (d e : Desk) (b : Passing)
    : Type 0 where
  pub frame : e.frame.items ≡ d.frame.items
  pub deed : PinnedWrite
  pub lies : e.deed ≡ Some deed
  pub mid : Passing
  pub wrote : WroteBytes shape d.frame.items a mid
  pub position : deed.position ≡ length mid.seen
  pub pins : ReadsOnly (λ r s. Pins r most (set_on deed) s) mid b

-- what was told in a turn, where it closes a phase or not
abbrev pub Heralds : Shape → Bool → Telling → Option (Known EpochSet) → Telling → Type 0
Heralds shape closing p None q = (closing ≡ false) × (q ≡ p)
Heralds shape closing p (Some t) q = (closing ≡ true) × Published shape p q × (t ≡ told_of q)

-- Turn g: each client writes and pins, and the publisher publishes where the turn closes a phase.
-- Then each pass learns of it, and then all meet.
pub record Acted (shape : Shape) (g : ℕ) (xs : List Passing) (p : Telling) (ds es : List Desk)
    (zs : List Passing) (q : Telling) : Type 0 where
  pub acted : List Passing
  pub told : Telling
  pub learned : List Passing
  pub acts : Done (WroteAndPinned shape (phases_over shape (g + 1))) xs ds es acted
  pub tells : MatchBool (is_closing shape g) (Published shape p told) (told ≡ p)
  pub learns : MatchBool (is_closing shape g) (AllLearn told acted learned) (learned ≡ acted)
  pub met : HaveMet shape learned told zs q
  pub shows : AreShown shape q.shown q.seen

-- ---- desks

-- frames that spell these writes, which are in range: one for each client, by number
pub record AreFrames (shape : Shape) (write : ℕ → WriteFrame) (frames : List (List ℕ)) : Type 0
  where
    pub counted : length frames ≡ shape.clients
    pub each : (c : ℕ) (d : List ℕ) → c < length frames →
        SpellsWrite shape (slice_index_or frames c d) (write c)

-- what lies on desks
abbrev pub frames_on : List Desk → List (List ℕ)
frames_on desks = map (λ (d : Desk). d.frame.items) desks

abbrev pub deeds_on : List Desk → List (Option PinnedWrite)
deeds_on desks = map (λ (d : Desk). d.deed) desks
