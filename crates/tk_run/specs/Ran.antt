-- What a turn of a cluster's clients and publisher does, and what is known after some turns.
use Rattle.std.specs.Prelude.{◌≡◌, ℕ, ◌+◌, ◌-◌, ◌<◌, MatchBool, List, [], ◌∷◌, length, map, replicate}
use Rattle.std.specs.Arc.{arc_value}
use Rattle.std.specs.Prelude.{slice_index, slice_index_or, slice_set}
use mathlib.Core.List.{IsPrefix}
use Rattle.tk_shape.specs.declared.shape.Shape.{Shape}
use Rattle.tk_frames.specs.declared.write_frame.WriteFrame.{WriteFrame}
use Rattle.tk_schedule.specs.declared.item.Item.{Item}
use Rattle.tk_schedule.specs.declared.item.Item.TheVariants.{Client, Publish}
use Rattle.tk_schedule.specs.declared.history.TurnOrder.{TurnOrder}
use Rattle.tk_schedule.specs.Schedule.{blank_turn, IsTurn, is_closing, phases_over, marks_due}
use Rattle.tk_report.specs.Entries.{entries_before}
use Rattle.tk_run.specs.declared.pinned_write.PinnedWrite.{PinnedWrite}
use Rattle.tk_cluster.specs.declared.set.EpochSet.{EpochSet}
use Rattle.tk_cluster.specs.Sets.{AreShown}
use Rattle.tk_cluster.specs.Passes.{Passing, own, Wrote, Pins, Learns, ReadsOnly}
use Rattle.tk_cluster.specs.Tellings.{Telling, marks, told_of, Published}
use Rattle.tk_cluster.specs.Clusters.{Each, HaveMet}

-- ---- one turn

-- the set that lies on a deed
abbrev pub set_on : PinnedWrite → EpochSet
set_on d = arc_value d.set

-- a client's pass ordered its write, and then pinned a set of at most this number
pub record ActsOn (write : ℕ → WriteFrame) (most : ℕ) (a : Passing) (d : PinnedWrite) (b : Passing)
    : Type 0 where
  pub mid : Passing
  pub wrote : Wrote a (write a.client) mid
  pub position : d.position ≡ length mid.seen
  pub pins : ReadsOnly (λ r s. Pins r most (set_on d) s) mid b

-- the step holds between three lists, place by place
abbrev pub EachBy : {X D : Type 0} → (X → D → X → Type 0) → List X → List D → List X → Type 0
EachBy R [] [] [] = Unit {0}
EachBy R (x ∷ xs) (d ∷ ds) (y ∷ ys) = R x d y × EachBy R xs ds ys
EachBy R _ _ _ = ⊥

-- each pass took in what was told
abbrev pub AllLearn : Telling → List Passing → List Passing → Type 0
AllLearn told xs ys = Each (ReadsOnly (λ r s. Learns r (told_of told) s)) xs ys

-- Turn g: each client writes and pins, and the publisher publishes where the turn closes a phase.
-- Then each pass learns of it, and then all meet.
pub record HasTurned (shape : Shape) (write : ℕ → WriteFrame) (g : ℕ) (xs : List Passing)
    (p : Telling) (ds : List PinnedWrite) (zs : List Passing) (q : Telling) : Type 0 where
  pub acted : List Passing
  pub told : Telling
  pub learned : List Passing
  pub acts : EachBy (ActsOn write (phases_over shape (g + 1))) xs ds acted
  pub tells : MatchBool (is_closing shape g) (Published shape p told) (told ≡ p)
  pub learns : MatchBool (is_closing shape g) (AllLearn told acted learned) (learned ≡ acted)
  pub met : HaveMet shape learned told zs q
  pub shows : AreShown shape q.shown q.seen

-- ---- the turn that came about

-- items with each client, from client c on, at the place of its write
abbrev pub placed_clients : ℕ → ℕ → List PinnedWrite → List Item → List Item
placed_clients start c [] items = items
placed_clients start c (d ∷ ds) items =
    placed_clients start (c + 1) ds (slice_set items (d.position - start - 1) (Client c))

-- turn g, before which there were `start` entries: what isn't a client's place is the mark's
abbrev pub turn_of : Shape → ℕ → ℕ → List PinnedWrite → TurnOrder
turn_of shape g start ds =
    record {
      order = placed_clients start 0 ds (replicate (shape.clients + marks_due shape g) Publish);
      epochs = map (λ (d : PinnedWrite). (set_on d).number) ds;
    }

-- ---- after some turns

-- the epochs that a client read, turn after turn
abbrev pub epochs_in : List TurnOrder → ℕ → List ℕ
epochs_in K c = map (λ (turn : TurnOrder). slice_index turn.epochs c) K

-- what the pass of client c knows after these turns
pub record PassAt (shape : Shape) (K : List TurnOrder) (p : Telling) (c : ℕ) (a : Passing)
    : Type 0 where
  pub client : a.client ≡ c
  pub seen : a.seen ≡ p.seen
  pub board : a.reads.board ≡ p.board
  pub shown : IsPrefix p.shown a.reads.shown
  pub known : a.reads.known ≡ phases_over shape (length K)
  pub pinned : a.reads.pinned ≡ epochs_in K c
  pub count : length (own a) ≡ length K

-- those of the clients from c on
abbrev pub PassesAt : Shape → List TurnOrder → Telling → ℕ → List Passing → Type 0
PassesAt shape K p c [] = Unit {0}
PassesAt shape K p c (a ∷ xs) = PassAt shape K p c a × PassesAt shape K p (c + 1) xs

-- the passes and the publisher are where these turns lead
pub record Ran (shape : Shape) (write : ℕ → ℕ → WriteFrame) (K : List TurnOrder)
    (xs : List Passing) (p : Telling) : Type 0 where
  pub turns : (g : ℕ) → g < length K → IsTurn shape g (slice_index_or K g blank_turn)
  pub order : p.seen ≡ entries_before write K (length K)
  pub marked : length (marks p) ≡ phases_over shape (length K)
  pub shown : length p.shown ≡ phases_over shape (length K) + 1
  pub clients : length xs ≡ shape.clients
  pub passes : PassesAt shape K p 0 xs
