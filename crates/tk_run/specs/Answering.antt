-- What the servers reply to the reads of a turn of threads, which lie with the clients.
use Rattle.std.specs.Prelude.{◌≡◌, ℕ, ◌<◌, ◌≤◌, List, [], ◌∷◌, ◌++◌, All}
use Rattle.std.specs.Prelude.{length, map, slice_index_or, Vec, Result, IfOk}
use Rattle.std.specs.Global.{Global}
use Rattle.std.specs.Arc.{arc_value}
use Rattle.tk_shape.specs.declared.shape.Shape.{Shape}
use Rattle.tk_shape.specs.declared.memory.Memory.{Memory}
use Rattle.tk_frames.specs.declared.entry.Placed.{Placed}
use Rattle.tk_cluster.specs.declared.set.EpochSet.{EpochSet}
use Rattle.tk_cluster.specs.Refusals.{IsAsked}
use Rattle.tk_cluster.specs.Sets.{StandsAtMark}
use Rattle.tk_run.specs.declared.talk.Reading.{Reading}

-- the set that answers a read, its number, and what the server at a place is asked
abbrev pub set_of : Reading → EpochSet
set_of r = arc_value r.talk.set

abbrev pub epoch_of : Reading → ℕ
epoch_of r = (set_of r).number

abbrev pub frame_of : ℕ → Reading → List ℕ
frame_of i r = slice_index_or r.talk.asked.items i []

-- each server was asked for a read of the set's epoch, and none has replied
pub record AreAllAsked (shape : Shape) (r : Reading) : Type 0 where
  pub same : (set_of r).shape ≡ shape
  pub counted : length r.talk.asked.items ≡ shape.servers
  pub asked : All (IsAsked (set_of r)) r.talk.asked.items
  pub unreplied : r.talk.replies.items ≡ []

-- their sets stand for these entries
abbrev pub AllStand : List Reading → Shape → List Placed → Type 0
AllStand rs shape E = All (λ r. StandsAtMark shape E (epoch_of r) (set_of r)) rs

-- what is due to the frame of a read, over entries
abbrev pub ReplyDue : Type 0
ReplyDue = Shape → List Placed → List ℕ → List ℕ

-- each server replied that, over the entries that the sets stand for
pub record IsAnswered (due : ReplyDue) (stand : Shape → List Placed → Type 0) (old new : Reading)
    : Type 0 where
  pub client : new.client ≡ old.client
  pub turn : new.talk.turn ≡ old.talk.turn
  pub set : new.talk.set ≡ old.talk.set
  pub asked : new.talk.asked.items ≡ old.talk.asked.items
  pub replies : (shape : Shape) (E : List Placed) → stand shape E →
      new.talk.replies.items ≡ map (due shape E) old.talk.asked.items

-- frames of reads that a server is asked for, one for each client, each of the epoch of its set
pub record MayReply (shape : Shape) (server : ℕ) (rs : List Reading) (frames : List (List ℕ))
    : Type 0 where
  pub low : 1 ≤ server
  pub high : server ≤ shape.servers
  pub counted : length frames ≡ length rs
  pub same : All (λ r. (set_of r).shape ≡ shape) rs
  pub asked : (k : ℕ) (d : Reading) (f : List ℕ) → k < length frames →
      IsAsked (set_of (slice_index_or rs k d)) (slice_index_or frames k f)

-- what a server replies to all reads, if there was memory
abbrev pub Replies : Type 0
Replies = Result (Vec (List ℕ) Global) Memory

-- The replies to frames that are answered from a set are those due over the entries that it stands for.
abbrev pub AnswersFrom : ReplyDue → EpochSet → List (List ℕ) → Replies → Type 0
AnswersFrom due set frames result =
    (shape : Shape) (E : List Placed) → StandsAtMark shape E set.number set →
    IfOk result (λ replies. replies.items ≡ map (due shape E) frames)

-- The server at a place replies to these reads, over the entries that their sets stand for.
abbrev pub AreReplies : ReplyDue → ℕ → List Reading → Replies → Type 0
AreReplies due i rs result =
    (shape : Shape) (E : List Placed) → AllStand rs shape E →
    IfOk result (λ replies. replies.items ≡ map (due shape E) (map (frame_of i) rs))

-- so each of as many servers as there are answers
abbrev pub AllReply : ReplyDue → List Reading → List Replies → Type 0
AllReply due rs answers =
    (i : ℕ) (d : Replies) → i < length answers → AreReplies due i rs (slice_index_or answers i d)

-- one reply more lies with it
pub record IsGiven (reply : List ℕ) (old new : Reading) : Type 0 where
  pub client : new.client ≡ old.client
  pub turn : new.talk.turn ≡ old.talk.turn
  pub set : new.talk.set ≡ old.talk.set
  pub asked : new.talk.asked.items ≡ old.talk.asked.items
  pub replies : new.talk.replies.items ≡ old.talk.replies.items ++ reply ∷ []

-- with each lies the reply of its place
abbrev pub AreGiven : List (List ℕ) → List Reading → List Reading → Type 0
AreGiven replies old new =
    (k : ℕ) (d : Reading) (f : List ℕ) → k < length old →
    IsGiven (slice_index_or replies k f) (slice_index_or old k d) (slice_index_or new k d)
