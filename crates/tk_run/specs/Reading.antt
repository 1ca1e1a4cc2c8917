-- A client with its read of a turn: what it asks, and what it takes of the replies.
use Rattle.std.specs.Prelude.{◌≡◌, ℕ, ◌<◌, List, IsSome, length, map, slice_index_or}
use Rattle.tk_shape.specs.declared.shape.Shape.{Shape}
use Rattle.tk_schedule.specs.declared.history.History.{History}
use Rattle.tk_script.specs.declared.script.Script.{Script}
use Rattle.tk_words.specs.Words.{WordBook, words_of}
use Rattle.tk_client.specs.Client.{ClientState, after_replies}
use Rattle.tk_report.specs.Serving.{Serving}
use Rattle.tk_run.specs.declared.talk.Reading.{Reading}
use Rattle.tk_run.specs.declared.talk.Talk.{Talk}
use Rattle.tk_run.specs.Courses.{MayAsk, MayTalk, MayAskIn, AsksAs}

abbrev pub readers : List Reading → List ClientState
readers rs = map (λ (r : Reading). r.client) rs

abbrev pub talks_of : List Reading → List Talk
talks_of rs = map (λ (r : Reading). r.talk) rs

-- between the readings of two lists, place by place
abbrev pub EachAt : (Reading → Reading → Type 0) → List Reading → List Reading → Type 0
EachAt R old new =
    (k : ℕ) (d : Reading) → k < length old → R (slice_index_or old k d) (slice_index_or new k d)

-- ---- asking

-- a client that waits for no replies, and may read from its set
pub record MayReadOn (shape : Shape) (r : Reading) : Type 0 where
  pub client : MayAsk shape r.client
  pub talk : MayTalk shape r.talk

-- It asked, and in every history in which it reads from that set it asked as the history says,
-- whatever servers reply in it.
pub record AsksFor (b : WordBook) (a : ClientState) (d e : Talk) (new : ClientState) : Type 0 where
  pub number : new.number ≡ a.number
  pub turn : e.turn ≡ d.turn
  pub set : e.set ≡ d.set
  pub unreplied : e.replies.items ≡ d.replies.items
  pub due : (S : Script) (H : History) (V : Serving) → MayAskIn S b H V a d →
      AsksAs S b H V a d e new

abbrev pub HasAsked : WordBook → Reading → Reading → Type 0
HasAsked b old new = AsksFor b old.client old.talk new.talk new.client

-- ---- taking

-- a client that waits for the replies that lie with it, one of each server
pub record MayTakeEntry (shape : Shape) (r : Reading) : Type 0 where
  pub same : r.client.shape ≡ shape
  pub waits : IsSome r.client.read
  pub counted : length r.talk.replies.items ≡ shape.servers

-- it took them
pub record TookReplies (b : WordBook) (old new : Reading) : Type 0 where
  pub talk : new.talk ≡ old.talk
  pub client : new.client
      ≡ after_replies (words_of old.client.shape b) old.talk.replies.items old.client
