-- What a server is asked, and what it replies.
use Rattle.std.specs.Prelude.{◌≡◌, ℕ, List, [], ◌∷◌}
use Rattle.tk_shape.specs.declared.shape.Shape.{Shape}
use Rattle.tk_kernel.specs.Chosen.{chosen_sum}
use Rattle.tk_frames.specs.declared.read_frame.ReadFrame.{ReadFrame}
use Rattle.tk_frames.specs.declared.reply_frame.ReplyFrame.{ReplyFrame}
use Rattle.tk_frames.specs.declared.entry.Placed.{Placed}
use Rattle.tk_frames.specs.Fields.{read_in}
use Rattle.tk_frames.specs.Order.{before}
use Rattle.tk_frames.specs.Ranges.{IsRead}
use Rattle.tk_frames.specs.Spelling.{read_frame, reply_frame}
use Rattle.tk_replica.specs.declared.epoch.Epoch.{Epoch}
use Rattle.tk_replica.specs.declared.asker.Asker.{Asker}
use Rattle.tk_table.specs.Replies.{reply_to}
use Rattle.tk_replica.specs.Shelf.{IsHeld}
use Rattle.tk_replica.specs.Replica.{ReplicaView}

-- ---- what is replied

-- the sum of the blocks of an epoch that a vector chooses
abbrev pub sum_over : Epoch → List ℕ → List ℕ
sum_over epoch vector = chosen_sum epoch.blocks.width epoch.blocks.blocks vector

-- who asks by a read
abbrev pub asker_of : ReadFrame → Asker
asker_of r = record { client = r.client; turn = r.turn; epoch = r.epoch }

-- the reply to it, with these sums
abbrev pub asker_reply : Asker → List ℕ → List ℕ → ReplyFrame
asker_reply a first second =
    record {
      client = a.client;
      turn = a.turn;
      epoch = a.epoch;
      first = first;
      second = second;
    }

-- the reply to a read over the blocks of an epoch
abbrev pub reply_over : Epoch → ReadFrame → ReplyFrame
reply_over epoch r =
    asker_reply (asker_of r) (sum_over epoch r.first) (sum_over epoch r.second)

abbrev pub frame_over : Epoch → ReadFrame → List ℕ
frame_over epoch r = reply_frame (reply_over epoch r)

-- the reply to a read, over the writes before the mark of its epoch
abbrev pub reply_for : Shape → List Placed → ReadFrame → ReplyFrame
reply_for shape E r = reply_to shape (before E r.epoch) r

-- the reply to the read that these bytes spell
unfoldable pub reply_due : Shape → List Placed → List ℕ → ReplyFrame
reply_due shape E bytes = reply_for shape E (read_in shape bytes)

abbrev pub reply_bytes : Shape → List Placed → List ℕ → List ℕ
reply_bytes shape E bytes = reply_frame (reply_due shape E bytes)

-- ---- what is replied to several reads

-- the vectors of reads, two for each
abbrev pub both_vectors : List ReadFrame → List (List ℕ)
both_vectors [] = []
both_vectors (r ∷ rs) = r.first ∷ r.second ∷ both_vectors rs

-- the reply frames to askers, with two of the sums for each
abbrev pub frames_with : List Asker → List (List ℕ) → List (List ℕ)
frames_with [] sums = []
frames_with (a ∷ askers) (first ∷ second ∷ sums) =
    reply_frame (asker_reply a first second) ∷ frames_with askers sums
frames_with (a ∷ askers) (first ∷ []) = []
frames_with (a ∷ askers) [] = []

-- ---- what is asked

-- a read in range, whose epoch a state keeps
pub record IsServed (s : ReplicaView) (r : ReadFrame) : Type 0 where
  pub in_range : IsRead s.shape r
  pub held : IsHeld s.floor s.last r.epoch

-- the bytes spell such a read
pub record IsAsked (s : ReplicaView) (bytes : List ℕ) (r : ReadFrame) : Type 0 where
  pub served : IsServed s r
  pub spelled : bytes ≡ read_frame r

-- frame by frame
abbrev pub AreAsked : ReplicaView → List (List ℕ) → List ReadFrame → Type 0
AreAsked s [] [] = Unit {0}
AreAsked s (f ∷ fs) (r ∷ rs) = IsAsked s f r × AreAsked s fs rs
AreAsked s (f ∷ fs) [] = ⊥
AreAsked s [] (r ∷ rs) = ⊥
