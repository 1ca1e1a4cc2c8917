-- What the replies to a read give, and which replies give nothing.
use Rattle.std.specs.Prelude.{◌≡◌, ◌≢◌, ◌⊎◌, ◌+◌, ◌==◌, ℕ, cond, List, [], ◌∷◌, length, map, Option, Some, None}
use Rattle.std.specs.List.{AllByRecursion}
use Rattle.std.specs.Option.{option_or, option_map}
use Rattle.tk_shape.specs.declared.shape.Shape.{Shape}
use Rattle.tk_shape.specs.Lengths.{width, reply_len}
use Rattle.tk_kernel.specs.Xor.{xor_all}
use Rattle.tk_words.specs.Words.{BookWords, opened}
use Rattle.tk_frames.specs.declared.reply_frame.ReplyFrame.{ReplyFrame}
use Rattle.tk_frames.specs.declared.fault.FrameError.TheVariants as frame_fault
use Rattle.tk_frames.specs.Fields.{reply_in}
use Rattle.tk_frames.specs.Faults.{first_fault, reply_checks}
use Rattle.tk_frames.specs.Slots.{text_from}
use Rattle.tk_client.specs.declared.take_error.TakeError.{TakeError}
use Rattle.tk_client.specs.declared.take_error.TakeError.TheVariants as fault
use Rattle.tk_client.specs.Reader.{Target}

-- ---- what replies give

-- the frames of replies
abbrev pub frames_in : Shape → List (List ℕ) → List ReplyFrame
frames_in shape replies = map (reply_in shape) replies

-- each is as long as a reply
abbrev pub AreWholeReplies : Shape → List (List ℕ) → Type 0
AreWholeReplies shape replies = AllByRecursion (λ reply. length reply ≡ reply_len shape) replies

-- the block of either bucket that replies join to
abbrev pub first_joined : Shape → List ReplyFrame → List ℕ
first_joined shape replies = xor_all (width shape) (map (λ (r : ReplyFrame). r.first) replies)

abbrev pub second_joined : Shape → List ReplyFrame → List ℕ
second_joined shape replies = xor_all (width shape) (map (λ (r : ReplyFrame). r.second) replies)

-- the text of the target in the two joined blocks; a dummy's are dropped
abbrev pub answer_in : Shape → BookWords → List ReplyFrame → Option Target → Option (List ℕ)
answer_in shape w replies None = None
answer_in shape w replies (Some t) =
    text_from shape (w.pair t.log t.number) (opened w t.log t.number)
    (first_joined shape replies) (second_joined shape replies)

-- ---- which replies give nothing

-- why the reply of a server can't be read, if it can't
abbrev pub unread : Shape → ℕ → List ℕ → Option TakeError
unread shape server reply = option_map (fault.Frame server) (first_fault (reply_checks shape reply))

-- the first of replies that can't be read, where the servers are counted from this one on
abbrev pub first_unread : Shape → ℕ → List (List ℕ) → Option TakeError
first_unread shape server [] = None
first_unread shape server (reply ∷ replies) =
    option_or (unread shape server reply) (first_unread shape (server + 1) replies)

-- a number of a server's reply that isn't the one that was asked for
abbrev pub other_number : ℕ → ℕ → ℕ → Option TakeError
other_number server want got = cond (want == got) None (Some (fault.Named server want got))

-- the client, turn or epoch of a reply that isn't the one that was asked for, tried in this order
abbrev pub other_name : ℕ → ℕ → ℕ → ℕ → ReplyFrame → Option TakeError
other_name client turn epoch server reply =
    option_or (other_number server client reply.client)
    (option_or (other_number server turn reply.turn) (other_number server epoch reply.epoch))

-- the first of replies that names another read
abbrev pub first_other : ℕ → ℕ → ℕ → ℕ → List ReplyFrame → Option TakeError
first_other client turn epoch server [] = None
first_other client turn epoch server (reply ∷ replies) =
    option_or (other_name client turn epoch server reply)
    (first_other client turn epoch (server + 1) replies)

-- Why replies to a read of a client in a turn over an epoch are refused: one can't be read, or,
-- where all can, one names another read.
abbrev pub refusal : Shape → ℕ → ℕ → ℕ → List (List ℕ) → Option TakeError
refusal shape client turn epoch replies =
    option_or (first_unread shape 1 replies)
    (first_other client turn epoch 1 (frames_in shape replies))

-- refused for this, or because memory ran out
abbrev pub IsRefusedForOrMemory : Option TakeError → TakeError → Type 0
IsRefusedForOrMemory found e = (e ≡ fault.Memory) ⊎ (found ≡ Some e)

-- that memory ran out is never told as a fault of a frame
abbrev pub IsPlain : TakeError → Type 0
IsPlain (fault.Frame server error) = error ≢ frame_fault.Memory
IsPlain (fault.Named server want got) = Unit {0}
IsPlain fault.Memory = Unit {0}
