-- Replies that are read one after the other.
use Rattle.std.proofs.Common.{◌≡◌, refl, ap, ap₂, sym, ◌∙◌, arith, inl, inr, ℕ, zero, suc, ◌+◌, ◌<◌, Option, None}
use Rattle.std.proofs.Common.{List, [], ◌∷◌, length, map, get_or, take, drop}
use Rattle.std.specs.List.{AllByRecursion}
use Rattle.std.specs.Option.{option_or}
use Rattle.tk_shape.specs.declared.shape.Shape.{Shape}
use Rattle.tk_shape.specs.Lengths.{reply_len}
use Rattle.tk_frames.specs.declared.reply_frame.ReplyFrame.{ReplyFrame}
use Rattle.tk_frames.specs.Spelling.{reply_frame}
use Rattle.tk_frames.specs.Ranges.{IsReply}
use Rattle.tk_frames.proofs.Offers.{reply-again}
use Rattle.tk_client.specs.declared.take_error.TakeError.{TakeError}
use Rattle.tk_client.specs.Replies.{frames_in, unread, first_unread, IsRefusedForOrMemory, AreWholeReplies}

-- the first of faults, one reply further
pub first_unread-here : (shape : Shape) (replies : List (List ℕ)) (i : ℕ) (server : ℕ)
    (reply : List ℕ) → i < length replies → reply ≡ get_or replies i reply →
    first_unread shape server (drop i replies)
    ≡ option_or (unread shape server reply) (first_unread shape (server + 1) (drop (suc i) replies))
first_unread-here shape [] i server reply within is = absurd (omega (arith, within))
first_unread-here shape (r ∷ rs) zero server reply within is =
    ap (λ x. option_or (unread shape server x) (first_unread shape (server + 1) rs)) (sym is)
first_unread-here shape (r ∷ rs) (suc i) server reply within is =
    first_unread-here shape rs i server reply (omega (arith, within)) is

-- a fault of one is the first, where those before have none
pub refused-first : (x y : Option TakeError) (found : Option TakeError) (e : TakeError) →
    found ≡ option_or x y → IsRefusedForOrMemory x e → IsRefusedForOrMemory found e
refused-first x y found e is (inl memory) = inl memory
refused-first x y found e is (inr named) = inr (is ∙ ap (λ o. option_or o y) named)

-- where one has no fault, the first is among the others
pub none-first : (x y : Option TakeError) (found : Option TakeError) →
    found ≡ option_or x y → x ≡ None → found ≡ y
none-first x y found is none = is ∙ ap (λ o. option_or o y) none

-- one reply more
pub whole-more : (shape : Shape) (replies : List (List ℕ)) (i : ℕ) (reply : List ℕ) →
    i < length replies → reply ≡ get_or replies i reply →
    AreWholeReplies shape (take i replies) → length reply ≡ reply_len shape →
    AreWholeReplies shape (take (suc i) replies)
whole-more shape [] i reply within is all here = absurd (omega (arith, within))
whole-more shape (r ∷ rs) zero reply within is all here = (ap length (sym is) ∙ here, tt)
whole-more shape (r ∷ rs) (suc i) reply within is all here =
    (all.0, whole-more shape rs i reply (omega (arith, within)) is all.1 here)

-- what frames in range are spelled as is read as them
pub frames_in-spelled : (shape : Shape) (rs : List ReplyFrame) → AllByRecursion (IsReply shape) rs →
    frames_in shape (map reply_frame rs) ≡ rs
frames_in-spelled shape [] all = refl
frames_in-spelled shape (r ∷ rs) all =
    ap₂ (λ (f : ReplyFrame) (fs : List ReplyFrame). f ∷ fs) (reply-again shape r all.0)
    (frames_in-spelled shape rs all.1)
