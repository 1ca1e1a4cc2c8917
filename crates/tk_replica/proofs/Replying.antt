-- What is refused, and what is replied.
use Rattle.std.proofs.Common.{◌≡◌, inl, inr, refl, ap, ap₂, sym, ◌∙◌, subst, ℕ, List, Option, Some, None}
use Rattle.tk_shape.specs.declared.shape.Shape.{Shape}
use Rattle.tk_shape.specs.Lengths.{width}
use Rattle.tk_kernel.specs.Chosen.{chosen_sum}
use Rattle.tk_frames.specs.declared.entry.Placed.{Placed}
use Rattle.tk_frames.specs.declared.fault.FrameError.{FrameError}
use Rattle.tk_frames.specs.declared.fault.FrameError.TheVariants.{Length, Kind, Version, Field, Memory}
use Rattle.tk_frames.specs.declared.read_frame.ReadFrame.{ReadFrame}
use Rattle.tk_frames.specs.Faults.{IsRefusal}
use Rattle.tk_frames.specs.Fields.{read_in}
use Rattle.tk_frames.specs.Order.{Record, before}
use Rattle.tk_frames.specs.Ranges.{IsRead}
use Rattle.tk_frames.specs.Spelling.{read_frame}
use Rattle.tk_replica.specs.declared.epoch.Epoch.{Epoch}
use Rattle.tk_replica.specs.declared.error.ServeError.{ServeError}
use Rattle.tk_table.specs.Replies.{reply_to}
use Rattle.tk_replica.specs.Epochs.{EpochStandsFor, IsEpochOf}
use Rattle.tk_replica.specs.Refusals.{frame_error, refusal_behind, IsServeRefusal}
use Rattle.tk_replica.specs.Replica.{ReplicaView, StandsFor}
use Rattle.tk_replica.specs.Replies.{reply_over, reply_for, reply_due, IsAsked}
use Rattle.tk_frames.proofs.Offers.{read-again}

-- ---- a refusal

told : (f : FrameError) (behind : Option ServeError) →
    IsServeRefusal (refusal_behind (Some f) behind) (frame_error f)
told (Length want got) behind = inr refl
told (Kind got) behind = inr refl
told (Version got) behind = inr refl
told (Field name got) behind = inr refl
told Memory behind = inl refl

-- a fault of the frame is told before anything else
pub refused-frame : (fault : Option FrameError) (error : FrameError) (behind : Option ServeError) →
    IsRefusal fault error → IsServeRefusal (refusal_behind fault behind) (frame_error error)
refused-frame None error behind same = inl (ap frame_error same)
refused-frame (Some f) error behind same =
    subst (λ e. IsServeRefusal (refusal_behind (Some f) behind) (frame_error e)) (sym same)
    (told f behind)

-- ---- a reply

over-writes : (shape : Shape) (R : List Record) (epoch : Epoch) (r : ReadFrame) →
    EpochStandsFor shape R epoch → reply_over epoch r ≡ reply_to shape R r
over-writes shape R epoch r is =
    ap₂ (λ (n : ℕ) (bs : List (List ℕ)). record {
      client = r.client;
      turn = r.turn;
      epoch = r.epoch;
      first = chosen_sum n bs r.first;
      second = chosen_sum n bs r.second;
    }) (epoch.wide ∙ ap width is.same) is.blocks

-- a reply over the epoch that the read names
pub over-epoch : (shape : Shape) (E : List Placed) (e : ℕ) (epoch : Epoch) (r : ReadFrame) →
    IsEpochOf shape E e epoch → r.epoch ≡ e → reply_over epoch r ≡ reply_for shape E r
over-epoch shape E e epoch r is named =
    over-writes shape (before E e) epoch r is.stands
    ∙ ap (λ n. reply_to shape (before E n) r) (sym named)

-- it is the reply to the bytes that spell the read
pub for-spelled : (shape : Shape) (E : List Placed) (bytes : List ℕ) (r : ReadFrame) →
    IsRead shape r → bytes ≡ read_frame r → reply_for shape E r ≡ reply_due shape E bytes
unfolding reply_due
for-spelled shape E bytes r in_range spelled =
    ap (reply_for shape E) (sym (ap (read_in shape) spelled ∙ read-again shape r in_range))

pub for-bytes : (shape : Shape) (E : List Placed) (s : ReplicaView) (bytes : List ℕ)
    (r : ReadFrame) → StandsFor shape E s → IsAsked s bytes r →
    reply_for shape E r ≡ reply_due shape E bytes
for-bytes shape E s bytes r is asked =
    for-spelled shape E bytes r (subst (λ sh. IsRead sh r) is.same asked.served.in_range)
    asked.spelled
